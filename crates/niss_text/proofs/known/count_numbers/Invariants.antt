use Rattle.niss_text.proofs.KnownLemmas.{CountNone, CountAlone, SaidNone, SaidOnce}
use Rattle.niss_text.proofs.known.count_numbers.Given as goal

abbrev pub invariant-loop-part : goal.invariant-loop-part
invariant-loop-part l = record {
  none : SaidNone l.parts l.counts l.part-index;
  once : SaidOnce l.parts l.counts l.part-index;
  zero : CountNone l.parts l.counts l.part-index;
  one : CountAlone l.parts l.counts l.part-index;
}
