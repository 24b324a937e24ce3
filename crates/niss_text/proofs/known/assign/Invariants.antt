use Rattle.std.proofs.Common.{◌≡◌, ◌-◌, ◌<◌, ◌≤◌, ◌⊎◌, ℕ, List, length, get_or, take}
use Rattle.niss_text.specs.declared.known.KnownPart.{KnownPart}
use Rattle.niss_text.specs.declared.text_line.TextLine.{TextLine}
use Rattle.niss_text.specs.Known.{AreKnown, AreNamedAs, HaveLines, IsOwn, PartsTake}
use Rattle.niss_text.proofs.KnownLemmas.{IsFull}
use Rattle.niss_text.proofs.known.assign.Given as goal

abbrev pub invariant-loop-at : goal.invariant-loop-at
invariant-loop-at l = record {
  within : l.at ≤ length l.parts;
  known : AreKnown (length l.counts) (take l.at l.parts);
  rest : (k : ℕ) (none : KnownPart) → l.at ≤ k → get_or l.parts k none ≡ get_or l.initial.parts k none;
  own : (k : ℕ) (none : KnownPart) → k < l.at → ((get_or l.parts k none).scramble ≡ 18446744073709551615)
      ⊎ IsOwn l.is_in_order l.initial.parts l.counts k (get_or l.parts k none).scramble;
  all : (k : ℕ) (none : KnownPart) → k < l.at → IsFull l.is_in_order l.initial.parts l.counts k (get_or l.parts k none).scramble;
  named : AreNamedAs l.initial.parts l.parts;
  told : (text : List ℕ) (told : List TextLine) (to : ℕ) → PartsTake text told 0 l.initial.parts to → PartsTake text told 0 l.parts to;
  lines : (to : ℕ) → HaveLines 0 l.initial.parts to → HaveLines 0 l.parts to;
}

abbrev pub decreases-loop-at : goal.decreases-loop-at
decreases-loop-at l = length l.parts - l.at
