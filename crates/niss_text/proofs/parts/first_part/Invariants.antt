use Rattle.std.proofs.Common.{◌≡◌, ℕ, ◌≤◌, ◌-◌, false, length, take, drop}
use Rattle.niss_text.specs.Known.{IsNamed, IsNumbered}
use Rattle.niss_text.specs.Kept.{words_of_any_head}
use Rattle.niss_text.specs.Lines.{CoversBy}
use Rattle.niss_text.proofs.PartLemmas.{Since}
use Rattle.niss_text.proofs.parts.first_part.Given as goal

abbrev pub invariant-loop-line : goal.invariant-loop-line
invariant-loop-line l = record {
  within : length l.rest ≤ length l.lines;
  rest : l.rest ≡ drop (length l.lines - length l.rest) l.lines;
  named : IsNamed (take (length l.lines - length l.rest) l.lines) l.part;
  numbered : IsNumbered l.text l.part;
  first : length l.rest ≡ length l.lines → l.part.has_moves ≡ false;
  read : (from : ℕ) → CoversBy words_of_any_head l.text from l.lines (length l.text) →
      (at : ℕ) × CoversBy words_of_any_head l.text at l.rest (length l.text) × Since l.text from (length l.lines - length l.rest) at l.part;
}

abbrev pub decreases-loop-line : goal.decreases-loop-line
decreases-loop-line l = length l.rest
