use Rattle.std.proofs.Common.{◌≡◌, ◌-◌, ◌<◌, ◌≤◌, true, false, length, drop, get_or}
use Rattle.niss_text.specs.Signs.{is_letter}
use Rattle.niss_text.specs.Doubts.{is_letter as is_plain_letter}
use Rattle.niss_text.specs.Said.{HasWord, words_of, are_spelled}
use Rattle.niss_text.proofs.words.place_said.Given as goal

abbrev pub invariant-loop-rest : goal.invariant-loop-rest
invariant-loop-rest l = record {
  fits : length l.rest ≤ length l.text;
  rest : l.rest ≡ drop (length l.text - length l.rest) l.text;
  before : 0 < length l.rest → 0 < length l.text - length l.rest → is_plain_letter (get_or l.text (length l.text - length l.rest - 1) 0) ≡ false;
  left : are_spelled (words_of l.wanted) ≡ true → HasWord is_letter (words_of l.wanted) l.text → HasWord is_letter (words_of l.wanted) l.rest;
}

abbrev pub decreases-loop-rest : goal.decreases-loop-rest
decreases-loop-rest l = length l.rest
