-- A label ends with its colon.
use Rattle.std.proofs.Common.{◌≡◌, ℕ, ◌+◌, ◌-◌, ◌<◌, ◌≤◌, true, List, ◌++◌, length, take, drop, slice_range, sym, ap, ◌∙◌, append_assoc, length-drop, arith}
use Rattle.std.proofs.Math.Seq.{take-add}
use Rattle.std.proofs.lemmas.List.{drop-drop}
use Rattle.niss_text.specs.Signs.{AreSigns, is_spacing, ends_title, is_colon}
use Rattle.niss_text.proofs.SpacingLemmas.{signs_none}
use Rattle.niss_text.specs.Kept.{AreTurns, IsCount}
use Rattle.niss_text.specs.Titles.{AreLabelWords}
use Rattle.niss_text.specs.Pieces.{EndsWithColon}
use Rattle.niss_text.proofs.KeptLemmas.{title_end}

-- what stands behind words, a number of moves and blanks is a colon
pub colon_end : (line count after rest : List ℕ) (w c e n : ℕ) → count ≡ drop w line → w ≤ length line → c ≤ length count → (0 < c → IsCount (take c count)) →
    after ≡ drop c count → length rest ≤ length after → rest ≡ drop (length after - length rest) after →
    AreSigns is_spacing (take (length after - length rest) after) → e ≤ length rest → AreLabelWords (take w line) → (AreTurns (take w line) → ⊥) → is_colon (take e rest) ≡ true →
    n ≡ length line - length rest + e → EndsWithColon (take n line)
colon_end line count after rest w c e n first within fits counted second left last blanks close words no_turns is long =
    let b : ℕ = length after - length rest in
    let at : ℕ = w + (c + b) in
    let there : rest ≡ drop at line =
    last ∙ ap (λ v. drop b v) second ∙ ap (λ v. drop b (drop c v)) first ∙ drop-drop b c (drop w line) ∙ drop-drop (c + b) w line in
    let far : at ≡ length line - length rest + 0 = omega (arith, ap length first, length-drop w line, ap length second, length-drop c count, fits, left, within) in
    let size : at + e ≡ n = omega (arith, long, far) in
    let span : w + (at - w) ≡ at = omega arith in
    let front : take at line ≡ take w line ++ slice_range line w at =
    ap (λ k. take k line) (sym span) ∙ take-add w (at - w) line in
    record {
      words = take w line;
      title = slice_range line w at;
      colon = take e rest;
      whole = sym (append_assoc (take w line) (slice_range line w at) (take e rest)) ∙ ap (λ v. v ++ take e rest) (sym front)
          ∙ ap (λ v. take at line ++ take e v) there ∙ sym (take-add at e line) ∙ ap (λ k. take k line) size;
      are_words = words;
      no_turns = no_turns;
      end = title_end line count after rest w c 0 at first within fits counted second left last blanks (omega arith) (signs_none ends_title) far;
      is = is;
    }
