-- How long the line of a solution is.
use Rattle.std.proofs.Common.{ℕ, ◌+◌, ◌≤◌, Bool, true, false, Option, Some, None, List, [], ◌∷◌, ◌++◌, length, length-append, arith, ◌-◌}
use Rattle.std.specs.Prelude.{◌*◌, ◌==◌, if◌then◌else◌, codes, decimal, slice_get}
use Rattle.std.proofs.lemmas.Fmt.{length-decimal-le}
use Rattle.niss_moves.specs.Facelets.{face_letter}
use Rattle.niss_moves.specs.Text.{power_bytes, gap_after, gap, with_words, turn_words}
use Rattle.niss_moves.specs.declared.turn.Power.{Power}
use Rattle.niss_moves.specs.declared.turn.Power.TheVariants.{Quarter, Half, Counter}
use Rattle.niss_shell.specs.Lines.{line_feed, space}
use Rattle.niss_shell.specs.Names.{Turn}
use Rattle.niss_shell.specs.Output.{turns_text, solution_line}
use Rattle.niss_embed.specs.LineSearch.{most_of_line}

short_gap : (b : Option ℕ) → length (gap_after b) ≤ 1
short_gap None = omega arith
short_gap (Some b) = by_test (b == 40) where
  by_test : (t : Bool) → length {A = ℕ} (if t then [] else 32 ∷ []) ≤ 1
  by_test true = omega arith
  by_test false = omega arith

short_power : (p : Power) → length (power_bytes p) ≤ 1
short_power Quarter = omega arith
short_power Half = omega arith
short_power Counter = omega arith

short_words : (text : List ℕ) (turns : List Turn) → length (with_words text (turn_words turns)) ≤ length text + 3 * length turns
short_words text [] = omega arith
short_words text (t ∷ ts) =
    let w : List ℕ = face_letter t.face ∷ power_bytes t.power in
    let spaced = length-append text (gap text) in
    let whole = length-append (text ++ gap text) w in
    omega (arith, spaced, whole, short_gap (slice_get text (length text - 1)), short_power t.power, short_words (text ++ gap text ++ w) ts)

short_turns : (turns : List Turn) → length (turns_text turns) ≤ 3 * length turns
short_turns [] = omega arith
short_turns (t ∷ ts) =
    let first : List ℕ = face_letter t.face ∷ power_bytes t.power in
    let whole = length-append (with_words first (turn_words ts)) (space ∷ []) in
    omega (arith, whole, short_power t.power, short_words first ts)

pub short_line : (turns : List Turn) → length turns ≤ 20 → length (solution_line turns) ≤ most_of_line
short_line turns h =
    let moves = turns_text turns in
    let number = decimal (length turns) in
    let open_bracket = length-append moves (codes "(") in
    let counted = length-append (moves ++ codes "(") number in
    let bracket = length-append (moves ++ codes "(" ++ number) (codes ")") in
    let whole = length-append (moves ++ codes "(" ++ number ++ codes ")") (line_feed ∷ []) in
    let digits : length number ≤ 2 = length-decimal-le 2 (length turns) (omega arith) (omega (arith, h)) (omega (arith, h)) in
    omega (arith, open_bracket, counted, bracket, whole, digits, short_turns turns, h)
