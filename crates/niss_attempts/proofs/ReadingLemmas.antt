-- Steps that are read as they are written, and don't solve so.
use Rattle.std.proofs.Common.{◌≡◌, ◌∙◌, ℕ, zero, suc, ◌==◌, Bool, false, not, List, [], ◌∷◌, map, None, Ok, Err, Result, refl, sym, ap, arith, inl, inr}
use Rattle.std.specs.Prelude.{slice_index, slice_range, nat_lt}
use Rattle.std.specs.List.{list_any}
use Rattle.std.proofs.lemmas.Bool.{and_right, or_parts}
use Rattle.std.proofs.lemmas.Bool.Decides.{eqb_tells}
use Rattle.niss_moves.specs.Line.{Moves, Spells}
use Rattle.niss_moves.specs.Reader.{read_line}
use Rattle.niss_moves.specs.Solving.{move_count, solves}
use Rattle.niss_moves.specs.declared.fault.ReadFault.{ReadFault}
use Rattle.niss_attempts.specs.declared.steps.parts.How.TheVariants.{Alone}
use Rattle.niss_attempts.specs.declared.steps.reading.Reading.{Reading}
use Rattle.niss_attempts.specs.declared.steps.reading.Reading.TheVariants.{AsWritten}
use Rattle.niss_attempts.specs.Corners.{AreBounds}
use Rattle.niss_attempts.specs.Parts.{IsFirst, end_of_steps, number_of_steps, part, read_byte, solves_all, solves_line, solves_part}
use Rattle.niss_attempts.proofs.CornerLines.{IsRead, HasOneReading}

-- bytes of which none is read otherwise are read as they are written
abbrev differs : Reading → ℕ → Bool
differs reading byte = not (read_byte reading byte == read_byte AsWritten byte)

read_alike : (reading : Reading) (bytes : List ℕ) → list_any (differs reading) bytes ≡ false → map (read_byte reading) bytes ≡ map (read_byte AsWritten) bytes
read_alike reading [] none = refl
read_alike reading (byte ∷ bytes) none =
    let first : read_byte reading byte ≡ read_byte AsWritten byte = elim (eqb_tells (read_byte reading byte) (read_byte AsWritten byte)) [
      | inl w ↦ w.1
      | inr w ↦ absurd (cc (sym (ap not w.0) ∙ (or_parts (differs reading byte) (list_any (differs reading) bytes) none).0))
    ] in
    let rest = read_alike reading bytes (or_parts (differs reading byte) (list_any (differs reading) bytes) none).1 in
    λ i. first i ∷ rest i

-- what has no bytes has no moves, and doesn't solve
nothing_spelled : Spells [] [] []
nothing_spelled = record { items = []; bytes_are = refl; normal_are = refl; bracketed_are = refl }

nothing_fails : IsRead → HasOneReading → (scramble : Moves) → solves_line (Ok scramble) (read_line []) ≡ false
nothing_fails is_read one scramble = by_result (read_line []) refl
  where
    by_result : (r : Result Moves ReadFault) → read_line [] ≡ r → solves_line (Ok scramble) r ≡ false
    by_result (Err f) e = refl
    by_result (Ok m) e =
        let none = one [] [] [] m.normal m.bracketed nothing_spelled ((is_read [] m).0 e).0 in
        let count : move_count m ≡ 0 = λ i. move_count (record { normal = sym none.0 i; bracketed = sym none.1 i }) in
        and_right (solves scramble m) (nat_lt 0 (move_count m)) (ap (nat_lt 0) count)

-- no steps solve as they are written, if no part of them does
not_as_written : IsRead → HasOneReading → (scramble : Moves) (text bounds : List ℕ) (n : ℕ) → number_of_steps bounds ≡ n → AreBounds bounds →
    IsFirst n (solves_part (Ok scramble) text bounds) None → solves_all AsWritten (Ok scramble) text bounds ≡ false
not_as_written is_read one scramble text bounds zero is ordered none =
    let empty : slice_index bounds (number_of_steps bounds) ≡ 0 = ap (slice_index bounds) is ∙ ordered.begins in
    ap (λ end. solves_line (Ok scramble) (read_line (map (read_byte AsWritten) (slice_range text 0 end)))) empty ∙ nothing_fails is_read one scramble
not_as_written is_read one scramble text bounds (suc n) is ordered none =
    let whole = none (part Alone 0 (suc n)) (omega arith, omega arith) in
    (λ i. solves_line (Ok scramble) (read_line (map (read_byte AsWritten) (slice_range text (sym ordered.begins i) (slice_index bounds (is i)))))) ∙ whole

-- nor otherwise, if no byte is read otherwise
pub not_otherwise : IsRead → HasOneReading → (scramble : Moves) (text bounds all : List ℕ) (reading : Reading) → AreBounds bounds →
    IsFirst (number_of_steps bounds) (solves_part (Ok scramble) text bounds) None → all ≡ slice_range text 0 (end_of_steps bounds) →
    list_any (differs reading) all ≡ false → solves_all reading (Ok scramble) text bounds ≡ false
not_otherwise is_read one scramble text bounds all reading ordered none is same =
    ap (λ bytes. solves_line (Ok scramble) (read_line bytes)) (read_alike reading (slice_range text 0 (end_of_steps bounds)) (ap (list_any (differs reading)) (sym is) ∙ same))
    ∙ not_as_written is_read one scramble text bounds (number_of_steps bounds) refl ordered none
