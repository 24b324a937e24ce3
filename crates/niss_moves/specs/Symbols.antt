-- What each byte may be in a line.
use Rattle.std.specs.Prelude.{ℕ, ◌==◌, if◌then◌else◌, slice_index, codes, List, [], ◌∷◌, ◌++◌, map}
use Rattle.niss_moves.specs.Facelets.{face_letter}
use Rattle.niss_moves.specs.Canonical.{face_order}
use Rattle.niss_moves.specs.Line.{lower_letter, slice_letter, rotation_letter, blank_byte, Space, Tab, Return, opening, closing}
use Rattle.niss_moves.specs.Names.{M, E, S, Ud, Rl, Fb, Base, Symbol}

-- each byte that may stand in a line, but for the second and third of U+2019
abbrev pub bytes_of_a_line : List (ℕ × Symbol)
bytes_of_a_line =
    map (λ b. (blank_byte b, Symbol.Blank)) (Space ∷ Tab ∷ Return ∷ [])
    ++ map (λ f. (face_letter f, Symbol.Base (Base.Face f))) face_order
    ++ map (λ f. (lower_letter f, Symbol.Base (Base.LowerCase f))) face_order
    ++ map (λ l. (slice_letter l, Symbol.Base (Base.Slice l))) (M ∷ E ∷ S ∷ [])
    ++ map (λ a. (rotation_letter a, Symbol.Base (Base.Rotation a))) (Rl ∷ Ud ∷ Fb ∷ [])
    ++ (opening, Symbol.Open) ∷ (closing, Symbol.Close) ∷ (slice_index (codes "w") 0, Symbol.Wide)
    ∷ (slice_index (codes "2") 0, Symbol.Two) ∷ (slice_index (codes "'") 0, Symbol.Apostrophe) ∷ (0xE2, Symbol.Cut) ∷ []

abbrev pub look_up : List (ℕ × Symbol) → ℕ → Symbol
look_up [] b = Symbol.Other
look_up (e ∷ es) b = if b == e.0 then e.1 else look_up es b

unfoldable pub symbol_of : ℕ → Symbol
symbol_of b = look_up bytes_of_a_line b
