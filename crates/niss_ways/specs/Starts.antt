-- Where one stands after a scramble and the moves so far.
use Rattle.std.specs.Prelude.{◌≡◌, ◌⊎◌, ◌<◌, ◌≤◌, List, ◌++◌, get_or, length, map, reverse}
use Rattle.niss_moves.specs.Cleaning.{clean_turns}
use Rattle.niss_moves.specs.Effects.{effect, inverse, inverse_turn}
use Rattle.niss_moves.specs.Facelets.{centre}
use Rattle.niss_moves.specs.Indices.{face_index}
use Rattle.niss_moves.specs.Line.{Moves, joined_moves}
use Rattle.niss_moves.specs.Rotations.{IsRotationOf, face_before, faces, renamed_turn}
use Rattle.niss_moves.specs.declared.rotation.Rotation.{Rotation}
use Rattle.niss_moves.specs.declared.token.Token.{Token}
use Rattle.niss_moves.specs.declared.turn.Face.{Face}
use Rattle.niss_moves.specs.declared.turn.Turn.{Turn}
use Rattle.niss_ways.specs.Truth.{Origin}

-- The face turns of moves that are made on a cube held after a rotation, by the names of the centres, cleaned.
abbrev pub turns_after : Rotation → List Token → List Turn
turns_after held s = clean_turns (map (renamed_turn (face_before held)) (faces s))

-- The line has turns before the scramble, the scramble's, and those that were made on the normal side, as the cube is
-- held after the scramble. What was made on the inverse undoes what comes before the scramble: the turns of moves that undo
-- those in brackets, as the cube is held after the scramble and the moves outside brackets.
pub record Leads (scramble so_far : Moves) (line on_normal on_inverse : List Turn) : Type 0 where
  pub held : Rotation
  pub of_scramble : IsRotationOf (joined_moves scramble) held
  pub normal : on_normal ≡ turns_after held so_far.normal
  pub before : List Turn
  pub held_last : Rotation
  pub of_both : IsRotationOf (joined_moves scramble ++ so_far.normal) held_last
  pub undoes : before ≡ turns_after held_last (inverse so_far.bracketed)
  pub inverse : on_inverse ≡ reverse (map inverse_turn before)
  pub line_is : line ≡ before ++ faces (joined_moves scramble) ++ on_normal

-- Each face is called as the one at whose place its centre is after moves.
abbrev pub AreNames : List Token → List Face → Type 0
AreNames s names = (f : Face) → effect s (centre f) ≡ centre (get_or names (face_index f) f)

-- The moves so far are more than 200 face turns on a side, or the line has more than 512.
abbrev pub AreTooMany : (scramble so_far : Moves) → Type 0
AreTooMany scramble so_far =
    (200 < length (faces so_far.normal)) ⊎ ((200 < length (faces (inverse so_far.bracketed)))
    ⊎ ((line : List Turn) × (on_normal : List Turn) × (on_inverse : List Turn) × Leads scramble so_far line on_normal on_inverse × (512 < length line)))

-- One stands there, and no moves are too many.
pub record IsAfter (scramble so_far : Moves) (o : Origin) : Type 0 where
  pub leads : Leads scramble so_far o.line o.normal o.inverse
  pub few_normal : length (faces so_far.normal) ≤ 200
  pub few_inverse : length (faces (inverse so_far.bracketed)) ≤ 200
  pub few_in_all : length o.line ≤ 512
  pub named : AreNames (joined_moves scramble ++ so_far.normal) o.names
