-- The ways to hold the cube: these are all, where they bring the corners, and how their bytes are read.
use Rattle.std.proofs.Common.{◌≡◌, ◌∙◌, ℕ, ◌+◌, ◌*◌, ◌<◌, ◌==◌, true, not, List, [], ◌∷◌, ◌++◌, Option, None, Some, refl, sym, ap, subst, append-nil, arith}
use Rattle.std.specs.Prelude.{slice_index}
use Rattle.niss_moves.specs.Effects.{effect}
use Rattle.niss_moves.specs.Indices.{face_index, power_index}
use Rattle.niss_moves.specs.Line.{Spells}
use Rattle.niss_moves.specs.Line.Item.{Outside}
use Rattle.niss_moves.specs.Line.Piece.{Gap, Spelled}
use Rattle.niss_moves.specs.Line.Blank.{Space}
use Rattle.niss_moves.specs.Line.Suffix.{Nothing, Two, Prime}
use Rattle.niss_moves.specs.Line.Apostrophe.{Plain}
use Rattle.niss_moves.specs.declared.rotation.Rotation.{Rotation}
use Rattle.niss_moves.specs.declared.token.Base.{Base}
use Rattle.niss_moves.specs.declared.token.Token.{Token}
use Rattle.niss_moves.specs.declared.turn.Axis.{Axis}
use Rattle.niss_moves.specs.declared.turn.Face.{Face}
use Rattle.niss_moves.specs.declared.turn.Face.TheVariants.{U, D, R, L, F, B}
use Rattle.niss_moves.specs.declared.turn.Power.{Power}
use Rattle.niss_moves.specs.declared.turn.Power.TheVariants.{Quarter, Half, Counter}
use Rattle.niss_moves.specs.Places.{Place, is_corner, is_place}
use Rattle.niss_moves.specs.Rotations.{about_vertical, rotation_if, spelling, to_top}
use Rattle.niss_moves.proofs.CallerLemmas.{Yes, Equal, Both, When, Numbers, Places, holds}
use Rattle.niss_attempts.specs.Corners.{Brings}
unfoldable use Rattle.niss_attempts.specs.Corners.{corner_of}
use Rattle.niss_attempts.specs.DeadSteps.{Rests}
use Rattle.niss_attempts.specs.TurnedCube.{hold_numbered, axis_letter, no_rotation, suffix_if, turned_bytes, word_if}
use Rattle.niss_attempts.specs.declared.doubts.turned_cube.holds.Hold.{Hold}
use Rattle.niss_attempts.proofs.CornerLemmas.{corner_is_place}
use Rattle.niss_attempts.proofs.CornerLines.{spells_both}
use Rattle.niss_attempts.proofs.DeadLemmas.{rests_blank}

hold_fact : (n : ℕ) → n < 23 → (q : Place) → is_place q ≡ true → is_corner q ≡ true →
    (is_corner (effect (spelling (hold_numbered n).rotation) q) ≡ true)
    × (corner_of (effect (spelling (hold_numbered n).rotation) q) ≡ slice_index (hold_numbered n).corners.to (corner_of q))
unfolding corner_of
hold_fact =
    holds (Numbers 23 λ n. Places λ q. When (is_corner q)
    (Both (Yes (is_corner (effect (spelling (hold_numbered n).rotation) q)))
    (Equal (corner_of (effect (spelling (hold_numbered n).rotation) q)) (slice_index (hold_numbered n).corners.to (corner_of q))))) refl

pub hold_brings : (n : ℕ) (hold : Hold) → n < 23 → hold ≡ hold_numbered n → Brings hold.corners.to (spelling hold.rotation)
hold_brings n hold l is =
    subst (λ (h : Hold). Brings h.corners.to (spelling h.rotation)) (sym is)
    (record {
      stays = λ q h. (hold_fact n l q (corner_is_place q h) h).0;
      there = λ q h. (hold_fact n l q (corner_is_place q h) h).1;
    })

-- each rotation of the whole cube is one of them, or none
abbrev IsNumbered : Rotation → Type 0
IsNumbered r = (n : ℕ) × (n < 23) × ((hold_numbered n).rotation ≡ r)

by_parts : (f : Face) (o : Option Power) → (record { top = f; vertical = o } ≡ no_rotation → ⊥) → IsNumbered (record { top = f; vertical = o })
by_parts U None other = absurd (other refl)
by_parts U (Some Quarter) other = (0, omega arith, refl)
by_parts U (Some Half) other = (1, omega arith, refl)
by_parts U (Some Counter) other = (2, omega arith, refl)
by_parts F None other = (3, omega arith, refl)
by_parts F (Some Quarter) other = (4, omega arith, refl)
by_parts F (Some Half) other = (5, omega arith, refl)
by_parts F (Some Counter) other = (6, omega arith, refl)
by_parts D None other = (7, omega arith, refl)
by_parts D (Some Quarter) other = (8, omega arith, refl)
by_parts D (Some Half) other = (9, omega arith, refl)
by_parts D (Some Counter) other = (10, omega arith, refl)
by_parts B None other = (11, omega arith, refl)
by_parts B (Some Quarter) other = (12, omega arith, refl)
by_parts B (Some Half) other = (13, omega arith, refl)
by_parts B (Some Counter) other = (14, omega arith, refl)
by_parts L None other = (15, omega arith, refl)
by_parts L (Some Quarter) other = (16, omega arith, refl)
by_parts L (Some Half) other = (17, omega arith, refl)
by_parts L (Some Counter) other = (18, omega arith, refl)
by_parts R None other = (19, omega arith, refl)
by_parts R (Some Quarter) other = (20, omega arith, refl)
by_parts R (Some Half) other = (21, omega arith, refl)
by_parts R (Some Counter) other = (22, omega arith, refl)

pub every_hold : (r : Rotation) → (r ≡ no_rotation → ⊥) → IsNumbered r
every_hold r other = by_parts r.top r.vertical other

-- None of them is none.
abbrev vertical_number : Option Power → ℕ
vertical_number None = 0
vertical_number (Some p) = power_index p + 1

abbrev number : Rotation → ℕ
number r = 4 * face_index r.top + vertical_number r.vertical

differs : (n : ℕ) → n < 23 → not (number (hold_numbered n).rotation == 0) ≡ true
differs = holds (Numbers 23 λ n. Yes (not (number (hold_numbered n).rotation == 0))) refl

pub hold_turns : (n : ℕ) → n < 23 → (hold_numbered n).rotation ≡ no_rotation → ⊥
hold_turns n l same = absurd (cc (sym (differs n l) ∙ ap (λ r. not (number r == 0)) same))

-- Their bytes are those moves, and no move goes on from them.
word_spelled : (o : Option (Axis × Power)) → Spells (word_if o) (rotation_if o) []
word_spelled None = record { items = Outside (Gap Space) ∷ Outside (Gap Space) ∷ Outside (Gap Space) ∷ []; bytes_are = refl; normal_are = refl; bracketed_are = refl }
word_spelled (Some r) = by_power r.0 r.1
  where
    by_power : (a : Axis) (p : Power) → Spells (word_if (Some (a, p))) (rotation_if (Some (a, p))) []
    by_power a Quarter = record { items = Outside (Gap Space) ∷ Outside (Spelled (Base.Rotation a) Nothing) ∷ Outside (Gap Space) ∷ []; bytes_are = refl; normal_are = refl; bracketed_are = refl }
    by_power a Half = record { items = Outside (Gap Space) ∷ Outside (Spelled (Base.Rotation a) Two) ∷ []; bytes_are = refl; normal_are = refl; bracketed_are = refl }
    by_power a Counter = record { items = Outside (Gap Space) ∷ Outside (Spelled (Base.Rotation a) (Prime Plain)) ∷ []; bytes_are = refl; normal_are = refl; bracketed_are = refl }

pub blank_spelled : Spells (32 ∷ []) [] []
blank_spelled = record { items = Outside (Gap Space) ∷ []; bytes_are = refl; normal_are = refl; bracketed_are = refl }

pub turned_spelled : (r : Rotation) → Spells (turned_bytes r) (spelling r) []
turned_spelled r =
    let tilt = to_top r.top in
    let spin = about_vertical r.vertical in
    subst (λ (moves : List Token). Spells (turned_bytes r) moves []) (append-nil (spelling r))
    (spells_both (word_if tilt ++ word_if spin) (32 ∷ []) (spelling r) [] [] []
    (spells_both (word_if tilt) (word_if spin) (rotation_if tilt) [] (rotation_if spin) [] (word_spelled tilt) (word_spelled spin)) blank_spelled)

pub turned_rests : (r : Rotation) → Rests (turned_bytes r)
turned_rests r =
    let tilt = to_top r.top in
    let spin = about_vertical r.vertical in
    rests_blank (32 ∷ axis_letter tilt ∷ suffix_if tilt ∷ 32 ∷ axis_letter spin ∷ suffix_if spin ∷ [])
