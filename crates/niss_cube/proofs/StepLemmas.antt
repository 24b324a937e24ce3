-- The turns of the steps, and whether a step may start and is reached, over maps of the places.
use Rattle.niss_cube.proofs.Words.{Fact, Yes, When, Places, Among, Holds, holds, ◌≡◌, ◌≤◌, refl, ◌∙◌, ap, Bool, true}
use Rattle.niss_cube.proofs.Words.{not, ◌&&◌, ◌||◌, List, length, Option, None, Some, arith, Contains, map, list_any}
use Rattle.niss_cube.proofs.Words.{option_map_or, Contains-from_any, is_place, turned, inverse_turn, Axis, Ud, Rl, Fb}
use Rattle.niss_cube.proofs.Words.{Half, Turn, Step, Kept, flip_set, start_of, turns_of, and_left, and_right, flat_map}
use Rattle.niss_cube.proofs.Words.{filter, same_face, face_order, turn_order, powers_from, is_face_of, InversesOfSteps}
use Rattle.niss_cube.proofs.Words.{StepTurnsInOrder, StepTurnsAreCounted, same_face_is, same_power, same_power_is}
use Rattle.niss_cube.proofs.Words.{Turns, every_turn, every_face, every_power, is_kept, false, list_all, Goal, Domino}
use Rattle.niss_cube.proofs.Words.{Eofb, Eorl, Eoud, DrudEofb, DrrlEofb, DrudEorl, DrfbEorl, DrrlEoud, DrfbEoud, Eo}
use Rattle.niss_cube.proofs.Words.{DrEofb, DrEorl, DrEoud, steps, goals_of, at_member, DominoKeepsStart, sym, [], ◌∷◌}
use Rattle.niss_cube.proofs.Words.{IsTrue, Place, SameMap, Flip, Twist, Slice, HasOnlyPlaces, twist_set, slice_set}
use Rattle.niss_cube.proofs.Words.{may_start, same_truth, reached, StartIsKept, StepsSeePlaces, Cube, map_of}
use Rattle.niss_cube.proofs.Words.{OtherTurnsLeaveStart, set, NamesDiffer, name_of, ℕ}
use Rattle.std.specs.Prelude.{find, unwrap_or, bytes_eq}
use Rattle.niss_cube.specs.Names.{Edges}
use Rattle.niss_cube.specs.Steps.{holds as goal_holds}
use Rattle.niss_cube.proofs.Codes.{kept_is_tested, kept_same, sets_are_places}
use Rattle.niss_cube.proofs.CubieKinds.{cubes_permute_places, kept_is_equal}
use Rattle.niss_cube.specs.StepLaws.{ReachedStepsSeePlaces, StartIsKeptBefore, InverseHasSteps, SameSteps}
use Rattle.niss_cube.specs.BadPieces.{TakesBack}
use Rattle.niss_cube.proofs.Words.{Numbers, Below, drop, suc, ◌+◌, ◌*◌, ◌<◌, get_or, cond, get_or-map, length-drop}
use Rattle.niss_cube.proofs.BadPlaces.{next_bit, byte_is}
use Rattle.std.proofs.lemmas.Simd.{mask_l-lt}
use Rattle.std.specs.Prelude.{◌^◌}
use lib.Lanes.{mask_l}
use mir.Val.{bool_byte}

-- the turns of a step from its start
abbrev pub turns_from : Option Axis → List Turn
turns_from start = flat_map (λ f. map (λ p. record { face = f; power = p }) (powers_from start f)) face_order

turns_from-counted : (start : Option Axis) → length (turns_from start) ≡ option_map_or (λ axis. 14) start 18
turns_from-counted None = refl
turns_from-counted (Some Ud) = refl
turns_from-counted (Some Rl) = refl
turns_from-counted (Some Fb) = refl

pub step_turns_are_counted : StepTurnsAreCounted
unfolding turns_of
step_turns_are_counted s = turns_from-counted (start_of s)

-- a step has at most 18 turns
pub turns_of-length : (s : Step) → length (turns_of s) ≤ 18
turns_of-length s = by_start (start_of s) (step_turns_are_counted s)
  where
    by_start : (start : Option Axis) → length (turns_of s) ≡ option_map_or (λ axis. 14) start 18 → length (turns_of s) ≤ 18
    by_start None e = omega arith
    by_start (Some a) e = omega arith

-- and at most 14 from oriented edges
pub turns_of-oriented : (s : Step) (a : Axis) → start_of s ≡ Some a → length (turns_of s) ≤ 14
turns_of-oriented s a e = omega (arith, step_turns_are_counted s ∙ ap (λ start. option_map_or (λ axis. 14) start 18) e)

-- each turn from oriented edges keeps them so

abbrev keeps_fact : Axis → Fact
keeps_fact a = Among (turns_from (Some a)) λ t. Places λ q. When (flip_set a q) (Yes (flip_set a (turned t q)))

all_keep : (a : Axis) → Holds (keeps_fact a)
all_keep Ud = holds (keeps_fact Ud) refl
all_keep Rl = holds (keeps_fact Rl) refl
all_keep Fb = holds (keeps_fact Fb) refl

pub turn_keeps : (a : Axis) (t : Turn) → Contains (turns_from (Some a)) t → Kept (flip_set a) (turned t)
turn_keeps a t m q h = all_keep a t m q (and_left (is_place q) _ (and_left _ _ h)) h

-- the inverse of each turn is among them

abbrev pub same_turn : Turn → Turn → Bool
same_turn t u = same_face t.face u.face && same_power t.power u.power

pub same_turn-is : (t u : Turn) → same_turn t u ≡ true → t ≡ u
same_turn-is t u h =
    let f : t.face ≡ u.face = same_face_is t.face u.face (and_left _ _ h) in
    let p : t.power ≡ u.power = same_power_is t.power u.power (and_right (same_face t.face u.face) _ h) in
    λ i. record { face = f i; power = p i }

abbrev pub is_among : List Turn → Turn → Bool
is_among ts t = list_any (same_turn t) ts

abbrev inverse_fact : Option Axis → Fact
inverse_fact start = Among (turns_from start) λ t. Yes (is_among (turns_from start) (inverse_turn t))

all_have_inverses : (start : Option Axis) → Holds (inverse_fact start)
all_have_inverses None = holds (inverse_fact None) refl
all_have_inverses (Some Ud) = holds (inverse_fact (Some Ud)) refl
all_have_inverses (Some Rl) = holds (inverse_fact (Some Rl)) refl
all_have_inverses (Some Fb) = holds (inverse_fact (Some Fb)) refl

pub inverses_of_steps : InversesOfSteps
unfolding turns_of
inverses_of_steps s t m = Contains-from_any same_turn-is (inverse_turn t) (turns_from (start_of s)) (all_have_inverses (start_of s) t m)

-- they are some of the 18

part : Option Axis → Turn → Bool
part None t = true
part (Some a) t = not (is_face_of a t.face) || same_power t.power Half

in_order : (start : Option Axis) → turns_from start ≡ filter (part start) turn_order
unfolding part
in_order None = refl
in_order (Some Ud) = refl
in_order (Some Rl) = refl
in_order (Some Fb) = refl

pub step_turns_in_order : StepTurnsInOrder
unfolding turns_of
step_turns_in_order s = (part (start_of s), in_order (start_of s))

-- a turn that keeps the flip set of an axis is one of those from it, and each turn is one of those from anywhere
abbrev pub leaves_fact : Axis → Fact
leaves_fact a = Turns λ t. When (is_kept (flip_set a) (turned t)) (Yes (is_among (turns_from (Some a)) t))

pub leaves : (a : Axis) → Holds (leaves_fact a)
unfolding every_turn every_face every_power is_kept
leaves Ud = holds (leaves_fact Ud) refl
leaves Rl = holds (leaves_fact Rl) refl
leaves Fb = holds (leaves_fact Fb) refl

pub anywhere : (t : Turn) → is_among (turns_from None) t ≡ true
unfolding every_turn every_face every_power
anywhere = holds (Turns λ t. Yes (is_among (turns_from None) t)) refl

abbrev keeps : Option Axis → Goal → Bool
keeps _ (Edges _) = true
keeps (Some Ud) (Domino Ud _) = true
keeps (Some Rl) (Domino Rl _) = true
keeps (Some Fb) (Domino Fb _) = true
keeps _ _ = false

goals_keep : list_all (λ s. list_all (keeps (start_of s)) (goals_of s)) steps ≡ true
goals_keep = refl

pub member : (s : Step) → Contains steps s
member Eofb = (0, omega arith, refl)
member Eorl = (1, omega arith, refl)
member Eoud = (2, omega arith, refl)
member DrudEofb = (3, omega arith, refl)
member DrrlEofb = (4, omega arith, refl)
member DrudEorl = (5, omega arith, refl)
member DrfbEorl = (6, omega arith, refl)
member DrrlEoud = (7, omega arith, refl)
member DrfbEoud = (8, omega arith, refl)
member Eo = (9, omega arith, refl)
member DrEofb = (10, omega arith, refl)
member DrEorl = (11, omega arith, refl)
member DrEoud = (12, omega arith, refl)

starts_there : (start : Option Axis) (o a : Axis) → keeps start (Domino o a) ≡ true → start ≡ Some o
starts_there (Some Ud) Ud a h = refl
starts_there (Some Rl) Rl a h = refl
starts_there (Some Fb) Fb a h = refl
starts_there _ _ _ h = absurd (cc)

pub domino_keeps_start : DominoKeepsStart
domino_keeps_start s o a m =
    starts_there (start_of s) o a (at_member (keeps (start_of s)) (goals_of s) (Domino o a) (at_member (λ s. list_all (keeps (start_of s)) (goals_of s)) steps s goals_keep (member s)) m)

-- a name leads back to its step

named : List ℕ → Step
named name = unwrap_or (find (λ s. bytes_eq name (name_of s)) steps) Eo

named-itself : (s : Step) → named (name_of s) ≡ s
unfolding named
named-itself Eofb = refl
named-itself Eorl = refl
named-itself Eoud = refl
named-itself DrudEofb = refl
named-itself DrrlEofb = refl
named-itself DrudEorl = refl
named-itself DrfbEorl = refl
named-itself DrrlEoud = refl
named-itself DrfbEoud = refl
named-itself Eo = refl
named-itself DrEofb = refl
named-itself DrEorl = refl
named-itself DrEoud = refl

pub names_differ : NamesDiffer
names_differ s t e = sym (named-itself s) ∙ ap named e ∙ named-itself t

-- the start is kept

abbrev pub starts : Option Axis → (Place → Place) → Bool
starts start e = option_map_or (λ a. goal_holds (Edges a) e) start true

start_kept : (start : Option Axis) (e : Place → Place) (t : Turn) → Contains (turns_from start) t → IsTrue (starts start e) → IsTrue (starts start (λ q. turned t (e q)))
start_kept None e t m h = refl
start_kept (Some a) e t m h =
    (kept_is_tested (flip_set a) (λ q. turned t (e q)) (sets_are_places Flip a)).1
    (λ q s. turn_keeps a t m (e q) ((kept_is_tested (flip_set a) e (sets_are_places Flip a)).0 h q s))

start_kept_before : (start : Option Axis) (e : Place → Place) (t : Turn) → Contains (turns_from start) t → IsTrue (starts start e) → IsTrue (starts start (λ q. e (turned t q)))
start_kept_before None e t m h = refl
start_kept_before (Some a) e t m h =
    (kept_is_tested (flip_set a) (λ q. e (turned t q)) (sets_are_places Flip a)).1
    (λ q s. (kept_is_tested (flip_set a) e (sets_are_places Flip a)).0 h (turned t q) (turn_keeps a t m q s))

pub start_is_kept_before : StartIsKeptBefore
unfolding may_start turns_of
start_is_kept_before s e t m h = start_kept_before (start_of s) e t m h

pub start_is_kept : StartIsKept
unfolding may_start turns_of
start_is_kept s e t m h = start_kept (start_of s) e t m h

-- the places alone are seen

-- Two maps keep the same sets of places.
abbrev pub KeepAlike : (d e : Place → Place) → Type 0
KeepAlike d e = (set : Place → Bool) → HasOnlyPlaces set → is_kept set d ≡ is_kept set e

pub is_kept_same : (d e : Place → Place) → SameMap d e → KeepAlike d e
is_kept_same d e same set inside =
    same_truth (is_kept set d) (is_kept set e)
    (λ h. (kept_is_tested set e inside).1 (kept_same set d e inside same ((kept_is_tested set d inside).0 h)))
    (λ h. (kept_is_tested set d inside).1 (kept_same set e d inside (λ q p. sym (same q p)) ((kept_is_tested set e inside).0 h)))

pub holds_same : (g : Goal) (d e : Place → Place) → KeepAlike d e → goal_holds g d ≡ goal_holds g e
holds_same (Edges a) d e same = same (flip_set a) (sets_are_places Flip a)
holds_same (Domino b a) d e same =
    let flips : is_kept (flip_set b) d ≡ is_kept (flip_set b) e = same (flip_set b) (sets_are_places Flip b) in
    let twists : is_kept (twist_set a) d ≡ is_kept (twist_set a) e = same (twist_set a) (sets_are_places Twist a) in
    let slices : is_kept (slice_set a) d ≡ is_kept (slice_set a) e = same (slice_set a) (sets_are_places Slice a) in
    λ i. flips i && twists i && slices i

starts_same : (start : Option Axis) (d e : Place → Place) → KeepAlike d e → starts start d ≡ starts start e
starts_same None d e same = refl
starts_same (Some a) d e same = holds_same (Edges a) d e same

any_same : (goals : List Goal) (d e : Place → Place) → KeepAlike d e → list_any (λ g. goal_holds g d) goals ≡ list_any (λ g. goal_holds g e) goals
any_same [] d e same = refl
any_same (g ∷ goals) d e same =
    let first : goal_holds g d ≡ goal_holds g e = holds_same g d e same in
    let others : list_any (λ g. goal_holds g d) goals ≡ list_any (λ g. goal_holds g e) goals = any_same goals d e same in
    λ i. first i || others i

same_steps : (d e : Place → Place) → KeepAlike d e → SameSteps d e
unfolding may_start reached
same_steps d e same = record { start = λ s. starts_same (start_of s) d e same; goal = λ s. any_same (goals_of s) d e same }

pub steps_see_places : StepsSeePlaces
steps_see_places d e same = same_steps d e (is_kept_same d e same)

-- what a cube keeps its inverse keeps, and the other way round
takes_back_too : (c d : Cube) → TakesBack c d → TakesBack d c
takes_back_too c d back q l =
    let from = (cubes_permute_places c).onto q l in
    ap (λ z. map_of c (map_of d z)) (sym from.2) ∙ ap (map_of c) (back from.0 from.1) ∙ from.2

kept_by_inverse : (c d : Cube) → TakesBack c d → (set : Place → Bool) → HasOnlyPlaces set → Kept set (map_of c) → Kept set (map_of d)
kept_by_inverse c d back set inside kept q s =
    let from = (cubes_permute_places c).onto q (inside q s) in
    let member : set from.0 ≡ true = kept_is_equal c set kept from.0 from.1 (ap set from.2 ∙ s) in
    ap (λ z. set (map_of d z)) (sym from.2) ∙ ap set (back from.0 from.1) ∙ member

pub inverse_has_steps : InverseHasSteps
inverse_has_steps c d back =
    same_steps (map_of c) (map_of d) (λ set inside.
    same_truth (is_kept set (map_of c)) (is_kept set (map_of d))
    (λ h. (kept_is_tested set (map_of d) inside).1 (kept_by_inverse c d back set inside ((kept_is_tested set (map_of c) inside).0 h)))
    (λ h. (kept_is_tested set (map_of c) inside).1 (kept_by_inverse d c (takes_back_too c d back) set inside ((kept_is_tested set (map_of d) inside).0 h))))

reached_same : (d e : Place → Place) → SameMap d e → (all : List Step) → map (λ step. reached step d) all ≡ map (λ step. reached step e) all
reached_same d e s [] = refl
reached_same d e s (step ∷ all) =
    ap (λ b. b ∷ map (λ step. reached step d) all) ((steps_see_places d e s).goal step)
    ∙ ap (λ bs. reached step e ∷ bs) (reached_same d e s all)

pub reached_steps_see_places : ReachedStepsSeePlaces
reached_steps_see_places d e s = ap mask_l (reached_same d e s steps)

-- a turn after which the set is kept still keeps the set itself, since the cube's map brings the set to itself
turn_alone : (a : Axis) (c : Cube) (t : Turn) → Kept (flip_set a) (map_of c) → Kept (flip_set a) (λ q. turned t (map_of c q)) → Kept (flip_set a) (turned t)
turn_alone a c t before after q s =
    let from = (cubes_permute_places c).onto q (sets_are_places Flip a q s) in
    let member : flip_set a from.0 ≡ true =
    kept_is_equal c (flip_set a) before from.0 from.1 (ap (flip_set a) from.2 ∙ s) in
    sym (ap (λ r. flip_set a (turned t r)) from.2) ∙ after from.0 member

others_leave : (start : Option Axis) (c : Cube) (t : Turn) → IsTrue (starts start (map_of c)) → IsTrue (starts start (λ q. turned t (map_of c q))) → Contains (turns_from start) t
others_leave None c t before after =
    Contains-from_any same_turn-is t (turns_from None) (anywhere t)
others_leave (Some a) c t before after =
    let kept : Kept (flip_set a) (turned t) =
    turn_alone a c t ((kept_is_tested (flip_set a) (map_of c) (sets_are_places Flip a)).0 before)
    ((kept_is_tested (flip_set a) (λ q. turned t (map_of c q)) (sets_are_places Flip a)).0 after) in
    Contains-from_any same_turn-is t (turns_from (Some a))
    (leaves a t ((kept_is_tested (flip_set a) (turned t) (sets_are_places Flip a)).1 kept))

pub other_turns_leave_start : OtherTurnsLeaveStart
unfolding may_start turns_of
other_turns_leave_start s c t before after = others_leave (start_of s) c t before after

-- The steps that are reached, one bit more from the front.
abbrev pub tests_of : (Place → Place) → List Bool
tests_of e = map (λ step. reached step e) steps

pub reached_bit : (e : Place → Place) (i mask bit : ℕ) (d : Step) → i < 13 → mask ≡ mask_l (drop (suc i) (tests_of e)) → bit ≡ bool_byte (reached (get_or steps i d) e) →
    2 * mask + bit ≡ mask_l (drop i (tests_of e))
reached_bit e i mask bit d l m b =
    let next = next_bit (tests_of e) i l in
    let here : bit ≡ cond (get_or (tests_of e) i false) 1 0 =
    b ∙ byte_is _ ∙ ap (λ (t : Bool). cond {A = ℕ} t 1 0) (sym (get_or-map (λ step. reached step e) steps i d false l)) in
    omega (arith, next, here, m)

pub reached_bits_fit : (e : Place → Place) (i mask : ℕ) → mask ≡ mask_l (drop i (tests_of e)) → mask < 8192
reached_bits_fit e i mask m =
    let few : length (drop i (tests_of e)) ≤ 13 = omega (arith, length-drop i (tests_of e)) in
    omega (arith, m, mask_l-lt (drop i (tests_of e)), powers (length (drop i (tests_of e))) (omega arith))
  where
    powers : (n : ℕ) → n < 14 → 2 ^ n < 8193
    powers = holds (Numbers 14 λ n. Below (2 ^ n) 8193) refl
