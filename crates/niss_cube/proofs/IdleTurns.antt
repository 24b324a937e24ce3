-- Turns that keep what each goal of a step keeps: they leave the step reached or not.
use Rattle.niss_cube.proofs.Words.{Fact, Yes, When, Turns, Holds, holds, ◌≡◌, refl, ◌∙◌, ap, sym, Bool, true}
use Rattle.niss_cube.proofs.Words.{◌&&◌, ◌||◌, List, []}
use Rattle.niss_cube.proofs.Words.{◌∷◌, Place, SameMap, turned, inverse_turn, Axis, Ud, Rl, Fb}
use Rattle.niss_cube.proofs.Words.{Coordinate, Flip, Twist, Slice}
use Rattle.niss_cube.proofs.Words.{Turn, Step, Kept, is_kept, set_of, flip_set, twist_set, slice_set, goals_of}
use Rattle.niss_cube.proofs.Words.{reached, is_idle, Goal}
use Rattle.niss_cube.proofs.Words.{Domino, list_all, list_any, same_truth, every_turn, every_face, every_power}
use Rattle.niss_cube.proofs.Words.{and_left, and_right}
use Rattle.niss_cube.proofs.Words.{inverse_after}
use Rattle.niss_cube.specs.Names.{Edges}
use Rattle.niss_cube.specs.Steps.{holds as goal_holds}
use Rattle.niss_cube.specs.StepLaws.{IdleTurnsLeaveSteps}
use Rattle.niss_moves.specs.declared.token.Token.TheVariants as token
use Rattle.niss_cube.proofs.Codes.{kept_is_tested, sets_are_places}
use Rattle.niss_cube.proofs.StepLemmas.{holds_same, is_kept_same}

-- what a turn keeps its inverse keeps
abbrev back_fact : Coordinate → Axis → Fact
back_fact k a = Turns λ t. When (is_kept (set_of k a) (turned t)) (Yes (is_kept (set_of k a) (turned (inverse_turn t))))

back : (k : Coordinate) (a : Axis) → Holds (back_fact k a)
unfolding every_turn every_face every_power is_kept
back Flip Ud = holds (back_fact Flip Ud) refl
back Flip Rl = holds (back_fact Flip Rl) refl
back Flip Fb = holds (back_fact Flip Fb) refl
back Twist Ud = holds (back_fact Twist Ud) refl
back Twist Rl = holds (back_fact Twist Rl) refl
back Twist Fb = holds (back_fact Twist Fb) refl
back Slice Ud = holds (back_fact Slice Ud) refl
back Slice Rl = holds (back_fact Slice Rl) refl
back Slice Fb = holds (back_fact Slice Fb) refl

undo : (t : Turn) (q : Place) → turned (inverse_turn t) (turned t q) ≡ q
undo t q = inverse_after (token.Face t ∷ []) q

module _ (k : Coordinate) (a : Axis) (t : Turn) (keeps : is_kept (set_of k a) (turned t) ≡ true) where
  abbrev the_set : Place → Bool
  the_set = set_of k a

  it_keeps : Kept the_set (turned t)
  it_keeps = (kept_is_tested the_set (turned t) (sets_are_places k a)).0 keeps

  back_keeps : Kept the_set (turned (inverse_turn t))
  back_keeps = (kept_is_tested the_set (turned (inverse_turn t)) (sets_are_places k a)).0 (back k a t keeps)

  -- so the set is kept by a map exactly if it is kept with the turn after it, and with the turn taken back before it
  module _ (e : Place → Place) where
    alike : (f : Place → Place) → (Kept the_set f → Kept the_set e) → (Kept the_set e → Kept the_set f)
        → is_kept the_set f ≡ is_kept the_set e
    alike f to from =
        let of_f = kept_is_tested the_set f (sets_are_places k a) in
        let of_e = kept_is_tested the_set e (sets_are_places k a) in
        same_truth (is_kept the_set f) (is_kept the_set e) (λ h. of_e.1 (to (of_f.0 h))) (λ h. of_f.1 (from (of_e.0 h)))

    pub after-kept : is_kept the_set (λ q. turned t (e q)) ≡ is_kept the_set e
    after-kept =
        alike (λ q. turned t (e q))
        (λ h q s. ap the_set (sym (undo t (e q))) ∙ back_keeps (turned t (e q)) (h q s))
        (λ h q s. it_keeps (e q) (h q s))

    pub before-kept : is_kept the_set (λ q. e (turned (inverse_turn t) q)) ≡ is_kept the_set e
    before-kept =
        alike (λ q. e (turned (inverse_turn t) q))
        (λ h q s. ap (λ r. the_set (e r)) (sym (undo t q)) ∙ h (turned t q) (it_keeps q s))
        (λ h q s. h (turned (inverse_turn t) q) (back_keeps q s))

module _ (t : Turn) (e : Place → Place) where
  -- a map that keeps each set which the turn keeps exactly if e does keeps the goal exactly if e does
  abbrev Alike : (Place → Place) → Type 0
  Alike f =
      (k : Coordinate) (a : Axis) → is_kept (set_of k a) (turned t) ≡ true → is_kept (set_of k a) f ≡ is_kept (set_of k a) e

  goal-alike : (f : Place → Place) → Alike f → (g : Goal) → goal_holds g (turned t) ≡ true
      → goal_holds g f ≡ goal_holds g e
  goal-alike f same (Edges a) h = same Flip a h
  goal-alike f same (Domino b a) h =
      let flip = is_kept (flip_set b) (turned t) in
      let twist = is_kept (twist_set a) (turned t) in
      let slice = is_kept (slice_set a) (turned t) in
      let two = and_left (flip && twist) slice h in
      let flips : is_kept (flip_set b) f ≡ is_kept (flip_set b) e = same Flip b (and_left flip twist two) in
      let twists : is_kept (twist_set a) f ≡ is_kept (twist_set a) e = same Twist a (and_right flip twist two) in
      let slices : is_kept (slice_set a) f ≡ is_kept (slice_set a) e =
      same Slice a (and_right (flip && twist) slice h) in
      λ i. flips i && twists i && slices i

  -- a goal after the other
  any-alike : (f : Place → Place) → Alike f → (goals : List Goal) → list_all (λ g. goal_holds g (turned t)) goals ≡ true
      → list_any (λ g. goal_holds g f) goals ≡ list_any (λ g. goal_holds g e) goals
  any-alike f same [] h = refl
  any-alike f same (g ∷ goals) h =
      let here = goal_holds g (turned t) in
      let first : goal_holds g f ≡ goal_holds g e = goal-alike f same g (and_left here _ h) in
      let others : list_any (λ g. goal_holds g f) goals ≡ list_any (λ g. goal_holds g e) goals =
      any-alike f same goals (and_right here _ h) in
      λ i. first i || others i

pub idle_turns_leave_steps : IdleTurnsLeaveSteps
unfolding is_idle reached
idle_turns_leave_steps s t h = record {
  after = λ e. any-alike t e (λ q. turned t (e q)) (λ k a keeps. after-kept k a t keeps e) (goals_of s) h;
  on_inverse = λ e.
      any-alike t e (λ q. e (turned (inverse_turn t) q)) (λ k a keeps. before-kept k a t keeps e) (goals_of s) h;
}

-- the goals of a turned cube are those of its turn
all-same : (goals : List Goal) (d e : Place → Place) → SameMap d e
    → list_all (λ g. goal_holds g d) goals ≡ list_all (λ g. goal_holds g e) goals
all-same [] d e same = refl
all-same (g ∷ goals) d e same =
    let first : goal_holds g d ≡ goal_holds g e = holds_same g d e (is_kept_same d e same) in
    let others : list_all (λ g. goal_holds g d) goals ≡ list_all (λ g. goal_holds g e) goals =
    all-same goals d e same in
    λ i. first i && others i

pub idle-is : (s : Step) (t : Turn) (home d : Place → Place) → SameMap home (λ q. q)
    → SameMap d (λ q. turned t (home q))
    → list_all (λ g. goal_holds g d) (goals_of s) ≡ is_idle s t
unfolding is_idle
idle-is s t home d is after = all-same (goals_of s) d (turned t) (λ q p. after q p ∙ ap (turned t) (is q p))
