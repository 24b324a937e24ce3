-- A pair whose head ends in an idle turn is never handed out: if it reaches the step, so do its turns before that one. Nor is one whose
-- head is left out.
use Rattle.niss_search.proofs.Words.{◌≡◌, ◌⊎◌, arith, ◌+◌, ◌<◌, ◌≤◌, ℕ, ap, ◌∙◌, sym, refl, subst, Bool, true, false}
use Rattle.niss_search.proofs.Words.{not, ◌&&◌, cond, inl, inr}
use Rattle.niss_search.proofs.Words.{List, [], ◌∷◌, ◌++◌, length, map, filter, take, take_at, take_all, length-append}
use Rattle.niss_search.proofs.Words.{fold-append, list_any, up_to}
use Rattle.niss_search.proofs.Words.{Turn, Step, Place, turned, after_all, cubes, reached, last_turn, last_turn-push}
use Rattle.niss_search.proofs.Words.{option_map_or, nat_lt, lt-ltb}
use Rattle.niss_cube.specs.StepLaws.{LeavesStep, IdleTurnsLeaveSteps}
unfoldable use Rattle.niss_cube.specs.Steps.{is_idle}
use Rattle.niss_search.proofs.InverseLemmas.{apart}
use Rattle.niss_search.proofs.BeginningLemmas.{any_at}
use Rattle.niss_search.specs.BothSides.{Pair, pair, turned_before, inverse_side, ends_idle, reaches, leaves_out, has_ends}
unfoldable use Rattle.niss_search.specs.BothSides.{begins_reached}
use Rattle.niss_search.specs.BothWalk.{join, is_kept}
use Rattle.niss_search.specs.declared.searching.both.Ends.{Ends}
use Rattle.niss_search.specs.declared.searching.both.splitting.Side.{Side}
use Rattle.niss_search.specs.declared.searching.both.splitting.Side.TheVariants.{Normal, Inverse}

-- a list is empty, or ends in something
last_of : {X : Type 0} (s : List X) → (s ≡ []) ⊎ ((a : List X) × (x : X) × (s ≡ a ++ x ∷ []))
last_of [] = inl refl
last_of (x ∷ a) =
    elim (last_of a) [
      | inl e ↦ inr ([], x, ap (λ s. x ∷ s) e)
      | inr w ↦ inr (x ∷ w.0, w.1, ap (λ s. x ∷ s) w.2)
    ]

-- nothing is left of what a test refuses
filter-none : {X Y : Type 0} (p : Y → Bool) (g : X → Y) (xs : List X) → ((x : X) → p (g x) ≡ false)
    → filter p (map g xs) ≡ []
filter-none p g [] h = refl
filter-none p g (x ∷ xs) h =
    (λ k. cond (h x k) (g x ∷ filter p (map g xs)) (filter p (map g xs))) ∙ filter-none p g xs h

refused : (r h b : Bool) → (r ≡ true → b ≡ true) → (r && (h && not b)) ≡ false
refused false h b is = refl
refused true false b is = refl
refused true true b is = ap not (is refl)

left_normal : (r h b : Bool) → (r && ((false && h) && b)) ≡ false
left_normal true h b = refl
left_normal false h b = refl

left_inverse : (r h b : Bool) → (r && ((h && false) && b)) ≡ false
left_inverse true true b = refl
left_inverse true false b = refl
left_inverse false h b = refl

module _ (ends : Ends) (step : Step) (e : Place → Place) where
  abbrev first : Pair → Bool
  first p = reaches step e p && is_kept ends step e p

  -- no pair of a head that is left out
  left : (side : Side) (head tail : List Turn) → leaves_out ends head ≡ true → first (join side head tail) ≡ false
  left Normal head tail is =
      let p = pair head tail in
      (λ k. reaches step e p && ((not (is k) && not (leaves_out ends tail)) && not (begins_reached step e p)))
      ∙ left_normal (reaches step e p) (not (leaves_out ends tail)) (not (begins_reached step e p))
  left Inverse head tail is =
      let p = pair tail head in
      (λ k. reaches step e p && ((not (leaves_out ends tail) && not (is k)) && not (begins_reached step e p)))
      ∙ left_inverse (reaches step e p) (not (leaves_out ends tail)) (not (begins_reached step e p))

  begins-at : (p : Pair) (i j : ℕ) → i ≤ length p.normal → j ≤ length p.inverse
      → i + j < length p.normal + length p.inverse → reaches step e (pair (take i p.normal) (take j p.inverse)) ≡ true
      → begins_reached step e p ≡ true
  unfolding begins_reached
  begins-at p i j on_normal on_inverse less is =
      let all = length p.normal + length p.inverse in
      let tested : ℕ → ℕ → Bool =
      λ j i. nat_lt (i + j) all && reaches step e (pair (take i p.normal) (take j p.inverse)) in
      let here : tested j i ≡ true = λ k. lt-ltb (i + j) all less k && is k in
      let row = any_at (tested j) (length p.normal + 1) i (omega (arith, on_normal)) here in
      any_at (λ j. list_any (tested j) (up_to (length p.normal))) (length p.inverse + 1) j
      (omega (arith, on_inverse)) row

  module _ (t : Turn) (leaves : LeavesStep step t) (front tail : List Turn) where
    abbrev long : List Turn
    long = front ++ t ∷ []

    alike : (side : Side) → reaches step e (join side long tail) ≡ reaches step e (join side front tail)
    alike Normal =
        let f = after_all (inverse_side step) e tail in
        ap (reached step) (fold-append (λ (g : Place → Place) u q. turned u (g q)) f front (t ∷ []))
        ∙ leaves.after (after_all (cubes step) f front)
    alike Inverse =
        let g = after_all (cubes step) e tail in
        ap (reached step) (apart step tail e long ∙ fold-append turned_before g front (t ∷ []))
        ∙ leaves.on_inverse (after_all (inverse_side step) g front)
        ∙ ap (reached step) (sym (apart step tail e front))

    short : take (length front) long ≡ front
    short = take_at front (t ∷ []) (length front) refl

    whole : take (length tail) tail ≡ tail
    whole = take_all (length tail) tail (omega arith)

    one_more : length long ≡ length front + 1
    one_more = length-append front (t ∷ [])

    begun : (side : Side) → reaches step e (join side front tail) ≡ true
        → begins_reached step e (join side long tail) ≡ true
    begun Normal is =
        begins-at (pair long tail) (length front) (length tail) (omega (arith, one_more)) (omega arith)
        (omega (arith, one_more)) ((λ k. reaches step e (pair (short k) (whole k))) ∙ is)
    begun Inverse is =
        begins-at (pair tail long) (length tail) (length front) (omega arith) (omega (arith, one_more))
        (omega (arith, one_more)) ((λ k. reaches step e (pair (whole k) (short k))) ∙ is)

    none : (side : Side) → first (join side long tail) ≡ false
    none side =
        let p = join side long tail in
        refused (reaches step e p) (has_ends ends p) (begins_reached step e p) (λ is. begun side (sym (alike side) ∙ is))

  abbrev Nothing : Side → List (List Turn) → List Turn → Type 0
  Nothing side tails head = filter first (map (join side head) tails) ≡ []

pub left_head : (ends : Ends) (step : Step) (e : Place → Place) (side : Side) (head : List Turn)
    (tails : List (List Turn)) → leaves_out ends head ≡ true → Nothing ends step e side tails head
left_head ends step e side head tails is =
    filter-none (first ends step e) (join side head) tails (λ tail. left ends step e side head tail is)

pub idle_head : IdleTurnsLeaveSteps → (ends : Ends) (step : Step) (e : Place → Place) (side : Side) (head : List Turn)
    (tails : List (List Turn)) → ends_idle step head ≡ true → Nothing ends step e side tails head
idle_head law ends step e side head tails is = by_last (last_of head) where
  by_last : (head ≡ []) ⊎ ((a : List Turn) × (t : Turn) × (head ≡ a ++ t ∷ [])) → Nothing ends step e side tails head
  by_last (inl none) = absurd (cc (is, ap (ends_idle step) none))
  by_last (inr w) =
      let last = ap last_turn w.2 ∙ last_turn-push w.0 w.1 in
      let idle : is_idle step w.1 ≡ true = sym (ap (λ t. option_map_or (is_idle step) t false) last) ∙ is in
      let each : (tail : List Turn) → first ends step e (join side (w.0 ++ w.1 ∷ []) tail) ≡ false =
      λ tail. none ends step e w.1 (law step w.1 idle) w.0 tail side in
      subst (Nothing ends step e side tails) (sym w.2) (filter-none (first ends step e) (join side (w.0 ++ w.1 ∷ [])) tails each)
