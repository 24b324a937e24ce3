-- Canonical lists and their parts; the list of all of one length: its members, and its order.
use Rattle.niss_moves.proofs.Names.{◌↔◌, inl, inr, refl, ap, sym, ◌∙◌, subst, length-append, arith, append_assoc, ◌≡◌, ℕ, zero, suc, ◌-◌}
use Rattle.niss_moves.proofs.Names.{true, List, [], ◌∷◌, ◌++◌, length, Some, Bool, map, false, not, ◌&&◌, ◌⊎◌, IsTrue, flat_map, slice_get}
use Rattle.niss_moves.proofs.Names.{IsCanonical, last_turn, Turn, Face, opposite, same_face, may_follow, cond_both}
use Rattle.niss_moves.specs.Canonical.{face_may_follow, all_canonical, canonical_extensions, DiffersFirst, CanonicalMembers, goes_first}
use Rattle.std.proofs.lemmas.List.{length-map, get_or-map, nil_from_length}
use Rattle.std.proofs.lemmas.List.Elements.{All-append, All-contains, All-contains_itself, All-filter, All-map, All-pop, All-push}
use Rattle.std.proofs.lemmas.List.Elements.{All-weaker, Contains-append_cases, Contains-append_left, Contains-append_right, filter_passes}
use Rattle.std.proofs.lemmas.List.Kept.{AllPairs-cons, AllPairs-filter}
use Rattle.std.specs.List.{All, AllPairs, Contains, filter}
use Rattle.niss_moves.proofs.Finite.{every_face, Faces, When, Both, Yes, Same, holds, and_both, and_left, and_right}

pub canonical_pair : (a : List Turn) (x y : Turn) (b : List Turn) → IsCanonical (a ++ x ∷ y ∷ b) → face_may_follow x.face y.face ≡ true
canonical_pair [] x y b h = and_left _ _ h
canonical_pair (z ∷ []) x y b h = and_left (face_may_follow x.face y.face) _ (and_right (face_may_follow z.face x.face) _ h)
canonical_pair (z ∷ w ∷ a) x y b h = canonical_pair (w ∷ a) x y b (and_right (face_may_follow z.face w.face) _ h)

pub canonical_front : (a b : List Turn) → IsCanonical (a ++ b) → IsCanonical a
canonical_front [] b h = refl
canonical_front (x ∷ []) b h = refl
canonical_front (x ∷ y ∷ a) b h =
    and_both _ _ (and_left _ _ h) (canonical_front (y ∷ a) b (and_right (face_may_follow x.face y.face) _ h))

pub canonical_join : (a : List Turn) (x : Turn) (b : List Turn) → IsCanonical (a ++ x ∷ []) → IsCanonical (x ∷ b) → IsCanonical (a ++ x ∷ b)
canonical_join [] x b h k = k
canonical_join (y ∷ []) x b h k = and_both _ _ (and_left _ _ h) k
canonical_join (y ∷ z ∷ a) x b h k =
    and_both _ _ (and_left _ _ h) (canonical_join (z ∷ a) x b (and_right (face_may_follow y.face z.face) _ h) k)

-- another last turn, before which may stand what may stand before this one
pub canonical_last : (a : List Turn) (x y : Turn) → ((z : Turn) → face_may_follow z.face x.face ≡ true → face_may_follow z.face y.face ≡ true)
    → IsCanonical (a ++ x ∷ []) → IsCanonical (a ++ y ∷ [])
canonical_last [] x y e h = refl
canonical_last (z ∷ []) x y e h = and_both _ _ (e z (and_left _ _ h)) refl
canonical_last (z ∷ w ∷ a) x y e h =
    and_both _ _ (and_left _ _ h) (canonical_last (w ∷ a) x y e (and_right (face_may_follow z.face w.face) _ h))

pub snoc_assoc : (a : List Turn) (x : Turn) (b : List Turn) → (a ++ x ∷ []) ++ b ≡ a ++ x ∷ b
snoc_assoc a x b = append_assoc a (x ∷ []) b

-- a last turn, if there is one
pub last_of : (a : List Turn) → (a ≡ []) ⊎ ((b : List Turn) × (y : Turn) × (a ≡ b ++ y ∷ []))
last_of [] = inl refl
last_of (x ∷ a) =
    elim (last_of a) [ inl e ↦ inr ([], x, ap (λ s. x ∷ s) e) | inr w ↦ inr (x ∷ w.0, w.1, ap (λ s. x ∷ s) w.2) ]

-- neighbours of two faces that break the order
abbrev pub are_exchanged : Face → Face → Bool
are_exchanged f g = not (same_face f g) && not (face_may_follow f g)

pub exchanged : (f g : Face) → same_face f g ≡ false → face_may_follow f g ≡ false → are_exchanged f g ≡ true
exchanged f g a b = and_both _ _ (ap not a) (ap not b)

-- two faces of one axis of which the second goes first
abbrev pub goes_late : Face → Face → Bool
goes_late f g = same_face (opposite f) g && goes_first g

-- exchanged, they are in order
pub exchange : (f g : Face) → are_exchanged f g ≡ true → (face_may_follow g f ≡ true) × ((goes_late f g ≡ true) × (goes_late g f ≡ false))
unfolding every_face
exchange = holds (Faces (λ f. Faces (λ g. When (are_exchanged f g) (Both (Yes (face_may_follow g f)) (Both (Yes (goes_late f g)) (Same (goes_late g f) false)))))) refl

-- what may stand before the first of two opposite faces may stand before the second
skip_follows : (z y x : Face) → face_may_follow z y ≡ true → are_exchanged x y ≡ true → face_may_follow z x ≡ true
unfolding every_face
skip_follows = holds (Faces (λ z. Faces (λ y. Faces (λ x. When (face_may_follow z y) (When (are_exchanged x y) (Yes (face_may_follow z x))))))) refl

-- and the other way round, unless it is of the first one's face itself
pub pass_follows : (y x t : Face) → face_may_follow y x ≡ true → same_face y t ≡ false → are_exchanged x t ≡ true → face_may_follow y t ≡ true
unfolding every_face
pass_follows y x t h a = holds (Faces (λ y. Faces (λ x. Faces (λ t. When (face_may_follow y x) (When (not (same_face y t)) (When (are_exchanged x t) (Yes (face_may_follow y t)))))))) refl y x t h (ap not a)

-- a list whose last turn but one is left out
pub skip_middle : (b : List Turn) (y x : Turn) → IsCanonical (b ++ y ∷ x ∷ []) → are_exchanged x.face y.face ≡ true → IsCanonical (b ++ x ∷ [])
skip_middle b y x h a =
    canonical_last b y x (λ z k. skip_follows z.face y.face x.face k a) (canonical_front (b ++ y ∷ []) (x ∷ []) (rw snoc_assoc h))

-- Elements of lists that are made of others.

pub none : {X : Type 0} → (x : X) → Contains [] x → ⊥
none x h = omega (arith, h.1)

pub here : {X : Type 0} → (x : X) (xs : List X) → Contains (x ∷ xs) x
here x xs = (0, omega arith, refl)

pub later : {X : Type 0} → (y : X) (xs : List X) (x : X) → Contains xs x → Contains (y ∷ xs) x
later y xs x h = Contains-append_right (y ∷ []) xs x h

pub first_or_later : {X : Type 0} → (y : X) (xs : List X) (x : X) → Contains (y ∷ xs) x → (y ≡ x) ⊎ Contains xs x
first_or_later y xs x (zero, lt, e) = inl e
first_or_later y xs x (suc k, lt, e) = inr (k, omega (arith, lt), e)

pub in_map : {X Y : Type 0} (f : X → Y) → (xs : List X) (x : X) → Contains xs x → Contains (map f xs) (f x)
in_map f xs x h = (h.0, omega (arith, h.1, length-map xs f), get_or-map f xs h.0 x (f x) h.1 ∙ ap f h.2)

from_map : {X Y : Type 0} (f : X → Y) → (xs : List X) (y : Y) → Contains (map f xs) y → (x : X) × Contains xs x × (f x ≡ y)
from_map {X = X} {Y = Y} f xs y h =
    let Made : Y → Type 0 = λ y. (x : X) × Contains xs x × (f x ≡ y) in
    All-contains Made (map f xs) y (All-map Made f xs (All-weaker (Contains xs) (λ x. Made (f x)) (λ x m. (x, m, refl)) xs (All-contains_itself xs))) h

in_filter : {X : Type 0} (p : X → Bool) → (xs : List X) (x : X) → Contains xs x → p x ≡ true → Contains (filter p xs) x
in_filter p [] x h e = absurd (none x h)
in_filter p (y ∷ xs) x h e =
    elim (first_or_later y xs x h) [
      | inl q ↦ rw (ap p q ∙ e) (0, omega arith, q)
      | inr b ↦ cond_both (p y) (y ∷ filter p xs) (filter p xs) (λ l. Contains l x) (λ _. later y (filter p xs) x (in_filter p xs x b e)) (λ _. in_filter p xs x b e)
    ]

from_filter : {X : Type 0} (p : X → Bool) → (xs : List X) (x : X) → Contains (filter p xs) x → Contains xs x × (p x ≡ true)
from_filter p xs x h =
    (All-contains (Contains xs) (filter p xs) x (All-filter p (Contains xs) xs (All-contains_itself xs)) h, All-contains (λ x. p x ≡ true) (filter p xs) x (filter_passes p xs) h)

pub in_flat_map : {X Y : Type 0} (f : X → List Y) → (xs : List X) (x : X) (y : Y) → Contains xs x → Contains (f x) y → Contains (flat_map f xs) y
in_flat_map f [] x y h k = absurd (none x h)
in_flat_map {X = X} f (z ∷ xs) x y h k =
    elim (first_or_later z xs x h) [
      | inl e ↦ Contains-append_left (f z) (flat_map f xs) y (subst (λ (w : X). Contains (f w) y) (sym e) k)
      | inr b ↦ Contains-append_right (f z) (flat_map f xs) y (in_flat_map f xs x y b k)
    ]

from_flat_map : {X Y : Type 0} (f : X → List Y) → (xs : List X) (y : Y) → Contains (flat_map f xs) y → (x : X) × Contains xs x × Contains (f x) y
from_flat_map f [] y h = absurd (none y h)
from_flat_map f (x ∷ xs) y h =
    elim (Contains-append_cases (f x) (flat_map f xs) y h) [
      | inl a ↦ (x, here x xs, a)
      | inr b ↦ (let w = from_flat_map f xs y b in (w.0, later x xs w.0 w.1, w.2))
    ]

-- the last turn
get_last : (s : List Turn) (t : Turn) → slice_get (s ++ t ∷ []) (length s) ≡ Some t
get_last [] t = refl
get_last (x ∷ s) t = get_last s t

pub last_turn-push : (s : List Turn) (t : Turn) → last_turn (s ++ t ∷ []) ≡ Some t
last_turn-push s t =
    let e : length (s ++ t ∷ []) - 1 ≡ length s = omega (arith, length-append s (t ∷ [])) in
    ap (slice_get (s ++ t ∷ [])) e ∙ get_last s t

-- A canonical sequence goes on canonically exactly where the turn may follow the last one.
pub canonical_more : (s : List Turn) (t : Turn) → IsCanonical s → may_follow (last_turn s) t ≡ true → IsCanonical (s ++ t ∷ [])
canonical_more s t h e =
    elim (last_of s) [
      | inl n ↦ subst (λ (s : List Turn). IsCanonical (s ++ t ∷ [])) (sym n) refl
      | inr w ↦ subst (λ (s : List Turn). IsCanonical (s ++ t ∷ [])) (sym w.2) (rw snoc_assoc (canonical_join w.0 w.1 (t ∷ []) (subst (λ (s : List Turn). IsCanonical s) w.2 h) (and_both _ _ (ap (λ l. may_follow l t) (sym (ap last_turn w.2 ∙ last_turn-push w.0 w.1)) ∙ e) refl)))
    ]

pub may_follow-last : (s : List Turn) (t : Turn) → IsCanonical (s ++ t ∷ []) → may_follow (last_turn s) t ≡ true
may_follow-last s t h =
    elim (last_of s) [
      | inl n ↦ subst (λ (s : List Turn). may_follow (last_turn s) t ≡ true) (sym n) refl
      | inr w ↦ ap (λ l. may_follow l t) (ap last_turn w.2 ∙ last_turn-push w.0 w.1) ∙ canonical_pair w.0 w.1 t [] (rw snoc_assoc at (subst (λ (s : List Turn). IsCanonical (s ++ t ∷ [])) w.2 h))
    ]

pub canonical_grows : (s : List Turn) (t : Turn) → IsCanonical (s ++ t ∷ []) ↔ (IsCanonical s × IsTrue (may_follow (last_turn s) t))
canonical_grows s t = ((λ h. (canonical_front s (t ∷ []) h, may_follow-last s t h)), (λ p. canonical_more s t p.0 p.1))

abbrev IsMember : List Turn → ℕ → List Turn → Type 0
IsMember turns k s = (length s ≡ k) × IsCanonical s × All (Contains turns) s

members_from : (turns : List Turn) (k : ℕ) (s : List Turn) → Contains (all_canonical turns k) s → IsMember turns k s
unfolding all_canonical
members_from turns zero s h =
    elim (first_or_later [] [] s h) [
      | inl e ↦ subst (λ (s : List Turn). IsMember turns zero s) e (refl, refl, λ i d lt. absurd (omega (arith, lt)))
      | inr n ↦ absurd (none s n)
    ]
members_from turns (suc k) s h =
    let w = from_flat_map (canonical_extensions turns) (all_canonical turns k) s h in
    let v = from_map (λ t. w.0 ++ t ∷ []) (filter (may_follow (last_turn w.0)) turns) s w.2 in
    let t = from_filter (may_follow (last_turn w.0)) turns v.0 v.1 in
    let m = members_from turns k w.0 w.1 in
    subst (λ (s : List Turn). IsMember turns (suc k) s) v.2 (omega (arith, length-append w.0 (v.0 ∷ []), m.0), canonical_more w.0 v.0 m.1 t.1, All-push (Contains turns) w.0 v.0 m.2 t.0)

extended : (turns : List Turn) (k : ℕ) (b : List Turn) (t : Turn) → IsMember turns (suc k) (b ++ t ∷ []) → (IsMember turns k b → Contains (all_canonical turns k) b) → Contains (all_canonical turns (suc k)) (b ++ t ∷ [])
unfolding all_canonical
extended turns k b t m more =
    let among = All-pop (Contains turns) (b ++ t ∷ []) b (Some t) refl m.2 in
    let front : IsMember turns k b = (omega (arith, length-append b (t ∷ []), m.0), canonical_front b (t ∷ []) m.1, among.0) in
    in_flat_map (canonical_extensions turns) (all_canonical turns k) b (b ++ t ∷ []) (more front) (in_map (λ t. b ++ t ∷ []) (filter (may_follow (last_turn b)) turns) t (in_filter (may_follow (last_turn b)) turns t among.1 (may_follow-last b t m.1)))

members_to : (turns : List Turn) (k : ℕ) (s : List Turn) → IsMember turns k s → Contains (all_canonical turns k) s
unfolding all_canonical
members_to turns zero s m =
    subst (λ (s : List Turn). Contains {X = List Turn} ([] ∷ []) s) (sym (nil_from_length s m.0)) (here {X = List Turn} [] [])
members_to turns (suc k) s m =
    elim (last_of s) [
      | inl n ↦ absurd (omega (arith, m.0, ap length n))
      | inr w ↦ subst (λ (s : List Turn). Contains (all_canonical turns (suc k)) s) (sym w.2) (extended turns k w.0 w.1 (subst (λ (s : List Turn). IsMember turns (suc k) s) w.2 m) (λ h. members_to turns k w.0 h))
    ]

pub canonical_members : CanonicalMembers
canonical_members turns k s = (members_from turns k s, members_to turns k s)

-- It is in the order of the turns.

-- pairs of a list by its first element and its rest
pairs_first : {X : Type 0} (P : X → X → Type 0) → (x : X) (xs : List X) → AllPairs P (x ∷ xs) → All (P x) xs
pairs_first P x xs h k d lt = h 0 (suc k) d (omega arith) (omega (arith, lt))

pairs_rest : {X : Type 0} (P : X → X → Type 0) → (x : X) (xs : List X) → AllPairs P (x ∷ xs) → AllPairs P xs
pairs_rest P x xs h i j d le lt = h (suc i) (suc j) d (omega (arith, le)) (omega (arith, lt))

no_pairs : {X : Type 0} (P : X → X → Type 0) → AllPairs {X = X} P []
no_pairs P i j d le lt = absurd (omega (arith, lt))

pairs_append : {X : Type 0} (P : X → X → Type 0) → (xs ys : List X) → AllPairs P xs → AllPairs P ys → ((x y : X) → Contains xs x → Contains ys y → P x y) → AllPairs P (xs ++ ys)
pairs_append P [] ys h k cross = k
pairs_append P (x ∷ xs) ys h k cross =
    AllPairs-cons P x (xs ++ ys) (All-append (P x) xs ys (pairs_first P x xs h) (All-weaker (Contains ys) (P x) (λ y m. cross x y (here x xs) m) ys (All-contains_itself ys))) (pairs_append P xs ys (pairs_rest P x xs h) k (λ z y m n. cross z y (later x xs z m) n))

pairs_map : {X Y : Type 0} (Q : X → X → Type 0) (P : Y → Y → Type 0) (f : X → Y) → ((x y : X) → Q x y → P (f x) (f y)) → (xs : List X) → AllPairs Q xs → AllPairs P (map f xs)
pairs_map Q P f h [] k = no_pairs P
pairs_map Q P f h (x ∷ xs) k =
    AllPairs-cons P (f x) (map f xs) (All-map (P (f x)) f xs (All-weaker (Q x) (λ y. P (f x) (f y)) (h x) xs (pairs_first Q x xs k))) (pairs_map Q P f h xs (pairs_rest Q x xs k))

pairs_flat_map : {X Y : Type 0} (Q : X → X → Type 0) (P : Y → Y → Type 0) (f : X → List Y) → ((x : X) → AllPairs P (f x)) → ((x y : X) (a b : Y) → Q x y → Contains (f x) a → Contains (f y) b → P a b) → (xs : List X) → AllPairs Q xs → AllPairs P (flat_map f xs)
pairs_flat_map Q P f inside across [] k = no_pairs P
pairs_flat_map Q P f inside across (x ∷ xs) k =
    pairs_append P (f x) (flat_map f xs) (inside x) (pairs_flat_map Q P f inside across xs (pairs_rest Q x xs k)) (λ a b m n. (let w = from_flat_map f xs b n in across x w.0 a b (All-contains (Q x) xs w.0 (pairs_first Q x xs k) w.1) m w.2))

-- two sequences extended
extended_across : (o : Turn → Turn → Bool) (r s : List Turn) (t u : Turn) → DiffersFirst o r s → DiffersFirst o (r ++ t ∷ []) (s ++ u ∷ [])
extended_across o r s t u d =
    record {
      front = d.front;
      left = d.left;
      right = d.right;
      after_left = d.after_left ++ t ∷ [];
      after_right = d.after_right ++ u ∷ [];
      first_is = ap (λ x. x ++ t ∷ []) d.first_is ∙ append_assoc d.front (d.left ∷ d.after_left) (t ∷ []);
      second_is = ap (λ x. x ++ u ∷ []) d.second_is ∙ append_assoc d.front (d.right ∷ d.after_right) (u ∷ []);
      order = d.order;
    }

across : (o : Turn → Turn → Bool) (turns : List Turn) (r s a b : List Turn) → DiffersFirst o r s → Contains (canonical_extensions turns r) a → Contains (canonical_extensions turns s) b → DiffersFirst o a b
across o turns r s a b d m n =
    let v = from_map (λ t. r ++ t ∷ []) (filter (may_follow (last_turn r)) turns) a m in
    let w = from_map (λ t. s ++ t ∷ []) (filter (may_follow (last_turn s)) turns) b n in
    subst (λ (a : List Turn). DiffersFirst o a b) v.2 (subst (λ (b : List Turn). DiffersFirst o (r ++ v.0 ∷ []) b) w.2 (extended_across o r s v.0 w.0 d))

inside : (o : Turn → Turn → Bool) (turns s : List Turn) → AllPairs (λ t u. IsTrue (o t u)) turns → AllPairs (DiffersFirst o) (canonical_extensions turns s)
inside o turns s h =
    pairs_map (λ t u. IsTrue (o t u)) (DiffersFirst o) (λ t. s ++ t ∷ []) (λ t u k. record { front = s; left = t; right = u; after_left = []; after_right = []; first_is = refl; second_is = refl; order = k }) (filter (may_follow (last_turn s)) turns) (AllPairs-filter (λ t u. IsTrue (o t u)) (may_follow (last_turn s)) turns h)

pub canonical_in_order : (comes_before : Turn → Turn → Bool) (turns : List Turn) (k : ℕ) → AllPairs (λ t u. IsTrue (comes_before t u)) turns
    → AllPairs (DiffersFirst comes_before) (all_canonical turns k)
unfolding all_canonical
canonical_in_order o turns zero h =
    AllPairs-cons (DiffersFirst o) [] [] (λ k d lt. absurd (omega (arith, lt))) (no_pairs (DiffersFirst o))
canonical_in_order o turns (suc k) h =
    pairs_flat_map (DiffersFirst o) (DiffersFirst o) (canonical_extensions turns) (λ s. inside o turns s h) (λ r s a b d m n. across o turns r s a b d m n) (all_canonical turns k) (canonical_in_order o turns k h)
