-- Cleaning: in one pass, as a relation and as a function, and what it keeps.
use Rattle.niss_moves.proofs.Names.{inl, inr, refl, ap, sym, ◌∙◌, subst, length-append, arith, append_assoc, ◌≡◌, ℕ, zero, suc, true, List}
use Rattle.niss_moves.proofs.Names.{[], ◌∷◌, ◌++◌, length, Some, Bool, false, ◌⊎◌, ◌+◌, ◌*◌, ◌<◌, ◌≤◌, cond, Option, None, subst₂}
use Rattle.niss_moves.proofs.Names.{append-nil, IfSome, IsCanonical, last_turn, rewritten_pair, Cleans, Clean, turned, effect_of_turns}
use Rattle.niss_moves.proofs.Names.{Turn, Face, Power, Place, opposite, same_face, map, count_by, count_by-le-length, sum_by-cons}
use Rattle.niss_moves.specs.Canonical.{face_may_follow, all_canonical, turn_order}
use Rattle.niss_moves.specs.Cleaning.{more_rewritings, sum_of_turns, IsRewriting, Rewrite, are_disordered, disorder, turn_by, sum_of_powers}
use Rattle.std.specs.Option.{option_map, option_map_or}
use Rattle.niss_moves.specs.Helpers.{Cleaned, pair_of_turns, list_with_turn}
use Rattle.std.proofs.Math.Nat.{mul-le-mul_left}
use Rattle.std.proofs.lemmas.Nat.{mul-le}
unfoldable use Rattle.niss_moves.specs.Cleaning.{rewritten_once, rewritten_within, clean_turns}
use Rattle.niss_moves.proofs.Finite.{and_both, and_left, and_right, every_face, every_power, every_turn, every_coord, every_vector}
use Rattle.niss_moves.proofs.Finite.{every_place, Turns, Powers, Anywhere, Alike, holds, turn, same_face_is}
use Rattle.niss_moves.proofs.Effects.{effect_of_turns-append}
use Rattle.niss_moves.proofs.CanonicalLists.{canonical_pair, canonical_front, canonical_join, canonical_last, snoc_assoc, last_of}
use Rattle.niss_moves.proofs.CanonicalLists.{are_exchanged, exchanged, exchange, pass_follows, skip_middle, last_turn-push}

-- what a turn at the end leaves
pub turn_at_end : (a : List Turn) (x t : Turn) → list_with_turn (a ++ x ∷ []) t ≡ a ++ pair_of_turns x t
turn_at_end [] x t = refl
turn_at_end (y ∷ []) x t = refl
turn_at_end (y ∷ z ∷ a) x t = ap (λ s. y ∷ s) (turn_at_end (z ∷ a) x t)

one_rewriting : (front : List Turn) (x y : Turn) (rest c : List Turn) → IsCanonical (front ++ x ∷ []) → face_may_follow x.face y.face ≡ false → Cleans (front ++ rewritten_pair x y ++ rest) c → Cleans (front ++ x ∷ y ∷ rest) c
one_rewriting front x y rest c h k d =
    Rewrite (record { front = front; left = x; right = y; rest = rest; at = refl; leftmost = h; breaks = k; result = refl }) d

sum_canonical : (a : List Turn) (x : Turn) (o : Option Power) → IsCanonical (a ++ x ∷ []) → IsCanonical (a ++ turn_by x.face o)
sum_canonical a x None h = rw append-nil (canonical_front a (x ∷ []) h)
sum_canonical a x (Some p) h = canonical_last a x _ (λ z k. k) h

-- a turn of the last turn's face
cleaned_same : (a : List Turn) (x t : Turn) → IsCanonical (a ++ x ∷ []) → same_face x.face t.face ≡ true → Cleaned (a ++ x ∷ []) t (a ++ sum_of_turns x t)
cleaned_same a x t h e =
    record {
      canonical = sum_canonical a x (sum_of_powers x.power t.power) h;
      cleans = λ rest c d.
          rw snoc_assoc (one_rewriting a x t rest c h (rw e) (rw e d));
    }

-- with the last turn summed, the other one stands after it
summed_before : (b : List Turn) (y x : Turn) (o : Option Power) → IsCanonical (b ++ y ∷ x ∷ []) → are_exchanged x.face y.face ≡ true → IsCanonical ((b ++ turn_by y.face o) ++ x ∷ [])
summed_before b y x None h a = rw append-nil (skip_middle b y x h a)
summed_before b y x (Some p) h a =
    rw snoc_assoc (canonical_join b (record y { power = p }) (x ∷ []) (canonical_last b y _ (λ z k. k) (canonical_front (b ++ y ∷ []) (x ∷ []) (rw snoc_assoc h))) (and_both _ _ (canonical_pair b y x [] h) refl))

-- A turn more may be summed with the last one: what follows is cleaned alike.
summed_cleans : (b : List Turn) (y t : Turn) (rest c : List Turn) → IsCanonical (b ++ y ∷ []) → (s : Bool) → same_face y.face t.face ≡ s
    → Cleans ((b ++ pair_of_turns y t) ++ rest) c → Cleans (b ++ y ∷ t ∷ rest) c
summed_cleans b y t rest c h true e d = one_rewriting b y t rest c h (rw e) (rw e (rw e at d))
summed_cleans b y t rest c h false e d = rw append_assoc at (rw e at d)

summed_canonical : (b : List Turn) (y x t : Turn) → IsCanonical (b ++ y ∷ x ∷ []) → are_exchanged x.face t.face ≡ true → (s : Bool) → same_face y.face t.face ≡ s
    → IsCanonical ((b ++ pair_of_turns y t) ++ x ∷ [])
summed_canonical b y x t h a true e =
    rw e (summed_before b y x (sum_of_powers y.power t.power) h (subst (λ (f : Face). are_exchanged x.face f ≡ true) (sym (same_face_is _ _ e)) a))
summed_canonical b y x t h a false e =
    rw (e, append_assoc) (canonical_join b y (t ∷ x ∷ []) (canonical_front (b ++ y ∷ []) (x ∷ []) (rw snoc_assoc h)) (and_both _ _ (pass_follows y.face x.face t.face (canonical_pair b y x [] h) e a) (and_both _ _ (exchange x.face t.face a).0 refl)))

-- A turn of the opposite face that goes first passes the last one, and may be summed with the one before.
cleaned_swap : (a : List Turn) (x t : Turn) → IsCanonical (a ++ x ∷ []) → same_face x.face t.face ≡ false → face_may_follow x.face t.face ≡ false → Cleaned (a ++ x ∷ []) t (list_with_turn a t ++ x ∷ [])
cleaned_swap a x t h n m =
    elim (last_of a) [
      | inl e ↦ subst (λ (a : List Turn). Cleaned (a ++ x ∷ []) t (list_with_turn a t ++ x ∷ [])) (sym e) (record { canonical = and_both _ _ ((exchange x.face t.face (exchanged x.face t.face n m)).0) refl; cleans = λ rest c d. one_rewriting [] x t rest c refl m (rw n d) })
      | inr w ↦ subst (λ (a : List Turn). Cleaned (a ++ x ∷ []) t (list_with_turn a t ++ x ∷ [])) (sym w.2) (swap_after w.0 w.1 (subst (λ (a : List Turn). IsCanonical (a ++ x ∷ [])) w.2 h))
    ]
  where
    swap_after : (b : List Turn) (y : Turn) → IsCanonical ((b ++ y ∷ []) ++ x ∷ []) → Cleaned ((b ++ y ∷ []) ++ x ∷ []) t (list_with_turn (b ++ y ∷ []) t ++ x ∷ [])
    swap_after b y h =
        rw (turn_at_end b y t) (record {
          canonical = summed_canonical b y x t (rw snoc_assoc at h) (exchanged x.face t.face n m) (same_face y.face t.face) refl;
          cleans = λ rest c d.
              rw (snoc_assoc (b ++ y ∷ []) x (t ∷ rest)) (one_rewriting (b ++ y ∷ []) x t rest c h m (rw (n, append_assoc, append_assoc) (summed_cleans b y t (x ∷ rest) c (canonical_front (b ++ y ∷ []) (x ∷ []) h) (same_face y.face t.face) refl (rw (snoc_assoc (b ++ pair_of_turns y t) x rest) at d))));
        })

-- what the code knows
pub cleaned_sum : (a old new : List Turn) (x t : Turn) → IsCanonical old → old ≡ a ++ x ∷ [] → same_face x.face t.face ≡ true → new ≡ a ++ sum_of_turns x t → Cleaned old t new
cleaned_sum a old new x t h o e n =
    subst₂ (λ (o n : List Turn). Cleaned o t n) (sym o) (sym n) (cleaned_same a x t (subst (λ (s : List Turn). IsCanonical s) o h) e)

pub cleaned_first : (old new : List Turn) (t : Turn) → old ≡ [] → new ≡ t ∷ [] → Cleaned old t new
cleaned_first old new t o n = rw (o, n) (record { canonical = refl; cleans = λ rest c d. d })

pub cleaned_passed : (a old mid new : List Turn) (x t : Turn) → IsCanonical old → old ≡ a ++ x ∷ [] → same_face x.face t.face ≡ false
    → IfSome (last_turn old) (λ u. face_may_follow u.face t.face ≡ false) → mid ≡ list_with_turn a t → new ≡ mid ++ x ∷ [] → Cleaned old t new
cleaned_passed a old mid new x t h o e b m n =
    let breaks : IfSome (Some x) (λ u. face_may_follow u.face t.face ≡ false) =
    subst (λ (l : Option Turn). IfSome l (λ u. face_may_follow u.face t.face ≡ false)) (ap last_turn o ∙ last_turn-push a x) b in
    subst₂ (λ (o n : List Turn). Cleaned o t n) (sym o) (sym (n ∙ ap (λ s. s ++ x ∷ []) m)) (cleaned_swap a x t (subst (λ (s : List Turn). IsCanonical s) o h) e breaks)

-- Cleaning keeps the effect.

-- Two turns of one face have the effect of their sum.
sums : (t : Turn) (p : Power) (q : Place) → effect_of_turns (sum_of_turns t (turn t.face p)) q ≡ turned (turn t.face p) (turned t q)
unfolding every_turn every_face every_power every_place every_vector every_coord
sums = holds (Turns (λ t. Powers (λ p. Anywhere (λ q. Alike (effect_of_turns (sum_of_turns t (turn t.face p)) q) (turned (turn t.face p) (turned t q)))))) refl

-- Turns of opposite faces commute.
commute : (t : Turn) (p : Power) (q : Place) → turned t (turned (turn (opposite t.face) p) q) ≡ turned (turn (opposite t.face) p) (turned t q)
unfolding every_turn every_face every_power every_place every_vector every_coord
commute = holds (Turns (λ t. Powers (λ p. Anywhere (λ q. Alike (turned t (turned (turn (opposite t.face) p) q)) (turned (turn (opposite t.face) p) (turned t q)))))) refl

rewritten_effect : (x t : Turn) → face_may_follow x.face t.face ≡ false → (r : Place) → effect_of_turns (rewritten_pair x t) r ≡ effect_of_turns (x ∷ t ∷ []) r
rewritten_effect x t h r = by_case (same_face x.face t.face) refl
  where
    by_case : (s : Bool) → same_face x.face t.face ≡ s → effect_of_turns (rewritten_pair x t) r ≡ effect_of_turns (x ∷ t ∷ []) r
    by_case true e =
        rw e (sums x t.power r ∙ ap (λ f. turned (turn f t.power) (turned x r)) (same_face_is _ _ e))
    by_case false e =
        rw e (subst (λ (f : Face). effect_of_turns (turn f t.power ∷ x ∷ []) r ≡ effect_of_turns (x ∷ turn f t.power ∷ []) r) (same_face_is _ _ (and_left _ _ (exchange x.face t.face (exchanged x.face t.face e h)).1.0)) (commute x t.power r))

one_effect : (s t : List Turn) → IsRewriting s t → (r : Place) → effect_of_turns t r ≡ effect_of_turns s r
one_effect s t w r =
    ap (λ s. effect_of_turns s r) w.result ∙ effect_of_turns-append (w.front ++ rewritten_pair w.left w.right) w.rest r ∙ ap (effect_of_turns w.rest) (effect_of_turns-append w.front (rewritten_pair w.left w.right) r ∙ rewritten_effect w.left w.right w.breaks (effect_of_turns w.front r)) ∙ sym (effect_of_turns-append w.front (w.left ∷ w.right ∷ w.rest) r) ∙ ap (λ s. effect_of_turns s r) (sym w.at)

pub cleans_effect : (s c : List Turn) → Cleans s c → (r : Place) → effect_of_turns c r ≡ effect_of_turns s r
cleans_effect s c (Clean h) r = refl
cleans_effect s c (Rewrite w d) r = cleans_effect _ c d r ∙ one_effect s _ w r

-- Each rewriting shortens the list, or leaves fewer pairs in the wrong order.

count_by-cons : (p : Turn → Bool) (t : Turn) (ts : List Turn) → count_by p (t ∷ ts) ≡ cond (p t) 1 0 + count_by p ts
count_by-cons p t ts = sum_by-cons (λ x. cond (p x) 1 0) t ts

disorder-cons : (t : Turn) (ts : List Turn) → disorder (t ∷ ts) ≡ count_by (are_disordered t) ts + disorder ts
disorder-cons t ts = refl

-- one pair exchanged, after the same turns
count_exchanged : (p : Turn → Bool) (front : List Turn) (t u : Turn) (rest : List Turn) → count_by p (front ++ u ∷ t ∷ rest) ≡ count_by p (front ++ t ∷ u ∷ rest)
count_exchanged p [] t u rest =
    omega (arith, count_by-cons p u (t ∷ rest), count_by-cons p t rest, count_by-cons p t (u ∷ rest), count_by-cons p u rest)
count_exchanged p (x ∷ front) t u rest =
    count_by-cons p x (front ++ u ∷ t ∷ rest) ∙ ap (λ n. cond (p x) 1 0 + n) (count_exchanged p front t u rest) ∙ sym (count_by-cons p x (front ++ t ∷ u ∷ rest))

fewer : (front : List Turn) (t u : Turn) (rest : List Turn) → are_disordered t u ≡ true → are_disordered u t ≡ false → disorder (front ++ u ∷ t ∷ rest) < disorder (front ++ t ∷ u ∷ rest)
fewer [] t u rest a b =
    let after : count_by (are_disordered t) (u ∷ rest) ≡ 1 + count_by (are_disordered t) rest = count_by-cons (are_disordered t) u rest ∙ ap (λ b. cond {A = ℕ} b 1 0 + count_by (are_disordered t) rest) a in
    let before : count_by (are_disordered u) (t ∷ rest) ≡ 0 + count_by (are_disordered u) rest = count_by-cons (are_disordered u) t rest ∙ ap (λ b. cond {A = ℕ} b 1 0 + count_by (are_disordered u) rest) b in
    omega (arith, after, before, disorder-cons t (u ∷ rest), disorder-cons u rest, disorder-cons u (t ∷ rest), disorder-cons t rest)
fewer (x ∷ front) t u rest a b =
    omega (arith, count_exchanged (are_disordered x) front t u rest, fewer front t u rest a b, disorder-cons x (front ++ u ∷ t ∷ rest), disorder-cons x (front ++ t ∷ u ∷ rest))

short : (f : Face) (o : Option Power) → length (turn_by f o) ≤ 1
short f None = omega arith
short f (Some p) = omega arith

shorter : (front : List Turn) (t u : Turn) (rest : List Turn) → same_face t.face u.face ≡ true → length (front ++ rewritten_pair t u ++ rest) < length (front ++ t ∷ u ∷ rest)
shorter front t u rest e =
    rw (e, length-append, length-append, length-append) (omega (arith, short t.face (sum_of_powers t.power u.power)))

lowers_here : (front : List Turn) (t u : Turn) (rest : List Turn) → face_may_follow t.face u.face ≡ false → (b : Bool) → same_face t.face u.face ≡ b → (length (front ++ rewritten_pair t u ++ rest) < length (front ++ t ∷ u ∷ rest)) ⊎ ((length (front ++ rewritten_pair t u ++ rest) ≡ length (front ++ t ∷ u ∷ rest)) × (disorder (front ++ rewritten_pair t u ++ rest) < disorder (front ++ t ∷ u ∷ rest)))
lowers_here front t u rest m true e = inl (shorter front t u rest e)
lowers_here front t u rest m false e =
    let d = exchange t.face u.face (exchanged t.face u.face e m) in
    let s : front ++ rewritten_pair t u ++ rest ≡ front ++ u ∷ t ∷ rest = rw (e, append_assoc) refl in
    inr (ap length s ∙ length-append front (u ∷ t ∷ rest) ∙ sym (length-append front (t ∷ u ∷ rest)), subst (λ (x : List Turn). disorder x < disorder (front ++ t ∷ u ∷ rest)) (sym s) (fewer front t u rest d.1.0 d.1.1))

pub rewriting_lowers : (s t : List Turn) → IsRewriting s t → (length t < length s) ⊎ ((length t ≡ length s) × (disorder t < disorder s))
rewriting_lowers s t w =
    rw (w.at, w.result) (lowers_here w.front w.left w.right w.rest w.breaks (same_face w.left.face w.right.face) refl)

-- Cleaning as a function is the relation, and has one result.

-- what the leftmost rewriting tells: where nothing is rewritten, nothing breaks the order, and else it is the leftmost pair that does
abbrev Tells : List Turn → Option (List Turn) → Type 0
Tells s None = IsCanonical s
Tells s (Some c) = IsRewriting s c

canonical_after_first : (t u : Turn) (s front : List Turn) (left : Turn) (rest : List Turn) → u ∷ s ≡ front ++ left ∷ rest
    → face_may_follow t.face u.face ≡ true → IsCanonical (front ++ left ∷ []) → IsCanonical (t ∷ front ++ left ∷ [])
canonical_after_first t u s [] left rest e k h = and_both _ _ (let same : u ≡ left = cc in subst (λ (x : Turn). face_may_follow t.face x.face ≡ true) same k) refl
canonical_after_first t u s (x ∷ front) left rest e k h = and_both _ _ (let same : u ≡ x = cc in subst (λ (x : Turn). face_may_follow t.face x.face ≡ true) same k) h

tells_after_first : (t u : Turn) (s : List Turn) (o : Option (List Turn)) → face_may_follow t.face u.face ≡ true → Tells (u ∷ s) o → Tells (t ∷ u ∷ s) (option_map (λ s. t ∷ s) o)
tells_after_first t u s None k h = and_both _ _ k h
tells_after_first t u s (Some r) k w = record {
  front = t ∷ w.front;
  left = w.left;
  right = w.right;
  rest = w.rest;
  at = ap (λ v. t ∷ v) w.at;
  leftmost = canonical_after_first t u s w.front w.left (w.right ∷ w.rest) w.at k w.leftmost;
  breaks = w.breaks;
  result = ap (λ v. t ∷ v) w.result;
}

once_tells : (s : List Turn) → Tells s (rewritten_once s)
unfolding rewritten_once
once_tells [] = refl
once_tells (t ∷ []) = refl
once_tells (t ∷ u ∷ s) = by_order (face_may_follow t.face u.face) refl (once_tells (u ∷ s))
  where
    by_order : (b : Bool) → face_may_follow t.face u.face ≡ b → Tells (u ∷ s) (rewritten_once (u ∷ s)) → Tells (t ∷ u ∷ s) (cond b (option_map (λ s. t ∷ s) (rewritten_once (u ∷ s))) (Some (rewritten_pair t u ++ s)))
    by_order true e h = tells_after_first t u s (rewritten_once (u ∷ s)) e h
    by_order false e h = record { front = []; left = t; right = u; rest = s; at = refl; leftmost = refl; breaks = e; result = refl }

-- how many rewritings there can be

disorder-le : (s : List Turn) → disorder s ≤ length s * length s
disorder-le [] = omega arith
disorder-le (t ∷ s) =
    let a : count_by (are_disordered t) s ≤ length s = count_by-le-length (are_disordered t) s in
    let b : disorder s ≤ length s * length s = disorder-le s in
    omega (arith, a, b)

left_over : ℕ → List Turn → ℕ
left_over m s = length s * suc m + disorder s

shorter_lowers : (l k m d e : ℕ) → l < k → d ≤ m → l * suc m + d < k * suc m + e
shorter_lowers l k m d e h b =
    let a : suc m * suc l ≤ suc m * k = mul-le-mul_left (suc m) (let g : suc l ≤ k = omega arith in g) in
    omega (arith, a, b)

lowers : (m : ℕ) (s t : List Turn) → length s * length s ≤ m → IsRewriting s t → (left_over m t < left_over m s) × (length t * length t ≤ m)
unfolding left_over
lowers m s t cap w = elim (rewriting_lowers s t w) [
  | inl a ↦
      (let le : length t ≤ length s = omega (arith, a) in
      let room : length t * length t ≤ m = omega (arith, mul-le (length t) (length t) (length s) (length s) le le, cap) in
      let few : disorder t ≤ m = (let q : disorder t ≤ length t * length t = disorder-le t in omega (arith, q, room)) in
      (shorter_lowers (length t) (length s) m (disorder t) (disorder s) a few, room))
  | inr b ↦
      (rw b.0 (omega (arith, b.1)), rw b.0 cap)
]

-- the rewritings to the end

within_step : (m n : ℕ) (s : List Turn) (o : Option (List Turn)) → Tells s o → length s * length s ≤ m → left_over m s < suc n
    → ((t : List Turn) → length t * length t ≤ m → left_over m t < n → Cleans t (rewritten_within n t))
    → Cleans s (option_map_or (rewritten_within n) o s)
within_step m n s None h cap fuel more = Clean h
within_step m n s (Some t) w cap fuel more =
    let l = lowers m s t cap w in
    Rewrite w (more t l.1 (omega (arith, l.0, fuel)))

within_cleans : (m n : ℕ) (s : List Turn) → length s * length s ≤ m → left_over m s < n → Cleans s (rewritten_within n s)
unfolding rewritten_within
within_cleans m zero s cap fuel = absurd (omega (arith, fuel))
within_cleans m (suc n) s cap fuel = within_step m n s (rewritten_once s) (once_tells s) cap fuel (within_cleans m n)

pub clean_turns_are_clean : (s : List Turn) → Cleans s (clean_turns s)
unfolding clean_turns left_over
clean_turns_are_clean s = within_cleans (length s * length s) (more_rewritings s) s (omega arith) (omega arith)

-- Cleaning ends, for each list.
pub cleaning_ends : (s : List Turn) → (c : List Turn) × Cleans s c
cleaning_ends s = (clean_turns s, clean_turns_are_clean s)

-- Cleaning has one result, since the leftmost rewriting is a function.

-- the leftmost rewriting, computed
once_is : (front : List Turn) (l r : Turn) (rest : List Turn) → IsCanonical (front ++ l ∷ []) → face_may_follow l.face r.face ≡ false → rewritten_once (front ++ l ∷ r ∷ rest) ≡ Some ((front ++ rewritten_pair l r) ++ rest)
unfolding rewritten_once
once_is [] l r rest h e = rw e
once_is (x ∷ []) l r rest h e = rw (and_left (face_may_follow x.face l.face) _ h, e)
once_is (x ∷ y ∷ front) l r rest h e =
    rw (and_left (face_may_follow x.face y.face) _ h, once_is (y ∷ front) l r rest (and_right (face_may_follow x.face y.face) _ h) e)

once_rewriting : (s t : List Turn) → IsRewriting s t → rewritten_once s ≡ Some t
once_rewriting s t w =
    ap rewritten_once w.at ∙ once_is w.front w.left w.right w.rest w.leftmost w.breaks ∙ ap Some (sym w.result)

not_both : (s t : List Turn) → IsCanonical s → IsRewriting s t → ⊥
not_both s t h w =
    let k = canonical_pair w.front w.left w.right w.rest (subst (λ (x : List Turn). IsCanonical x) w.at h) in
    let q : true ≡ false = sym k ∙ w.breaks in
    cc

pub one_clean_list : (s c d : List Turn) → Cleans s c → Cleans s d → c ≡ d
one_clean_list s c d (Clean h) (Clean k) = refl
one_clean_list s c d (Clean h) (Rewrite w k) = absurd (not_both s _ h w)
one_clean_list s c d (Rewrite w h) (Clean k) = absurd (not_both s _ k w)
one_clean_list s c d (Rewrite {t = t} w h) (Rewrite {t = u} v k) =
    let e : t ≡ u = (let q : Some t ≡ Some u = sym (once_rewriting s t w) ∙ once_rewriting s u v in cc) in
    one_clean_list t c d h (subst (λ (x : List Turn). Cleans x d) (sym e) k)

pub canonical_stays : (s c : List Turn) → IsCanonical s → Cleans s c → c ≡ s
canonical_stays s c h d = one_clean_list s c s d (Clean h)

-- counts of canonical sequences over the 18 turns
counts : map (λ k. length (all_canonical turn_order k)) (1 ∷ 2 ∷ 3 ∷ []) ≡ 18 ∷ 243 ∷ 3240 ∷ []
unfolding all_canonical
counts = refl
