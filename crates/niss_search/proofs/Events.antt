-- Looks and paths in order: what holds of each path by the looks before it, and which paths are handed out before a search is
-- cut.
use Rattle.niss_search.proofs.Words.{◌≡◌, arith, ◌+◌, ◌<◌, ℕ, ap, ◌∙◌, ◌≤◌, [], List, refl, true, false, ◌-◌, ◌∷◌, Bool, Turn}
use Rattle.niss_search.proofs.Words.{suc, zero, inl, inr, ◌++◌, filter, subst, None, Some, nat_le, le-leb, lt-leb, cond, sum_by-cons}
use Rattle.niss_search.proofs.Words.{StoppedAt, Part, for_each, then_part, only_looks, only_paths, EndsAt, WentThrough, Space, beyond, ap₂}
use Rattle.niss_search.proofs.DescentParts.{Events}
use Rattle.niss_search.proofs.AfterLemmas.{nexts}

-- the paths among them, and how many looks
abbrev pub paths_in : Events → List (List Turn)
paths_in [] = []
paths_in (None ∷ es) = paths_in es
paths_in (Some p ∷ es) = p ∷ paths_in es

abbrev pub looks_in : Events → ℕ
looks_in [] = 0
looks_in (None ∷ es) = suc (looks_in es)
looks_in (Some p ∷ es) = looks_in es

pub paths_in-append : (es fs : Events) → paths_in (es ++ fs) ≡ paths_in es ++ paths_in fs
paths_in-append [] fs = refl
paths_in-append (None ∷ es) fs = paths_in-append es fs
paths_in-append (Some p ∷ es) fs = ap (λ (l : List (List Turn)). p ∷ l) (paths_in-append es fs)

looks_in-append : (es fs : Events) → looks_in (es ++ fs) ≡ looks_in es + looks_in fs
looks_in-append [] fs = omega arith
looks_in-append (None ∷ es) fs = omega (arith, looks_in-append es fs)
looks_in-append (Some p ∷ es) fs = looks_in-append es fs

-- They are those of the part.
pub record IsInOrder (part : Part) : Type 0 where
  pub paths : paths_in part.events ≡ part.paths
  pub looks : looks_in part.events ≡ part.looks

in_order-each : {X : Type 0} (part : X → Part) → ((x : X) → IsInOrder (part x)) → (xs : List X) → IsInOrder (for_each part xs)
in_order-each part each [] = record { paths = refl; looks = refl }
in_order-each part each (x ∷ xs) =
    let rest = in_order-each part each xs in
    record {
      paths = paths_in-append (part x).events (for_each part xs).events ∙ ap₂ (λ (a b : List (List Turn)). a ++ b) (each x).paths rest.paths;
      looks = omega (arith, looks_in-append (part x).events (for_each part xs).events, (each x).looks, rest.looks, sum_by-cons (λ y. (part y).looks) x xs);
    }

module _ {turns : List Turn} {S : Type 0} (space : Space turns S) (look : S → ℕ) where
  pub in_order-beyond : (k : ℕ) (x : S) (p : List Turn) → IsInOrder (beyond space look x p k)
  unfolding beyond
  in_order-beyond zero x p = by_test (nat_le (look x) 0) where
    by_test : (b : Bool) → IsInOrder (only_paths (cond b (p ∷ []) []))
    by_test true = record { paths = refl; looks = refl }
    by_test false = record { paths = refl; looks = refl }
  in_order-beyond (suc k) x p = by_test (nat_le (look x) (suc k)) (λ u. in_order-beyond k (space.after x u) (p ++ u ∷ [])) where
    turn_part : Turn → Part
    turn_part u = then_part (only_looks 1) (beyond space look (space.after x u) (p ++ u ∷ []) k)

    by_test : (b : Bool) → ((u : Turn) → IsInOrder (beyond space look (space.after x u) (p ++ u ∷ []) k))
        → IsInOrder (cond b (for_each turn_part (nexts space look p)) (only_looks 0))
    by_test true each =
        in_order-each turn_part (λ u. record { paths = (each u).paths; looks = omega (arith, (each u).looks) }) (nexts space look p)
    by_test false each = record { paths = refl; looks = refl }

-- It holds of each path and of the meter where it is handed out.
abbrev pub HoldsAlong : (List Turn → ℕ → Type 0) → Events → ℕ → Type 0
HoldsAlong P [] m = Unit {0}
HoldsAlong P (None ∷ es) m = HoldsAlong P es (suc m)
HoldsAlong P (Some p ∷ es) m = P p m × HoldsAlong P es m

pub HoldsAlong-append : (P : List Turn → ℕ → Type 0) (es fs : Events) (m n : ℕ) → n ≡ m + looks_in es → HoldsAlong P es m → HoldsAlong P fs n → HoldsAlong P (es ++ fs) m
HoldsAlong-append P [] fs m n e h k = let same : n ≡ m = omega (arith, e) in subst (λ (l : ℕ). HoldsAlong P fs l) same k
HoldsAlong-append P (None ∷ es) fs m n e h k = HoldsAlong-append P es fs (suc m) n (omega (arith, e)) h k
HoldsAlong-append P (Some p ∷ es) fs m n e h k = (h.0, HoldsAlong-append P es fs m n e h.1 k)

pub HoldsAlong-weaker : (P Q : List Turn → ℕ → Type 0) → ((p : List Turn) (m : ℕ) → P p m → Q p m) → (es : Events) (m : ℕ) → HoldsAlong P es m → HoldsAlong Q es m
HoldsAlong-weaker P Q g [] m h = tt
HoldsAlong-weaker P Q g (None ∷ es) m h = HoldsAlong-weaker P Q g es (suc m) h
HoldsAlong-weaker P Q g (Some p ∷ es) m h = (g p m h.0, HoldsAlong-weaker P Q g es m h.1)

-- Each path has a number, so many above a start.
module _ (number : List Turn → ℕ) (start : ℕ) where
  abbrev pub IsNumbered : List Turn → ℕ → Type 0
  IsNumbered p m = m ≡ start + number p

  -- none has one below its look
  none-within : (es : Events) (m n : ℕ) → start ≤ n → n < m → HoldsAlong IsNumbered es m → filter (λ p. nat_le (number p) (n - start)) (paths_in es) ≡ []
  none-within [] m n from over h = refl
  none-within (None ∷ es) m n from over h = none-within es (suc m) n from (omega (arith, over)) h
  none-within (Some p ∷ es) m n from over h =
      rw (lt-leb (number p) (n - start) (omega (arith, h.0, over, from))) (none-within es m n from over h.1)

  module _ {K : Type 0} (took refused : K → List Turn → K → Type 0) where
    ends-rises : (cut : Bool) (es : Events) (m : ℕ) (a : K) (n : ℕ) (b : K) → EndsAt took refused cut es m a n b → m ≤ n
    ends-rises cut [] m a n b h = absurd h
    ends-rises cut (None ∷ es) m a n b h =
        elim h [ inl r ↦ omega (arith, r.1.0) | inr k ↦ omega (arith, ends-rises cut es (suc m) a n b k) ]
    ends-rises cut (Some p ∷ es) m a n b h =
        elim h [ inl r ↦ omega (arith, r.1.0) | inr k ↦ ends-rises cut es m k.0 n b k.1.1 ]

    -- A search that was cut has handed out those whose number is at most that of the looks made.
    pub cut-found : (es : Events) (m : ℕ) (a : K) (n : ℕ) (b : K) → start ≤ m → HoldsAlong IsNumbered es m → EndsAt took refused true es m a n b
        → WentThrough took a (filter (λ p. nat_le (number p) (n - start)) (paths_in es)) b
    cut-found [] m a n b from h ends = absurd ends
    cut-found (None ∷ es) m a n b from h ends = elim ends [
      | inl r ↦ rw (none-within es (suc m) n (omega (arith, from, r.1.0)) (omega (arith, r.1.0)) h) r.1.1
      | inr k ↦ cut-found es (suc m) a n b (omega (arith, from)) h k
    ]
    cut-found (Some p ∷ es) m a n b from h ends = elim ends [
      | inl r ↦ absurd (let both : true ≡ false = r.0 in cc)
      | inr k ↦
          let low : m ≤ n = ends-rises true es m k.0 n b k.1.1 in
          rw (le-leb (number p) (n - start) (omega (arith, h.0, low))) (k.0, (k.1.0, cut-found es m k.0 n b from h.1 k.1.1))
    ]

    -- One that was stopped has made the looks up to the one at the path that was refused.
    pub stopped-at : (es : Events) (m : ℕ) (a : K) (n : ℕ) (b : K) → HoldsAlong IsNumbered es m → EndsAt took refused false es m a n b
        → StoppedAt took refused number a (paths_in es) b (n - start)
    stopped-at [] m a n b h ends = absurd ends
    stopped-at (None ∷ es) m a n b h ends = elim ends [
      | inl r ↦ absurd (let both : false ≡ true = r.0 in cc)
      | inr k ↦ stopped-at es (suc m) a n b h k
    ]
    stopped-at (Some p ∷ es) m a n b h ends = elim ends [
      | inl r ↦ record {
        front = [];
        path = p;
        rest = paths_in es;
        between = a;
        listed = refl;
        went = refl;
        stopped = r.1.1;
        at = omega (arith, h.0, r.1.0);
      }
      | inr k ↦
          let s = stopped-at es m k.0 n b h.1 k.1.1 in
          record {
            front = p ∷ s.front;
            path = s.path;
            rest = s.rest;
            between = s.between;
            listed = ap (λ (l : List (List Turn)). p ∷ l) s.listed;
            went = (k.0, (k.1.0, s.went));
            stopped = s.stopped;
            at = s.at;
          }
    ]
