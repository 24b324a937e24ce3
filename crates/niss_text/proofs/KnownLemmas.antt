-- One more part of which it is told which scramble it is of, and which lines it has; and parts that are apart.
use Rattle.std.proofs.Common.{◌≡◌, ℕ, zero, suc, ◌+◌, ◌<◌, ◌≤◌, ◌⊎◌, inl, inr, Bool, true, false, Option, None, Some, MatchOption, List, [], ◌∷◌, ◌++◌, length, take, set, get_or, refl, sym, subst, ap, ◌∙◌, arith}
use Rattle.std.proofs.lemmas.Bool.{cases_lt, cases_eq}
use Rattle.std.proofs.lemmas.List.{take_more_set, get_or_default, get_or-set_same, get_or-set_other, length-set}
use Rattle.niss_text.specs.declared.known.KnownPart.{KnownPart}
use Rattle.niss_text.specs.Known.{AreApart, AreCounted, IsAlone, IsCountedAlone, AreAssigned, IsOwn}
unfoldable use Rattle.niss_text.specs.Known.{AreKnown, HaveLines}

pub known_none : (count : ℕ) → AreKnown count []
unfolding AreKnown
known_none count = tt

known_more : (count : ℕ) (parts : List KnownPart) (part : KnownPart) → AreKnown count parts →
    (part.scramble < count) ⊎ (part.scramble ≡ 18446744073709551615) → AreKnown count (parts ++ part ∷ [])
unfolding AreKnown
known_more count [] part far is = (is, tt)
known_more count (p ∷ ps) part far is = (far.0, known_more count ps part far.1 is)

-- the same in memory
pub known_next : (count : ℕ) (parts : List KnownPart) (at : ℕ) (part : KnownPart) → at < length parts → AreKnown count (take at parts) →
    (part.scramble < count) ⊎ (part.scramble ≡ 18446744073709551615) → AreKnown count (take (at + 1) (set parts at part))
known_next count parts at part room far is =
    subst (λ (ps : List KnownPart). AreKnown count ps) (sym (take_more_set parts at part room)) (known_more count (take at parts) part far is)

pub lines_none : HaveLines 0 [] 0
unfolding HaveLines
lines_none = refl

lines_more : (from : ℕ) (parts : List KnownPart) (to : ℕ) (part : KnownPart) → HaveLines from parts to → part.first_line ≡ to →
    to ≤ part.solution_end → part.solution_end ≤ part.end_line → HaveLines from (parts ++ part ∷ []) part.end_line
unfolding HaveLines
lines_more from [] to part same first solution end =
    (first ∙ sym same, subst (λ (at : ℕ). at ≤ part.solution_end) (sym same) solution, end, refl)
lines_more from (p ∷ ps) to part far first solution end = (far.0, far.1, far.2, lines_more p.end_line ps to part far.3 first solution end)

-- the same in memory
pub lines_next : (parts : List KnownPart) (count to : ℕ) (part : KnownPart) → count < length parts → HaveLines 0 (take count parts) to →
    part.first_line ≡ to → to ≤ part.solution_end → part.solution_end ≤ part.end_line → HaveLines 0 (take (count + 1) (set parts count part)) part.end_line
lines_next parts count to part room far first solution end =
    subst (λ (ps : List KnownPart). HaveLines 0 ps part.end_line) (sym (take_more_set parts count part room))
    (lines_more 0 (take count parts) to part far first solution end)

-- A part that is said to be of another scramble has the same lines.
pub lines_stay : (from : ℕ) (parts : List KnownPart) (to at scramble : ℕ) (none : KnownPart) → HaveLines from parts to →
    HaveLines from (set parts at (record (get_or parts at none) { scramble = scramble })) to
unfolding HaveLines
lines_stay from [] to at scramble none far = far
lines_stay from (p ∷ ps) to zero scramble none far = far
lines_stay from (p ∷ ps) to (suc at) scramble none far = (far.0, far.1, far.2, lines_stay p.end_line ps to at scramble none far.3)

-- of none, or its own
abbrev pub IsTold : Bool → List KnownPart → List ℕ → (place scramble : ℕ) → Type 0
IsTold is_in_order parts counts k s = (s ≡ 18446744073709551615) ⊎ IsOwn is_in_order parts counts k s

pub own_in_order : (is_in_order : Bool) (parts now : List KnownPart) (counts : List ℕ) (at s : ℕ) (none : KnownPart) (place : Option ℕ) →
    is_in_order ≡ true → place ≡ Some at →
    (s ≡ 18446744073709551615) ⊎ MatchOption place ((s < length counts) × (get_or counts s 0 ≡ 1) × ((get_or now at none).scramble ≡ s)) (λ a. s ≡ a) →
    IsTold is_in_order parts counts at s
own_in_order is_in_order parts now counts at s none place is there far =
    subst (λ (b : Bool). IsTold b parts counts at s) (sym is)
    (subst (λ (p : Option ℕ). (s ≡ 18446744073709551615) ⊎ MatchOption p ((s < length counts) × (get_or counts s 0 ≡ 1) × ((get_or now at none).scramble ≡ s)) (λ a. s ≡ a)) there far)

pub own_by_number : (is_in_order : Bool) (parts now : List KnownPart) (counts : List ℕ) (at s : ℕ) (none : KnownPart) (place : Option ℕ) →
    is_in_order ≡ false → place ≡ None → at < length now → ((d : KnownPart) → get_or now at d ≡ get_or parts at d) →
    (s ≡ 18446744073709551615) ⊎ MatchOption place ((s < length counts) × (get_or counts s 0 ≡ 1) × ((get_or now at none).scramble ≡ s)) (λ a. s ≡ a) →
    IsTold is_in_order parts counts at s
own_by_number is_in_order parts now counts at s none place is there room same far =
    subst (λ (b : Bool). IsTold b parts counts at s) (sym is)
    (turned (subst (λ (p : Option ℕ). (s ≡ 18446744073709551615) ⊎ MatchOption p ((s < length counts) × (get_or counts s 0 ≡ 1) × ((get_or now at none).scramble ≡ s)) (λ a. s ≡ a)) there far))
  where
    turned : (s ≡ 18446744073709551615) ⊎ ((s < length counts) × (get_or counts s 0 ≡ 1) × ((get_or now at none).scramble ≡ s)) → IsTold false parts counts at s
    turned (inl top) = inl top
    turned (inr own) = inr (own.0, own.1, λ d. ap (λ (p : KnownPart). p.scramble) (sym (same d) ∙ get_or_default now at d none room) ∙ own.2)

-- it is of its own, if there is one
abbrev pub IsFull : Bool → List KnownPart → List ℕ → (place scramble : ℕ) → Type 0
IsFull true parts counts k s = k < length counts → s ≡ k
IsFull false parts counts k s = (none : KnownPart) → (get_or parts k none).scramble < length counts → get_or counts (get_or parts k none).scramble 0 ≡ 1 →
    s ≡ (get_or parts k none).scramble

pub full_in_order : (is_in_order : Bool) (parts now : List KnownPart) (counts : List ℕ) (at s : ℕ) (none : KnownPart) (place : Option ℕ) →
    is_in_order ≡ true → place ≡ Some at →
    MatchOption place ((get_or now at none).scramble < length counts → get_or counts (get_or now at none).scramble 0 ≡ 1 → s ≡ (get_or now at none).scramble) (λ a. a < length counts → s ≡ a) →
    IsFull is_in_order parts counts at s
full_in_order is_in_order parts now counts at s none place is there far =
    subst (λ (b : Bool). IsFull b parts counts at s) (sym is)
    (subst (λ (p : Option ℕ). MatchOption p ((get_or now at none).scramble < length counts → get_or counts (get_or now at none).scramble 0 ≡ 1 → s ≡ (get_or now at none).scramble) (λ a. a < length counts → s ≡ a)) there far)

pub full_by_number : (is_in_order : Bool) (parts now : List KnownPart) (counts : List ℕ) (at s : ℕ) (none : KnownPart) (place : Option ℕ) →
    is_in_order ≡ false → place ≡ None → at < length now → ((d : KnownPart) → get_or now at d ≡ get_or parts at d) →
    MatchOption place ((get_or now at none).scramble < length counts → get_or counts (get_or now at none).scramble 0 ≡ 1 → s ≡ (get_or now at none).scramble) (λ a. a < length counts → s ≡ a) →
    IsFull is_in_order parts counts at s
full_by_number is_in_order parts now counts at s none place is there room same far =
    subst (λ (b : Bool). IsFull b parts counts at s) (sym is)
    (λ d. subst (λ (n : ℕ). n < length counts → get_or counts n 0 ≡ 1 → s ≡ n) (ap (λ (p : KnownPart). p.scramble) (get_or_default now at none d room ∙ same d)) turned)
  where
    turned : (get_or now at none).scramble < length counts → get_or counts (get_or now at none).scramble 0 ≡ 1 → s ≡ (get_or now at none).scramble
    turned = subst (λ (p : Option ℕ). MatchOption p ((get_or now at none).scramble < length counts → get_or counts (get_or now at none).scramble 0 ≡ 1 → s ≡ (get_or now at none).scramble) (λ a. a < length counts → s ≡ a)) there far

-- what is so of the places and scrambles of some parts, with one more in memory
pub each_next : (P : ℕ → ℕ → Type 0) (now : List KnownPart) (at : ℕ) (part : KnownPart) → at < length now →
    ((k : ℕ) (none : KnownPart) → k < at → P k (get_or now k none).scramble) → P at part.scramble →
    (k : ℕ) (none : KnownPart) → k < at + 1 → P k (get_or (set now at part) k none).scramble
each_next P now at part room far is k none le = by_place (cases_lt k at)
  where
    by_place : (k < at) ⊎ (at ≤ k) → P k (get_or (set now at part) k none).scramble
    by_place (inl before) = subst (λ (p : KnownPart). P k p.scramble) (sym (get_or-set_other now at k part none (λ e. omega (arith, e, before)))) (far k none before)
    by_place (inr here) =
        let same : at ≡ k = omega (arith, le, here) in
        subst (λ (n : ℕ). P n (get_or (set now at part) n none).scramble) same
        (subst (λ (p : KnownPart). P at p.scramble) (sym (get_or-set_same now at part none room)) is)

pub rest_next : (parts now : List KnownPart) (at : ℕ) (part : KnownPart) → ((k : ℕ) (none : KnownPart) → at ≤ k → get_or now k none ≡ get_or parts k none) →
    (k : ℕ) (none : KnownPart) → at + 1 ≤ k → get_or (set now at part) k none ≡ get_or parts k none
rest_next parts now at part far k none le = get_or-set_other now at k part none (λ e. omega (arith, e, le)) ∙ far k none (omega (arith, le))

-- Parts that are told their own scrambles are apart.
pub are_apart : (is_in_order : Bool) (parts now : List KnownPart) (counts : List ℕ) → length now ≡ length parts → AreCounted parts counts →
    ((k : ℕ) (none : KnownPart) → k < length now → IsTold is_in_order parts counts k (get_or now k none).scramble) → AreApart now
are_apart is_in_order parts now counts long counted far i j none before within same =
    by_own is_in_order (far i none (omega (arith, before, within))) (far j none within)
  where
    by_own : (b : Bool) → IsTold b parts counts i (get_or now i none).scramble → IsTold b parts counts j (get_or now j none).scramble →
        (get_or now i none).scramble ≡ 18446744073709551615
    by_own b (inl top) two = top
    by_own b (inr one) (inl top) = same ∙ top
    by_own true (inr one) (inr two) = absurd (omega (arith, one, two, same, before))
    by_own false (inr one) (inr two) =
        absurd (counted (get_or now i none).scramble one.0 one.1 i j none before (omega (arith, within, long)) (one.2 none) (two.2 none ∙ sym same))

-- the only part of a scramble that is counted once
counted_alone : (parts : List KnownPart) (counts : List ℕ) (k s : ℕ) (none : KnownPart) → AreCounted parts counts → k < length parts →
    s < length counts → get_or counts s 0 ≡ 1 → (get_or parts k none).scramble ≡ s → IsAlone (λ j. (get_or parts j none).scramble) (length parts) k
counted_alone parts counts k s none counted room low once is j lt same = by_place (cases_lt j k) (cases_lt k j)
  where
    by_place : (j < k) ⊎ (k ≤ j) → (k < j) ⊎ (j ≤ k) → j ≡ k
    by_place (inl before) _ = absurd (counted s low once j k none before room (same ∙ is) is)
    by_place (inr one) (inl after) = absurd (counted s low once k j none after lt is (same ∙ is))
    by_place (inr one) (inr two) = omega (arith, one, two)

-- Parts that are told their own scrambles, and all of them, are assigned by what they said.
pub are_assigned : (is_in_order : Bool) (parts now : List KnownPart) (counts : List ℕ) (count : ℕ) (none : KnownPart) → length now ≡ length parts →
    length counts ≡ count → AreCounted parts counts → IsCountedAlone parts counts →
    ((k : ℕ) (d : KnownPart) → k < length now → IsTold is_in_order parts counts k (get_or now k d).scramble) →
    ((k : ℕ) (d : KnownPart) → k < length now → IsFull is_in_order parts counts k (get_or now k d).scramble) →
    AreAssigned is_in_order count (λ k. (get_or parts k none).scramble) now
are_assigned is_in_order parts now counts count none long counted once alone own all = record {
  in_order = λ is k d lt low. subst (λ (b : Bool). IsFull b parts counts k (get_or now k d).scramble) is (all k d lt) (omega (arith, low, counted));
  only = λ is k d lt. by_number k d lt (subst (λ (b : Bool). IsTold b parts counts k (get_or now k d).scramble) is (own k d lt));
  all = λ is k d lt low single. subst (λ (b : Bool). IsFull b parts counts k (get_or now k d).scramble) is (all k d lt) none (omega (arith, low, counted))
      (alone k none (omega (arith, lt, long)) (omega (arith, low, counted)) (λ j le same. single j (omega (arith, le, long)) same));
}
  where
    by_number : (k : ℕ) (d : KnownPart) → k < length now → IsTold false parts counts k (get_or now k d).scramble →
        ((get_or now k d).scramble ≡ 18446744073709551615)
        ⊎ (((get_or now k d).scramble ≡ (get_or parts k none).scramble) × IsAlone (λ j. (get_or parts j none).scramble) (length now) k)
    by_number k d lt (inl top) = inl top
    by_number k d lt (inr is) = inr (
      sym (is.2 none),
      λ j le same.
          counted_alone parts counts k (get_or now k d).scramble none once (omega (arith, lt, long)) is.0 is.1 (is.2 none) j (omega (arith, le, long)) same,
    )

-- What counts say of so many parts: 0 of a scramble that none of them says, 1 of one that one alone says.
abbrev pub CountNone : List KnownPart → List ℕ → ℕ → Type 0
CountNone parts counts n = (s : ℕ) → s < length counts → ((k : ℕ) (d : KnownPart) → k < n → (get_or parts k d).scramble ≡ s → ⊥) → get_or counts s 0 ≡ 0

abbrev pub CountAlone : List KnownPart → List ℕ → ℕ → Type 0
CountAlone parts counts n = (k : ℕ) (d : KnownPart) → k < n → (get_or parts k d).scramble < length counts →
    IsAlone (λ j. (get_or parts j d).scramble) n k → get_or counts (get_or parts k d).scramble 0 ≡ 1

-- one more part, which says one of the scrambles
pub none_counted : (parts : List KnownPart) (counts : List ℕ) (n value : ℕ) → n < length parts → CountNone parts counts n →
    (d : KnownPart) → CountNone parts (set counts (get_or parts n d).scramble value) (n + 1)
none_counted parts counts n value room none d s low far =
    get_or-set_other counts (get_or parts n d).scramble s value 0 (λ e. far n d (omega arith) (sym e))
    ∙ none s (omega (arith, low, length-set counts (get_or parts n d).scramble value)) (λ k e lt same. far k e (omega (arith, lt)) same)

pub alone_counted : (parts : List KnownPart) (counts : List ℕ) (n value : ℕ) (p : KnownPart) → n < length parts → CountNone parts counts n →
    CountAlone parts counts n → (get_or parts n p).scramble < length counts → (get_or counts (get_or parts n p).scramble 0 ≡ 0 → value ≡ 1) →
    CountAlone parts (set counts (get_or parts n p).scramble value) (n + 1)
alone_counted parts counts n value p room none one within more k d lt low alone = by_place (cases_lt k n)
  where
    same_part : get_or parts n p ≡ get_or parts n d
    same_part = get_or_default parts n p d room

    long : length (set counts (get_or parts n p).scramble value) ≡ length counts
    long = length-set counts (get_or parts n p).scramble value

    unsaid : k ≡ n → (j : ℕ) (e : KnownPart) → j < n → (get_or parts j e).scramble ≡ (get_or parts n p).scramble → ⊥
    unsaid here j e before said =
        let again : j ≡ k = alone j (omega (arith, before)) (ap (λ (q : KnownPart). q.scramble) (get_or_default parts j d e (omega (arith, before, room)))
        ∙ said ∙ ap (λ (q : KnownPart). q.scramble) same_part ∙ ap (λ m. (get_or parts m d).scramble) (sym here)) in
        absurd (omega (arith, again, here, before))

    by_place : (k < n) ⊎ (n ≤ k) → get_or (set counts (get_or parts n p).scramble value) (get_or parts k d).scramble 0 ≡ 1
    by_place (inl before) =
        get_or-set_other counts (get_or parts n p).scramble (get_or parts k d).scramble value 0
        (λ e. let again : n ≡ k = alone n (omega arith) (ap (λ (q : KnownPart). q.scramble) (sym same_part) ∙ sym e) in absurd (omega (arith, again, before)))
        ∙ one k d before (omega (arith, low, long)) (λ j le same. alone j (omega (arith, le)) same)
    by_place (inr after) =
        let here : k ≡ n = omega (arith, lt, after) in
        ap (λ m. get_or (set counts (get_or parts n p).scramble value) m 0)
        (ap (λ m. (get_or parts m d).scramble) here ∙ ap (λ (q : KnownPart). q.scramble) (sym same_part))
        ∙ get_or-set_same counts (get_or parts n p).scramble value 0 within
        ∙ more (none (get_or parts n p).scramble within (unsaid here))

-- no part says a scramble that is counted never, no two one that is counted once
abbrev pub SaidNone : List KnownPart → List ℕ → ℕ → Type 0
SaidNone parts counts n = (s : ℕ) → s < length counts → get_or counts s 0 ≡ 0 → (k : ℕ) (d : KnownPart) → k < n → (get_or parts k d).scramble ≡ s → ⊥

abbrev pub SaidOnce : List KnownPart → List ℕ → ℕ → Type 0
SaidOnce parts counts n = (s : ℕ) → s < length counts → get_or counts s 0 ≡ 1 → (i j : ℕ) (d : KnownPart) → i < j → j < n →
    (get_or parts i d).scramble ≡ s → (get_or parts j d).scramble ≡ s → ⊥

pub none_said : (parts : List KnownPart) (counts : List ℕ) (n value : ℕ) (p : KnownPart) → n < length parts → SaidNone parts counts n →
    (get_or parts n p).scramble < length counts → (value ≡ 0 → ⊥) → SaidNone parts (set counts (get_or parts n p).scramble value) (n + 1)
none_said parts counts n value p room none within some s low never k d lt same = by_scramble (cases_eq (get_or parts n p).scramble s)
  where
    long : length (set counts (get_or parts n p).scramble value) ≡ length counts
    long = length-set counts (get_or parts n p).scramble value

    by_place : ((get_or parts n p).scramble ≡ s → ⊥) → (k < n) ⊎ (n ≤ k) → ⊥
    by_place other (inl before) = none s (omega (arith, low, long))
        (sym (get_or-set_other counts (get_or parts n p).scramble s value 0 (λ e. other (sym e))) ∙ never) k d before same
    by_place other (inr after) =
        let there : n ≡ k = omega (arith, lt, after) in
        other (ap (λ (q : KnownPart). q.scramble) (get_or_default parts n p d room) ∙ ap (λ m. (get_or parts m d).scramble) there ∙ same)

    by_scramble : ((get_or parts n p).scramble ≡ s) ⊎ ((get_or parts n p).scramble ≡ s → ⊥) → ⊥
    by_scramble (inl here) = some (sym (get_or-set_same counts (get_or parts n p).scramble value 0 within)
        ∙ ap (λ m. get_or (set counts (get_or parts n p).scramble value) m 0) here ∙ never)
    by_scramble (inr other) = by_place other (cases_lt k n)

pub once_said : (parts : List KnownPart) (counts : List ℕ) (n value : ℕ) (p : KnownPart) → n < length parts → SaidNone parts counts n → SaidOnce parts counts n →
    (get_or parts n p).scramble < length counts → (value ≡ 1 → get_or counts (get_or parts n p).scramble 0 ≡ 0) →
    SaidOnce parts (set counts (get_or parts n p).scramble value) (n + 1)
once_said parts counts n value p room none once within first s low one i j d before lt is_i is_j = by_scramble (cases_eq (get_or parts n p).scramble s)
  where
    long : length (set counts (get_or parts n p).scramble value) ≡ length counts
    long = length-set counts (get_or parts n p).scramble value

    by_place : ((get_or parts n p).scramble ≡ s → ⊥) → (j < n) ⊎ (n ≤ j) → ⊥
    by_place other (inl far) = once s (omega (arith, low, long))
        (sym (get_or-set_other counts (get_or parts n p).scramble s value 0 (λ e. other (sym e))) ∙ one) i j d before far is_i is_j
    by_place other (inr after) =
        let there : n ≡ j = omega (arith, lt, after) in
        other (ap (λ (q : KnownPart). q.scramble) (get_or_default parts n p d room) ∙ ap (λ m. (get_or parts m d).scramble) there ∙ is_j)

    by_scramble : ((get_or parts n p).scramble ≡ s) ⊎ ((get_or parts n p).scramble ≡ s → ⊥) → ⊥
    by_scramble (inl here) =
        let value_is : value ≡ 1 = sym (get_or-set_same counts (get_or parts n p).scramble value 0 within)
        ∙ ap (λ m. get_or (set counts (get_or parts n p).scramble value) m 0) here ∙ one in
        none (get_or parts n p).scramble within (first value_is) i d (omega (arith, before, lt)) (is_i ∙ sym here)
    by_scramble (inr other) = by_place other (cases_lt j n)

pub none_unsaid : (parts : List KnownPart) (counts : List ℕ) (n : ℕ) (p : KnownPart) → n < length parts → length counts ≤ (get_or parts n p).scramble →
    SaidNone parts counts n → SaidNone parts counts (n + 1)
none_unsaid parts counts n p room beyond none s low never k d lt same = by_place (cases_lt k n)
  where
    by_place : (k < n) ⊎ (n ≤ k) → ⊥
    by_place (inl before) = none s low never k d before same
    by_place (inr after) =
        let there : n ≡ k = omega (arith, lt, after) in
        let said : (get_or parts n p).scramble ≡ s = ap (λ (q : KnownPart). q.scramble) (get_or_default parts n p d room) ∙ ap (λ m. (get_or parts m d).scramble) there ∙ same in
        absurd (omega (arith, said, low, beyond))

pub once_unsaid : (parts : List KnownPart) (counts : List ℕ) (n : ℕ) (p : KnownPart) → n < length parts → length counts ≤ (get_or parts n p).scramble →
    SaidOnce parts counts n → SaidOnce parts counts (n + 1)
once_unsaid parts counts n p room beyond once s low one i j d before lt is_i is_j = by_place (cases_lt j n)
  where
    by_place : (j < n) ⊎ (n ≤ j) → ⊥
    by_place (inl far) = once s low one i j d before far is_i is_j
    by_place (inr after) =
        let there : n ≡ j = omega (arith, lt, after) in
        let said : (get_or parts n p).scramble ≡ s = ap (λ (q : KnownPart). q.scramble) (get_or_default parts n p d room) ∙ ap (λ m. (get_or parts m d).scramble) there ∙ is_j in
        absurd (omega (arith, said, low, beyond))

-- one more part, which says none of them
pub none_beyond : (parts : List KnownPart) (counts : List ℕ) (n : ℕ) → CountNone parts counts n → CountNone parts counts (n + 1)
none_beyond parts counts n none s low far = none s low (λ k d lt same. far k d (omega (arith, lt)) same)

pub alone_beyond : (parts : List KnownPart) (counts : List ℕ) (n : ℕ) (p : KnownPart) → n < length parts → length counts ≤ (get_or parts n p).scramble →
    CountAlone parts counts n → CountAlone parts counts (n + 1)
alone_beyond parts counts n p room beyond one k d lt low alone = by_place (cases_lt k n)
  where
    by_place : (k < n) ⊎ (n ≤ k) → get_or counts (get_or parts k d).scramble 0 ≡ 1
    by_place (inl before) = one k d before low (λ j le same. alone j (omega (arith, le)) same)
    by_place (inr after) =
        let here : k ≡ n = omega (arith, lt, after) in
        let said : (get_or parts k d).scramble ≡ (get_or parts n p).scramble =
        ap (λ m. (get_or parts m d).scramble) here ∙ ap (λ (q : KnownPart). q.scramble) (get_or_default parts n d p room) in
        absurd (omega (arith, said, low, beyond))
