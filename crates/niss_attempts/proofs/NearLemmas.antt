-- Sequences that are the same but in one place, and their ends.
use Rattle.std.proofs.Common.{◌≡◌, ◌∙◌, ◌≤◌, ◌⊎◌, inl, inr, ◌↔◌, IsTrue, Bool, List, [], ◌∷◌, ◌++◌, length, refl, sym, ap, subst, arith}
use Rattle.std.proofs.lemmas.List.{append_assoc, append-nil, length-append, same_from_push}
use Rattle.niss_moves.specs.declared.turn.Turn.{Turn}
use Rattle.niss_attempts.specs.Beside.{AreNear}
use Rattle.niss_attempts.specs.Ends.{AreNearAtBegin, BeginSame, EndSame}

-- a list is empty, or has a last item
pub record HasLast (xs : List Turn) : Type 0 where
  pub front : List Turn
  pub last : Turn
  pub is : xs ≡ front ++ last ∷ []

last_after : (x : Turn) (xs : List Turn) → (xs ≡ []) ⊎ HasLast xs → HasLast (x ∷ xs)
last_after x xs (inl none) = record { front = []; last = x; is = ap (λ ys. x ∷ ys) none }
last_after x xs (inr it) = record { front = x ∷ it.front; last = it.last; is = ap (λ ys. x ∷ ys) it.is }

pub has_last : (xs : List Turn) → (xs ≡ []) ⊎ HasLast xs
has_last [] = inl refl
has_last (x ∷ xs) = inr (last_after x xs (has_last xs))

abbrev rest_of : List Turn → List Turn
rest_of [] = []
rest_of (x ∷ xs) = xs

near_parts : (turn : Turn) (rest others_rest before own others after : List Turn) → turn ∷ rest ≡ before ++ (own ++ after) →
    turn ∷ others_rest ≡ before ++ (others ++ after) → length own ≤ 2 → length others ≤ 2 → AreNear rest others_rest
near_parts turn rest other_rest (first ∷ before) own others after one other few few_others =
    record { before = before; own = own; others = others; after = after; one_is = ap rest_of one; other_is = ap rest_of other; few = few; few_others = few_others }
near_parts turn rest other_rest [] (first ∷ own) (second ∷ others) after one other few few_others =
    record { before = []; own = own; others = others; after = after; one_is = ap rest_of one; other_is = ap rest_of other; few = omega (arith, few); few_others = omega (arith, few_others) }
near_parts turn rest other_rest [] [] (second ∷ others) after one other few few_others = record {
  before = [];
  own = [];
  others = others ++ turn ∷ [];
  after = rest;
  one_is = refl;
  other_is = ap rest_of other ∙ (ap (λ xs. others ++ xs) (sym one) ∙ sym (append_assoc others (turn ∷ []) rest));
  few = omega arith;
  few_others = omega (arith, few_others, length-append others (turn ∷ []));
}
near_parts turn rest other_rest [] (first ∷ own) [] after one other few few_others = record {
  before = [];
  own = own ++ turn ∷ [];
  others = [];
  after = other_rest;
  one_is = ap rest_of one ∙ (ap (λ xs. own ++ xs) (sym other) ∙ sym (append_assoc own (turn ∷ []) other_rest));
  other_is = refl;
  few = omega (arith, few, length-append own (turn ∷ []));
  few_others = omega arith;
}
near_parts turn rest other_rest [] [] [] after one other few few_others =
    record { before = []; own = []; others = []; after = rest; one_is = refl; other_is = ap rest_of (other ∙ sym one); few = few; few_others = few_others }

-- a turn with which both begin changes nothing
pub near_after : (turn : Turn) (rest other_rest : List Turn) → AreNear (turn ∷ rest) (turn ∷ other_rest) → AreNear rest other_rest
near_after turn rest other_rest it = near_parts turn rest other_rest it.before it.own it.others it.after it.one_is it.other_is it.few it.few_others

pub near_before : (turn : Turn) (rest other_rest : List Turn) → AreNear rest other_rest → AreNear (turn ∷ rest) (turn ∷ other_rest)
near_before turn rest other_rest it = record {
  before = turn ∷ it.before;
  own = it.own;
  others = it.others;
  after = it.after;
  one_is = ap (λ xs. turn ∷ xs) it.one_is;
  other_is = ap (λ xs. turn ∷ xs) it.other_is;
  few = it.few;
  few_others = it.few_others;
}

-- what doesn't begin with the same turn differs at its begin
begin_parts : (one other before own others after : List Turn) → (BeginSame one other → ⊥) → one ≡ before ++ (own ++ after) → other ≡ before ++ (others ++ after) →
    length own ≤ 2 → length others ≤ 2 → AreNearAtBegin one other
begin_parts one other [] own others after not one_is other_is few few_others =
    record { own = own; others = others; after = after; one_is = one_is; other_is = other_is; few = few; few_others = few_others }
begin_parts one other (turn ∷ before) own others after not one_is other_is few few_others =
    absurd (not (record { turn = turn; rest = before ++ (own ++ after); other_rest = before ++ (others ++ after); one_is = one_is; other_is = other_is }))

pub near_at_begin : (one other : List Turn) → (BeginSame one other → ⊥) → AreNear one other → AreNearAtBegin one other
near_at_begin one other not it = begin_parts one other it.before it.own it.others it.after not it.one_is it.other_is it.few it.few_others

pub near_by_begin : (one other : List Turn) → AreNearAtBegin one other → AreNear one other
near_by_begin one other it =
    record { before = []; own = it.own; others = it.others; after = it.after; one_is = it.one_is; other_is = it.other_is; few = it.few; few_others = it.few_others }

-- a turn with which both end changes nothing
pub begin_longer : (turn : Turn) (front other_front : List Turn) → AreNearAtBegin front other_front → AreNearAtBegin (front ++ turn ∷ []) (other_front ++ turn ∷ [])
begin_longer turn front other_front it = record {
  own = it.own;
  others = it.others;
  after = it.after ++ turn ∷ [];
  one_is = ap (λ xs. xs ++ turn ∷ []) it.one_is ∙ append_assoc it.own it.after (turn ∷ []);
  other_is = ap (λ xs. xs ++ turn ∷ []) it.other_is ∙ append_assoc it.others it.after (turn ∷ []);
  few = it.few;
  few_others = it.few_others;
}

few_before : (turn : Turn) (front own after : List Turn) → front ++ turn ∷ [] ≡ own ++ after → after ≡ [] → length own ≤ 2 → length front ≤ 2
few_before turn front own after is none few =
    omega (arith, ap length is, length-append front (turn ∷ []), length-append own after, ap length none, few)

front_is : (turn : Turn) (front own after : List Turn) (last : HasLast after) → front ++ turn ∷ [] ≡ own ++ after → front ≡ own ++ last.front
front_is turn front own after last is =
    (same_from_push front (own ++ last.front) turn last.last (is ∙ (ap (λ xs. own ++ xs) last.is ∙ sym (append_assoc own last.front (last.last ∷ []))))).0

begin_parts_shorter : (turn : Turn) (front other_front own others after : List Turn) → front ++ turn ∷ [] ≡ own ++ after → other_front ++ turn ∷ [] ≡ others ++ after →
    length own ≤ 2 → length others ≤ 2 → (after ≡ []) ⊎ HasLast after → AreNearAtBegin front other_front
begin_parts_shorter turn front other_front own others after one other few few_others (inl none) = record {
  own = front;
  others = other_front;
  after = [];
  one_is = sym (append-nil front);
  other_is = sym (append-nil other_front);
  few = few_before turn front own after one none few;
  few_others = few_before turn other_front others after other none few_others;
}
begin_parts_shorter turn front other_front own others after one other few few_others (inr last) = record {
  own = own;
  others = others;
  after = last.front;
  one_is = front_is turn front own after last one;
  other_is = front_is turn other_front others after last other;
  few = few;
  few_others = few_others;
}

pub begin_shorter : (turn : Turn) (front other_front : List Turn) → AreNearAtBegin (front ++ turn ∷ []) (other_front ++ turn ∷ []) → AreNearAtBegin front other_front
begin_shorter turn front other_front it =
    begin_parts_shorter turn front other_front it.own it.others it.after it.one_is it.other_is it.few it.few_others (has_last it.after)

few_if_none : (one own after : List Turn) → one ≡ own ++ after → after ≡ [] → length own ≤ 2 → length one ≤ 2
few_if_none one own after is none few = omega (arith, ap length is, length-append own after, ap length none, few)

ended : (one own after : List Turn) (last : HasLast after) → one ≡ own ++ after → one ≡ (own ++ last.front) ++ last.last ∷ []
ended one own after last is = is ∙ (ap (λ xs. own ++ xs) last.is ∙ sym (append_assoc own last.front (last.last ∷ [])))

few_parts : (one other own others after : List Turn) → (EndSame one other → ⊥) → one ≡ own ++ after → other ≡ others ++ after → length own ≤ 2 → length others ≤ 2 →
    (after ≡ []) ⊎ HasLast after → (length one ≤ 2) × (length other ≤ 2)
few_parts one other own others after not one_is other_is few few_others (inl none) =
    (few_if_none one own after one_is none few, few_if_none other others after other_is none few_others)
few_parts one other own others after not one_is other_is few few_others (inr last) = absurd (not (record {
  turn = last.last;
  front = own ++ last.front;
  other_front = others ++ last.front;
  one_is = ended one own after last one_is;
  other_is = ended other others after last other_is;
}))

-- what doesn't end with the same turn has few turns
pub few_at_begin : (one other : List Turn) → (EndSame one other → ⊥) → AreNearAtBegin one other → (length one ≤ 2) × (length other ≤ 2)
few_at_begin one other not it = few_parts one other it.own it.others it.after not it.one_is it.other_is it.few it.few_others (has_last it.after)

pub begin_of_few : (one other : List Turn) → length one ≤ 2 → length other ≤ 2 → AreNearAtBegin one other
begin_of_few one other few few_others =
    record { own = one; others = other; after = []; one_is = sym (append-nil one); other_is = sym (append-nil other); few = few; few_others = few_others }

-- the steps of both loops, and their ends
pub near_step : (one other rest other_rest after other_after : List Turn) → (turn : Turn) × (rest ≡ turn ∷ after) × (other_rest ≡ turn ∷ other_after) →
    (AreNear rest other_rest ↔ AreNear one other) → AreNear after other_after ↔ AreNear one other
near_step one other rest other_rest after other_after (turn, is, other_is) same =
    let so : AreNear (turn ∷ after) (turn ∷ other_after) ↔ AreNear one other =
    subst (λ xs. AreNear (turn ∷ after) xs ↔ AreNear one other) other_is (subst (λ xs. AreNear xs other_rest ↔ AreNear one other) is same) in
    (λ near. so.0 (near_before turn after other_after near), λ near. near_after turn after other_after (so.1 near))

pub near_end : (result : Bool) (one other rest other_rest : List Turn) → (BeginSame rest other_rest → ⊥) → (AreNear rest other_rest ↔ AreNear one other) →
    (IsTrue result ↔ AreNearAtBegin rest other_rest) → IsTrue result ↔ AreNear one other
near_end result one other rest other_rest not same is =
    (λ yes. same.0 (near_by_begin rest other_rest (is.0 yes)), λ near. is.1 (near_at_begin rest other_rest not (same.1 near)))

pub begin_step : (one other rest other_rest front other_front : List Turn) → (turn : Turn) × (rest ≡ front ++ turn ∷ []) × (other_rest ≡ other_front ++ turn ∷ []) →
    (AreNearAtBegin rest other_rest ↔ AreNearAtBegin one other) → AreNearAtBegin front other_front ↔ AreNearAtBegin one other
begin_step one other rest other_rest front other_front (turn, is, other_is) same =
    let so : AreNearAtBegin (front ++ turn ∷ []) (other_front ++ turn ∷ []) ↔ AreNearAtBegin one other =
    subst (λ xs. AreNearAtBegin (front ++ turn ∷ []) xs ↔ AreNearAtBegin one other) other_is (subst (λ xs. AreNearAtBegin xs other_rest ↔ AreNearAtBegin one other) is same) in
    (λ near. so.0 (begin_longer turn front other_front near), λ near. begin_shorter turn front other_front (so.1 near))

pub begin_end : (result : Bool) (one other rest other_rest : List Turn) → (EndSame rest other_rest → ⊥) → (AreNearAtBegin rest other_rest ↔ AreNearAtBegin one other) →
    (IsTrue result ↔ (length rest ≤ 2) × (length other_rest ≤ 2)) → IsTrue result ↔ AreNearAtBegin one other
begin_end result one other rest other_rest not same is =
    (λ yes. same.0 (begin_of_few rest other_rest (is.0 yes).0 (is.0 yes).1), λ near. is.1 (few_at_begin rest other_rest not (same.1 near)))
