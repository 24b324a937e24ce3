-- The lines of an attempt so far, in their groups.
use Rattle.std.proofs.Common.{◌≡◌, ℕ, ◌+◌, ◌<◌, ◌≤◌, ◌⊎◌, ◌==◌, ◌&&◌, nat_le, Bool, true, false, if◌then◌else◌, Option, None, List, [], get_or, sym, subst, ap, arith}
use Rattle.std.specs.List.{All}
use Rattle.std.proofs.lemmas.Bool.Decides.{nat_tests}
use Rattle.std.proofs.lemmas.List.Elements.{All-nil}
use Rattle.niss_text.specs.Groups.{IsInFront, IsSolved, AreGrouped, AreBelow, is_that}
use Rattle.niss_text.specs.declared.groups.Group.{Group}
use Rattle.niss_text.specs.declared.line.Line.{Line}
use Rattle.niss_text.specs.declared.text_line.TextLine.{TextLine}

-- A line of this attempt or of an earlier one, up to a place of this one.
pub record IsBefore (number : ℕ) (group : Group) (scramble_end at : ℕ) (line : TextLine) : Type 0 where
  pub low : line.attempt < number + 1
  pub among : line.attempt ≡ number → line.group ≤ group.number
  pub moves : line.attempt ≡ number → line.kind ≡ 3 → line.group ≡ group.number → group.has_moves ≡ true
  pub after : line.attempt ≡ number → 3 ≤ line.kind → scramble_end < at

-- the last of the lines of an attempt
pub record IsLast (number : ℕ) (group : Group) (line : TextLine) : Type 0 where
  pub attempt : line.attempt ≡ number
  pub own : line.group ≡ group.number
  pub ended : group.is_ended ≡ true → line.kind ≡ 0
  pub begun : (group.is_ended ≡ true) ⊎ ((group.has_moves ≡ true) ⊎ (group.is_line ≡ true)) → (line.kind ≡ 0) ⊎ (3 ≤ line.kind)
  pub blank : line.kind ≡ 0 → group.has_moves ≡ true → group.is_ended ≡ true

-- the lines up to a place of an attempt
pub record SoFar (lines : List TextLine) (number : ℕ) (own : Option ℕ) (group : Group) (scramble_end at : ℕ) : Type 0 where
  pub grouped : AreGrouped lines
  pub solved_by : grouped.solution number ≡ own
  pub each : All (IsBefore number group scramble_end at) lines

-- what kind a line has at a place of an attempt
pub record KindAt (kind : ℕ) (seen : Line) (scramble_end at : ℕ) : Type 0 where
  pub step : kind ≡ 3 → seen.is_moves ≡ true
  pub early : at < scramble_end → kind ≤ 2
  pub later : scramble_end ≤ at → (kind ≡ 0) ⊎ (3 ≤ kind)
  pub filled : scramble_end ≤ at → kind ≡ 0 → seen.is_blank ≡ true
  pub unfilled : seen.is_blank ≡ true → kind ≡ 0
  pub steps : scramble_end ≤ at → seen.is_blank ≡ false → seen.is_moves ≡ true → kind ≡ 3

pub grouped_none : AreGrouped []
grouped_none = record {
  first = λ none some. absurd (omega (arith, some));
  next = λ k none lt. absurd (omega (arith, lt));
  ends = λ j k none low lt. absurd (omega (arith, lt));
  behind = λ j k none low lt. absurd (omega (arith, lt));
  front = All-nil IsInFront;
  solution = λ number. None;
  solved = All-nil (IsSolved (λ number. None));
}

-- with the solution of one more attempt
with_own : (ℕ → Option ℕ) → ℕ → Option ℕ → ℕ → Option ℕ
with_own solution number own attempt = if attempt == number then own else solution attempt

own_is : (solution : ℕ → Option ℕ) (number : ℕ) (own : Option ℕ) → with_own solution number own number ≡ own
unfolding with_own
own_is solution number own =
    let same : (number == number) ≡ true = grind (arith, nat_tests) in
    ap (λ (b : Bool). if b then own else solution number) same

own_stays : (solution : ℕ → Option ℕ) (number : ℕ) (own : Option ℕ) (attempt : ℕ) → attempt < number → with_own solution number own attempt ≡ solution attempt
unfolding with_own
own_stays solution number own attempt lt =
    let other : (attempt == number) ≡ false = grind (arith, nat_tests, lt) in
    ap (λ (b : Bool). if b then own else solution attempt) other

-- the attempt begins
pub begun_so_far : (lines : List TextLine) (number : ℕ) (own : Option ℕ) (group : Group) (scramble_end : ℕ) → AreBelow number lines → AreGrouped lines →
    SoFar lines number own group scramble_end 0
begun_so_far lines number own group scramble_end below grouped = record {
  grouped = record {
    first = grouped.first;
    next = grouped.next;
    ends = grouped.ends;
    behind = grouped.behind;
    front = grouped.front;
    solution = with_own grouped.solution number own;
    solved = λ k none lt.
        let low : (get_or lines k none).attempt < number = below k none lt in
        subst (λ (s : Option ℕ). ◌≡◌ {A = ℕ} (get_or lines k none).is_solution (if nat_le 3 (get_or lines k none).kind && is_that s (get_or lines k none).group then 1 else 0))
        (sym (own_stays grouped.solution number own (get_or lines k none).attempt low)) (grouped.solved k none lt);
  };
  solved_by = own_is grouped.solution number own;
  each = λ k none lt.
      let low : (get_or lines k none).attempt < number = below k none lt in
      record {
        low = omega (arith, low);
        among = λ same. absurd (omega (arith, low, same));
        moves = λ same step group_is. absurd (omega (arith, low, same));
        after = λ same after. absurd (omega (arith, low, same));
      };
}
