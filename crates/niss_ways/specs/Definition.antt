-- The ways on to a domino reduction that are looked for. What is proved of the rows that are found stands in `Truth`
-- and `Order`.
use Rattle.std.specs.Prelude.{ℕ, ◌+◌, nat_le, min, Bool, true, false, not, ◌&&◌, ◌||◌, ◌==◌, if◌then◌else◌, List, [], ◌∷◌, ◌++◌, length, map, filter, find, flat_map}
use Rattle.std.specs.Prelude.{Option, None, Some}
use Rattle.std.specs.List.{list_all, list_any}
use Rattle.std.specs.Option.{option_map_or}
use Rattle.niss_moves.specs.Cleaning.{clean_turns}
use Rattle.niss_moves.specs.Places.{Place}
use Rattle.niss_moves.specs.declared.turn.Axis.{Axis}
use Rattle.niss_moves.specs.declared.turn.Axis.TheVariants.{Ud, Rl, Fb}
use Rattle.niss_moves.specs.declared.turn.Power.TheVariants.{Quarter, Half, Counter}
use Rattle.niss_moves.specs.declared.turn.Power.{Power}
use Rattle.niss_moves.specs.declared.turn.Turn.{Turn}
use Rattle.niss_cube.specs.Map.{map_of}
use Rattle.niss_cube.specs.Steps.{edge_step_on, is_face_of, reached}
use Rattle.niss_cube.specs.declared.step.Step.{Step}
use Rattle.niss_cube.specs.declared.step.Step.TheVariants.{DrudEofb, DrrlEofb, DrudEorl, DrfbEorl, DrrlEoud, DrfbEoud}
use Rattle.niss_search.specs.BothSides.{Pair, pair, first_pairs, least_pair_length}
use Rattle.niss_search.specs.Solutions.{up_to}
use Rattle.niss_search.specs.declared.searching.both.Sides.{Sides}
use Rattle.niss_search.specs.declared.searching.both.Sides.TheVariants.{Normal, Inverse, Both}
use Rattle.niss_ways.specs.Truth.{Origin, total_after}
use Rattle.niss_ways.specs.Ways.{cube_after}

-- Solutions of a step are of three kinds: on the scramble alone, on its inverse alone, and over both sides. A length is
-- let in for a kind that is at most the slack longer than the least of the kind.
module _ (step : Step) (e : Place → Place) where
  abbrev pub lets_in : (slack n : ℕ) → Sides → Bool
  lets_in slack n kind =
      option_map_or (λ least. nat_le least n && nat_le n (min 20 (least + slack))) (least_pair_length step e kind 20) false

  -- the kinds of which those of n turns are taken: over both sides, which has the others, if that is let in
  abbrev pub kinds_of : (slack n : ℕ) → List Sides
  kinds_of slack n =
      if lets_in slack n Both then Both ∷ [] else filter (lets_in slack n) (Normal ∷ Inverse ∷ [])

  -- the solutions that are let in, by length
  abbrev pub solutions_with : (slack : ℕ) → List Pair
  solutions_with slack = flat_map (λ n. flat_map (λ kind. first_pairs step e kind n) (kinds_of slack n)) (up_to 20)

  -- the shortest ones of a kind
  abbrev pub shortest : Sides → List Pair
  shortest kind = option_map_or (first_pairs step e kind) (least_pair_length step e kind 20) []

-- Twins have any directions of the quarter turns behind which only turns of the axis stand. The first in turn order
-- stands for them, but if a half turn of the axis stands there: the step is reached without that too.
abbrev pub either_way : Power → List Power
either_way Half = Half ∷ []
either_way _ = Quarter ∷ Counter ∷ []

abbrev pub turned_round : Axis → Turn → List Turn → List Turn
turned_round axis t ts =
    if list_all (λ u. is_face_of axis u.face) (t ∷ ts) then map (λ p. record { face = t.face; power = p }) (either_way t.power) else t ∷ []

abbrev pub twins : Axis → List Turn → List (List Turn)
twins axis [] = [] ∷ []
twins axis (t ∷ ts) = flat_map (λ u. map (λ us. u ∷ us) (twins axis ts)) (turned_round axis t ts)

abbrev pub pair_twins : Axis → Pair → List Pair
pair_twins axis p = flat_map (λ a. map (λ b. pair a b) (twins axis p.inverse)) (twins axis p.normal)

abbrev pub is_clockwise : Power → Bool
is_clockwise Quarter = true
is_clockwise _ = false

abbrev pub is_half : Power → Bool
is_half Half = true
is_half _ = false

-- each turn that may be turned round is a quarter turn clockwise
abbrev pub stands_first : Axis → List Turn → Bool
stands_first axis [] = true
stands_first axis (t ∷ ts) =
    (if list_all (λ u. is_face_of axis u.face) (t ∷ ts) then is_clockwise t.power else true) && stands_first axis ts

abbrev pub stands_for : Axis → Pair → Bool
stands_for axis p = stands_first axis p.normal && stands_first axis p.inverse

-- the axes of orientations, those before one, and the reductions after each, of which each has a third axis
abbrev pub axes : List Axis
axes = Fb ∷ Rl ∷ Ud ∷ []

abbrev pub axes_before : Axis → List Axis
axes_before Fb = []
axes_before Rl = Fb ∷ []
axes_before Ud = Fb ∷ Rl ∷ []

abbrev pub reductions_after : Axis → List Step
reductions_after Fb = DrudEofb ∷ DrrlEofb ∷ []
reductions_after Rl = DrudEorl ∷ DrfbEorl ∷ []
reductions_after Ud = DrrlEoud ∷ DrfbEoud ∷ []

abbrev pub third_axis : Step → Axis
third_axis DrudEofb = Rl
third_axis DrfbEoud = Rl
third_axis DrrlEofb = Ud
third_axis DrfbEorl = Ud
third_axis _ = Fb

-- a turn keeps the edges that are oriented on an axis
abbrev pub keeps : Axis → Turn → Bool
keeps axis t = not (is_face_of axis t.face) || is_half t.power

abbrev pub if_some : {X : Type 0} → Option X → List X
if_some None = []
if_some (Some x) = x ∷ []

-- An orientation, or none, and the reduction after it.
pub record Steps : Type 0 where
  pub first : Pair
  pub reduction : Step
  pub last : Pair

-- the first with the least number
abbrev pub first_least : {X : Type 0} → (X → ℕ) → List X → Option X
first_least f xs = find (λ x. list_all (λ y. nat_le (f x) (f y)) xs) xs

-- nothing of a reduction merges with what stands before it
abbrev pub apart : Pair → Pair → Bool
apart p q =
    (length (clean_turns (p.normal ++ q.normal)) == length p.normal + length q.normal)
    && (length (clean_turns (p.inverse ++ q.inverse)) == length p.inverse + length q.inverse)

module _ (o : Origin) where
  abbrev pub total : Steps → ℕ
  total s = total_after o s.first s.last

  -- after an orientation or a twin of it the shortest reductions of each kind, and the first with the fewest moves in
  -- all
  abbrev pub ways_after : Axis → Step → Pair → List Steps
  ways_after axis step p =
      flat_map (λ m. flat_map (λ kind. map (λ q. record { first = m; reduction = step; last = q })
      (filter (apart m) (shortest step (cube_after (map_of o.cube) m) kind))) (Normal ∷ Inverse ∷ Both ∷ [])) (pair_twins axis p)

  abbrev pub best_after : Axis → Step → Pair → Option Steps
  best_after axis step p = first_least total (ways_after axis step p)

  -- if the edges are oriented already: the twin of a reduction with the fewest moves in all
  abbrev pub best_twin : Step → Pair → Option Steps
  best_twin step p =
      first_least total (map (λ q. record { first = pair [] []; reduction = step; last = q }) (pair_twins (third_axis step) p))

  -- all turns of a reduction keep an orientation that holds and comes before its own: it is that one's
  abbrev pub is_earlier : Axis → Pair → Bool
  is_earlier axis p =
      list_any (λ a. reached (edge_step_on a) (map_of o.cube) && list_all (keeps a) (p.normal ++ p.inverse)) (axes_before axis)

  -- The ways on, but for their order: none if a reduction is reached; else for each orientation that holds the
  -- reductions after it, or if none holds each orientation with the best reductions after it.
  abbrev pub oriented_ways : (slack : ℕ) → List Steps
  oriented_ways slack =
      flat_map (λ axis. flat_map (λ p. flat_map (λ step. if_some (best_after axis step p)) (reductions_after axis))
      (filter (stands_for axis) (solutions_with (edge_step_on axis) (map_of o.cube) slack))) axes

  abbrev pub reduced_ways : (slack : ℕ) → List Steps
  reduced_ways slack =
      flat_map (λ axis. flat_map (λ step. flat_map (λ p. if_some (best_twin step p))
      (filter (λ p. stands_for (third_axis step) p && not (is_earlier axis p)) (solutions_with step (map_of o.cube) slack)))
      (reductions_after axis)) (filter (λ axis. reached (edge_step_on axis) (map_of o.cube)) axes)

  abbrev pub ways : (slack : ℕ) → List Steps
  ways slack =
      if list_any (λ axis. list_any (λ step. reached step (map_of o.cube)) (reductions_after axis)) axes
      then []
      else (if list_any (λ axis. reached (edge_step_on axis) (map_of o.cube)) axes then reduced_ways slack else oriented_ways slack)
