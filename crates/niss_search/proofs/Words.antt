-- The words of the proofs, of std and of specs, so that other files take them by one line.
pub use Rattle.std.proofs.Common.{◌≡◌, arith, length, ◌+◌, ◌<◌, ℕ, ap, ◌∙◌, sym, ◌≤◌, [], List, refl, true, ◌*◌, ◌-◌, ◌∷◌, slice_index}
pub use Rattle.std.proofs.Common.{Bool, false, suc, cond, ◌++◌, zero, get_or, map, Contains, subst, ◌≢◌, count_by, filter, leb, sum_by, inl}
pub use Rattle.std.proofs.Common.{inr, All, None, take, ◌/◌, ◌⊎◌, Option, Some, nat_le, ◌==◌, ◌^◌, drop, min, unwrap_or, find, nat_lt}
pub use Rattle.std.proofs.Common.{add-one, replicate, ◌%◌, ◌||◌, ◌&&◌, IsTrue, eq-eqb, eqb, length-append, length-drop, not, add-zero}
pub use Rattle.std.proofs.Common.{append_assoc, ap₂, below_more, get_or-set_other, get_or-set_same, length-set, rules, set, lit<, lit≤}
pub use Rattle.std.proofs.Math.Bool.{or-false}
pub use Rattle.std.proofs.Math.Nat.{mul-le-mul, mul-add, mul-le-mul_right, mul-le-mul_left, mul_comm, pow-suc}
pub use Rattle.std.proofs.lemmas.Bool.{le-leb, lt-leb, leb-true, leb-false, ne_eqb, le-ltb, lt-ltb}
pub use Rattle.std.proofs.lemmas.Bool.Decides.{leb_tells, eqb_tells, nat_tests}
pub use Rattle.std.proofs.lemmas.Grind.{flat_map-append, fold-append}
pub use Rattle.std.proofs.lemmas.List.{append-nil, length-map, map-append, take_all, drop-drop, drop_more, get_or-drop, get_or-replicate}
pub use Rattle.std.proofs.lemmas.List.{get_or_read, length-replicate, length-take-le, map_push, drop_at, take-append-drop, take_at, take_rest}
pub use Rattle.std.proofs.lemmas.List.Concat.{length-flat_map}
pub use Rattle.std.proofs.lemmas.List.Elements.{All-contains, Contains-get_or, All-contains_itself, All-head, All-push, All-tail, All-take}
pub use Rattle.std.proofs.lemmas.List.Elements.{filter_passes, All-append, All-cons, All-drop, All-filter, All-map}
pub use Rattle.std.proofs.lemmas.List.Elements.{Contains-append_right, filter-append, filter_more, All-nil, All-weaker}
pub use Rattle.std.proofs.lemmas.List.Folds.{find-append, list_any_at}
pub use Rattle.std.proofs.lemmas.List.FromFn.{length-map-range_with_len, length-range_with_len}
pub use Rattle.std.proofs.lemmas.List.Sums.{sum_by-cons, sum_by-append, sum_by-le-sum_by, count_by-le-length, sum_by-le, length-filter}
pub use Rattle.std.proofs.lemmas.List.Sums.{sum_by_push}
pub use Rattle.std.proofs.lemmas.Nat.{div-mul-add, mod-mul-add}
pub use Rattle.std.proofs.lemmas.Result.{err_from_is_err_and}
pub use Rattle.std.specs.Bool.{then_some}
pub use Rattle.std.specs.List.{range_with_len, list_any, prefix_len}
pub use Rattle.std.specs.Option.{option_map_or, option_or}
pub use Rattle.std.specs.Prelude.{flat_map, Err, Ok, Result, OnErr, OnOk, IfErr, IfOk, ◌↔◌}
pub use Rattle.std.specs.Simd.{first_chunks}
pub use Rattle.niss_cube.proofs.CallerLemmas.{alike_is_cube, cube-itself, zero_test}
pub use Rattle.niss_cube.specs.AfterTurn.{AreCoordinates, IsCube, TurnedIsCube}
pub use Rattle.niss_cube.specs.Coordinates.{count_of}
unfoldable pub use Rattle.niss_cube.specs.Coordinates.{flip_of, slice_of, twist_of}
pub use Rattle.niss_cube.specs.Map.{map_of}
unfoldable pub use Rattle.niss_cube.specs.AfterTurn.{rank_after}
pub use Rattle.niss_cube.specs.StepLaws.{DominoKeepsStart, InversesOfSteps, StartIsKept, StepTurnsInOrder, StepsSeePlaces}
pub use Rattle.niss_cube.specs.Steps.{goals_of, holds, start_of}
unfoldable pub use Rattle.niss_cube.specs.Steps.{turns_of, reached, may_start}
pub use Rattle.niss_moves.proofs.CallerLemmas.{last_turn-push, find_passes}
pub use Rattle.niss_moves.specs.Canonical.{may_follow, last_turn, canonical_extensions, face_may_follow, is_canonical_after, turn_order}
unfoldable pub use Rattle.niss_moves.specs.Canonical.{all_canonical}
pub use Rattle.niss_moves.specs.Effects.{turned, inverse_turn}
pub use Rattle.niss_moves.specs.Places.{Place, SameMap}
pub use Rattle.niss_moves.specs.Canonical.{goes_first}
pub use Rattle.niss_search.specs.Cubes.{HasPosition, near_looks_of, near_solutions_of, distance_of, least_length_of, cubes}
pub use Rattle.niss_search.specs.Deepening.{Delivers, progress_of, Keeps, GoesThrough, progress_at, Descends, Progress, StopsIn, GoesAlong, EndsAt}
pub use Rattle.niss_search.specs.Delivery.{Path, at_limit, EndedIn, StoppedIn, StoppedAt, WentInto, WentThrough}
pub use Rattle.niss_search.specs.Deepening.{Part, only_looks, only_paths, then_part, for_each, deepening, all_deepenings, below_at, below}
pub use Rattle.niss_search.specs.Deepening.{by_place, later_turn_at, goes_on_at, all_after}
unfoldable pub use Rattle.niss_search.specs.Deepening.{beyond, beyond_at, later, later_at}
pub use Rattle.niss_search.specs.Draw.{after_words, choice, choices}
unfoldable pub use Rattle.niss_search.specs.Draw.{draw, next_words}
pub use Rattle.niss_search.specs.Entries.{count_for, values_for}
unfoldable pub use Rattle.niss_search.specs.Entries.{entries_of, entry_count, fill_ticks, flips_below, pairs_below}
pub use Rattle.niss_search.specs.Filling.{Alternative, IsFilling, IsExtended, IsFilled, EntriesTurn, byte_at, entry_at, ArePlaces}
pub use Rattle.niss_search.specs.Filling.{AreStarts, IsEntry, KeepsMet, MayBeAt, entry_number, row_length}
unfoldable pub use Rattle.niss_search.specs.Filling.{entry_distance, entry_after, goal_ticks, AreEntries}
pub use Rattle.niss_search.specs.Followers.{IsFollower, distance_after, AreFar, IsNextNear}
pub use Rattle.niss_search.specs.After.{turn_place, comes_after, sequences_of, sequences_after, deepening_looks_of}
unfoldable pub use Rattle.niss_search.specs.After.{is_later}
pub use Rattle.niss_search.specs.Laws.{PositionsFollowCubes, BoundIsSmall, CountRecurrence, DistanceIsLeast, EdgeFillIsSmall}
pub use Rattle.niss_search.specs.Laws.{EntriesAreCounted, FillIsSmall, NoSlackIsLeast, PartHasNoMore, StepBoundIsLess}
pub use Rattle.niss_search.specs.Moves.{turn_at}
pub use Rattle.niss_search.specs.Names.{Turn, GoalCoordinates, Step, Flip, Follower, no_turn, Axis, Domino, Edges, Goal, B, D, F, Face, L, R, U}
pub use Rattle.niss_search.specs.Names.{TwistAndSlice}
pub use Rattle.niss_search.specs.Positions.{are_zero, coordinates_after, coordinates_of, positions}
unfoldable pub use Rattle.niss_search.specs.Positions.{distance_at, position_after, is_reached_at, position_of}
pub use Rattle.niss_search.specs.Solutions.{Space, Homomorphism, after_all, last_length, reaching, up_to, solution_lengths, count_of_length}
pub use Rattle.niss_search.specs.Solutions.{is_looked_at, least_of, from_least}
unfoldable pub use Rattle.niss_search.specs.Solutions.{least_length, look_bound, solutions, is_reached_in, distance, looks, all_looks}
pub use Rattle.niss_search.specs.LookNumbers.{is_looked_at_before, found_within, found_within_of, look_number_of}
unfoldable pub use Rattle.niss_search.specs.LookNumbers.{look_number}
