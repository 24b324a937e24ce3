-- The words of the proofs, of std, of the places and of this crate's definitions, so that other files take them by one line.
pub use Rattle.std.proofs.Common.{◌≡◌, ℕ, ◌<◌, ◌∙◌, ap, refl, sym, arith, get_or, true, List, Bool, length, ◌+◌, []}
pub use Rattle.std.proofs.Common.{◌∷◌, false, ◌&&◌, ◌==◌, subst, suc, ◌%◌, ◌≤◌, drop, inl, inr, ◌-◌, zero, take, not}
pub use Rattle.std.proofs.Common.{reverse, ◌||◌, map, ◌++◌, Option, Some, slice_index, ◌*◌, None, set, ◌⊎◌}
pub use Rattle.std.proofs.Common.{append_assoc, rules, ◌≢◌}
pub use Rattle.std.proofs.Math.Seq.{drop-cons, take-length, take-suc-set}
pub use Rattle.std.proofs.lemmas.Bool.{cases_Bool, eqb-true, lt-leb, le-ltb, eq-eqb, false_from_ne_true, le-leb}
pub use Rattle.std.proofs.lemmas.Bool.{leb-true, true_from_ne_false, lt-ltb}
pub use Rattle.std.proofs.lemmas.Bool.Decides.{eqb_tells}
pub use Rattle.std.proofs.lemmas.Grind.{drop-set_at}
pub use Rattle.std.proofs.lemmas.List.{ext_get_or, get_or-map, length-map, length-set, length-reverse, append-nil}
pub use Rattle.std.proofs.lemmas.List.{at_drop_more, get_or-reverse, get_or_default, reverse-reverse, length-drop}
pub use Rattle.std.proofs.lemmas.List.{at_drop_all, reverse-append}
pub use Rattle.std.proofs.lemmas.List.Folds.{Any-from_list_any, list_any_at}
pub use Rattle.std.proofs.lemmas.List.FromFn.{get_or-map-range_with_len, length-map-range_with_len}
pub use Rattle.std.proofs.lemmas.List.FromFn.{get_or-range_with_len, length-range_with_len}
pub use Rattle.std.proofs.lemmas.List.Sums.{sum_by-cons, list_all-from_AllPass}
pub use Rattle.std.proofs.lemmas.Map.Views.{Contains-from_any}
pub use Rattle.std.specs.Cmp.Derive.{one_truth as same_truth}
pub use Rattle.std.specs.Cmp.Lexicographic.{same_text, other_text}
pub use Rattle.std.specs.List.{list_all, list_any, range_with_len, sum_by}
pub use Rattle.std.specs.Option.{option_map_or}
pub use Rattle.std.specs.Prelude.{nat_lt, nat_le, sum, ◌↔◌, Contains, IsTrue, count_by, ◌/◌, EachIndex, nat_eq, fold}
pub use Rattle.std.specs.Prelude.{flat_map, filter, cond, IfNone, IfSome, MatchOption, slice_index_or}
pub use lib.Pointwise.{pointwise}
pub use Rattle.niss_moves.proofs.CallerLemmas.{same_place_is, same_place_of, effect-append, inverse_after}
pub use Rattle.niss_moves.proofs.CallerLemmas.{same_face_is, same_power, same_power_is, and_left}
pub use Rattle.niss_moves.proofs.CallerLemmas.{and_right, and_both, at_member, Fact, Yes, Same, Equal, Below, Alike}
pub use Rattle.niss_moves.proofs.CallerLemmas.{Both, When, Numbers, Places, Turns, Among, Digits, Truths, Holds}
pub use Rattle.niss_moves.proofs.CallerLemmas.{tested, holds}
unfoldable pub use Rattle.niss_moves.proofs.CallerLemmas.{every_face, every_power, every_turn}
pub use Rattle.niss_moves.specs.Canonical.{face_order, turn_order, same_face}
pub use Rattle.niss_moves.specs.Effects.{turned, effect, inverse, moved_by, effect_of_turns, inverse_turn}
pub use Rattle.niss_moves.specs.Facelets.{places, facelet, letter_at}
pub use Rattle.niss_moves.specs.Indices.{axis_index, power_index}
unfoldable pub use Rattle.niss_moves.specs.Facelets.{letter_of, letters}
pub use Rattle.niss_moves.specs.Places.{Place, is_place, same_place, SameMap, is_edge, is_corner}
pub use Rattle.niss_moves.specs.Rotations.{renamed_turn, rotation_if, to_top, about_vertical}
pub use Rattle.niss_cube.specs.AfterTurn.{IsCube, TurnedIsCube, AreCoordinates}
pub use Rattle.niss_cube.specs.Coordinates.{IsRank, rank_places, rank_of, number, count_of, standard_axis, choose}
pub use Rattle.niss_cube.specs.Coordinates.{renamed_for, turn_for, renaming_for, firsts, brings, orientations, occupied}
pub use Rattle.niss_cube.specs.Coordinates.{choices_with, digits_of_number, orientations_of_rank}
unfoldable pub use Rattle.niss_cube.specs.Coordinates.{flip_of, slice_of, twist_of, edges_down, edges_of_rank}
unfoldable pub use Rattle.niss_cube.specs.Coordinates.{flips_of_rank, twists_of_rank}
pub use Rattle.niss_cube.specs.CubieTurns.{turn_table, IsInRange, renamed_by, renamed_home, renamed_orientation}
pub use Rattle.niss_cube.specs.CubieTurns.{face_by, rotated, rotated_back, renamed_if, face_if, renaming_table}
pub use Rattle.niss_cube.specs.Cubies.{index_in, edge_facelets, corner_facelets, facelet_at, row_at, flips_home}
pub use Rattle.niss_cube.specs.Cubies.{twists_home, corners_home, edges_home, AreCubies, ArePlaced, AreOriented}
pub use Rattle.niss_cube.specs.Map.{map_of, sticker_map, sticker_place, same_cubies}
unfoldable pub use Rattle.niss_cube.specs.Map.{place_at}
pub use Rattle.niss_cube.specs.Names.{Turn, U, Axis, Flip, Fb, Rl, Slice, Twist, Ud, Coordinate, Face, Token, Cube}
pub use Rattle.niss_cube.specs.Names.{Renaming, Step, Domino, DrEofb, DrEorl, DrEoud, DrfbEorl, DrfbEoud, DrrlEofb}
pub use Rattle.niss_cube.specs.Names.{DrrlEoud, DrudEofb, DrudEorl, Eo, Eofb, Eorl, Eoud, Goal, Half, XCounter}
pub use Rattle.niss_cube.specs.Names.{XQuarter, YQuarter, ZCounter, Quarter, Counter, Power}
unfoldable pub use Rattle.niss_cube.specs.AfterTurn.{rank_after}
pub use Rattle.niss_cube.specs.Sets.{PermutesPlaces, CubesPermutePlaces, KeptIsEqual, Kept, flip_set, HasOnlyPlaces, set_of}
pub use Rattle.niss_cube.specs.Sets.{slice_set, twist_set, SetsArePlaces, KeptIsTested}
unfoldable pub use Rattle.niss_cube.specs.Sets.{is_kept}
pub use Rattle.niss_cube.specs.StepLaws.{OtherTurnsLeaveStart, DominoKeepsStart, StartIsKept, StepsSeePlaces}
pub use Rattle.niss_cube.specs.StepLaws.{InversesOfSteps, StepTurnsInOrder, StepTurnsAreCounted, NamesDiffer}
pub use Rattle.niss_cube.specs.Steps.{start_of, goals_of, powers_from, is_face_of, steps, name_of}
unfoldable pub use Rattle.niss_cube.specs.Steps.{turns_of, may_start, reached, is_idle}
pub use Rattle.niss_cube.specs.AfterTurn.{IsMoveRow, IsRankAfter, AreMoveRows, turn_in, turn_number}
pub use Rattle.niss_cube.specs.declared.cube.coordinate.ranking.TheConstants.{CHOICES}
pub use Rattle.niss_cube.specs.declared.cubie_turns.CubieTurn.{CubieTurn}
pub use Rattle.niss_cube.specs.declared.facelet_text.TheConstants.{CUBIES, FACELETS, CORNER_POSITIONS, EDGE_POSITIONS}
pub use Rattle.niss_cube.specs.declared.facelet_text.TheConstants.{SOLVED_TEXT, BEFORE_ROTATION}
