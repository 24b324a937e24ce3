-- The words of std and of specs that proofs name, so that they take them by one line.
pub use Rattle.std.proofs.Common.{inl, inr, refl, ap, sym, ◌∙◌, subst, length-append, arith, append_assoc, ◌≡◌, ℕ, zero, suc, ◌-◌, true}
pub use Rattle.std.proofs.Common.{List, [], ◌∷◌, ◌++◌, length, Some, is_some, Bool, map, false, not, ◌&&◌, ◌⊎◌, ◌+◌, ◌*◌, ◌<◌, ◌≤◌, cond}
pub use Rattle.std.proofs.Common.{Option, None, ◌==◌, subst₂, append-nil, Result, Ok, Err, if◌then◌else◌, take, drop, eqb, get_or, ◌↔◌}
pub use Rattle.std.proofs.Common.{reverse, add-one, IsOk, IfErr, take-add, ap₂}
pub use Rattle.std.specs.Prelude.{IsTrue, IfSome, flat_map, unwrap_or, ◌||◌, slice_get, ◌≢◌, nat_lt}
pub use Rattle.niss_moves.specs.Canonical.{IsCanonical, last_turn, face_order, opposite, same_face, may_follow, powers}
pub use Rattle.niss_moves.specs.Text.{word, with_words}
pub use Rattle.niss_moves.specs.Cleaning.{rotations, rewritten_pair, Cleans, Clean}
pub use Rattle.niss_moves.specs.Effects.{turned, effect_of_turns, inverse}
pub use Rattle.niss_moves.specs.Facelets.{centre, places, face_letter, letter_at}
pub use Rattle.niss_moves.specs.Faults.{Whole, has_no_bracket, CanContinue, Stops, Lacks, IsReading}
pub use Rattle.niss_moves.specs.Helpers.{turns_in, IsSuffix, IsMove, BeginsApostrophe, rotation_by, Takes}
pub use Rattle.niss_moves.specs.Line.{piece_moves, item_bytes}
pub use Rattle.niss_moves.specs.Machine.{start, count, run, ended}
pub use Rattle.niss_moves.specs.Names.{Turn, Face, Power, Token, Rotation, U, D, R, L, F, B, Half, Counter, Base, LastMove, ReadFault}
pub use Rattle.niss_moves.specs.Names.{TooLong, Quarter, Axis, Ud, Rl, Fb, Slice, M, E, S, Symbol, NotAMove, Nested, Unopened, Unclosed}
pub use Rattle.niss_moves.specs.Places.{Place}
pub use Rattle.std.proofs.lemmas.Bool.{cond_both, eqb-true, lt-ltb, and_parts, ltb-true, le-leb, leb-true, cases_lt}
pub use Rattle.std.specs.List.{count_by, range_with_len, list_all, list_any, join_with_byte, between}
pub use Rattle.std.proofs.lemmas.List.Sums.{count_by-le-length, sum_by-cons, AllPass-from_list_all, list_all-from_AllPass}
pub use Rattle.niss_moves.specs.Rotations.{IsNext, expanded, to_top, rotation_if}
pub use Rattle.std.proofs.lemmas.List.{reverse-append, map-append, take_all, take_more, drop_all, at_drop_more, take-append-drop}
pub use Rattle.std.proofs.lemmas.List.{length-take-le, take-append-le, drop-append-le, length-drop}
pub use Rattle.niss_moves.specs.Indices.{face_index, power_index, axis_index, layer_index, token_index}
pub use Rattle.std.specs.Cmp.Lexicographic.{pointwise, bytes_decides}
pub use mir.Val.{bool_byte}
pub use Rattle.niss_moves.specs.Reader.{Reader, IsFed}
pub use Rattle.std.proofs.lemmas.Slice.{between_to_end}
