-- The words of std, of the crates below and of the definitions that proofs name, so that they take them by one line.
pub use Rattle.std.proofs.Common.{◌≡◌, ◌∙◌, ap, refl, arith, length, sym, ℕ, false, List, subst, ◌++◌, Ok, [], ◌+◌, ◌≤◌, take, ◌∷◌, Err}
pub use Rattle.std.proofs.Common.{◌<◌, Result, Bool, true, append-nil, ◌≢◌, length-append, append_assoc, if◌then◌else◌, drop, map, suc}
pub use Rattle.std.proofs.Common.{Some, None, get_or, rules, ◌-◌, ◌==◌, zero, Option, ◌*◌, ◌||◌, ◌/◌, ◌^◌, ◌%◌, ◌&&◌, inl, inr, not}
pub use Rattle.std.proofs.Common.{add-zero, drop-cons, String}
pub use Rattle.std.proofs.Math.Bool.{or-false}
pub use Rattle.std.proofs.Math.Seq.{take-append-add, take-add}
pub use Rattle.std.proofs.lemmas.Bool.{eqb-true, ne_eqb, or_parts}
pub use Rattle.std.proofs.lemmas.Fmt.{length-decimal-le_wide, decimal_step_wide, decimal_digit}
pub use Rattle.std.proofs.lemmas.Grind.{common_steps, flat_map-append}
pub use Rattle.std.proofs.lemmas.List.{take_all, take-append-drop, length-drop, drop-drop, take_more, take-append-le, nil_from_length, drop-append-le}
pub use Rattle.std.proofs.lemmas.List.{map-append, length-map}
pub use Rattle.std.proofs.lemmas.List.Elements.{All-nil, All-cons, All-head, All-tail, All-push}
pub use Rattle.std.proofs.lemmas.List.FromFn.{map-range_with_len_more, take-map-range_with_len}
pub use Rattle.std.proofs.lemmas.Result.{err_from_is_err_and}
pub use Rattle.std.proofs.lemmas.Slice.{between_to_end}
pub use Rattle.std.proofs.lemmas.Slice.Eq.{bytes_eq-Decides}
pub use Rattle.std.proofs.lemmas.Str.Parse.{IsNumeralModel, numerals_by_value, parse_digits}
pub use Rattle.std.specs.Char.{is_ascii_digit}
pub use Rattle.std.specs.List.{between, list_all}
pub use Rattle.std.specs.Prelude.{flat_map, string_bytes, OnOk, nat_lt, OnErr, decimal, nat_le, IsTrue, All, is_err, IsErr, MatchResult}
pub use Rattle.std.specs.Prelude.{find, bytes_eq, slice_get, IfOk}
pub use Rattle.std.specs.Str.Parse.{digits_value, ParsesUnsigned}
pub use Rattle.rand_pcg.specs.Lcg.{Lcg}
unfoldable pub use Rattle.rand_pcg.specs.Lcg.{state_after}
pub use Rattle.niss_cube.specs.Map.{map_of}
pub use Rattle.niss_cube.specs.Steps.{steps, may_start, turns_of, name_of}
pub use Rattle.niss_moves.specs.Effects.{effect, effect_of_turns}
pub use Rattle.niss_moves.specs.Rotations.{faces, spelling}
pub use Rattle.niss_moves.specs.Line.{Moves, joined_moves}
pub use Rattle.niss_moves.specs.Places.{Place}
pub use Rattle.niss_moves.specs.Reader.{Reader, IsFed, read_line}
pub use Rattle.niss_search.specs.Cubes.{near_looks_of, least_length_of, near_solutions_of}
pub use Rattle.niss_search.specs.Delivery.{WentThrough, StoppedIn}
pub use Rattle.niss_search.specs.Draw.{after_words, next_words, draw}
pub use Rattle.niss_search.specs.Laws.{LooksWithinBound}
pub use Rattle.niss_shell.specs.Device.{SourceCall, TargetCall, Read, Write, Flush, IsPiece, Ending, More, End, Fail, left_after}
pub use Rattle.niss_shell.specs.Device.{Writes, WritesAfter, StartsWith, ReadsOn, LastRead, WasRead, ReadsWhile, SourceState, is_end, ReadShows}
unfoldable pub use Rattle.niss_shell.specs.Device.{Calls, Reads, Sends}
pub use Rattle.niss_shell.specs.Engine.{AnswerState, Answers, output_state, Progress, TakesBytes, TakesNext, TakesLast, IsAt}
pub use Rattle.niss_shell.specs.Engine.{AnswersSource, HasRoom, TakesEnd, Delivered, Delivers, TakesLine, MayBegin, RunsUnflushed}
pub use Rattle.niss_shell.specs.Engine.{MayTake, Rises, IsFirst, IsFaultless, AnswersAfter}
pub use Rattle.niss_shell.specs.Engine.{FlushesLast, EndsAtOnce, IsInput, Keeps, answers_of, lines_state, progress_of, Takes}
pub use Rattle.niss_shell.specs.Lines.{line_feed}
unfoldable pub use Rattle.niss_shell.specs.Lines.{ended_lines, last_part}
pub use Rattle.niss_shell.specs.Lines.{HasNo, ended_by, IsCutAt}
pub use Rattle.niss_shell.specs.Laws.{TextIsCut, OneCut, Begins, MoreInputKeepsAnswers, AcceptedLinesAreSolved}
pub use Rattle.niss_shell.specs.Names.{Stop, DeviceFault, Step, CannotWrite, InputTooLong, LineCommand, Search, Solutions, CannotRead}
pub use Rattle.niss_shell.specs.Names.{Turn, Output, Command, UsageFault, Rewrite, LineFault, ReadFault, Usage, OutOfMemory, Query, NoStart, Lines}
pub use Rattle.niss_shell.specs.Output.{LineAnswers, line_answer, unsearched, then_answer, home, answer_lines}
pub use Rattle.niss_shell.specs.Output.{line_with_bytes, complete_lines, outcome_of_input, Answer, joined_answer, solution_line}
pub use Rattle.niss_shell.specs.Output.{started, step_line, last_line, answer_to, answer_from, searched}
pub use Rattle.niss_shell.specs.Output.{none_line, solve_text, count_text, outcome_at_end, answer_request, out_of, limit_of, slack_of}
pub use Rattle.niss_shell.specs.Output.{error_text, most_error_text, status_of, fault_answer, start_cube, scramble_text, scramble, scrambles, turns_line}
unfoldable pub use Rattle.niss_shell.specs.Output.{answers_from}
pub use Rattle.niss_shell.specs.Run.{Runs, Looked, due_without, outcome_before, flushed_outcome}
pub use Rattle.niss_shell.specs.Words.{most_bytes, spaced_word, OnLines, ListSteps, DrawScrambles, request_of, joined, Parses, IsInRange, name_of_command}
pub use Rattle.niss_shell.specs.Words.{spelled_number, step_named, Request, reads_source, has_step, takes_memory, request_named, requested}
