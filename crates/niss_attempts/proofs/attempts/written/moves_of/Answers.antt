use Rattle.std.proofs.Common.{◌≡◌, ◌≤◌, arith}
use Rattle.std.specs.List.{filter}
use Rattle.niss_text.specs.Moves.{is_wanted, most_bytes}
use Rattle.niss_attempts.proofs.AttemptLemmas.{most_kept}
use Rattle.niss_attempts.proofs.attempts.written.moves_of.Goals as goal

pub returns-else-written-eq0-clause-room : goal.returns-else-written-eq0-clause-room
returns-else-written-eq0-clause-room c = λ one two.
    let few : most_bytes (filter (is_wanted c.args.of) c.args.lines.now) ≤ most_bytes c.args.lines.now = most_kept (is_wanted c.args.of) c.args.lines.now in
    let done : c.text_moves-written.result.status ≡ 0 = c.text_moves-written.ensures.room (omega (arith, few, one)) (omega (arith, few, two)) in
    absurd (c.if-written-eq0.false done)
