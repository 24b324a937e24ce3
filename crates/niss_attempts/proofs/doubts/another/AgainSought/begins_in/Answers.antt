use Rattle.std.proofs.Common.{◌≤◌, take, arith}
use Rattle.niss_text.specs.Moves.{most_bytes}
use Rattle.niss_attempts.proofs.AttemptLemmas.{most_first}
use Rattle.niss_attempts.proofs.doubts.another.AgainSought.begins_in.Goals as goal

pub returns-clause-room : goal.returns-clause-room
returns-clause-room c = λ one two.
    let few : most_bytes (take c.args.at c.args.lines.now) ≤ most_bytes c.args.lines.now = most_first c.args.at c.args.lines.now in
    c.is_solved_by.ensures.room (omega (arith, few, one)) (omega (arith, few, two))
