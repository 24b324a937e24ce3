use Rattle.std.proofs.Common.{refl}
use Rattle.niss_attempts.proofs.BesideLemmas.{found_with}
use Rattle.niss_attempts.proofs.doubts.beside.Beside.with.Goals as goal

pub returns : goal.returns
returns c = λ text lines scramble solution found wanted is_seen.
    found_with text lines scramble solution c.args.self (record { begins_apart = c.args.seen.is_apart; another = c.another_with.result; slip = c.slip_with.result })
    c.args.line.now c.args.seen found wanted is_seen refl c.another_with.ensures c.slip_with.ensures
