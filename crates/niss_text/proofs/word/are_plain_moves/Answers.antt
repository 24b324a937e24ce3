use Rattle.std.proofs.Common.{◌∙◌, sym}
use Rattle.niss_text.proofs.NotationLemmas.{moves_follow}
use Rattle.niss_text.proofs.word.are_plain_moves.Goals as goal

pub returns-then-not-follows_moves-clause-plain : goal.returns-then-not-follows_moves-clause-plain
returns-then-not-follows_moves-clause-plain c = λ moves.
    let inv = c.loop-byte.invariant in
    sym c.if-not-follows_moves.true
    ∙ c.follows_moves.ensures.is ∙ moves_follow c.args.text.now c.loop-byte.byte-index c.loop-byte.before moves c.loop-byte-test.true inv.first inv.later
