use Rattle.std.proofs.Common.{◌<◌, length, arith, sym}
use Rattle.niss_moves.specs.declared.token.Token.TheVariants as token
use Rattle.niss_search.specs.Names.{no_turn}
use Rattle.niss_embed.proofs.AfterLemmas.{another_move}
use Rattle.niss_embed.proofs.line.search.after.turns_of_line.Goals as goal

pub returns-in_default : goal.returns-in_default
returns-in_default c =
    let listed = c.normal-moves.ensures.moves in
    let inside : c.loop-index.index < length c.args.line.now.normal = rw (sym listed) (omega (arith, c.loop-index-test.true, c.loop-index.auto.index-end)) in
    let other = rw listed at c.in_default.not-Face in
    another_move c.args.line.now c.loop-index.index (token.Face no_turn) inside other
