use Rattle.niss_moves.proofs.Completes.{symbol_at}
use Rattle.niss_moves.proofs.symbol.symbol_of.Goals as goal

pub returns : goal.returns
returns c = symbol_at c.args.byte _ c.ranges.byte.fits
