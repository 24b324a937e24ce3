use Rattle.std.proofs.Common.{ℕ, List, ◌-◌, length, take}
use Rattle.niss_text.specs.Kept.{begins_moves}
use Rattle.niss_text.proofs.KeptLemmas.{passed_none, moves_begin}
use Rattle.niss_text.proofs.heads.behind_end.Goals as goal

pub returns-else-end-eq0-clause-begin : goal.returns-else-end-eq0-clause-begin
returns-else-end-eq0-clause-begin c =
    let line : List ℕ = c.args.line.now in
    let sign : List ℕ = c.trimmed-sign.result.now in
    let trimmed = c.trimmed-sign.ensures in
    passed_none begins_moves line sign c.from_place.result.now c.end_length-end.result trimmed.fits trimmed.rest c.end_length-end.ensures.fits c.from_place.ensures
    (moves_begin (take (length line - length sign) line) trimmed.skipped) c.end_length-end.ensures.begin
