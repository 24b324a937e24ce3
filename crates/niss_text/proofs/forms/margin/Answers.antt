use Rattle.std.proofs.Common.{ℕ, List, ◌≤◌, ◌-◌, length, ap, take, arith}
use Rattle.niss_text.specs.Signs.{HasNoMoves}
use Rattle.niss_text.proofs.KeptLemmas.{passed_so_far, passed_none, one_first, some_byte}
unfoldable use Rattle.niss_text.specs.Signs.{is_of_moves}
use Rattle.niss_text.proofs.forms.margin.Goals as goal

pub loop-rest-preserved : goal.loop-rest-preserved
unfolding is_of_moves
loop-rest-preserved c =
    let line : List ℕ = c.args.line.now in
    let rest : List ℕ = c.loop-rest.rest.now in
    let after : List ℕ = c.from_place.result.now in
    let next : List ℕ = c.trimmed-rest-in-loop-rest.result.now in
    let inv = c.loop-rest.invariant in
    let trimmed = c.trimmed-rest-in-loop-rest.ensures in
    let blanks : ℕ = length after - length next in
    let some : 1 ≤ length rest = some_byte rest 62 c.if-rest-eq62.true (omega arith) in
    let far = passed_so_far line rest after 1 inv.fits inv.rest some c.from_place.ensures in
    let low : length after ≤ length line = omega (arith, far.0, inv.fits) in
    let further = passed_so_far line after next blanks low far.1 (omega arith) trimmed.rest in
    let quote : HasNoMoves (take 1 rest) = one_first is_of_moves rest (ap is_of_moves c.if-rest-eq62.true) in
    let empty : HasNoMoves (take (length line - length after) line) = passed_none is_of_moves line rest after 1 inv.fits inv.rest some c.from_place.ensures inv.empty quote in
    record {
      fits = omega (arith, further.0, low);
      rest = further.1;
      empty = passed_none is_of_moves line after next blanks low far.1 (omega arith) trimmed.rest empty trimmed.skipped;
    }
