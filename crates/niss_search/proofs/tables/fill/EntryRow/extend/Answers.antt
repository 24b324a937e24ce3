use Rattle.niss_search.proofs.Words.{◌≡◌, arith, length, ◌+◌, ◌<◌, ap, ◌∙◌, turns_of, slice_index, min, entry_after, no_turn, turn_at}
use Rattle.niss_search.proofs.Words.{Contains-get_or, below_more}
use Rattle.niss_search.proofs.EntryLemmas.{row-entry}
use Rattle.niss_search.proofs.FillLemmas.{least-filling, least-met, least-kept}
use Rattle.niss_search.proofs.tables.fill.EntryRow.extend.Goals as goal

pub loop-column-preserved : goal.loop-column-preserved
loop-column-preserved g c =
    let inv = c.loop-column.invariant in
    let alt = g.M.GoalMoves.alternative c.args.self.now.moves.now in
    let xs = c.loop-column.distances in
    let entry = c.args.entry in
    let level = c.args.level in
    let t = turn_at alt.step c.loop-column.column in
    let column : c.loop-column.column < length (turns_of alt.step) = omega (arith, inv.end, c.loop-column-test.true) in
    let m = Contains-get_or (turns_of alt.step) c.loop-column.column no_turn column in
    let law = c.entries_turn.ensures in
    let small = c.requires.small in
    let j = row-entry alt c.args.self.now.start entry c.args.self.now.starts c.places-places.result.now c.args.self.now.are_starts c.places-places.ensures c.requires.from c.requires.to c.loop-column.column column in
    let written : c.min.result ≡ min (slice_index xs (entry_after alt.goal entry t)) (level + 1) =
    c.min.ensures ∙ ap (λ i. min (slice_index xs i) (level + 1)) j in
    let kept = least-kept law alt level small xs inv.filling entry t c.requires.at_level c.requires.in_range m in
    record {
      end = inv.end;
      filling = rw (j, written) (least-filling law alt level small xs inv.filling entry t c.requires.at_level c.requires.in_range m);
      extended = rw (j, written) (below_more _ _ (λ k l. kept (entry_after alt.goal entry (turn_at alt.step k)) (inv.extended k l)) (least-met law alt level small xs inv.filling entry t c.requires.at_level c.requires.in_range m));
      kept = rw (j, written) (λ i h. kept i (inv.kept i h));
      ticks = omega arith;
    }
