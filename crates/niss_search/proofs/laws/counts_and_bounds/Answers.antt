use Rattle.niss_search.proofs.Bounds.{count-recurrence, part-has-no-more, step-bound, all_looks-bound, bound-small}
use Rattle.niss_search.proofs.Counts.{first-counts}
use Rattle.niss_search.proofs.LookLemmas.{distance_at_least}
use Rattle.niss_search.proofs.FillLemmas.{entries-counted, edge-fill-small, fill-small}
use Rattle.niss_search.proofs.laws.counts_and_bounds.Goals as goal

pub returns : goal.returns
returns c = record {
  recurrence = count-recurrence;
  first = first-counts;
  part = part-has-no-more;
  within = (λ turns space look e n slack. all_looks-bound space look e n slack, λ turns space look e n slack. all_looks-bound space look e n slack);
  step = step-bound c.step_turns_in_order.ensures;
  small = bound-small;
  entries = entries-counted;
  edge_fill = edge-fill-small c.domino_keeps_start.ensures;
  fill = fill-small c.domino_keeps_start.ensures;
  least = distance_at_least;
}
