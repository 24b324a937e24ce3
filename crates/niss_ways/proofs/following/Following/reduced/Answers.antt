use Rattle.std.proofs.Common.{◌≡◌, sym, ◌∙◌, subst, true, List}
use Rattle.niss_cube.specs.Map.{map_of}
use Rattle.niss_cube.specs.declared.step.Step.{Step}
use Rattle.niss_moves.specs.declared.turn.Face.{Face}
use Rattle.niss_moves.specs.declared.turn.Turn.{Turn}
use Rattle.niss_search.specs.BothSides.{pair}
use Rattle.niss_ways.specs.Shown.{Tells}
use Rattle.niss_ways.specs.Truth.{total_after}
use Rattle.niss_ways.specs.Ways.{first_reaches}
use Rattle.niss_ways.proofs.TruthLemmas.{lengths_of}
use Rattle.niss_ways.proofs.following.Following.reduced.Goals as goal

pub returns-clause-reduction : goal.returns-clause-reduction
returns-clause-reduction g c =
    let o = c.args.self.now.start.now in
    let step = c.args.self.now.tables.now in
    let turns = c.args.reduction.now in
    let named : Tells o.names c.step-step.result turns c.of.result = subst (λ (n : List Face). Tells n c.step-step.result turns c.of.result) c.names.ensures.value c.of.ensures in
    let total = c.total_after-total.result in
    let first = c.args.first.now in
    let by_normal : total ≡ total_after o first (pair turns.normal c.inverse.result.now) =
    subst (λ (n : List Turn). total ≡ total_after o first (pair n c.inverse.result.now)) c.normal.ensures.value c.total_after-total.ensures.total in
    record {
      step = step;
      axis = c.args.self.now.axes.domino;
      is = c.args.self.now.of_step;
      turns = turns;
      reached = subst (λ (s : Step). first_reaches s (map_of c.args.from.now.cube) turns ≡ true) c.step-step.ensures (sym c.first_reaches.ensures ∙ c.if-not-first_reaches.false);
      told = subst (λ (s : Step). Tells o.names s turns c.of.result) c.step-step.ensures named;
      total = subst (λ (i : List Turn). total ≡ total_after o first (pair turns.normal i)) c.inverse.ensures.value by_normal;
      corners = c.case_of-corners.ensures.corners;
      edges_outside = c.case_of-corners.ensures.edges;
      lengths = lengths_of step c.args.from.now c.requires;
    }
