-- Rows that tell the truth.
use Rattle.std.proofs.Common.{◌≡◌, inl, inr, sym, ◌∙◌, subst, [], true, IsTrue}
use Rattle.std.specs.Prelude.{IfSome, Option, None, Some}
use Rattle.niss_moves.specs.Places.{SameMap}
use Rattle.niss_moves.specs.declared.turn.Axis.{Axis}
use Rattle.niss_cube.specs.Map.{map_of}
use Rattle.niss_cube.specs.Steps.{edge_step_on, reached}
use Rattle.niss_cube.specs.declared.cube.Cube.{Cube}
use Rattle.niss_cube.specs.declared.step.Step.{Step}
use Rattle.niss_search.specs.BothSides.{Pair, pair}
use Rattle.niss_ways.specs.Shown.{Tells, no_part}
use Rattle.niss_ways.specs.Truth.{Origin, IsWay, IsReduction, AreLengths}
use Rattle.niss_ways.specs.Ways.{cube_after, first_reaches}
use Rattle.niss_ways.specs.declared.way.Part.{Part}
use Rattle.niss_ways.specs.declared.measured.Measured.{Measured}
use Rattle.niss_ways.specs.declared.way.Way.{Way}

-- the row of a reduction after an orientation, if there is one
pub in_two_steps : (o : Origin) (row : Option Way) (axis : Axis) (step : Step) (p : Pair) (eo : Part) (between : Cube)
    → step ≡ edge_step_on axis → first_reaches step (map_of o.cube) p ≡ true → SameMap (map_of between) (cube_after (map_of o.cube) p)
    → Tells o.names step p eo → IfSome row (λ way. way.eo ≡ eo) → IfSome row (IsReduction o axis p between) → IfSome row (IsWay o)
in_two_steps o None axis step p eo between is reached after told same reduction = tt
in_two_steps o (Some way) axis step p eo between is reached after told same reduction = inl (record {
  axis = axis;
  turns = p;
  reached = subst (λ (s : Step). first_reaches s (map_of o.cube) p ≡ true) is reached;
  told = subst (λ (s : Step). Tells o.names s p way.eo) is (subst (λ (e : Part). Tells o.names step p e) (sym same) told);
  between = between;
  after = after;
  reduction = reduction;
})

-- the row of a reduction where the edges are oriented, if there is one
pub in_one_step : (o : Origin) (row : Option Way) (axis : Axis) (step : Step) (none : Part) (p : Pair) (from : Cube)
    → step ≡ edge_step_on axis → IsTrue (reached step (map_of o.cube)) → none ≡ no_part → p ≡ pair [] [] → SameMap (map_of from) (map_of o.cube)
    → IfSome row (λ way. way.eo ≡ none) → IfSome row (IsReduction o axis p from) → IfSome row (IsWay o)
in_one_step o None axis step none p from is holds empty nothing same told reduction = tt
in_one_step o (Some way) axis step none p from is holds empty nothing same told reduction = inr (record {
  axis = axis;
  holds = subst (λ (s : Step). IsTrue (reached s (map_of o.cube))) is holds;
  none = told ∙ empty;
  from = from;
  same = same;
  reduction = subst (λ (q : Pair). IsReduction o axis q from way) nothing reduction;
})

pub lengths_of : (step : Step) (m : Measured) → m.step ≡ step → AreLengths step m.cube m.on_normal m.on_inverse
lengths_of step m is = subst (λ (s : Step). AreLengths s m.cube m.on_normal m.on_inverse) is (record {
  normal = m.normal;
  back = m.inverse;
  takes_back = m.back;
  inverse = m.other;
})
