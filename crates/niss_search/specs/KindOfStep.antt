-- The tables of a step, by their kind. (For the functions of the tables.)
use Rattle.std.specs.Prelude.{◌≡◌}
use Rattle.niss_search.specs.Names.{Step}
use Rattle.niss_search.specs.declared.tables.kind.Kind.{Kind}
use Rattle.niss_search.specs.declared.tables.kind.Kind.TheVariants.{Edges, AnyEdges, Domino, EitherDomino}

-- The tables are those of the step.
abbrev pub IsOfStep : {A : Type 0} → Kind A → Step → Type 0
IsOfStep (Edges t) step = t.step ≡ step
IsOfStep (AnyEdges t) step = t.step ≡ step
IsOfStep (Domino t) step = t.step ≡ step
IsOfStep (EitherDomino t) step = t.step ≡ step
