use Rattle.niss_search.proofs.searching.depth_first.Descent.begin.Goals as goal

pub begin_with-requires-in-EitherDomino-clause-asked : goal.begin_with-requires-in-EitherDomino-clause-asked
begin_with-requires-in-EitherDomino-clause-asked g c =
    let same = rw c.in-EitherDomino.is at c.kind.ensures in
    rw same c.requires.asked
