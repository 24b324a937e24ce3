use Rattle.niss_cube.proofs.Words.{◌∙◌, ap, sym, arith, get_or, length-set}
use Rattle.niss_cube.proofs.InverseCubies.{found_at, written_place}
use Rattle.niss_cube.proofs.cubie_turns.places_of.Goals as goal

pub loop-place-preserved : goal.loop-place-preserved
loop-place-preserved g c =
    let l = c.loop-place in
    (length-set l.places _ l.place ∙ l.invariant.0, written_place g.row.PLACES c.args.homes.now c.requires.placed l.places l.place l.invariant.0 (omega arith) l.invariant.1)

pub returns-clause-value : goal.returns-clause-value
returns-clause-value g c = λ h lh.
    let f = found_at g.row.PLACES c.args.homes.now c.requires.placed h (omega (arith, lh, c.loop-place.invariant.0)) in
    ap (λ x. get_or c.loop-place.places x 0) (sym f.1) ∙ c.loop-place.invariant.1 _ (omega (arith, f.0))

pub returns-clause-in_range : goal.returns-clause-in_range
returns-clause-in_range g c = λ h lh.
    let f = found_at g.row.PLACES c.args.homes.now c.requires.placed h (omega (arith, lh, c.loop-place.invariant.0)) in
    rw (returns-clause-value g c h lh) f.0
