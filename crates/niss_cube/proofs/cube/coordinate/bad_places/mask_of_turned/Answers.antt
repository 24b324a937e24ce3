use Rattle.std.proofs.Common.{◌≡◌, ◌+◌, ◌-◌, ◌*◌, suc, arith, ap, ◌∙◌, drop}
use Rattle.niss_cube.specs.BadPlaces.{turned_away}
use Rattle.niss_cube.proofs.BadPlaces.{no_bits, bit_more, bits_fit}
use Rattle.niss_cube.proofs.cube.coordinate.bad_places.mask_of_turned.Goals.{After-from}
use Rattle.niss_cube.proofs.cube.coordinate.bad_places.mask_of_turned.Goals as goal
use Rattle.niss_cube.proofs.cube.coordinate.bad_places.mask_of_turned.Given.{Over}
use lib.Lanes.{mask_l}

pub loop-place-init : goal.loop-place-init
loop-place-init g c = record {
  within = omega arith;
  bits = no_bits g.row.PLACES g.row.FACELETS c.args.homes.now c.args.turns.now c.args.marks.now c.told-homes;
}

pub overflow_mul-mask : goal.overflow_mul-mask
overflow_mul-mask g c =
    omega (
      arith,
      bits_fit g.row.FACELETS c.args.homes.now c.args.turns.now c.args.marks.now c.loop-place.place c.loop-place.mask
          (omega (arith, c.told-homes, c.requires.few)) c.loop-place.invariant.bits,
    )

-- the mask with the bit of this place
more : (g : Over) (c : After-from g) →
    2 * c.loop-place.mask + c.from.result ≡ mask_l (drop (c.loop-place.place - 1) (turned_away g.row.FACELETS c.args.homes.now c.args.turns.now c.args.marks.now))
more g c =
    let here : c.loop-place.place ≡ suc (c.loop-place.place - 1) = omega (arith, c.loop-place-test.true) in
    bit_more g.row.FACELETS c.args.homes.now c.args.turns.now c.args.marks.now (c.loop-place.place - 1) c.loop-place.mask c.from.result
    (omega (arith, c.told-homes, c.loop-place-test.true, c.loop-place.invariant.within))
    (c.loop-place.invariant.bits ∙ ap (λ k. mask_l (drop k (turned_away g.row.FACELETS c.args.homes.now c.args.turns.now c.args.marks.now))) here)
    c.from.ensures

pub overflow_add-mask : goal.overflow_add-mask
overflow_add-mask g c =
    omega (
      arith,
      bits_fit g.row.FACELETS c.args.homes.now c.args.turns.now c.args.marks.now (c.loop-place.place - 1) (2 * c.loop-place.mask + c.from.result)
          (omega (arith, c.told-homes, c.requires.few)) (more g c),
    )

pub loop-place-preserved : goal.loop-place-preserved
loop-place-preserved g c = record { within = omega (arith, c.loop-place.invariant.within); bits = more g c }
