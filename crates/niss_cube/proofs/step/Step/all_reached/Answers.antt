use Rattle.niss_cube.proofs.Words.{◌≡◌, ◌+◌, ◌-◌, ◌*◌, suc, arith, ap, ◌∙◌, drop, map_of}
use Rattle.niss_cube.proofs.StepLemmas.{tests_of, reached_bit, reached_bits_fit}
use Rattle.niss_cube.proofs.step.Step.all_reached.Goals.{After-from}
use Rattle.niss_cube.proofs.step.Step.all_reached.Goals as goal
use lib.Lanes.{mask_l}
use mir.Val.{bool_byte}

pub overflow_mul-mask : goal.overflow_mul-mask
overflow_mul-mask c = omega (arith, reached_bits_fit (map_of c.args.cube.now) c.loop-index.index c.loop-index.mask c.loop-index.invariant.bits)

-- the mask with the bit of this step
more : (c : After-from) → 2 * c.loop-index.mask + c.from.result ≡ mask_l (drop (c.loop-index.index - 1) (tests_of (map_of c.args.cube.now)))
more c =
    let here : c.loop-index.index ≡ suc (c.loop-index.index - 1) = omega (arith, c.loop-index-test.true) in
    reached_bit (map_of c.args.cube.now) (c.loop-index.index - 1) c.loop-index.mask c.from.result _
    (omega (arith, c.loop-index-test.true, c.loop-index.invariant.within))
    (c.loop-index.invariant.bits ∙ ap (λ k. mask_l (drop k (tests_of (map_of c.args.cube.now)))) here)
    (c.from.ensures ∙ ap bool_byte c.reached.ensures.value)

pub overflow_add-mask : goal.overflow_add-mask
overflow_add-mask c = omega (arith, reached_bits_fit (map_of c.args.cube.now) (c.loop-index.index - 1) (2 * c.loop-index.mask + c.from.result) (more c))

pub loop-index-preserved : goal.loop-index-preserved
loop-index-preserved c = record { within = omega (arith, c.loop-index.invariant.within); bits = more c }
