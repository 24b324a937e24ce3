use Rattle.std.proofs.Common.{◌≡◌, ◌-◌, ◌∙◌, ap, get_or, arith}
use Rattle.niss_text.proofs.full_stop.filled_length.Goals as goal

pub loop-end-preserved : goal.loop-end-preserved
loop-end-preserved c =
    let inv = c.loop-end.invariant in
    record {
      fits = omega (arith, inv.fits);
      all = λ count long is.
          let there : c.loop-end.end - 1 ≡ count = omega (arith, inv.all count long is) in
          absurd (c.is_gap.ensures c.if-not-is_gap.false (ap (λ n. get_or c.args.line.now n 0) there ∙ is));
    }
