use Rattle.std.proofs.Common.{refl, rules, subst, Result}
use Rattle.niss_embed.specs.TwoLines.{both_of, StartsAfter}
use Rattle.niss_embed.specs.Memory.{memory}
use Rattle.niss_ways.specs.declared.start.Start.{Start}
use Rattle.niss_embed.specs.declared.two_lines.Nowhere.{Nowhere}
use Rattle.niss_embed.proofs.BestLemmas.{line_written, line_not_written}
use Rattle.niss_embed.proofs.two_lines.best.line_after.Goals as goal

pub returns-in-Ok-clause-does : goal.returns-in-Ok-clause-does
returns-in-Ok-clause-does c =
    line_written (both_of c.args.scramble.now c.args.so_far.now) c.in-Ok.start (memory c.args.out.now c.put_line.new.out) c.put_line.result
    (subst (λ (r : Result Start Nowhere). StartsAfter (both_of c.args.scramble.now c.args.so_far.now) r) c.in-Ok.is c.start_after.ensures) (search rules)

pub returns-in-Err-clause-does : goal.returns-in-Err-clause-does
returns-in-Err-clause-does c =
    line_not_written (both_of c.args.scramble.now c.args.so_far.now) c.in-Err.why (memory c.args.out.now c.args.out.now) c.nowhere.result
    (subst (λ (r : Result Start Nowhere). StartsAfter (both_of c.args.scramble.now c.args.so_far.now) r) c.in-Err.is c.start_after.ensures) c.nowhere.ensures refl
