use Rattle.std.proofs.Common.{arith, ◌≤◌, ℕ, subst, Result}
use Rattle.niss_embed.specs.TwoLines.{both_of, StartsAfter}
use Rattle.niss_ways.specs.declared.start.Start.{Start}
use Rattle.niss_embed.specs.declared.two_lines.Nowhere.{Nowhere}
use Rattle.niss_embed.proofs.BestLemmas.{found_after, not_found}
use Rattle.niss_embed.proofs.two_lines.best.best_ways.Goals as goal

pub returns-in-Ok : goal.returns-in-Ok
returns-in-Ok g c =
    let w = c.args.wanted.now in
    let room = c.args.room.now in
    let looks : c.find_ways.result.looks ≤ w.most_nodes = subst (λ (n : ℕ). c.find_ways.result.looks ≤ n) c.in-Some.ensures.most c.find_ways.ensures.looks in
    record {
      beyond = λ out. absurd (out (record { numbers = c.in-Some.ensures.numbers; there = omega (arith, c.if-wanted-room.false) }));
      finds = λ asked. found_after (both_of c.args.scramble.now c.args.so_far.now) c.in-Ok.start w room c.find_ways.new.room c.find_ways.result c.answer_of.result
          (subst (λ (r : Result Start Nowhere). StartsAfter (both_of c.args.scramble.now c.args.so_far.now) r) c.in-Ok.is c.start_after.ensures) c.find_ways.ensures.grows looks c.answer_of.ensures;
    }

pub returns-in-Err : goal.returns-in-Err
returns-in-Err g c =
    let w = c.args.wanted.now in
    let room = c.args.room.now in
    record {
      beyond = λ out. absurd (out (record { numbers = c.in-Some.ensures.numbers; there = omega (arith, c.if-wanted-room.false) }));
      finds = λ asked. not_found (both_of c.args.scramble.now c.args.so_far.now) c.in-Err.why w room c.nowhere.result (subst (λ (r : Result Start Nowhere). StartsAfter (both_of c.args.scramble.now c.args.so_far.now) r) c.in-Err.is c.start_after.ensures) c.nowhere.ensures;
    }
