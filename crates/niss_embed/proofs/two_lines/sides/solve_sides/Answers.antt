use Rattle.std.proofs.Common.{◌≤◌, ℕ, Result, subst, sym}
use Rattle.niss_ways.specs.declared.start.Start.{Start}
use Rattle.niss_embed.specs.TwoLines.{both_of, StartsAfter}
use Rattle.niss_embed.specs.declared.two_lines.Nowhere.{Nowhere}
use Rattle.niss_embed.proofs.SidesLemmas.{in_range, listed_after, not_started}
use Rattle.niss_embed.proofs.two_lines.sides.solve_sides.Goals as goal

pub returns-in-Some-list_solutions : goal.returns-in-Some-list_solutions
returns-in-Some-list_solutions g c =
    let w = c.args.wanted.now in
    let lines = both_of c.args.scramble.now c.args.so_far.now in
    let found = c.in-Some-list_solutions.found in
    let looks : found.looks ≤ w.most_nodes = subst (λ (n : ℕ). found.looks ≤ n) c.in-Some.ensures.most c.in-Some-list_solutions.ensures.looks in
    record {
      beyond = λ out. absurd (in_range w c.in-Some.listed c.in-Some.ensures out);
      lists = λ asked. listed_after lines c.in-Ok.start c.args.tables.now w c.args.room.now c.list_solutions.new.room c.answer_of.result
          (subst (λ (r : Result Start Nowhere). StartsAfter lines r) c.in-Ok.is c.start_after.ensures) c.in-Some-list_solutions.ensures.lists.0
          (record {
            listed = c.in-Some.listed;
            asked = c.in-Some.ensures;
            found = found;
            tells = c.answer_of.ensures;
            lists = c.in-Some-list_solutions.ensures.lists.1;
            looked = subst (λ (n : ℕ). n ≤ w.most_nodes) (sym c.answer_of.ensures.nodes) looks;
          });
    }

pub returns-in-None : goal.returns-in-None
returns-in-None g c =
    let w = c.args.wanted.now in
    let lines = both_of c.args.scramble.now c.args.so_far.now in
    record {
      beyond = λ out. absurd (in_range w c.in-Some.listed c.in-Some.ensures out);
      lists = λ asked. not_started lines c.in-Ok.start c.args.tables.now w c.args.room.now c.list_solutions.new.room c.nowhere-in-None.result
          (subst (λ (r : Result Start Nowhere). StartsAfter lines r) c.in-Ok.is c.start_after.ensures) c.in-None.ensures.lists.0
          c.in-None.ensures.lists.1 c.nowhere-in-None.ensures;
    }
