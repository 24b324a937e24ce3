use Rattle.std.proofs.Common.{◌∙◌, sym, ap, take}
use Rattle.niss_attempts.specs.Attempts.{asked, or_which}
use Rattle.niss_attempts.proofs.KnownLemmas.{tried_open}
use Rattle.niss_attempts.proofs.attempts.known_parts.Solution.tried.Goals as goal

pub returns-then-is_one_solved_by-clause-is : goal.returns-then-is_one_solved_by-clause-is
returns-then-is_one_solved_by-clause-is c =
    let it = c.args.self.now in
    tried_open (asked it) c.args.judged c.in_doubt.result c.is_open.result c.is_open.ensures c.if-not-is_open.false (record {
      solution = take c.in_ok-count.count c.moves_of.new.out;
      places = take c.in_ok-count.count c.moves_of.new.places;
      is_solution = c.in_ok-count.ensures.are;
      it_is = c.in_doubt.ensures ∙ ap (λ b. or_which b it.begin c.args.judged) (sym c.if-is_one_solved_by.true ∙ c.is_one_solved_by.ensures);
    })

pub returns-clause-is : goal.returns-clause-is
returns-clause-is c =
    let it = c.args.self.now in
    tried_open (asked it) c.args.judged c.args.judged c.is_open.result c.is_open.ensures c.if-not-is_open.false (record {
      solution = take c.in_ok-count.count c.moves_of.new.out;
      places = take c.in_ok-count.count c.moves_of.new.places;
      is_solution = c.in_ok-count.ensures.are;
      it_is = ap (λ b. or_which b it.begin c.args.judged) (sym c.if-is_one_solved_by.false ∙ c.is_one_solved_by.ensures);
    })
