use Rattle.std.proofs.Common.{ap, take}
use Rattle.niss_lines.specs.declared.fact_answers.CheckAnswer.{CheckAnswer}
use Rattle.niss_attempts.proofs.doubts.another.is_solved_by.Goals as goal

pub returns-clause-is : goal.returns-clause-is
returns-clause-is c = record {
  solution = take c.in_ok-count.count c.moves_of.new.out;
  places = take c.in_ok-count.count c.moves_of.new.places;
  is_solution = c.in_ok-count.ensures.are;
  solves_is = ap (λ (check : CheckAnswer). check.solved) c.check_line.ensures;
}
