use Rattle.std.proofs.Common.{◌∙◌, take, subst, List}
use Rattle.niss_moves.specs.declared.turn.Turn.{Turn}
use Rattle.niss_attempts.specs.Beside.{IsFoundBeside}
use Rattle.niss_attempts.proofs.BesideLemmas.{of_read, of_unread}
use Rattle.niss_attempts.proofs.doubts.beside.doubt_of_long.Goals as goal

pub returns-in_default-clause-is : goal.returns-in_default-clause-is
returns-in_default-clause-is c =
    of_unread c.args.text.now c.args.lines.now c.args.scramble.now (take c.in_ok-count.count c.moves_of.new.out) (take c.in_ok-count.count c.moves_of.new.places)
    c.in_ok-count.ensures.are (λ given moves is_given are_moves. c.in_default.ensures given is_given)

pub returns-in_default-moves_by-clause-is : goal.returns-in_default-moves_by-clause-is
returns-in_default-moves_by-clause-is c =
    of_unread c.args.text.now c.args.lines.now c.args.scramble.now (take c.in_ok-count.count c.moves_of.new.out) (take c.in_ok-count.count c.moves_of.new.places)
    c.in_ok-count.ensures.are (λ given moves is_given are_moves. c.in_default-moves_by.ensures moves are_moves)

pub returns-clause-is : goal.returns-clause-is
returns-clause-is c =
    of_read c.args.text.now c.args.lines.now c.args.scramble.now (take c.in_ok-count.count c.moves_of.new.out) (take c.in_ok-count.count c.moves_of.new.places)
    c.doubt.result c.in-Some.scramble.now c.in-Some-moves_by.solution.now c.in_ok-count.ensures.are c.in-Some.ensures c.in-Some-moves_by.ensures (record {
      it = c.in_ok-found.found;
      is_found = subst (λ (turns : List Turn). IsFoundBeside c.args.text.now c.args.lines.now c.in-Some.scramble.now turns c.in_ok-found.found) (c.as_slice.ensures.value ∙ c.turns_of-turns.ensures)
          c.in_ok-found.ensures.is;
      told_is = c.doubt.ensures;
    })
