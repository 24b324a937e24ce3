use Rattle.niss_search.proofs.Words.{ap, arith, choice}
use Rattle.niss_search.proofs.Bounds.{choice-index, choice-follows}
use Rattle.niss_search.proofs.scramble.random_turn.Goals as goal

pub bounds-turns_after-index : goal.bounds-turns_after-index
bounds-turns_after-index c = rw (c.choice_index-index.ensures, c.turns_after.ensures.turns) (choice-index c.args.last c.next_word.result c.next_word.type_inv)

pub returns-clause-turn : goal.returns-clause-turn
returns-clause-turn c =
    rw (c.choice_index-index.ensures, c.turns_after.ensures.turns) (ap (λ p. choice c.args.last p.0) c.next_word.ensures)

pub returns-clause-follows : goal.returns-clause-follows
returns-clause-follows c = rw (c.choice_index-index.ensures, c.turns_after.ensures.turns) (choice-follows c.args.last c.next_word.result c.next_word.type_inv)

pub returns-clause-word : goal.returns-clause-word
returns-clause-word c = ap (λ p. p.1) c.next_word.ensures

pub offset_bounds-turns_after-index : goal.offset_bounds-turns_after-index
offset_bounds-turns_after-index c = omega (arith, bounds-turns_after-index c, c.turns_after.ensures.few)
