use Rattle.niss_cube.proofs.Words.{ℕ, List, length, get_or, refl, sym, subst, rules, Turn, turn_table, every_turn}
use Rattle.niss_cube.proofs.Words.{every_face, every_power, CubieTurn, IsInRange, Fact, Both, Below, Numbers, Turns}
use Rattle.niss_cube.proofs.Words.{holds}
use Rattle.niss_cube.proofs.cubie_turns.cubie_turn.Goals as goal

abbrev within : List ℕ → ℕ → Fact
within xs n = Numbers (length xs) λ i. Below (get_or xs i 0) n

abbrev range_fact : CubieTurn → Fact
range_fact t = Both (within t.corners 8) (Both (within t.twists 3) (Both (within t.edges 12) (within t.flips 2)))

in_range : (t : Turn) → IsInRange (turn_table t.face t.power)
unfolding every_turn every_face every_power
in_range t =
    let h = holds (Turns λ t. range_fact (turn_table t.face t.power)) refl t in
    record { corners_below = h.0; twists_below = h.1.0; edges_below = h.1.1.0; flips_below = h.1.1.1 }

pub returns-clause-value : goal.returns-clause-value
returns-clause-value c = search rules

pub returns-clause-in_range : goal.returns-clause-in_range
returns-clause-in_range c = subst IsInRange (sym (returns-clause-value c)) (in_range c.args.turn)
