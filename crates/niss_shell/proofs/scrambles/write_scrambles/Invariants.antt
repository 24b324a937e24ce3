use Rattle.niss_shell.proofs.Names.{◌≡◌, ◌*◌, ℕ, after_words, false, Delivered, output_state, scramble_text}
use Rattle.niss_shell.proofs.scrambles.write_scrambles.Given as goal

abbrev pub invariant-loop : goal.invariant-loop
invariant-loop g l = record {
  generator : l.rng ≡ after_words (l.turns * l.counter) l.fn.rng;
  written : (looks : ℕ) → Delivered g.W.Target.call false (scramble_text l.turns l.counter l.fn.rng) 0
      (output_state l.initial.output looks) (output_state l.output looks);
}
