use Rattle.niss_search.proofs.Words.{◌≡◌, length, true, ℕ, ◌+◌, ◌++◌, List, Turn, None, after_words, draw, is_canonical_after, next_words}
use Rattle.niss_search.proofs.scramble.random_turns.Given as goal

abbrev pub invariant-loop : goal.invariant-loop
invariant-loop l = record {
  drawn : (k : ℕ) → draw None (next_words (l.counter + k) l.fn.rng) ≡ l.turns.items ++ draw l.last (next_words k l.rng);
  words : (k : ℕ) → after_words (l.counter + k) l.fn.rng ≡ after_words k l.rng;
  canonical : (rest : List Turn) → is_canonical_after l.last rest ≡ true → is_canonical_after None (l.turns.items ++ rest) ≡ true;
  size : length l.turns.items ≡ l.counter;
}
