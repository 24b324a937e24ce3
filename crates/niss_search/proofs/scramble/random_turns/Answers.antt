use Rattle.niss_search.proofs.Words.{◌≡◌, arith, ◌+◌, [], ◌∷◌, ℕ, ap, ◌∙◌, sym, refl, zero, suc, append-nil, after_words}
use Rattle.niss_search.proofs.Words.{draw, next_words, append_assoc, None}
use Rattle.rand_pcg.specs.Lcg.{state_after}
use Rattle.niss_search.proofs.scramble.random_turns.Goals as goal

pub loop-preserved : goal.loop-preserved
unfolding draw next_words state_after
loop-preserved c =
    let inv = c.loop.invariant in
    let last = c.loop.last in
    let turn = c.random_turn-turn.result in
    let step = c.random_turn-turn.ensures in
    let more : (k : ℕ) → c.loop.counter + 1 + k ≡ c.loop.counter + suc k = λ k. omega arith in
    record {
      drawn = λ k. ap (λ n. draw None (next_words n c.args.rng.now)) (more k) ∙ inv.drawn (suc k) ∙ rw (c.push.ensures.items, step.turn, step.word, append_assoc) refl;
      words = λ k. ap (λ n. after_words n c.args.rng.now) (more k) ∙ inv.words (suc k) ∙ ap (after_words k) (sym step.word);
      canonical = λ rest h. rw (c.push.ensures.items, append_assoc) (inv.canonical (turn ∷ rest) (rw step.follows h));
      size = omega (arith, c.push.ensures.len);
    }

pub returns : goal.returns
unfolding draw next_words state_after
returns c =
    let inv = c.loop.invariant in
    let items = c.loop.turns.items in
    let all : c.args.count ≡ c.loop.counter + zero = omega arith in
    record {
      drawn = sym (ap (λ n. draw None (next_words n c.args.rng.now)) all ∙ inv.drawn zero ∙ append-nil items);
      canonical = rw append-nil at (inv.canonical [] refl);
      length = omega arith;
      words = sym (ap (λ n. after_words n c.args.rng.now) all ∙ inv.words zero);
    }
