use Rattle.std.proofs.Common.{◌≡◌, ℕ, List, ◌+◌, ◌-◌, ◌≤◌, inl, inr, length, drop, true, false, refl, ap, ◌∙◌, subst, arith}
use Rattle.std.proofs.lemmas.Bool.{cases_lt}
use Rattle.niss_text.specs.Kept.{begins_with_move, begins_with_turn, IsNoMove}
use Rattle.niss_text.specs.declared.word.Word.TheVariants.{Move, Other}
use Rattle.niss_text.proofs.KeptLemmas.{passed_so_far}
use Rattle.niss_text.proofs.LayerLemmas.{turn_by_word}
use Rattle.niss_text.proofs.StopLemmas.{plain_stop, stop_turn}
use Rattle.niss_text.proofs.span.span_of.Goals as goal

pub loop-rest-preserved : goal.loop-rest-preserved
loop-rest-preserved c =
    let line : List ℕ = c.args.line.now in
    let rest : List ℕ = c.loop-rest.rest.now in
    let next : List ℕ = c.from_place-rest.result.now in
    let inv = c.loop-rest.invariant in
    let word = c.first_word-word in
    let after = c.after-frame.ensures in
    let begin : ℕ = length line - length rest in
    let far = passed_so_far line rest next word.result.1 inv.left inv.rest word.ensures.fits.1 c.from_place-rest.ensures in
    let there : begin + word.result.1 ≡ length line - length next = omega (arith, far.0, inv.left) in
    let none : (word.result.0 ≡ Move → ⊥) → (word.result.0 ≡ Other → ⊥) → IsNoMove line true begin = λ move other t.
    subst (λ v. begins_with_turn v ≡ false) inv.rest (turn_by_word rest (λ is. move (word.ensures.single is)) (λ is. other (word.ensures.layers is))) in
    record {
      left = omega (arith, far.0, inv.left);
      rest = far.1;
      lead = subst (λ n. c.after-frame.result.lead ≤ n) there (after.lead inv.lead);
      tail = subst (λ n. c.after-frame.result.tail ≤ n) there (after.tail inv.tail inv.opened);
      opened = subst (λ n. c.after-frame.result.bracket ≤ n) there (after.bracket inv.opened);
      name = subst (λ n. c.after-frame.result.name ≤ n) there (after.name inv.name);
      tail_is = after.tail_is line inv.tail_is inv.open_is none;
      open_is = after.open_is line inv.open_is none;
      moved = λ is some. elim (cases_lt 0 begin) [
        | inl lt ↦ let so = inv.moved is lt in let stays = after.stays so.0 in (stays.0, stays.1 ∙ so.1)
        | inr le ↦
            let top : begin ≡ 0 = omega (arith, le) in
            let whole : rest ≡ line = inv.rest ∙ ap (λ n. drop n line) top in
            let moved = after.moved (word.ensures.single (ap begins_with_move whole ∙ is)) in
            (moved.0, omega (arith, moved.1, inv.lead, top))
      ];
    }

pub returns-in-Some-clause-tail : goal.returns-in-Some-clause-tail
returns-in-Some-clause-tail c = λ lt. stop_turn c.args.line.now c.in-Some.end c.in-Some.ensures.stop

pub returns-in-Some-clause-plain : goal.returns-in-Some-clause-plain
returns-in-Some-clause-plain c = λ plain. absurd (plain_stop c.args.line.now c.in-Some.end plain c.in-Some.ensures.fits c.in-Some.ensures.stop)

pub returns-in-Some-clause-stopped : goal.returns-in-Some-clause-stopped
returns-in-Some-clause-stopped c = λ count is. (refl, (refl, c.in-Some.ensures.all count is))

pub returns-then-are_plain_moves-clause-stopped : goal.returns-then-are_plain_moves-clause-stopped
returns-then-are_plain_moves-clause-stopped c = λ count is. absurd (c.in_default.ensures.all count is)

pub returns-clause-stopped : goal.returns-clause-stopped
returns-clause-stopped c = λ count is. absurd (c.in_default.ensures.all count is)
