use Rattle.std.proofs.Common.{◌≡◌, ◌∙◌, ◌-◌, ℕ, List, length, replicate, set, sym, subst, arith}
use Rattle.std.proofs.lemmas.List.{length-replicate}
use Rattle.niss_attempts.specs.declared.steps.cube_corners.Corners.{Corners}
use Rattle.niss_attempts.specs.declared.steps.corners.StepCorners.{StepCorners}
use Rattle.niss_attempts.specs.Corners.{Brings, AreSteps, AreTails, home, no_step}
use Rattle.niss_moves.proofs.CallerLemmas.{and_left, and_right}
use Rattle.niss_attempts.proofs.TailLemmas.{tails_begin}
use Rattle.niss_attempts.proofs.steps.corners.AttemptCorners.of.Goals as goal

pub returns : goal.returns
returns c =
    let text : List ℕ = c.args.text.now in
    let bounds : List ℕ = c.args.bounds.now in
    let one : Corners = record { to = replicate 8 0 } in
    let nowhere : List Corners = replicate 13 one in
    let long : length nowhere ≡ 13 = length-replicate 13 one in
    let number = c.are_lines.ensures.number in
    let count : length bounds - 1 ≡ c.len-count.result = omega (arith, number, c.len-count.ensures.value) in
    record {
      number = number;
      scrambles = subst (Brings c.after.result.to) (c.as_slice-2.ensures.value ∙ c.unniss.ensures.moves) c.after.ensures;
      are_steps = λ known. c.are_lines.ensures.are (and_left _ _ (sym c.both-are_lines.ensures ∙ known));
      are_parted = λ known. c.are_parted.ensures (and_right c.are_lines.result _ (sym c.both-are_lines.ensures ∙ known));
      are_tails = λ known. c.renew.ensures text bounds
          (subst (λ (steps : List StepCorners). AreSteps text bounds steps) (sym c.as_slice.ensures.value) (c.are_lines.ensures.are (and_left _ _ (sym c.both-are_lines.ensures ∙ known))))
          (c.are_parted.ensures (and_right c.are_lines.result _ (sym c.both-are_lines.ensures ∙ known)))
          (subst (λ (k : ℕ). AreTails text bounds no_step k (set nowhere k (record { to = home }))) count
          (tails_begin text bounds no_step nowhere (omega (arith, c.requires.few.1, long))));
    }
