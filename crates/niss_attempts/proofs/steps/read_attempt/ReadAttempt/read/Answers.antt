use Rattle.std.proofs.Common.{◌≡◌, ◌∙◌, ℕ, ◌-◌, List, false, length, sym, ap, take, true}
use Rattle.std.specs.Prelude.{slice_index}
use Rattle.niss_attempts.specs.Parts.{are_too_long, bounds_of, end_of_steps}
use Rattle.niss_attempts.proofs.steps.read_attempt.ReadAttempt.read.Goals as goal

-- The last place is where steps end that are looked at.
last_place : (lent items bounds : List ℕ) (n : ℕ) → lent ≡ items → items ≡ bounds → n ≡ length items → slice_index lent (n - 1) ≡ end_of_steps bounds
last_place lent items bounds n lends same size =
    ap (λ v. slice_index v (n - 1)) lends ∙ ap (λ k. slice_index items (k - 1)) size ∙ ap end_of_steps same

pub returns-then-are_too_long-clause-unread : goal.returns-then-are_too_long-clause-unread
returns-then-are_too_long-clause-unread c =
    let last : slice_index c.deref.result.now (c.len.result - 1) ≡ end_of_steps (bounds_of c.args.steps.now) =
    last_place c.deref.result.now c.bounds_of-bounds.result.items (bounds_of c.args.steps.now) c.len.result c.deref.ensures.0 c.bounds_of-bounds.ensures.are c.len.ensures.value in
    ap (are_too_long c.args.scramble.now) (sym last) ∙ sym c.if-are_too_long.ensures.are
