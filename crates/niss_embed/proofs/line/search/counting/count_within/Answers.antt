use Rattle.std.proofs.Common.{false, ◌≡◌, cond, sym, ap, ◌∙◌, arith, subst, Bool, ℕ}
use Rattle.std.specs.Prelude.{is_err}
use Rattle.niss_embed.specs.LineSearch.{count_state, CountsCube, capped, is_cut, wanted_in}
use Rattle.niss_embed.specs.declared.line.search_answer.SearchAnswer.{SearchAnswer}
use Rattle.niss_embed.proofs.SolveLemmas.{told_of}
use Rattle.niss_embed.proofs.CountLemmas.{counts}
use Rattle.niss_embed.proofs.line.search.counting.count_within.Goals as goal

pub returns : goal.returns
returns g c = λ e at.
    let step = c.args.tables.now in
    let w = wanted_in c.args.bounds.now in
    let a = c.new-counted.result in
    let new = c.new-counted.ensures in
    let b = c.search_at_most-found.new.sink in
    let found = c.search_at_most-found.result in
    let by = c.search_at_most-found.ensures in
    let looks = c.search_at_most-found.new.looks in
    let told : SearchAnswer = record {
      status = c.status_of.result;
      fault = 0;
      least = c.unwrap_or.result;
      more = c.is_err.result;
      column = 0;
      length = 0;
      solutions = b.solutions;
      nodes = c.capped.result;
    } in
    let told_is : told ≡ told_of (is_cut found) false (is_err found) b.first 0 b.solutions (capped looks) = λ i. record {
      status = (c.status_of.ensures ∙ ap (λ (cut : Bool). cond {A = ℕ} cut 5 0) c.was_cut.ensures) i;
      fault = 0;
      least = c.unwrap_or.ensures i;
      more = c.is_err.ensures.value i;
      column = 0;
      length = 0;
      solutions = b.solutions;
      nodes = (c.capped.ensures ∙ ap capped c.count.ensures) i;
    } in
    subst (λ t. CountsCube step w e t) (sym told_is)
    (counts step w e a b found (by.ok e at) (by.err e at) (λ i. count_state (new.none i) (new.most i) (new.first i)) c.first_is_least.ensures looks (by.looks e at) (by.looks_at_most e at) by.within (by.cut e at) by.spent
    (by.found e looks at (omega arith)) by.few (by.stopped e looks at (omega arith)))
