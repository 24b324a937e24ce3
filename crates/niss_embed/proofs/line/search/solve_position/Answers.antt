use Rattle.std.proofs.Common.{◌≡◌, refl, cond, sym, ap, ◌∙◌, arith, subst, Bool, ℕ}
use Rattle.std.specs.Prelude.{is_err}
use Rattle.niss_embed.specs.Memory.{memory}
use Rattle.niss_embed.specs.LineSearch.{lines_state, SolvesCube, capped, is_cut, wanted_in}
use Rattle.niss_embed.specs.declared.line.search_answer.SearchAnswer.{SearchAnswer}
use Rattle.niss_embed.proofs.SolveLemmas.{Lines, solve_answer, same_memory, solves}
use Rattle.niss_embed.proofs.line.search.solve_position.Goals as goal

pub returns : goal.returns
returns g c = λ e at.
    let step = c.args.tables.now in
    let w = wanted_in c.args.bounds in
    let a = c.new-lines.result in
    let b = c.search_at_most-found.new.sink in
    let found = c.search_at_most-found.result in
    let by = c.search_at_most-found.ensures in
    let looks = c.search_at_most-found.new.looks in
    let back : c.out-1.given.0 ≡ b.bytes.now =
    c.out-1.given.1.1 (sym (same_memory step w e a b found (by.ok e at) (by.err e at) ∙ c.new-lines.ensures.same_reference)) in
    let l : Lines = record {
      before = c.args.out.now;
      after = b.bytes.now;
      reference = a.bytes.ghost_name;
      reference_now = b.bytes.ghost_name;
      written = b.written;
      solutions = b.solutions;
      most = c.args.bounds.most;
      most_now = b.most;
      first = b.first;
      too_small = b.too_small;
      within = b.within;
      few = b.few;
    } in
    let told : SearchAnswer = record {
      status = c.status_of.result;
      fault = 0;
      least = c.unwrap_or.result;
      more = c.is_err.result;
      column = 0;
      length = b.written;
      solutions = b.solutions;
      nodes = c.capped.result;
    } in
    let told_is : told ≡ solve_answer l (is_cut found) (is_err found) (capped looks) = λ i. record {
      status = (c.status_of.ensures ∙ ap (λ (cut : Bool). cond {A = ℕ} cut 5 (cond b.too_small 4 0)) c.was_cut.ensures) i;
      fault = 0;
      least = c.unwrap_or.ensures i;
      more = c.is_err.ensures.value i;
      column = 0;
      length = b.written;
      solutions = b.solutions;
      nodes = (c.capped.ensures ∙ ap capped c.count.ensures) i;
    } in
    let new = c.new-lines.ensures in
    subst (λ v. SolvesCube step w e (memory c.args.out.now v) told) (sym back)
    (subst (λ t. SolvesCube step w e (memory c.args.out.now b.bytes.now) t) (sym told_is)
    (solves step w e a b found (by.ok e at) (by.err e at) l looks refl
    (λ i. lines_state (new.unchanged i) a.bytes.ghost_name (new.empty i) (new.none i) (new.most i) (new.first i) (new.works i))
    (λ i. lines_state b.bytes.now b.bytes.ghost_name b.written b.solutions b.most b.first b.too_small)
    c.first_is_least.ensures (by.looks e at) (by.looks_at_most e at) by.within (by.cut e at) by.spent
    (by.found e looks at (omega arith)) by.few (by.stopped e looks at (omega arith))))
