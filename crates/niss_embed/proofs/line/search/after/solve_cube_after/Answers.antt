use Rattle.std.proofs.Common.{◌≡◌, ◌≤◌, ◌+◌, refl, cond, sym, ap, ◌∙◌, subst, Bool, ℕ, arith, ◌-◌}
use Rattle.std.specs.Prelude.{OnOk, IfErr, is_err}
use Rattle.niss_search.specs.Budgets.{is_cut_in, HasSpent}
use Rattle.niss_search.specs.Cubes.{least_length_of, near_looks_of}
use Rattle.niss_search.specs.Deepening.{Part, EndsAt}
use Rattle.niss_search.specs.Delivery.{Path, WentThrough, EndedIn}
use Rattle.niss_search.specs.After.{deepening_looks_of}
use Rattle.niss_search.specs.Solutions.{last_length}
use Rattle.niss_embed.specs.Memory.{memory}
use Rattle.niss_embed.specs.LineSearch.{lines_state, capped, is_cut, wanted_in}
use Rattle.niss_embed.specs.SolveAfter.{found_after, looks_for_after, looks_to_shortest, searched_after, SolvesCubeAfter}
use Rattle.niss_embed.specs.declared.line.search_answer.SearchAnswer.{SearchAnswer}
use Rattle.niss_embed.proofs.SolveLemmas.{Lines, told_of}
use Rattle.niss_embed.proofs.WrittenLemmas.{TakesPath, RefusesPath}
use Rattle.niss_embed.proofs.AfterLemmas.{after_is, looks_are, search_is, over_both, capped_spent, capped_whole}
use Rattle.niss_embed.proofs.AfterLemmas.{same_memory_after, solves_cube_after}
use Rattle.niss_embed.proofs.line.search.after.solve_cube_after.Goals as goal

pub returns : goal.returns
returns g c = λ e at.
    let step = c.args.tables.now in
    let w = wanted_in c.args.bounds in
    let p = c.args.after.now in
    let a = c.new-lines.result in
    let new = c.new-lines.ensures in
    let b = c.search_after-handed.new.sink in
    let found = c.search_after-handed.result in
    let by = c.search_after-handed.ensures in
    let law = c.after_is_rest.ensures.sequences in
    let least = c.in-Ok.least in
    let last = c.new-path.result.limit in
    let least_is : least ≡ least_length_of step e w.limit = c.in-Ok.ensures.least e at in
    let last_is : last ≡ last_length least w.limit w.slack = ap (λ (q : Path). q.limit) c.new-path.ensures ∙ c.last_limit.ensures in
    let same = after_is law step w p e least last least_is last_is in
    let looks_same = looks_are law step w p e least last least_is last_is in
    let ok : OnOk found (WentThrough TakesPath a (found_after step w p e) b) =
    subst (λ ps. OnOk found (WentThrough TakesPath a ps b)) same (by.ok e at) in
    let err : IfErr found (λ stop. EndedIn TakesPath RefusesPath (is_cut_in stop) a (found_after step w p e) b) =
    subst (λ ps. IfErr found (λ stop. EndedIn TakesPath RefusesPath (is_cut_in stop) a ps b)) same (by.err e at) in
    let before = c.least_length-found.new.looks in
    let looks = c.search_after-handed.new.meter in
    let first : before ≤ near_looks_of step e w.limit 0 = c.in-Ok.ensures.looks_at_most e at in
    let all = deepening_looks_of step e last in
    let at_most : looks ≤ looks_for_after step w e = omega (arith, by.looks_at_most e at, looks_same, first) in
    let within : capped looks ≤ w.most_nodes = omega (arith, by.within, c.in-Ok.ensures.within, c.from.ensures, c.count.ensures) in
    let few : looks ≤ w.most_nodes = omega (arith, by.within, c.in-Ok.ensures.within, c.from.ensures, c.count.ensures) in
    let search = search_is law step w p e least last least_is last_is c.args.position.now at.here in
    let shortest : before ≡ looks_to_shortest step e w.limit = c.in-Ok.ensures.looked e at in
    let looked : OnOk found (looks ≡ looks_to_shortest step e w.limit + (searched_after step w p e).looks) =
    subst (λ k. OnOk found (looks ≡ k + (searched_after step w p e).looks)) shortest
    (subst (λ (q : Part). OnOk found (looks ≡ before + q.looks)) search by.looks) in
    let reached : IfErr found (λ stop. EndsAt TakesPath RefusesPath (is_cut_in stop) (searched_after step w p e).events (looks_to_shortest step e w.limit) a looks b) =
    subst (λ k. IfErr found (λ stop. EndsAt TakesPath RefusesPath (is_cut_in stop) (searched_after step w p e).events k a looks b)) shortest
    (subst (λ (q : Part). IfErr found (λ stop. EndsAt TakesPath RefusesPath (is_cut_in stop) q.events before a looks b)) search by.ends) in
    let cut = over_both found (c.from.result - c.count.result) all w.most_nodes (looks_for_after step w e)
    (λ over. omega (arith, over, looks_same, first, c.in-Ok.ensures.within, c.from.ensures, c.count.ensures)) (by.cut e at) in
    let spent = capped_spent is_cut_in found step w.most_nodes looks (omega (arith, by.within, c.in-Ok.ensures.within, c.from.ensures, c.count.ensures)) (omega arith)
    (subst (λ m. HasSpent is_cut_in m step looks found) (omega (arith, c.in-Ok.ensures.within, c.from.ensures, c.count.ensures)) by.spent) in
    let back : c.out-1.given.0 ≡ b.bytes.now =
    c.out-1.given.1.1 (sym (same_memory_after step w p e a b found ok err ∙ new.same_reference)) in
    let l : Lines = record {
      before = c.args.out.now;
      after = b.bytes.now;
      reference = a.bytes.ghost_name;
      reference_now = b.bytes.ghost_name;
      written = b.written;
      solutions = b.solutions;
      most = c.args.bounds.most;
      most_now = b.most;
      first = b.first;
      too_small = b.too_small;
      within = b.within;
      few = b.few;
    } in
    let told : SearchAnswer = record {
      status = c.status_of.result;
      fault = 0;
      least = c.unwrap_or.result;
      more = c.is_err.result;
      column = 0;
      length = b.written;
      solutions = b.solutions;
      nodes = c.capped.result;
    } in
    let told_is : told ≡ told_of (is_cut found) b.too_small (is_err found) least b.written b.solutions (capped looks) = λ i. record {
      status = (c.status_of.ensures ∙ ap (λ (cut : Bool). cond {A = ℕ} cut 5 (cond b.too_small 4 0)) c.was_cut.ensures) i;
      fault = 0;
      least = c.unwrap_or.ensures i;
      more = c.is_err.ensures.value i;
      column = 0;
      length = b.written;
      solutions = b.solutions;
      nodes = (c.capped.ensures ∙ ap capped c.count-2.ensures) i;
    } in
    subst (λ v. SolvesCubeAfter step w p e (memory c.args.out.now v) told) (sym back)
    (subst (λ t. SolvesCubeAfter step w p e (memory c.args.out.now b.bytes.now) t) (sym told_is)
    (solves_cube_after step w p e a b found ok err l least looks refl
    (λ i. lines_state (new.unchanged i) a.bytes.ghost_name (new.empty i) (new.none i) (new.most i) (new.first i) (new.works i))
    (λ i. lines_state b.bytes.now b.bytes.ghost_name b.written b.solutions b.most b.first b.too_small)
    least_is at_most within cut spent
    (capped_whole looks w.most_nodes few (omega arith)) looked reached))
