use Rattle.niss_cube.proofs.Words.{◌≡◌, ◌∙◌, Some, sym, start_of, may_start}
use Rattle.niss_cube.proofs.step.Step.may_start.Goals as goal

pub returns-in-Some-clause-value : goal.returns-in-Some-clause-value
unfolding may_start
returns-in-Some-clause-value c =
    let is : start_of c.args.self ≡ Some c.in-Some.axis = sym c.start.ensures ∙ c.in-Some.is in
    rw is c.holds.ensures.value

pub returns-in-Some-clause-kept : goal.returns-in-Some-clause-kept
returns-in-Some-clause-kept c =
    let is : start_of c.args.self ≡ Some c.in-Some.axis = sym c.start.ensures ∙ c.in-Some.is in
    rw is c.holds.ensures.kept
