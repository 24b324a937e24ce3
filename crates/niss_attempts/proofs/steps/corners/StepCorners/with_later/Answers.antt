use Rattle.niss_attempts.proofs.TailLemmas.{dead_step_tail, living, outside_tail, inside_tail, nested_tail}
use Rattle.niss_attempts.proofs.steps.corners.StepCorners.with_later.Goals as goal

pub returns-then-self : goal.returns-then-self
returns-then-self c bytes more one later stays = dead_step_tail c.args.self.now c.args.in_brackets _ bytes more c.if-self.true one

pub returns-then-not-in_brackets : goal.returns-then-not-in_brackets
returns-then-not-in_brackets c bytes more one later stays =
    rw c.if-not-in_brackets.true
    (outside_tail c.args.self.now c.args.later.now.to c.then.result.to c.then-then-not-in_brackets.result.to bytes more c.then.ensures c.then-then-not-in_brackets.ensures
    (living c.args.self.now bytes c.if-self.false one) later stays)

pub returns-then-not-self : goal.returns-then-not-self
returns-then-not-self c bytes more one later stays =
    rw c.if-not-in_brackets.false (nested_tail c.args.self.now _ bytes more c.if-not-self.true (living c.args.self.now bytes c.if-self.false one))

pub returns : goal.returns
returns c bytes more one later stays =
    rw c.if-not-in_brackets.false
    (inside_tail c.args.self.now c.args.later.now.to c.then-2.result.to bytes more c.then-2.ensures c.if-not-self.false (living c.args.self.now bytes c.if-self.false one) later)
