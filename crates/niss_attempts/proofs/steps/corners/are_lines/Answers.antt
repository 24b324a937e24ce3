use Rattle.std.proofs.Common.{◌≡◌, ◌∙◌, ◌+◌, ◌-◌, ◌<◌, Bool, false, true, ℕ, List, ◌∷◌, [], ◌++◌, length, get_or, map, sym, ap, arith, subst, length-append}
use Rattle.niss_attempts.specs.declared.steps.reading.Reading.TheVariants.{AsWritten}
use Rattle.niss_attempts.specs.declared.steps.corners.StepCorners.{StepCorners}
use Rattle.niss_attempts.specs.Corners.{Reads}
use Rattle.niss_attempts.specs.Parts.{read_byte, steps_line}
use Rattle.niss_attempts.proofs.CornerLines.{each_more}
use Rattle.niss_attempts.proofs.steps.corners.are_lines.Goals as goal
use Rattle.niss_attempts.proofs.steps.corners.are_lines.Goals.{in-Some, in-None}

-- what is read of each of some steps
abbrev ReadsEach : (text bounds : List ℕ) → List StepCorners → Type 0
ReadsEach text bounds steps = (k : ℕ) (none : StepCorners) → k < length steps → Reads (steps_line text bounds k (k + 1)) (get_or steps k none)

-- the invariant after one step more
abbrev Holds : (text bounds : List ℕ) → (at : ℕ) → List StepCorners → Bool → Type 0
Holds text bounds at steps all = record { number : length steps + 1 ≡ at + 1; reads : all ≡ true → ReadsEach text bounds steps }

number_more : (steps more : List StepCorners) (one : StepCorners) (at : ℕ) → length steps + 1 ≡ at → more ≡ steps ++ one ∷ [] → length more + 1 ≡ at + 1
number_more steps more one at number is =
    let long : length more ≡ length steps + 1 = ap length is ∙ length-append steps (one ∷ []) in
    omega (arith, number, long)

read_step : (text bounds : List ℕ) (at : ℕ) (steps more after : List StepCorners) (one : StepCorners) (all now : Bool) → length steps + 1 ≡ at → more ≡ steps ++ one ∷ [] →
    after ≡ more → now ≡ all → (all ≡ true → ReadsEach text bounds steps) → Reads (steps_line text bounds (at - 1) at) one → Holds text bounds at after now
read_step text bounds at steps more after one all now number is same known_is reads last = record {
  number = number_more steps after one at number (same ∙ is);
  reads = λ known. each_more (λ k c. Reads (steps_line text bounds k (k + 1)) c) steps after one (same ∙ is) (reads (sym known_is ∙ known)) here;
}
  where
    first : at - 1 ≡ length steps
    first = omega (arith, number)

    here : Reads (steps_line text bounds (length steps) (length steps + 1)) one
    here =
        subst (λ (n : ℕ). Reads (steps_line text bounds (length steps) n) one) (sym number) (subst (λ (n : ℕ). Reads (steps_line text bounds n at) one) first last)

unread_step : (text bounds : List ℕ) (at : ℕ) (steps more after : List StepCorners) (one : StepCorners) (now : Bool) → length steps + 1 ≡ at → more ≡ steps ++ one ∷ [] →
    after ≡ more → now ≡ false → Holds text bounds at after now
unread_step text bounds at steps more after one now number is same not = record {
  number = number_more steps after one at number (same ∙ is);
  reads = λ known. absurd (cc (sym not ∙ known));
}

pub loop-at-preserved : goal.loop-at-preserved
loop-at-preserved c = elim c.match-corners_of_step.branch [
  | in-Some w ↦ read_step c.args.text.now c.args.bounds.now c.loop-at.at c.loop-at.steps.items w.push.new.self.items c.match-corners_of_step.steps.items w.in-Some.step
      c.loop-at.all c.match-corners_of_step.all c.loop-at.invariant.number w.push.ensures.items (λ i. (w.steps-is i).items) w.all-is c.loop-at.invariant.reads
      (subst (λ (bytes : List ℕ). Reads (map (read_byte AsWritten) bytes) w.in-Some.step) c.stretch.ensures.is w.in-Some.ensures)
  | in-None w ↦ unread_step c.args.text.now c.args.bounds.now c.loop-at.at c.loop-at.steps.items w.push-in-None.new.self.items c.match-corners_of_step.steps.items w.nothing.result
      c.match-corners_of_step.all c.loop-at.invariant.number w.push-in-None.ensures.items (λ i. (w.steps-is i).items) w.all-is
]

pub returns-clause-are : goal.returns-clause-are
returns-clause-are c known = record {
  number = omega (arith, c.loop-at.invariant.number, c.loop-at.auto.at-end, c.loop-at-test.false, c.requires.few);
  are_bounds = c.requires.bounds;
  reads = c.loop-at.invariant.reads known;
}
