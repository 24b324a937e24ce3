-- How what a search wrote answers a line.
use Rattle.std.specs.Prelude.{◌↔◌, ◌+◌, ◌≤◌, List, length}
use Rattle.niss_moves.specs.Line.{Spells}
use Rattle.niss_moves.specs.Reader.{read_line}
use Rattle.niss_shell.proofs.Names.{◌≡◌, ℕ, Bool, true, false, Result, Ok, Err, refl, sym, ap, ◌∙◌, subst, IsTrue, Step, Place, Moves}
use Rattle.niss_shell.proofs.Names.{LineCommand, Search, Query, Solutions, NoStart, Stop, Answer, AnswerState, Answers, may_start, home}
use Rattle.niss_shell.proofs.Names.{Delivered, TargetCall, outcome_before}
use Rattle.niss_shell.proofs.Names.{fault_answer, started, searched, answer_from, answer_to, LooksWithinBound, AcceptedLinesAreSolved}
use Rattle.niss_shell.proofs.StateLemmas.{answered as answered_by}

-- a line on whose cube the step may start, or may not

starts : (step : Step) (b : Bool) (e : Place → Place) → IsTrue b → started step b e ≡ Ok e
starts step true e h = refl
starts step false e h = absurd (cc h)

starts_not : (step : Step) (b : Bool) (e : Place → Place) → b ≡ false → started step b e ≡ Err (NoStart step)
starts_not step true e h = absurd (cc h)
starts_not step false e h = refl

found_answer : (step : Step) (query : Query) (n : ℕ) (line : Moves) → IsTrue (may_start step (home line))
    → answer_to (Search step query) n (Ok line) ≡ searched step query (home line)
found_answer step query n line h = ap (answer_from (searched step query) n) (starts step (may_start step (home line)) (home line) h)

unfound_answer : (step : Step) (query : Query) (n : ℕ) (line : Moves) → may_start step (home line) ≡ false
    → answer_to (Search step query) n (Ok line) ≡ fault_answer n (NoStart step)
unfound_answer step query n line h = ap (answer_from (searched step query) n) (starts_not step (may_start step (home line)) (home line) h)

-- the same of the command on the line

module _ {W : Type 0} (call : W → TargetCall → W → Type 0)
    {command : LineCommand Step} (step : Step) (query : Query) (n : ℕ) {line : Moves} (given : Moves) (old new : AnswerState W)
    (searches : command ≡ Search step query) (same : given ≡ line) where
  answered : (r : Result (Unit {0}) Stop) (due : Answer) → answer_to (Search step query) n (Ok given) ≡ due → Answers call due r old new
      → Answers call (answer_to command n (Ok line)) r old new
  answered r due e x = subst (λ a. Answers call a r old new)
      (sym e ∙ ap (λ m. answer_to (Search step query) n (Ok m)) same ∙ ap (λ k. answer_to k n (Ok line)) (sym searches)) x

  pub all_reported : (refused : Bool) (o : Result (Unit {0}) Stop) → o ≡ outcome_before refused (Ok tt) → IsTrue (may_start step (home given))
      → Delivered call refused (searched step query (home given)).output (searched step query (home given)).looks old new
      → Answers call (answer_to command n (Ok line)) o old new
  all_reported refused o f e p =
      answered o (searched step query (home given)) (found_answer step query n given e)
      (answered_by call refused (searched step query (home given)) o old new f p)

  pub not_started : (named : Step) (r : Result (Unit {0}) Stop) → may_start step (home given) ≡ false → named ≡ step
      → Answers call (fault_answer n (NoStart named)) r old new → Answers call (answer_to command n (Ok line)) r old new
  not_started named r e f h =
      answered r (fault_answer n (NoStart named)) (unfound_answer step query n given e ∙ ap (λ s. fault_answer n (NoStart s)) (sym f)) h

-- what `solve` promises of one line
pub accepted_lines :
    ((bytes : List ℕ) (m : Moves) → (read_line bytes ≡ Ok m)
    ↔ (Spells bytes m.normal m.bracketed × (length m.normal + length m.bracketed ≤ 256)))
    → LooksWithinBound → AcceptedLinesAreSolved
accepted_lines is_read within step n i bytes line s fits h =
    let e = (is_read bytes line).1 (s, fits) in
    let a = ap (answer_to (Search step (Solutions n 0)) i) e ∙ found_answer step (Solutions n 0) i line h in
    record {
      text = ap (λ v. v.output) a;
      good = ap (λ v. v.outcome) a;
      looks = ap (λ v. v.looks) a;
      within = within.0 _ _ _ _ n 0;
    }
