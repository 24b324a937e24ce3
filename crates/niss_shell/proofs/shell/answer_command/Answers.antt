use Rattle.niss_shell.proofs.Names.{◌≡◌, Ok, refl, sym, ap, ◌∙◌, map, err_from_is_err_and, string_bytes, request_of, requested, OnLines, unsearched, scramble_text}
use Rattle.niss_shell.proofs.RunLemmas.{ends_at_once, runs_usage, runs_unread}
use Rattle.niss_shell.proofs.shell.answer_command.Goals.{in-Invert, in-Unniss, in-Cleanup, in-Print, in-Solve, in-Count, in-Near}
use Rattle.niss_shell.proofs.shell.answer_command.Goals as goal

pub returns-in_default : goal.returns-in_default
returns-in_default g c = runs_usage g.R.Source.call g.W.Target.call _ _ c.in_default.ensures c.requires

pub returns-in-Scramble : goal.returns-in-Scramble
returns-in-Scramble g c = runs_unread g.R.Source.call g.W.Target.call _ _ _ _ _
    (c.in-Ok.ensures.0 ∙ ap (λ k. Ok (requested k)) c.in-Scramble.is) (λ r. cc r)
    (ap (λ x. unsearched (scramble_text c.in-Scramble.length c.in-Scramble.count x) (Ok tt)) (sym c.new.ensures))
    (c.write_scrambles.ensures.answers c.args.looks.now) c.write_scrambles.ensures.empty

pub returns-in-Steps : goal.returns-in-Steps
returns-in-Steps g c = runs_unread g.R.Source.call g.W.Target.call _ _ _ _ _ (c.in-Ok.ensures.0 ∙ ap (λ k. Ok (requested k)) c.in-Steps.is) (λ r. cc r) refl
    (c.write_steps.ensures.answers c.args.looks.now) c.write_steps.ensures.empty

pub returns-in_err-prepared : goal.returns-in_err-prepared
returns-in_err-prepared g c =
    let p = err_from_is_err_and c.from_residual.result c.from_residual.ensures.1 in
    let asked : request_of (map string_bytes c.args.words.now) ≡ Ok (OnLines c.match-command.command.0 (map string_bytes c.match-command.command.1.now)) =
    elim c.match-command.branch [
      | in-Invert w ↦ rw w.command-is (c.in-Ok.ensures.0 ∙ ap (λ k. Ok (requested k)) w.in-Invert.is)
      | in-Unniss w ↦ rw w.command-is (c.in-Ok.ensures.0 ∙ ap (λ k. Ok (requested k)) w.in-Unniss.is)
      | in-Cleanup w ↦ rw w.command-is (c.in-Ok.ensures.0 ∙ ap (λ k. Ok (requested k)) w.in-Cleanup.is)
      | in-Print w ↦ rw w.command-is (c.in-Ok.ensures.0 ∙ ap (λ k. Ok (requested k)) w.in-Print.is)
      | in-Solve w ↦ rw w.command-is (c.in-Ok.ensures.0 ∙ ap (λ k. Ok (requested k)) w.in-Solve.is)
      | in-Count w ↦ rw w.command-is (c.in-Ok.ensures.0 ∙ ap (λ k. Ok (requested k)) w.in-Count.is)
      | in-Near w ↦ rw w.command-is (c.in-Ok.ensures.0 ∙ ap (λ k. Ok (requested k)) w.in-Near.is)
    ] in
    rw (p.1, p.2, asked) (ends_at_once g.R.Source.call g.W.Target.call _ c.in_err-prepared.field-0.0 c.args.source.now _ c.requires c.in_err-prepared.ensures.refused)

pub returns : goal.returns
returns g c =
    let asked : request_of (map string_bytes c.args.words.now) ≡ Ok (OnLines c.match-command.command.0 (map string_bytes c.match-command.command.1.now)) =
    elim c.match-command.branch [
      | in-Invert w ↦ rw w.command-is (c.in-Ok.ensures.0 ∙ ap (λ k. Ok (requested k)) w.in-Invert.is)
      | in-Unniss w ↦ rw w.command-is (c.in-Ok.ensures.0 ∙ ap (λ k. Ok (requested k)) w.in-Unniss.is)
      | in-Cleanup w ↦ rw w.command-is (c.in-Ok.ensures.0 ∙ ap (λ k. Ok (requested k)) w.in-Cleanup.is)
      | in-Print w ↦ rw w.command-is (c.in-Ok.ensures.0 ∙ ap (λ k. Ok (requested k)) w.in-Print.is)
      | in-Solve w ↦ rw w.command-is (c.in-Ok.ensures.0 ∙ ap (λ k. Ok (requested k)) w.in-Solve.is)
      | in-Count w ↦ rw w.command-is (c.in-Ok.ensures.0 ∙ ap (λ k. Ok (requested k)) w.in-Count.is)
      | in-Near w ↦ rw w.command-is (c.in-Ok.ensures.0 ∙ ap (λ k. Ok (requested k)) w.in-Near.is)
    ] in
    rw (asked, ← c.in_ok-prepared.ensures.command) (c.answer.ensures _ c.in_ok-prepared.ensures.input)
