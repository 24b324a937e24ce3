use Rattle.std.proofs.Common.{ap, List, ◌∙◌, Bool, true, false, Some, length, sym, subst, arith}
use Rattle.niss_text.specs.declared.text_line.TextLine.{TextLine}
use Rattle.niss_attempts.specs.Another.{begun_in}
use Rattle.niss_attempts.proofs.AttemptRuns.{lines_from}
use Rattle.niss_attempts.proofs.TriedLemmas.{tries_first, tries_more, tries_passed}
use Rattle.niss_attempts.proofs.doubts.another.first_begun.Goals as goal

pub loop-at-preserved-then-not-is_tried : goal.loop-at-preserved-then-not-is_tried
loop-at-preserved-then-not-is_tried g c = record {
  tries = tries_passed (g.S.Sought.is_possible c.args.sought.now c.args.lines.now) (g.S.Sought.tells c.args.sought.now c.args.lines.now)
      c.loop-at.at c.loop-at.tried (sym c.is_tried.ensures ∙ c.if-not-is_tried.true) c.loop-at.invariant.tries;
  room = c.loop-at.invariant.room;
  places = c.loop-at.invariant.places;
}

pub returns-then-branch-clause-is : goal.returns-then-branch-clause-is
returns-then-branch-clause-is g c = record {
  first = Some c.loop-at.at;
  is_first = tries_first (length c.args.lines.now) (g.S.Sought.is_possible c.args.sought.now c.args.lines.now)
      (g.S.Sought.tells c.args.sought.now c.args.lines.now) c.loop-at.at c.loop-at.tried (omega arith) (sym c.is_tried.ensures ∙ c.if-not-is_tried.false)
      (subst (λ (b : Bool). g.S.Sought.tells c.args.sought.now c.args.lines.now c.loop-at.at b) c.if-branch.true c.in_ok-begins_in.ensures.is)
      c.loop-at.invariant.tries;
  told_is = c.begun_in.ensures ∙ ap (λ (lines : List TextLine). begun_in lines) (lines_from c.args.lines.now c.loop-at.at);
}

pub loop-at-preserved : goal.loop-at-preserved
loop-at-preserved g c = record {
  tries = tries_more (g.S.Sought.is_possible c.args.sought.now c.args.lines.now) (g.S.Sought.tells c.args.sought.now c.args.lines.now)
      c.loop-at.at c.loop-at.tried (sym c.is_tried.ensures ∙ c.if-not-is_tried.false)
      (subst (λ (b : Bool). g.S.Sought.tells c.args.sought.now c.args.lines.now c.loop-at.at b) c.if-branch.false c.in_ok-begins_in.ensures.is)
      c.loop-at.invariant.tries;
  room = omega arith;
  places = omega arith;
}
