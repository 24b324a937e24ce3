use Rattle.niss_embed.proofs.ManyLemmas.{answered_more}
use Rattle.niss_embed.proofs.line.many_lines.answer_lines.Goals as goal

pub loop-lines-preserved : goal.loop-lines-preserved
loop-lines-preserved g c =
    answered_more (g.Q.Question.answers c.args.question.now) c.args.text.now c.loop-lines.rest.now c.in-Some.line.now c.in-Some.after.now c.loop-lines.lines
    c.args.answers.now c.loop-lines.answers c.loop-lines.invariant c.in-Some.ensures.0 c.in-Some.ensures.1 c.in-Some.ensures.2 c.ask.result
    c.loop-lines-test.true c.ask.ensures
