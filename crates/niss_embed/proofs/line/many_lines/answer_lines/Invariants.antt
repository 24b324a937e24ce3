use Rattle.std.proofs.Common.{length}
use Rattle.niss_embed.proofs.ManyLemmas.{Answered}
use Rattle.niss_embed.proofs.line.many_lines.answer_lines.Given as goal

abbrev pub invariant-loop-lines : goal.invariant-loop-lines
invariant-loop-lines g l = Answered (g.Q.Question.answers l.question) l.text l.rest l.lines l.initial.answers l.answers

abbrev pub decreases-loop-lines : goal.decreases-loop-lines
decreases-loop-lines g l = length l.rest
