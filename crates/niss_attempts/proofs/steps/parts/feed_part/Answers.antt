use Rattle.std.proofs.Common.{ℕ, List, [], map, sym, subst}
use Rattle.niss_moves.specs.Reader.{IsFed}
use Rattle.niss_attempts.specs.declared.steps.reading.Reading.TheVariants.{AsWritten}
use Rattle.niss_attempts.specs.declared.steps.parts.How.{How}
use Rattle.niss_attempts.specs.Parts.{arranged, read_byte}
use Rattle.niss_attempts.proofs.steps.parts.feed_part.Goals as goal

abbrev kept : List ℕ → List ℕ
kept bytes = map (read_byte AsWritten) bytes

pub returns-in-Alone : goal.returns-in-Alone
returns-in-Alone c =
    subst (λ (h : How). IsFed c.feed.new.reader (arranged h (kept c.args.before.now) (kept c.args.own.now) (kept c.args.after.now))) (sym c.in-Alone.is)
    (c.feed.ensures.bytes [] c.requires.new.1)

pub returns-in-LeftOut : goal.returns-in-LeftOut
returns-in-LeftOut c =
    subst (λ (h : How). IsFed c.feed-in-LeftOut-2.new.reader (arranged h (kept c.args.before.now) (kept c.args.own.now) (kept c.args.after.now))) (sym c.in-LeftOut.is)
    (c.feed-in-LeftOut-2.ensures.bytes _ (c.feed-in-LeftOut.ensures.bytes [] c.requires.new.1))

pub returns-in-InBrackets : goal.returns-in-InBrackets
returns-in-InBrackets c =
    subst (λ (h : How). IsFed c.feed-in-InBrackets-2.new.reader (arranged h (kept c.args.before.now) (kept c.args.own.now) (kept c.args.after.now))) (sym c.in-InBrackets.is)
    (c.feed-in-InBrackets-2.ensures.bytes _ (c.feed_step.ensures.bytes _ (c.feed-in-InBrackets.ensures.bytes [] c.requires.new.1)))
