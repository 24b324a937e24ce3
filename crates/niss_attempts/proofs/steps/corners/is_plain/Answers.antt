use Rattle.std.proofs.Common.{◌∙◌, not, sym, ap}
use Rattle.niss_attempts.proofs.CornerLines.{same_bracket, same_bracket_in_capitals, dropped_bracket}
use Rattle.niss_attempts.proofs.steps.corners.is_plain.Goals as goal

pub returns-in-AsWritten : goal.returns-in-AsWritten
returns-in-AsWritten c = rw c.in-AsWritten.is (ap not (c.has_brackets.ensures ∙ sym (same_bracket c.args.step.now)))

pub returns-in-WithoutBrackets : goal.returns-in-WithoutBrackets
returns-in-WithoutBrackets c = rw c.in-WithoutBrackets.is (ap not (sym (dropped_bracket c.args.step.now)))

pub returns-in-InCapitals : goal.returns-in-InCapitals
returns-in-InCapitals c = rw c.in-InCapitals.is (ap not (c.has_brackets-in-InCapitals.ensures ∙ sym (same_bracket_in_capitals c.args.step.now)))
