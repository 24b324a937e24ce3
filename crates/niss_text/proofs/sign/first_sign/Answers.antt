use Rattle.std.proofs.Common.{get_or}
use Rattle.niss_text.proofs.SignLemmas.{begins_none, two_none, three_none}
use Rattle.niss_text.proofs.sign.first_sign.Goals as goal

pub returns-then-text-ne13-clause-kept : goal.returns-then-text-ne13-clause-kept
returns-then-text-ne13-clause-kept c = λ is.
    let text = c.args.text.now in
    begins_none text c.requires (c.kind_of_byte.ensures.kept is)
    (λ lt. two_none (get_or text 0 0) (get_or text 1 0) c.if-text-lt128.true c.if-text-ne13.true)
    (λ lt. three_none (get_or text 0 0) (get_or text 1 0) (get_or text 2 0) c.if-text-lt128.true)
