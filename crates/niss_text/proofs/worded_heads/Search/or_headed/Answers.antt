use Rattle.niss_text.specs.Numbers.{number_of_kind}
use Rattle.niss_text.proofs.WordedLemmas.{headed_told}
use Rattle.niss_text.proofs.worded_heads.Search.or_headed.Goals as goal

pub returns-clause-told : goal.returns-clause-told
returns-clause-told c = λ is told.
    let head = c.in-Some.head in
    let seen = c.in-Some.ensures in
    headed_told c.args.self.now.text.now c.args.line.now c.with_head.result head.end (number_of_kind head.kind) is seen.plain seen.commented
    c.with_head.ensures seen.kind seen.some seen.within seen.words seen.rest seen.blank
