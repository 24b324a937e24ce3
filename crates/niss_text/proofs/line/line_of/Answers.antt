use Rattle.std.proofs.Common.{◌≡◌, ◌<◌, length, drop, get_or, true, ap, ◌∙◌, rules, arith}
use Rattle.niss_text.proofs.LayerLemmas.{none_at_end}
use Rattle.niss_text.proofs.KeptLemmas.{kept_blank, kept_headed}
use Rattle.niss_text.specs.Doubts.{is_capital}
use Rattle.niss_text.specs.declared.line.Head.TheVariants.{None as NoHead}
use Rattle.niss_text.proofs.CommentLemmas.{first_capital, moves_zero, stands_within}
use Rattle.niss_text.proofs.line.line_of.Goals as goal

pub returns-then-begin-line-clause-kept : goal.returns-then-begin-line-clause-kept
returns-then-begin-line-clause-kept c =
    let bare = c.bare-then-begin-line in
    kept_blank c.args.line.now bare.result.head bare.result.label_begin bare.result.label_end bare.result.moves c.margin-begin.result bare.ensures.head
    bare.ensures.label.0 bare.ensures.label.1.0 bare.ensures.label.1.1 c.margin-begin.ensures.empty

pub returns-then-seen-clause-kept : goal.returns-then-seen-clause-kept
returns-then-seen-clause-kept c =
    let seen = c.headed_line-seen in
    kept_headed c.args.line.now c.from_place.result.now c.margin-begin.result c.head_of-kind.result.1 seen.result.head seen.result.label_begin
    seen.result.label_end seen.result.moves seen.ensures.head c.margin-begin.ensures.empty c.from_place.ensures c.head_of-kind.ensures.words
    seen.ensures.margin seen.ensures.title

pub returns-then-is_bare-clause-comment : goal.returns-then-is_bare-clause-comment
returns-then-is_bare-clause-comment c = none_at_end c.args.line.now c.bare.result.comment (omega (arith, c.bare.ensures.comment))

pub returns-then-begin-line-clause-comment : goal.returns-then-begin-line-clause-comment
returns-then-begin-line-clause-comment c =
    let bare = c.bare-then-begin-line in
    none_at_end c.args.line.now bare.result.comment (omega (arith, bare.ensures.comment, c.if-begin-line.true))

pub returns-then-begin-line-clause-commented : goal.returns-then-begin-line-clause-commented
returns-then-begin-line-clause-commented c = λ count before.
    let none : c.margin-begin.result ≡ 0 =
    moves_zero c.args.line.now c.margin-begin.result (first_capital c.args.line.now count before.moves) c.margin-begin.ensures.empty in
    let within : count < length c.args.line.now = stands_within c.args.line.now count 47 before.slashes.0 (omega arith) in
    absurd (omega (arith, none, within, c.if-begin-line.true))

pub returns-then-seen-clause-commented : goal.returns-then-seen-clause-commented
returns-then-seen-clause-commented c = λ count before.
    let capital : is_capital (get_or c.args.line.now 0 0) ≡ true = first_capital c.args.line.now count before.moves in
    let none : c.margin-begin.result ≡ 0 = moves_zero c.args.line.now c.margin-begin.result capital c.margin-begin.ensures.empty in
    let same : c.from_place.result.now ≡ c.args.line.now = c.from_place.ensures ∙ ap (λ n. drop n c.args.line.now) none in
    let bare : c.head_of-kind.result.0 ≡ NoHead =
    c.head_of-kind.ensures.none (ap (λ v. is_capital (get_or v 0 0)) same ∙ capital) in
    absurd (search (rules, bare))
