use Rattle.std.proofs.Common.{◌≡◌, ℕ, List, length, take, get_or, sym, subst, ap, ◌∙◌, arith}
use Rattle.std.proofs.lemmas.Bool.{false≢true}
use Rattle.std.proofs.lemmas.List.{get_or-take, length-take-le}
use Rattle.niss_text.specs.Kept.{AreInNotation}
use Rattle.niss_text.proofs.StopLemmas.{moves_begin_high}
use Rattle.niss_text.proofs.full_stop.stop_after_moves.Goals as goal

pub returns-then-end-line-clause-all : goal.returns-then-end-line-clause-all
returns-then-end-line-clause-all c = λ count is.
    omega (arith, c.if-end-line.true, is.last, c.before_stop-end.ensures.last count is.last is.stop)

pub returns-then-not-has_blank-clause-all : goal.returns-then-not-has_blank-clause-all
returns-then-not-has_blank-clause-all c = λ count is.
    let line : List ℕ = c.args.line.now in
    let end : ℕ = c.before_stop-end.result in
    let same : end ≡ count = c.before_stop-end.ensures.last count is.last is.stop in
    let long : length (take end line) ≡ end = length-take-le end line c.before_stop-end.ensures.fits in
    let plain : AreInNotation (take end line) = subst (λ n. AreInNotation (take n line)) (sym same) is.moves in
    let first = moves_begin_high (take end line) plain in
    let whole : c.trimmed-moves.result.now ≡ take end line = c.trimmed-moves.ensures.begun first.0 first.1 in
    false≢true (sym c.if-not-has_blank.true ∙ c.has_blank.ensures is.several.0 (omega (arith, is.several.1, same, long, ap length whole))
    (ap (λ v. get_or v is.several.0 0) whole ∙ get_or-take end line is.several.0 0 (omega (arith, is.several.1, same)) ∙ is.several.2))

pub returns-then-not-are_plain_moves-clause-all : goal.returns-then-not-are_plain_moves-clause-all
returns-then-not-are_plain_moves-clause-all c = λ count is.
    let line : List ℕ = c.args.line.now in
    let end : ℕ = c.before_stop-end.result in
    let same : end ≡ count = c.before_stop-end.ensures.last count is.last is.stop in
    let plain : AreInNotation (take end line) = subst (λ n. AreInNotation (take n line)) (sym same) is.moves in
    let first = moves_begin_high (take end line) plain in
    false≢true (sym c.if-not-are_plain_moves.true
    ∙ c.are_plain_moves.ensures.plain (subst (λ v. AreInNotation v) (sym (c.trimmed-moves.ensures.begun first.0 first.1)) plain))

pub returns-clause-all : goal.returns-clause-all
returns-clause-all c = λ count is. c.before_stop-end.ensures.last count is.last is.stop
