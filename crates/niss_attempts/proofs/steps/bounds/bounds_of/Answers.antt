use Rattle.std.proofs.Common.{◌≡◌, sym, ap, ◌∙◌, length, arith}
use Rattle.niss_attempts.proofs.PartLemmas.{bracket_after, bounds_to, bounds_passed, bounds_added, bounds_end, bounds_few, are_bounds}
use Rattle.niss_attempts.proofs.steps.bounds.bounds_of.Goals as goal

pub is_end-requires-clause-bracket : goal.is_end-requires-clause-bracket
is_end-requires-clause-bracket c =
    bracket_after c.args.text.now c.loop-at.at c.loop-at.is_open c.is_open_after-is_open.result c.is_open_after-is_open.ensures c.loop-at.invariant.bracket

pub loop-at-preserved-then-not-is_end : goal.loop-at-preserved-then-not-is_end
loop-at-preserved-then-not-is_end c = record {
  bracket = bracket_after c.args.text.now c.loop-at.at c.loop-at.is_open c.is_open_after-is_open.result c.is_open_after-is_open.ensures c.loop-at.invariant.bracket;
  bounds = bounds_passed c.args.text.now c.loop-at.bounds.items c.loop-at.at (sym c.is_end.ensures ∙ c.if-not-is_end.true) c.loop-at.invariant.bounds;
}

pub loop-at-preserved : goal.loop-at-preserved
loop-at-preserved c = record {
  bracket = bracket_after c.args.text.now c.loop-at.at c.loop-at.is_open c.is_open_after-is_open.result c.is_open_after-is_open.ensures c.loop-at.invariant.bracket;
  bounds = bounds_added c.args.text.now c.loop-at.bounds.items c.push_bound.new.bounds.items c.loop-at.at (sym c.is_end.ensures ∙ c.if-not-is_end.false)
      c.push_bound.ensures.room c.push_bound.ensures.full c.loop-at.invariant.bounds;
}

pub returns-clause-are : goal.returns-clause-are
returns-clause-are c =
    let all : c.loop-at.at ≡ length c.args.text.now = omega (arith, c.loop-at.auto.at-end) in
    bounds_end c.args.text.now c.loop-at.bounds.items (c.loop-at.invariant.bounds ∙ ap (λ n. bounds_to c.args.text.now n) all)

pub returns-clause-few : goal.returns-clause-few
returns-clause-few c =
    let all : c.loop-at.at ≡ length c.args.text.now = omega (arith, c.loop-at.auto.at-end) in
    rw (bounds_end c.args.text.now c.loop-at.bounds.items (c.loop-at.invariant.bounds ∙ ap (λ n. bounds_to c.args.text.now n) all)) (bounds_few c.args.text.now)

pub returns-clause-bounds : goal.returns-clause-bounds
returns-clause-bounds c =
    let all : c.loop-at.at ≡ length c.args.text.now = omega (arith, c.loop-at.auto.at-end) in
    rw (bounds_end c.args.text.now c.loop-at.bounds.items (c.loop-at.invariant.bounds ∙ ap (λ n. bounds_to c.args.text.now n) all)) (are_bounds c.args.text.now)
