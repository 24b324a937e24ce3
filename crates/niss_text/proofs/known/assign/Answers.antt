use Rattle.std.proofs.Common.{length, refl, arith, rules}
use Rattle.niss_text.proofs.KnownLemmas.{IsTold, IsFull, known_none, known_next, lines_stay, own_in_order, own_by_number, full_in_order, full_by_number, each_next, rest_next, are_apart, are_assigned}
use Rattle.niss_text.proofs.NameLemmas.{named_next}
use Rattle.niss_text.proofs.TellLemmas.{parts_stay}
use Rattle.niss_text.proofs.known.assign.Goals.{then-is_in_order, else-is_in_order}
use Rattle.niss_text.proofs.known.assign.Goals as goal

pub loop-at-init : goal.loop-at-init
loop-at-init c = record {
  within = omega arith;
  known = known_none (length c.count_numbers.new.counts);
  rest = λ k none le. refl;
  own = λ k none lt. absurd (omega (arith, lt));
  all = λ k none lt. absurd (omega (arith, lt));
  named = λ k none. (refl, refl);
  told = λ text told to far. far;
  lines = λ to far. far;
}

pub loop-at-preserved : goal.loop-at-preserved
loop-at-preserved c =
    let inv = c.loop-at.invariant in
    let own : IsTold c.args.is_in_order c.args.parts.now c.count_numbers.new.counts c.loop-at.at c.scramble_of.result =
    elim c.if-is_in_order.branch [
      | then-is_in_order w ↦ own_in_order c.args.is_in_order c.args.parts.now c.loop-at.parts c.count_numbers.new.counts c.loop-at.at
          c.scramble_of.result _ c.if-is_in_order.place w.if-is_in_order.true w.place-is c.scramble_of.ensures.own
      | else-is_in_order w ↦ own_by_number c.args.is_in_order c.args.parts.now c.loop-at.parts c.count_numbers.new.counts c.loop-at.at
          c.scramble_of.result _ c.if-is_in_order.place w.if-is_in_order.false w.place-is c.loop-at-test.true (λ d. inv.rest c.loop-at.at d (omega arith)) c.scramble_of.ensures.own
    ] in
    let all : IsFull c.args.is_in_order c.args.parts.now c.count_numbers.new.counts c.loop-at.at c.scramble_of.result =
    elim c.if-is_in_order.branch [
      | then-is_in_order w ↦ full_in_order c.args.is_in_order c.args.parts.now c.loop-at.parts c.count_numbers.new.counts c.loop-at.at
          c.scramble_of.result _ c.if-is_in_order.place w.if-is_in_order.true w.place-is c.scramble_of.ensures.told
      | else-is_in_order w ↦ full_by_number c.args.is_in_order c.args.parts.now c.loop-at.parts c.count_numbers.new.counts c.loop-at.at
          c.scramble_of.result _ c.if-is_in_order.place w.if-is_in_order.false w.place-is c.loop-at-test.true (λ d. inv.rest c.loop-at.at d (omega arith)) c.scramble_of.ensures.told
    ] in
    record {
      within = search rules;
      known = known_next (length c.count_numbers.new.counts) c.loop-at.parts c.loop-at.at _ c.loop-at-test.true inv.known c.scramble_of.ensures.known;
      rest = rest_next c.args.parts.now c.loop-at.parts c.loop-at.at _ inv.rest;
      own = each_next (λ k s. IsTold c.args.is_in_order c.args.parts.now c.count_numbers.new.counts k s) c.loop-at.parts c.loop-at.at _ c.loop-at-test.true inv.own own;
      all = each_next (λ k s. IsFull c.args.is_in_order c.args.parts.now c.count_numbers.new.counts k s) c.loop-at.parts c.loop-at.at _ c.loop-at-test.true inv.all all;
      named = named_next c.args.parts.now c.loop-at.parts c.loop-at.at c.scramble_of.result _ c.loop-at-test.true inv.named;
      told = λ text told to far. parts_stay text told 0 c.loop-at.parts to c.loop-at.at c.scramble_of.result _ (inv.told text told to far);
      lines = λ to far. lines_stay 0 c.loop-at.parts to c.loop-at.at c.scramble_of.result _ (inv.lines to far);
    }

pub returns-clause-apart : goal.returns-clause-apart
returns-clause-apart c =
    let inv = c.loop-at.invariant in
    are_apart c.args.is_in_order c.args.parts.now c.loop-at.parts c.count_numbers.new.counts c.loop-at.auto.parts c.count_numbers.ensures.once
    (λ k none lt. inv.own k none (omega (arith, lt, c.loop-at-test.false)))

pub returns-clause-own : goal.returns-clause-own
returns-clause-own c = λ none.
    let inv = c.loop-at.invariant in
    are_assigned c.args.is_in_order c.args.parts.now c.loop-at.parts c.count_numbers.new.counts (length c.args.counts.now) none c.loop-at.auto.parts c.count_numbers.auto.counts
    c.count_numbers.ensures.once c.count_numbers.ensures.alone
    (λ k d lt. inv.own k d (omega (arith, lt, c.loop-at-test.false))) (λ k d lt. inv.all k d (omega (arith, lt, c.loop-at-test.false)))
