use Rattle.std.proofs.Common.{◌≡◌, ℕ, ◌+◌, length, take, slice_range, sym, subst, ◌∙◌, arith}
use Rattle.niss_text.specs.Groups.{AreBelow}
use Rattle.niss_text.specs.Lines.{AreNumbered}
use Rattle.std.proofs.lemmas.Grind.{common_steps}
use Rattle.niss_text.proofs.LineLemmas.{fewer_kept, more_behind, numbered_from_first}
use Rattle.niss_text.proofs.PassedLemmas.{remain_none}
use Rattle.niss_text.proofs.attempts.put_attempts.Goals as goal

pub loop-at-preserved : goal.loop-at-preserved
loop-at-preserved c =
    let inv = c.loop-at.invariant in
    let told = c.put_attempt-more.ensures in
    let same : length c.put_attempt-more.new.lines ≡ length c.loop-at.lines = c.put_attempt-more.auto.lines in
    record {
      here = told.further.1;
      begun = omega (arith, inv.begun, told.further.0);
      within = grind (arith, common_steps);
      more = omega (arith, inv.more, told.more.0);
      few = told.more.1;
      covers = λ begun room. told.covers (inv.covers begun (omega (arith, room, same, told.more.0))) room;
      takes = λ words from first low begun room. told.takes words from first (omega (arith, low, inv.more))
          (inv.takes words from first low begun (omega (arith, room, same, told.more.0))) room;
      kept = fewer_kept c.put_attempt-more.new.lines c.loop-at.lines c.args.so_far.lines c.loop-at.count inv.more told.kept ∙ inv.kept;
      counts = λ begun. told.counts (inv.counts begun);
      remain = λ all begun. told.remain all c.args.end (grind (arith, common_steps)) c.requires.end (inv.remain all begun);
      numbered = λ low. omega (arith, c.saturating_add-attempts.ensures, inv.numbered low, told.further.0);
      numbers = λ begun low room.
          let own : c.first_attempt-attempt.result.number ≡ c.loop-at.attempts = c.first_attempt-attempt.ensures.number in
          let one : c.first_attempt-attempt.result.number + 1 ≡ c.saturating_add-attempts.result =
          omega (arith, own, c.saturating_add-attempts.ensures, inv.numbered low, told.further.0, told.further.1) in
          subst (λ (n : ℕ). AreNumbered 0 (take c.put_attempt-more.result.0 c.put_attempt-more.new.lines) n) one
          (numbered_from_first c.loop-at.lines c.put_attempt-more.new.lines c.loop-at.count c.put_attempt-more.result.0 c.first_attempt-attempt.result.number
          (c.first_attempt-attempt.result.number + 1) (λ first. told.numbers 0 0 (omega arith) first room)
          (subst (λ (n : ℕ). AreNumbered 0 (take c.loop-at.count c.loop-at.lines) n) (sym own)
          (inv.numbers begun low (omega (arith, room, same, told.more.0)))));
      numbered_on = λ low. omega (arith, c.saturating_add-attempts.ensures, inv.numbered_on low, told.further.0);
      numbers_on = λ few seen first low begun room.
          let own : c.first_attempt-attempt.result.number ≡ c.loop-at.attempts = c.first_attempt-attempt.ensures.number in
          let one : c.first_attempt-attempt.result.number + 1 ≡ c.saturating_add-attempts.result =
          omega (arith, own, c.saturating_add-attempts.ensures, inv.numbered_on few, told.further.0, told.further.1) in
          subst (λ (n : ℕ). AreNumbered seen (slice_range c.put_attempt-more.new.lines first c.put_attempt-more.result.0) n) one
          (told.numbers seen first (omega (arith, low, inv.more))
          (subst (λ (n : ℕ). AreNumbered seen (slice_range c.loop-at.lines first c.loop-at.count) n) (sym own)
          (inv.numbers_on few seen first low begun (omega (arith, room, same, told.more.0)))) room);
      begins = λ begun first. told.begins
          (λ fits. inv.covers (begun (omega (arith, fits, inv.more, c.loop-at.auto.lines))) fits) (inv.begins begun first);
      in_order = λ begun low first.
          let own : c.first_attempt-attempt.result.number ≡ c.loop-at.attempts = c.first_attempt-attempt.ensures.number in
          told.in_order (λ fits. subst (λ (n : ℕ). AreNumbered 0 (take c.loop-at.count c.loop-at.lines) n) (sym own)
          (inv.numbers (begun (omega (arith, fits, inv.more, c.loop-at.auto.lines))) low fits)) (inv.in_order begun low first);
      groups = λ low below grouped.
          let own : c.first_attempt-attempt.result.number ≡ c.loop-at.attempts = c.first_attempt-attempt.ensures.number in
          let one : c.first_attempt-attempt.result.number + 1 ≡ c.saturating_add-attempts.result =
          omega (arith, own, c.saturating_add-attempts.ensures, inv.numbered low, told.further.0, told.further.1) in
          let far = inv.groups low below grouped in
          let next = told.groups (subst (λ (n : ℕ). AreBelow n (take c.loop-at.count c.loop-at.lines)) (sym own) far.0) far.1 in
          (subst (λ (n : ℕ). AreBelow n (take c.put_attempt-more.result.0 c.put_attempt-more.new.lines)) one next.0, next.1);
      behind = told.behind ∙ more_behind c.loop-at.lines c.args.lines.now c.loop-at.count c.put_attempt-more.result.0 told.more.0 inv.behind;
    }

pub returns-clause-all : goal.returns-clause-all
returns-clause-all c = λ all begun.
    remain_none c.args.text.now all c.loop-at.count c.loop-at.at c.args.end (c.loop-at.invariant.remain all begun) c.loop-at-test.false
