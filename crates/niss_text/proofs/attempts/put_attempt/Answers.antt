use Rattle.std.proofs.Common.{◌≡◌, ◌+◌, ◌<◌, ◌≤◌, ℕ, List, length, take, drop, set, slice_range, sym, ap, ◌∙◌, subst, arith, ◌-◌, ◌&&◌, nat_le, if◌then◌else◌, Bool, true, Option, get_or, refl, rules}
use Rattle.std.proofs.lemmas.List.{length-set, length-drop, take-set-le, length-take-le, get_or-set_same, get_or-take}
use Rattle.niss_text.specs.declared.text_line.TextLine.{TextLine}
use Rattle.niss_text.specs.Numbers.{number_of_kind}
use Rattle.niss_text.specs.Groups.{AreBelow, IsFresh, Goes, is_that}
use Rattle.niss_text.specs.declared.groups.Group.{Group}
use Rattle.niss_text.specs.declared.line.Line.{Line}
use Rattle.niss_text.proofs.ToldLemmas.{StandsAt, IsSeen, HasKind, SaysOf, is_told}
use Rattle.niss_text.specs.Lines.{IsLine, IsTold, IsUnbroken, IsEnd, Covers, Counts, TakesBy, Remain, AreNumbered, Begins, BeginNumbered, end_size}
use Rattle.niss_text.proofs.LineLemmas.{covers_next, counts_next, numbered_next, one_more, same_behind_line}
use Rattle.niss_text.proofs.PassedLemmas.{remain_next}
use Rattle.niss_text.proofs.TakesLemmas.{takes_next, numbered_on}
use Rattle.niss_text.proofs.GroupedLines.{KindAt, SoFar, IsLast, begun_so_far}
use Rattle.niss_text.proofs.GroupLemmas.{group_grows, grows_little, last_is, so_far_memory, so_far_next}
use Rattle.niss_text.proofs.attempts.put_attempt.Goals as goal

pub loop-at-init : goal.loop-at-init
loop-at-init c = record {
  within = omega arith;
  more = omega arith;
  few = omega arith;
  covers = search rules;
  takes = search rules;
  kept = refl;
  counts = search rules;
  remain = search rules;
  first = search rules;
  numbers = search rules;
  first_on = search rules;
  numbers_on = search rules;
  begins = search rules;
  in_order = search rules;
  fresh = λ le. c.first-group.ensures;
  numbered = omega (arith, c.first-group.ensures.number);
  begun = λ none. (refl, refl);
  some = λ lt. absurd (omega (arith, lt));
  last = λ lt. absurd (omega (arith, lt));
  groups = λ below grouped. begun_so_far (take c.args.written c.args.lines.now) c.args.attempt.now.number c.args.attempt.now.solution c.first-group.result
      c.args.attempt.now.scramble_end below grouped;
  behind = refl;
}

pub loop-at-preserved : goal.loop-at-preserved
loop-at-preserved c =
    let text : List ℕ = c.args.text.now in
    let lines : List TextLine = c.loop-at.lines in
    let count : ℕ = c.loop-at.count in
    let now : ℕ = c.args.begin + c.loop-at.at in
    let size : ℕ = c.cut_line-whole.result.0.length in
    let whole : ℕ = c.cut_line-whole.result.1 in
    let told : TextLine = c.judged-told.result in
    let inv = c.loop-at.invariant in
    let rest : c.from_place-rest.result.now ≡ drop now text = c.from_place-rest.ensures in
    let e : c.put_line.new.lines ≡ set lines count told = c.put_line.ensures in
    let same : length c.put_line.new.lines ≡ length lines = ap length e ∙ length-set lines count told in
    let begins : IsLine now told = subst (λ (n : ℕ). IsLine n told) c.told_line-told.ensures.is.begins c.judged-told.ensures.is in
    let some : 0 < whole = c.cut_line-whole.ensures.some in
    let seen : Line = c.cut_line-whole.result.0 in
    let cut = c.cut_line-whole.ensures in
    let shown = c.told_line-told.ensures in
    let placed = c.judged-told.ensures.placed in
    let kind : told.kind ≡ number_of_kind c.kind_at.result = placed.kind ∙ shown.kind ∙ ap number_of_kind c.role_of-role.ensures.kind in
    let stands : StandsAt now seen told = record {
      begin = begins.begins;
      head = placed.head ∙ shown.head;
      label_begin = placed.label.0 ∙ shown.label.0;
      label_end = placed.label.1 ∙ shown.label.1;
      moves = placed.moves.0 ∙ shown.moves;
      comment = placed.moves.1 ∙ shown.comment;
      end = c.judged-told.ensures.ends ∙ shown.ends;
    } in
    let is_seen : IsSeen (take size (drop now text)) seen =
    subst (λ (r : List ℕ). IsSeen (take size r) seen) rest (record { labelled = cut.labelled; headed = cut.headed; said = cut.said; kept = cut.kept; blank = cut.blank; alone = cut.alone; comment = cut.comment; uncommented = cut.uncommented; plain = cut.plain; commented = cut.commented }) in
    let has : HasKind seen told.kind = record {
      blank = λ is. c.kind_at.ensures.blank (sym kind ∙ is);
      before = λ is. c.kind_at.ensures.before (sym kind ∙ is);
      note = λ is. c.kind_at.ensures.note (sym kind ∙ is);
    } in
    let as_number : Bool → ℕ = λ b. if b then 1 else 0 in
    let says_of : SaysOf seen told = record {
      headed = placed.flags.1.0 ∙ shown.headed ∙ ap as_number c.role_of-role.ensures.headed;
      says = placed.flags.1.1 ∙ shown.says;
    } in
    let fits : size ≤ length (drop now text) = omega (arith, cut.fits, cut.ends, ap length rest) in
    let is : IsTold text told = is_told text now seen told fits stands is_seen has says_of begins.kind c.judged-told.ensures.doubt c.judged-told.ensures.sided in
    let unbroken : IsUnbroken (drop now text) 0 size = subst (λ (r : List ℕ). IsUnbroken r 0 size) rest c.cut_line-whole.ensures.whole in
    let all : whole ≡ size + end_size (drop now text) size = subst (λ (r : List ℕ). whole ≡ size + end_size r size) rest c.cut_line-whole.ensures.ends in
    let ended : IsEnd (drop now text) size = subst (λ (r : List ℕ). IsEnd r size) rest c.cut_line-whole.ensures.ended in
    let at : ℕ = c.loop-at.at in
    let number : ℕ = c.args.attempt.now.number in
    let own : Option ℕ = c.args.attempt.now.solution in
    let behind : ℕ = c.args.attempt.now.scramble_end in
    let old : Group = c.loop-at.group in
    let group : Group = c.group_at-group.result in
    let goes : behind ≤ at → Goes old group seen = λ le. c.group_at-group.ensures.later le (omega (arith, inv.numbered, inv.within, some, c.cut_line-whole.ensures.fits, ap length rest, length-drop now text)) in
    let grows = group_grows old group seen behind at c.group_at-group.ensures.early goes in
    let kinds : KindAt told.kind seen behind at =
    subst (λ (k : ℕ). KindAt k seen behind at) (sym kind) (record {
      step = c.kind_at.ensures.step;
      early = c.kind_at.ensures.early;
      later = c.kind_at.ensures.later;
      filled = c.kind_at.ensures.filled;
      unfilled = c.kind_at.ensures.unfilled;
      steps = c.kind_at.ensures.steps;
    }) in
    let in_attempt : told.attempt ≡ number = c.judged-told.ensures.attempt ∙ shown.attempt ∙ c.role_of-role.ensures.attempt in
    let in_group : told.group ≡ group.number = placed.group ∙ shown.group ∙ c.role_of-role.ensures.group in
    let by_kind : ℕ → ℕ = λ k. if nat_le 3 k && is_that own group.number then 1 else 0 in
    let solved : told.is_solution ≡ by_kind told.kind = placed.flags.0 ∙ shown.solution ∙ ap as_number c.role_of-role.ensures.solution ∙ ap by_kind (sym kind) in
    let says : seen.is_solution ≡ true → told.says_solution ≡ 1 = λ yes. placed.flags.1.1 ∙ shown.says ∙ ap as_number yes in
    let there : now + whole ≡ c.args.begin + (c.loop-at.at + whole) = omega arith in
    record {
      within = omega (arith, c.cut_line-whole.ensures.fits, ap length rest, length-drop now text, inv.within);
      more = omega (arith, inv.more);
      few = omega (arith, inv.few, some);
      covers = λ begun room.
          subst (λ (n : ℕ). Covers text 0 (take (count + 1) c.put_line.new.lines) n) there
          (subst (λ (ls : List TextLine). Covers text 0 (take (count + 1) ls) (now + whole)) (sym e)
          (covers_next text lines count now size whole told (omega (arith, room, same)) (inv.covers begun (omega (arith, room, same)))
          begins is (c.judged-told.ensures.ends ∙ c.told_line-told.ensures.ends) unbroken all ended));
      takes = λ words from first low begun room.
          subst (λ (n : ℕ). TakesBy words text from (slice_range c.put_line.new.lines first (count + 1)) n) there
          (subst (λ (ls : List TextLine). TakesBy words text from (slice_range ls first (count + 1)) (now + whole)) (sym e)
          (takes_next words text from first lines count now size whole told (omega (arith, low, inv.more)) (omega (arith, room, same))
          (inv.takes words from first low begun (omega (arith, room, same)))
          begins is (c.judged-told.ensures.ends ∙ c.told_line-told.ensures.ends) unbroken all ended));
      kept = ap (λ v. take c.args.written v) e ∙ take-set-le c.args.written lines count told inv.more ∙ inv.kept;
      counts = λ begun. subst (λ (n : ℕ). Counts text 0 (count + 1) n) there
          (counts_next text count now size whole (inv.counts begun) (omega (arith, some, c.cut_line-whole.ensures.fits, ap length rest, length-drop now text)) unbroken ended all);
      remain = λ total end low fits begun. subst (λ (n : ℕ). Remain text total (count + 1) n end) there
          (remain_next text total count now size whole end (omega (arith, low, c.loop-at-test.true)) fits
          (omega (arith, cut.fits, cut.ends, ap length rest, length-drop now text, inv.within)) unbroken ended all
          (inv.remain total end low fits begun));
      first = λ begun here. absurd (omega (arith, here, some));
      numbers = λ begun further room.
          subst (λ (ls : List TextLine). AreNumbered 0 (take (count + 1) ls) (c.args.attempt.now.number + 1)) (sym e)
          (numbered_next lines count c.args.attempt.now.number c.loop-at.at told (omega (arith, room, same))
          (λ here. inv.first begun here (omega (arith, room, same))) (λ later. inv.numbers begun later (omega (arith, room, same)))
          (c.judged-told.ensures.attempt ∙ c.told_line-told.ensures.attempt ∙ c.role_of-role.ensures.attempt));
      first_on = λ seen first low begun here. absurd (omega (arith, here, some));
      numbers_on = λ seen first low begun further room.
          subst (λ (ls : List TextLine). AreNumbered seen (slice_range ls first (count + 1)) (c.args.attempt.now.number + 1)) (sym e)
          (numbered_on seen first lines count c.args.attempt.now.number c.loop-at.at told (omega (arith, low, inv.more)) (omega (arith, room, same))
          (λ here. inv.first_on seen first low begun here (omega (arith, room, same))) (λ later. inv.numbers_on seen first low begun later (omega (arith, room, same)))
          in_attempt);
      begins = λ begun first.
          subst (λ (ls : List TextLine). Begins text (take (count + 1) ls)) (sym e)
          (one_more (λ ls. Begins text ls) lines count told (inv.begins begun first) (λ lt. (
            now + whole,
            covers_next text lines count now size whole told lt (inv.covers (begun (omega (arith, lt, inv.more, c.loop-at.auto.lines))) (omega (arith, lt)))
                begins is (c.judged-told.ensures.ends ∙ c.told_line-told.ensures.ends) unbroken all ended,
          )));
      in_order = λ begun first.
          subst (λ (ls : List TextLine). BeginNumbered (take (count + 1) ls)) (sym e)
          (one_more (λ ls. BeginNumbered ls) lines count told (inv.in_order begun first) (λ lt.
          let fits = begun (omega (arith, lt, inv.more, c.loop-at.auto.lines)) in (
            c.args.attempt.now.number + 1,
            numbered_next lines count c.args.attempt.now.number c.loop-at.at told lt
                (λ here. inv.first fits here (omega (arith, lt))) (λ later. inv.numbers fits later (omega (arith, lt)))
                (c.judged-told.ensures.attempt ∙ c.told_line-told.ensures.attempt ∙ c.role_of-role.ensures.attempt),
          )));
      fresh = λ le. subst (λ (v : Group). IsFresh v) (sym (c.group_at-group.ensures.early (omega (arith, le, some)))) (inv.fresh (omega (arith, le)));
      numbered = omega (arith, inv.numbered, some, grows_little old group grows);
      begun = λ none. absurd (omega (arith, none, some));
      some = λ lt. omega arith;
      last = λ lt room none.
          let one : count ≡ count + 1 - 1 = omega arith in
          let here : get_or c.put_line.new.lines (count + 1 - 1) none ≡ told =
          ap (λ v. get_or v (count + 1 - 1) none) e ∙ ap (λ n. get_or (set lines count told) n none) (sym one)
          ∙ get_or-set_same lines count told none (omega (arith, room, same)) in
          subst (λ (l : TextLine). IsLast number group l) (sym here)
          (last_is number old group seen behind at told inv.fresh c.group_at-group.ensures.early goes kinds in_attempt in_group);
      groups = λ below grouped.
          let far = inv.groups below grouped in
          subst (λ (ls : List TextLine). SoFar (take (count + 1) ls) number own group behind (at + whole)) (sym e)
          (so_far_memory lines count told number own old group behind at (at + whole) (omega arith) grows far (λ room.
          let long : length (take count lines) ≡ count = length-take-le count lines (omega (arith, room)) in
          so_far_next (take count lines) told number own old group seen behind at (at + whole) far inv.fresh
          (λ none. subst (λ (ls : List TextLine). AreBelow number ls) (ap (λ n. take n c.args.lines.now) (sym (inv.begun none).0) ∙ ap (λ v. take count v) (sym (inv.begun none).1)) below)
          (λ lt. omega (arith, long, inv.some lt))
          (λ lt none.
          let place : get_or lines (count - 1) none ≡ get_or (take count lines) (length (take count lines) - 1) none =
          sym (get_or-take count lines (count - 1) none (omega (arith, inv.some lt))) ∙ ap (λ n. get_or (take count lines) (n - 1) none) (sym long) in
          subst (λ (l : TextLine). IsLast number old l) place (inv.last lt (omega (arith, room)) none))
          c.group_at-group.ensures.early goes kinds in_attempt in_group says (omega (arith, some)) solved));
      behind = ap (λ v. drop (count + 1) v) e ∙ same_behind_line lines c.args.lines.now count told inv.behind;
    }
