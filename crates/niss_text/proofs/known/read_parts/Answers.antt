use Rattle.std.proofs.Common.{◌≡◌, ◌+◌, ◌≤◌, ℕ, List, length, take, slice_range, sym, subst, ap, refl, ◌∙◌, arith}
use Rattle.std.proofs.lemmas.List.Elements.{All-nil}
use Rattle.niss_text.specs.declared.known.KnownPart.{KnownPart}
use Rattle.niss_text.specs.Known.{AreSaid, HasBody, HaveLines, HaveNames, IsName, PartsTake, have_numbers, number_of_name, scramble_with}
use Rattle.niss_text.specs.declared.text_line.TextLine.{TextLine}
use Rattle.niss_text.proofs.HeadsOfLines.{covers_heads}
use Rattle.niss_text.specs.Kept.{words_of_any_head}
use Rattle.niss_text.specs.Lines.{CoversBy, HasNoneBetween, Takes}
use Rattle.niss_text.proofs.PartLemmas.{all_read, body_behind, slice_behind}
use Rattle.niss_text.proofs.PassedLemmas.{between_on, none_between}
use Rattle.niss_text.proofs.KnownLemmas.{lines_none}
use Rattle.niss_text.proofs.LineLemmas.{more_behind}
use Rattle.niss_text.proofs.TakesLemmas.{takes_begun, takes_further}
use Rattle.niss_text.proofs.TellLemmas.{parts_further, parts_none}
use Rattle.niss_text.proofs.known.read_parts.Goals as goal

pub loop-next-init : goal.loop-next-init
loop-next-init c =
    let begin = c.nothing-seen.ensures.begin in
    record {
      at = omega (arith, begin.0);
      within = omega arith;
      same = refl;
      few = omega (arith, c.nothing-seen.ensures.none);
      takes = λ far. subst (λ (n : ℕ). Takes c.args.text.now 0 (take n c.args.lines.now) c.nothing-seen.result.read.at) (sym begin.1)
          (subst (λ (n : ℕ). Takes c.args.text.now 0 (take 0 c.args.lines.now) n) (sym begin.0) (takes_begun c.args.text.now));
      have = λ room. subst (λ (n : ℕ). HaveLines 0 (take n c.args.parts.now) c.nothing-seen.result.read.lines) (sym c.nothing-seen.ensures.none)
          (subst (λ (n : ℕ). HaveLines 0 (take 0 c.args.parts.now) n) (sym begin.1) lines_none);
      says = λ room. subst (λ (n : ℕ). AreSaid c.args.text.now (take n c.args.parts.now)) (sym c.nothing-seen.ensures.none)
          (All-nil (λ (p : KnownPart). p.scramble ≡ scramble_with (number_of_name c.args.text.now p)));
      numbered = λ room. c.nothing-seen.ensures.unnumbered
          ∙ ap (λ (n : ℕ). have_numbers c.args.text.now (take n c.args.parts.now)) (sym c.nothing-seen.ensures.none);
      told = λ far room. subst (λ (n : ℕ). PartsTake c.args.text.now c.args.lines.now 0 (take n c.args.parts.now) c.nothing-seen.result.read.at)
          (sym c.nothing-seen.ensures.none)
          (subst (λ (n : ℕ). PartsTake c.args.text.now c.args.lines.now 0 (take 0 c.args.parts.now) n) (sym begin.0)
          (parts_none c.args.text.now c.args.lines.now 0));
      unread = λ far. record {
        place = 0;
        before = subst (λ (n : ℕ). HasNoneBetween c.args.text.now n 0) (sym begin.0) (none_between words_of_any_head c.args.text.now 0);
        covers = subst (λ (n : ℕ). CoversBy words_of_any_head c.args.text.now 0 (take n c.args.lines.now) (length c.args.text.now)) (omega arith) far;
        few = omega (arith, begin.1);
      };
      names = λ far more. subst (λ (n : ℕ). HaveNames c.args.text.now (take n c.args.parts.now)) (sym c.nothing-seen.ensures.none)
          (All-nil (λ (p : KnownPart). IsName c.args.text.now p.name_begin p.name_end));
      behind = refl;
    }

pub loop-next-preserved-then-is_something : goal.loop-next-preserved-then-is_something
loop-next-preserved-then-is_something c =
    let inv = c.loop-next.invariant in
    let told = c.with-seen.ensures in
    let text : List ℕ = c.args.text.now in
    let first = c.first_part-size.ensures in
    let size : ℕ = c.first_part-size.result.1 in
    let next : ℕ = c.loop-next.next in
    let count : ℕ = c.args.count in
    let same : length c.with-seen.new.lines ≡ length c.loop-next.lines = c.with-seen.auto.lines in
    let rest : count ≤ length c.loop-next.lines = omega (arith, c.requires, inv.same) in
    let within : next + size ≤ count = omega (arith, first.fits, c.loop-next-test.true, rest) in
    let lines : List TextLine = slice_range c.loop-next.lines next count in
    let body : CoversBy words_of_any_head text 0 (take count c.args.lines.now) (length text) → HasBody text c.loop-next.seen.read.at size c.first_part-size.result.0 =
    λ far.
    let unread = inv.unread far in
    body_behind text c.loop-next.seen.read.at unread.place size c.first_part-size.result.0 unread.before
    ((first.read unread.place unread.covers).something (sym c.is_something.ensures ∙ c.if-is_something.true)) in
    record {
      at = told.at;
      within = within;
      same = same ∙ inv.same;
      few = omega (arith, told.one, inv.few, first.some, c.loop-next-test.true, rest);
      takes = λ far. told.takes size (body far) (inv.takes far)
          (omega (arith, (told.ends size (body far)).1, (inv.unread far).few, within, rest, same));
      told = λ far more. told.told size (body far) (inv.have (omega (arith, more, c.with-seen.auto.parts, told.more.0)))
          (inv.told far (omega (arith, more, c.with-seen.auto.parts, told.more.0))) more
          (omega (arith, (told.ends size (body far)).1, (inv.unread far).few, within, rest, same));
      unread = λ far.
          let ends = told.ends size (body far) in
          let unread = inv.unread far in
          let few : c.with-seen.result.read.lines ≤ next + size = omega (arith, ends.1, unread.few) in record {
            place = c.first_part-size.result.0.end;
            before = subst (λ n. HasNoneBetween text n c.first_part-size.result.0.end) (sym ends.0) (none_between words_of_any_head text c.first_part-size.result.0.end);
            covers = subst (λ (ls : List TextLine). CoversBy words_of_any_head text c.first_part-size.result.0.end ls (length text))
                (slice_behind c.loop-next.lines c.with-seen.new.lines next size count within
                (more_behind c.with-seen.new.lines c.loop-next.lines c.with-seen.result.read.lines (next + size) few told.behind))
                (first.rest unread.place unread.covers);
            few = few;
          };
      have = λ room. told.lines (inv.have (omega (arith, room, c.with-seen.auto.parts, told.more.0))) room;
      says = λ room. told.says (inv.says (omega (arith, room, c.with-seen.auto.parts, told.more.0))) first.numbered room;
      numbered = λ room. told.numbered (inv.numbered (omega (arith, room, c.with-seen.auto.parts, told.more.0))) first.numbered room;
      names = λ far more. told.names (inv.names far (omega (arith, more, c.with-seen.auto.parts, told.more.0)))
          (first.name (covers_heads text (inv.unread far).place lines (length text) (inv.unread far).covers (omega arith))) more;
      behind = told.behind_parts ∙ more_behind c.loop-next.parts c.args.parts.now c.loop-next.seen.parts c.with-seen.result.parts told.more.0 inv.behind;
    }

pub loop-next-preserved : goal.loop-next-preserved
loop-next-preserved c =
    let inv = c.loop-next.invariant in
    let text : List ℕ = c.args.text.now in
    let first = c.first_part-size.ensures in
    let size : ℕ = c.first_part-size.result.1 in
    let next : ℕ = c.loop-next.next in
    let count : ℕ = c.args.count in
    let rest : count ≤ length c.loop-next.lines = omega (arith, c.requires, inv.same) in
    let within : next + size ≤ count = omega (arith, first.fits, c.loop-next-test.true, rest) in
    record {
      at = inv.at;
      within = within;
      same = inv.same;
      few = omega (arith, inv.few);
      takes = inv.takes;
      told = inv.told;
      unread = λ far.
          let unread = inv.unread far in record {
            place = c.first_part-size.result.0.end;
            before = between_on text c.loop-next.seen.read.at unread.place c.first_part-size.result.0.end unread.before
                ((first.read unread.place unread.covers).nothing (sym c.is_something.ensures ∙ c.if-is_something.false));
            covers = subst (λ (ls : List TextLine). CoversBy words_of_any_head text c.first_part-size.result.0.end ls (length text))
                (slice_behind c.loop-next.lines c.loop-next.lines next size count within refl) (first.rest unread.place unread.covers);
            few = omega (arith, unread.few);
          };
      have = inv.have;
      says = inv.says;
      numbered = inv.numbered;
      names = inv.names;
      behind = inv.behind;
    }

pub returns-clause-takes : goal.returns-clause-takes
returns-clause-takes c = λ far.
    let inv = c.loop-next.invariant in
    let unread = inv.unread far in
    takes_further c.args.text.now 0 (take c.loop-next.seen.read.lines c.loop-next.lines) c.loop-next.seen.read.at (length c.args.text.now) (inv.takes far)
    (all_read c.args.text.now c.loop-next.seen.read.at unread.place c.loop-next.lines c.loop-next.next c.args.count c.loop-next-test.false unread.before unread.covers)

pub returns-clause-told : goal.returns-clause-told
returns-clause-told c = λ far room.
    let inv = c.loop-next.invariant in
    let unread = inv.unread far in
    parts_further c.args.text.now c.loop-next.lines 0 (take c.loop-next.seen.parts c.loop-next.parts) c.loop-next.seen.read.at (length c.args.text.now) (inv.told far room)
    (all_read c.args.text.now c.loop-next.seen.read.at unread.place c.loop-next.lines c.loop-next.next c.args.count c.loop-next-test.false unread.before unread.covers)

pub returns-clause-few_lines : goal.returns-clause-few_lines
returns-clause-few_lines c = λ far. omega (arith, (c.loop-next.invariant.unread far).few, c.loop-next.invariant.within)
