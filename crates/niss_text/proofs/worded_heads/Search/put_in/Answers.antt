use Rattle.std.proofs.Common.{length, refl, ◌∙◌, arith}
use Rattle.std.proofs.lemmas.List.{get_or-set_other, length-set}
use Rattle.niss_text.proofs.WordedLemmas.{covers_set, headed_next, headed_none, no_line}
use Rattle.niss_text.proofs.worded_heads.Search.put_in.Goals as goal

pub loop-at-init : goal.loop-at-init
loop-at-init c = record {
  same = refl;
  counted = refl;
  covers = λ far. far;
  only = headed_none c.args.self.now.text.now (length c.args.counts.now) c.args.lines.now;
  rest = λ k none le. refl;
}

pub loop-at-preserved : goal.loop-at-preserved
loop-at-preserved c =
    let now = c.loop-at in
    let text = c.args.self.now.text.now in
    let it = c.or_headed-below.result.0 in
    let told = c.or_headed-below.ensures in
    let was = now.invariant in record {
      same = length-set now.lines now.at it ∙ was.same;
      counted = c.or_headed-below.auto.counts ∙ was.counted;
      covers = λ far. covers_set text 0 now.lines (length text) now.at no_line it (was.covers far) told.line told.told told.end;
      only = headed_next text (length c.args.counts.now) (length now.counts) c.args.lines.now now.lines now.at no_line it c.loop-at-test.true was.counted
          was.only (λ d. was.rest now.at d (omega arith)) told.only;
      rest = λ k none le. get_or-set_other now.lines now.at k it none (λ e. absurd (omega (arith, e, le))) ∙ was.rest k none (omega (arith, le));
    }
