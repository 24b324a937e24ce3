use Rattle.std.proofs.Common.{ℕ, ◌≡◌, ◌+◌, ◌-◌, inr, List, ◌∷◌, length, take, drop, sym, subst, ap, rules, arith}
use Rattle.niss_text.specs.declared.text_line.TextLine.{TextLine}
use Rattle.niss_text.specs.Known.{IsName, IsNamed}
use Rattle.std.proofs.lemmas.List.Elements.{All-take}
use Rattle.niss_text.proofs.HeadsOfLines.{name_of_lines}
use Rattle.niss_text.proofs.NameLemmas.{named_none, heads_next, numbered_none}
use Rattle.niss_text.specs.Kept.{words_of_any_head}
use Rattle.niss_text.specs.Lines.{CoversBy, end_size}
use Rattle.niss_text.proofs.PartLemmas.{Begins, Further, Since, since_none, since_next, covers_rest, is_read}
use Rattle.niss_text.proofs.PassedLemmas.{covers_order}
use Rattle.niss_text.proofs.parts.first_part.Goals.{else-rest-lines-via-then-rest-lines+else-is_ended_by, else-rest-lines-via-else-rest-lines}
use Rattle.niss_text.proofs.parts.first_part.Goals as goal

pub loop-line-init : goal.loop-line-init
loop-line-init c =
    let none = c.nothing-part.ensures in
    let lines : List TextLine = c.args.lines.now in
    let all : 0 ≡ length lines - length lines = omega arith in
    record {
      within = omega arith;
      rest = ap (λ n. drop n lines) all;
      named = subst (λ n. IsNamed (take n lines) c.nothing-part.result) all (named_none c.nothing-part.result none.none.0 none.name.0 none.name.1);
      numbered = numbered_none c.args.text.now c.nothing-part.result none.number none.name.0 none.name.1;
      first = λ e. none.none.1.0;
      read = λ from far. (
        from,
        far,
        subst (λ n. Since c.args.text.now from n from c.nothing-part.result) all
            (since_none c.args.text.now from c.nothing-part.result none.unbegun none.none.0 none.none.1.0 none.none.1.1 none.name.1),
      );
    }

pub loop-line-preserved : goal.loop-line-preserved
loop-line-preserved c =
    let inv = c.loop-line.invariant in
    let next = c.with-part.ensures in
    let first : c.loop-line.rest.now ≡ c.in-Some.line.now ∷ c.in-Some.others.now = search rules in
    let far = heads_next c.args.lines.now c.loop-line.rest.now c.in-Some.others.now c.in-Some.line.now c.number_of-number.result c.loop-line.part
    c.with-part.result inv.within inv.rest first next.named next.kept next.has inv.named in
    record {
      within = omega (arith, ap length first, inv.within);
      rest = far.1;
      named = far.0;
      numbered = search rules;
      first = λ e. absurd (omega (arith, ap length first, inv.within, e));
      read = λ from far.
          let text : List ℕ = c.args.text.now in
          let line : TextLine = c.in-Some.line.now in
          let others : List TextLine = c.in-Some.others.now in
          let so_far = inv.read from far in
          let here : CoversBy words_of_any_head text so_far.0 (line ∷ others) (length text) =
          subst (λ (ls : List TextLine). CoversBy words_of_any_head text so_far.0 ls (length text)) first so_far.1 in
          let further : Further c.loop-line.part c.with-part.result line = record {
            has = next.has;
            moves = next.moves;
            bare = next.bare;
            under_head = next.under_head;
            first = next.first;
            later = next.later;
            ended = elim c.else-rest-lines.branch [
              | else-rest-lines-via-then-rest-lines+else-is_ended_by w ↦ w.is_ended_by.ensures w.if-is_ended_by.false
              | else-rest-lines-via-else-rest-lines w ↦ inr (inv.first (omega (arith, w.if-rest-lines.false, inv.within)))
            ];
          } in
          let begins : Begins c.loop-line.part c.with-part.result line = record {
            unbegun = next.unbegun;
            begins = next.begins;
            goes_on = next.goes_on;
            named = λ headed none. let name = next.named headed none in (name.0, name.1);
            kept = λ same. let name = next.kept same in (name.0, name.1);
          } in (
            line.end + end_size text line.end,
            covers_rest text so_far.0 line others (length text) here,
            subst (λ n. Since text from n (line.end + end_size text line.end) c.with-part.result) (omega (arith, ap length first, inv.within))
                (since_next text from (length c.args.lines.now - length c.loop-line.rest.now) so_far.0 c.loop-line.part c.with-part.result line others here further begins so_far.2),
          );
    }

pub returns-clause-name : goal.returns-clause-name
returns-clause-name c = λ far.
    let text : List ℕ = c.args.text.now in
    let size : ℕ = length c.args.lines.now - length c.loop-line.rest.now in
    name_of_lines text (take size c.args.lines.now) c.loop-line.part
    (All-take (λ (l : TextLine). IsName text l.begin l.head_end) size c.args.lines.now far) c.loop-line.invariant.named

pub returns-clause-read : goal.returns-clause-read
returns-clause-read c = λ from far.
    let text : List ℕ = c.args.text.now in
    let inv = c.loop-line.invariant in
    let so_far = inv.read from far in
    is_read text from (length c.args.lines.now - length c.loop-line.rest.now) so_far.0 c.place_of.result c.loop-line.part
    (c.place_of.ensures text so_far.0 so_far.1) (covers_order text so_far.0 c.loop-line.rest.now (length text) so_far.1) so_far.2

pub returns-clause-rest : goal.returns-clause-rest
returns-clause-rest c = λ from far.
    let text : List ℕ = c.args.text.now in
    let inv = c.loop-line.invariant in
    let so_far = inv.read from far in
    subst (λ n. CoversBy words_of_any_head text n (drop (length c.args.lines.now - length c.loop-line.rest.now) c.args.lines.now) (length text))
    (sym (c.place_of.ensures text so_far.0 so_far.1)) (subst (λ (ls : List TextLine). CoversBy words_of_any_head text so_far.0 ls (length text)) inv.rest so_far.1)
