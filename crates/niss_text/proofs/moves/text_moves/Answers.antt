use Rattle.std.proofs.Common.{◌≡◌, ℕ, ◌∙◌, true, [], ◌∷◌, length, take, drop, refl, sym, ap, subst, arith, rules}
use Rattle.std.proofs.lemmas.List.{nil_from_length}
use Rattle.std.specs.List.{filter}
use Rattle.niss_text.specs.declared.moves.MovesOf.{MovesOf}
use Rattle.niss_text.specs.declared.text_line.TextLine.{TextLine}
use Rattle.niss_text.specs.Moves.{AreJoined, is_wanted}
use Rattle.niss_text.proofs.PlainLemmas.{later_behind}
use Rattle.niss_text.proofs.MovesLemmas.{no_line, one_joined, all_joined, most_with, count_with, behind_more}
use Rattle.niss_text.proofs.moves.text_moves.Goals as goal

pub loop-line-init : goal.loop-line-init
loop-line-init c =
    let none : c.new.result.length ≡ 0 = c.new.ensures.0 in
    record {
      gap = c.gap.ensures;
      joined = λ room. no_line c.args.text.now c.args.of c.args.lines.now (take c.new.result.length c.args.out.now)
          (take c.new.result.length c.args.places.now) c.none.result c.args.parts.now (ap (λ n. take n c.args.out.now) none) (ap (λ n. take n c.args.places.now) none) c.none.ensures;
      spent = omega arith;
      room = λ one two. c.new.ensures.1;
      fits = omega arith;
      fits_places = omega arith;
      behind = refl;
      behind_places = refl;
      counted = omega arith;
      few = omega arith;
      behind_parts = refl;
    }

pub loop-line-preserved : goal.loop-line-preserved
loop-line-preserved c =
    let is : c.loop-line.rest.now ≡ c.in-Some.line.now ∷ c.in-Some.others.now = search rules in
    let wanted : is_wanted c.args.of c.in-Some.line.now ≡ true = sym c.has.ensures ∙ c.if-not-has.false in
    let line : TextLine = c.in-Some.line.now in
    let more = c.with_line-joined.ensures in
    let inv = c.loop-line.invariant in
    let same : length c.with_line-joined.new.out ≡ length c.loop-line.out = c.with_line-joined.auto.out in
    let same_places : length c.with_line-joined.new.places ≡ length c.loop-line.places = c.with_line-joined.auto.places in
    let most = most_with c.args.of c.loop-line.rest.now c.in-Some.others.now line is wanted in
    record {
      gap = more.gap ∙ inv.gap;
      joined = λ room. one_joined c.args.text.now c.args.of c.args.lines.now c.loop-line.rest.now c.in-Some.others.now line
          c.loop-line.joined.gap c.loop-line.joined.before c.with_line-joined.result.before
          (take c.loop-line.joined.pen.length c.loop-line.out) (take c.with_line-joined.result.pen.length c.with_line-joined.new.out)
          (take c.loop-line.joined.pen.length c.loop-line.places) (take c.with_line-joined.result.pen.length c.with_line-joined.new.places)
          c.loop-line.joined.left_out c.with_line-joined.result.left_out c.loop-line.count c.loop-line.parts c.put_part.new.parts c.with_line-joined.result.last
          inv.gap is wanted (inv.joined (more.had room)) (more.adds room) more.before c.put_part.ensures;
      spent = omega (arith, most, more.further.1, inv.spent);
      room = λ one two. more.room (inv.room (omega (arith, same)) (omega (arith, same_places))) (omega (arith, most, inv.spent, same)) (omega (arith, most, inv.spent, same_places));
      fits = omega (arith, more.within.0, same);
      fits_places = omega (arith, more.within.1, same_places);
      behind = later_behind c.loop-line.joined.pen.length c.with_line-joined.result.pen.length c.loop-line.out c.with_line-joined.new.out c.args.out.now
          more.further.0 more.behind inv.behind;
      behind_places = later_behind c.loop-line.joined.pen.length c.with_line-joined.result.pen.length c.loop-line.places c.with_line-joined.new.places
          c.args.places.now more.further.0 more.behind_places inv.behind_places;
      counted = omega (arith, inv.counted, count_with c.args.of c.loop-line.rest.now c.in-Some.others.now line is wanted);
      few = omega (arith, inv.few, ap length is);
      behind_parts = behind_more c.loop-line.parts c.put_part.new.parts c.args.parts.now c.loop-line.count c.with_line-joined.result.last c.put_part.ensures inv.behind_parts;
    }

pub returns : goal.returns
returns c =
    let of : MovesOf = c.args.of in
    let inv = c.loop-line.invariant in
    let far : ℕ = c.loop-line.joined.pen.length in
    let long : c.written.result.length ≡ far = c.written.ensures.length in
    let none : c.loop-line.rest.now ≡ [] = nil_from_length c.loop-line.rest.now c.in_default.ensures.cases in
    let joined = λ (room : c.loop-line.joined.pen.has_room ≡ true).
    all_joined c.args.text.now of c.args.lines.now c.loop-line.rest.now c.loop-line.joined.before (take far c.loop-line.out) (take far c.loop-line.places)
    c.loop-line.joined.left_out c.loop-line.count c.loop-line.parts none (inv.joined room) in
    let left : length (filter (is_wanted of) c.loop-line.rest.now) ≡ 0 = ap (λ v. length (filter (is_wanted of) v)) none in
    let all : c.loop-line.count ≡ length (filter (is_wanted of) c.args.lines.now) = omega (arith, inv.counted, left) in
    record {
      joins = λ done. (
        c.loop-line.joined.left_out,
        sym c.written.ensures.left,
        subst (λ (k : ℕ). AreJoined c.args.text.now of c.args.lines.now (take c.written.result.length c.loop-line.out)
            (take c.written.result.length c.loop-line.places) c.loop-line.joined.left_out k c.loop-line.parts) c.loop-line.auto.parts
            (subst (λ (n : ℕ). AreJoined c.args.text.now of c.args.lines.now (take n c.loop-line.out) (take n c.loop-line.places) c.loop-line.joined.left_out
            (length c.loop-line.parts) c.loop-line.parts) (sym long) (joined (c.written.ensures.room done))),
      );
      room = λ one two. c.written.ensures.done (inv.room (omega (arith, one, c.loop-line.auto.out)) (omega (arith, two, c.loop-line.auto.places)));
      known = c.written.ensures.known;
      within = (omega (arith, long, inv.fits, c.loop-line.auto.out), omega (arith, long, inv.fits_places, c.loop-line.auto.places));
      behind = ap (λ n. drop n c.loop-line.out) long ∙ inv.behind ∙ ap (λ n. drop n c.args.out.now) (sym long);
      behind_places = ap (λ n. drop n c.loop-line.places) long ∙ inv.behind_places ∙ ap (λ n. drop n c.args.places.now) (sym long);
      behind_parts = ap (λ n. drop n c.loop-line.parts) (sym all) ∙ inv.behind_parts ∙ ap (λ n. drop n c.args.parts.now) all;
    }
