use Rattle.std.proofs.Common.{◌≡◌, ◌≤◌, ◌&&◌, ◌==◌, not, ℕ, Bool, List, ◌++◌, length, take, drop, sym, subst, ap, ◌∙◌, arith}
use Rattle.std.proofs.lemmas.List.{length-take-le}
use Rattle.std.proofs.Math.Seq.{take-append_seam}
use Rattle.niss_text.specs.declared.known.KnownPart.{KnownPart}
use Rattle.niss_text.specs.Known.{AreOf, HaveNames, PartsTake, are_in_order, have_numbers}
use Rattle.niss_text.proofs.LineLemmas.{all_covered}
use Rattle.niss_text.proofs.HeadsOfLines.{names_stay}
use Rattle.niss_text.proofs.PassedLemmas.{remain_all}
use Rattle.niss_text.proofs.VanishLemmas.{tells_plain}
use Rattle.niss_text.proofs.NameLemmas.{are_of}
use Rattle.niss_text.proofs.WordedLemmas.{all_headed}
use Rattle.niss_text.proofs.known.known_lines.Goals.{then-not-seen, else-not-seen, then-seen-lines-via-then-seen-lines, then-seen-lines-via-else-seen-lines+then-seen-parts}
use Rattle.niss_text.proofs.known.known_lines.Goals as goal

pub returns-clause-are_of : goal.returns-clause-are_of
returns-clause-are_of c = λ done.
    let text : List ℕ = c.args.text.now in
    let count : ℕ = length c.put_heads.new.counts in
    let seen = c.read_parts-seen in
    let n : ℕ = seen.result.parts in
    let room : n ≤ length seen.new.parts = c.if-seen-parts.false in
    let old : List KnownPart = take n seen.new.parts in
    let new : List KnownPart = c.assign.new.parts in
    let rest : List KnownPart = drop n seen.new.parts in
    let long : length old ≡ n = length-take-le n seen.new.parts room in
    let same_long : length new ≡ length old = c.assign.auto.parts in
    let numbers : seen.result.has_numbers ≡ have_numbers text old = seen.ensures.numbered room in
    let same : (not seen.result.has_numbers && (n == count)) ≡ are_in_order text count old =
    ap (λ (b : Bool). not b && (n == count)) numbers ∙ ap (λ (m : ℕ). not (have_numbers text old) && (m == count)) (sym long) in
    let order : c.if-not-seen.is_in_order ≡ are_in_order text count old = elim c.if-not-seen.branch [
      | then-not-seen w ↦ w.is_in_order-is ∙ sym (ap (λ (b : Bool). b && (n == count)) w.if-not-seen.true) ∙ same
      | else-not-seen w ↦ w.is_in_order-is ∙ w.if-not-seen.false ∙ sym (ap (λ (b : Bool). b && (n == count)) w.if-not-seen.false) ∙ same
    ] in
    let low : count ≤ 18446744073709551615 = omega arith in
    let part : KnownPart = record { scramble = 0; begin = 0; name_begin = 0; name_end = 0; first_line = 0; solution_end = 0; end_line = 0 } in
    let whole : take n (new ++ rest) ≡ new =
    ap (λ m. take m (new ++ rest)) (sym long ∙ sym same_long) ∙ take-append_seam new rest in
    subst (λ (m : ℕ). AreOf text m (take n (new ++ rest))) c.put_heads.auto.counts
    (subst (λ (ps : List KnownPart). AreOf text count ps) (sym whole)
    (are_of text c.if-not-seen.is_in_order count part old new low same_long (seen.ensures.says room) c.assign.ensures.named order
    (c.assign.ensures.own part)))

pub returns-clause-names : goal.returns-clause-names
returns-clause-names c = λ done.
    let text : List ℕ = c.args.text.now in
    let seen = c.read_parts-seen in
    let n : ℕ = seen.result.parts in
    let room : n ≤ length seen.new.parts = c.if-seen-parts.false in
    let old : List KnownPart = take n seen.new.parts in
    let new : List KnownPart = c.assign.new.parts in
    let rest : List KnownPart = drop n seen.new.parts in
    let long : length old ≡ n = length-take-le n seen.new.parts room in
    let same_long : length new ≡ length old = c.assign.auto.parts in
    let part : KnownPart = record { scramble = 0; begin = 0; name_begin = 0; name_end = 0; first_line = 0; solution_end = 0; end_line = 0 } in
    let whole : take n (new ++ rest) ≡ new =
    ap (λ m. take m (new ++ rest)) (sym long ∙ sym same_long) ∙ take-append_seam new rest in
    let all = c.put_attempts-all in
    subst (λ (ps : List KnownPart). HaveNames text ps) (sym whole)
    (names_stay text old new part same_long c.assign.ensures.named
    (seen.ensures.names
    (all_headed text all.new.lines c.put_heads.new.lines (drop all.result.lines all.new.lines) all.result.lines c.if-all-lines.false c.put_heads.auto.lines c.put_heads.ensures.covers
    (all_covered text c.args.lines.now all.new.lines c.nothing.result.lines c.nothing.result.at all.result.lines all.result.at c.nothing.ensures.1.0 c.nothing.ensures.0
    (λ begun. all.ensures.covers begun c.if-all-lines.false) (omega (arith, all.ensures.further.0, all.ensures.further.1.1))))
    room))

pub returns-clause-takes : goal.returns-clause-takes
returns-clause-takes c = λ done.
    let text : List ℕ = c.args.text.now in
    let all = c.put_attempts-all in
    c.read_parts-seen.ensures.takes
    (all_headed text all.new.lines c.put_heads.new.lines (drop all.result.lines all.new.lines) all.result.lines c.if-all-lines.false c.put_heads.auto.lines c.put_heads.ensures.covers
    (all_covered text c.args.lines.now all.new.lines c.nothing.result.lines c.nothing.result.at all.result.lines all.result.at c.nothing.ensures.1.0 c.nothing.ensures.0
    (λ begun. all.ensures.covers begun c.if-all-lines.false) (omega (arith, all.ensures.further.0, all.ensures.further.1.1))))

pub returns-clause-parts : goal.returns-clause-parts
returns-clause-parts c = λ done.
    let text : List ℕ = c.args.text.now in
    let seen = c.read_parts-seen in
    let n : ℕ = seen.result.parts in
    let room : n ≤ length seen.new.parts = c.if-seen-parts.false in
    let old : List KnownPart = take n seen.new.parts in
    let new : List KnownPart = c.assign.new.parts in
    let rest : List KnownPart = drop n seen.new.parts in
    let long : length old ≡ n = length-take-le n seen.new.parts room in
    let whole : take n (new ++ rest) ≡ new =
    ap (λ m. take m (new ++ rest)) (sym long ∙ sym c.assign.auto.parts) ∙ take-append_seam new rest in
    let all = c.put_attempts-all in
    subst (λ (ps : List KnownPart). PartsTake text seen.new.lines 0 ps (length text)) (sym whole)
    (c.assign.ensures.told text seen.new.lines (length text)
    (seen.ensures.told
    (all_headed text all.new.lines c.put_heads.new.lines (drop all.result.lines all.new.lines) all.result.lines c.if-all-lines.false c.put_heads.auto.lines c.put_heads.ensures.covers
    (all_covered text c.args.lines.now all.new.lines c.nothing.result.lines c.nothing.result.at all.result.lines all.result.at c.nothing.ensures.1.0 c.nothing.ensures.0
    (λ begun. all.ensures.covers begun c.if-all-lines.false) (omega (arith, all.ensures.further.0, all.ensures.further.1.1))))
    room))

pub returns-clause-plain : goal.returns-clause-plain
returns-clause-plain c = λ done.
    let text : List ℕ = c.args.text.now in
    let all = c.put_attempts-all in
    tells_plain text (take c.read_parts-seen.result.read.lines c.read_parts-seen.new.lines)
    (c.read_parts-seen.ensures.takes
    (all_headed text all.new.lines c.put_heads.new.lines (drop all.result.lines all.new.lines) all.result.lines c.if-all-lines.false c.put_heads.auto.lines c.put_heads.ensures.covers
    (all_covered text c.args.lines.now all.new.lines c.nothing.result.lines c.nothing.result.at all.result.lines all.result.at c.nothing.ensures.1.0 c.nothing.ensures.0
    (λ begun. all.ensures.covers begun c.if-all-lines.false) (omega (arith, all.ensures.further.0, all.ensures.further.1.1)))))

pub returns-then-all-lines-clause-enough : goal.returns-then-all-lines-clause-enough
returns-then-all-lines-clause-enough c = λ count counts room parts_room.
    let all = c.put_attempts-all in
    let same = all.ensures.all count (remain_all c.args.text.now count c.nothing.result.lines c.nothing.result.at (length c.args.text.now) c.nothing.ensures.1.0 c.nothing.ensures.0 counts) in
    absurd (omega (arith, same.1, room, c.if-all-lines.true, all.auto.lines))

pub returns-then-seen-lines-clause-enough : goal.returns-then-seen-lines-clause-enough
returns-then-seen-lines-clause-enough c = λ count counts room parts_room.
    let text : List ℕ = c.args.text.now in
    let all = c.put_attempts-all in
    let seen = c.read_parts-seen in
    let same = all.ensures.all count (remain_all text count c.nothing.result.lines c.nothing.result.at (length text) c.nothing.ensures.1.0 c.nothing.ensures.0 counts) in
    let few : seen.result.read.lines ≤ all.result.lines = seen.ensures.few_lines
    (all_headed text all.new.lines c.put_heads.new.lines (drop all.result.lines all.new.lines) all.result.lines c.if-all-lines.false c.put_heads.auto.lines c.put_heads.ensures.covers
    (all_covered text c.args.lines.now all.new.lines c.nothing.result.lines c.nothing.result.at all.result.lines all.result.at c.nothing.ensures.1.0 c.nothing.ensures.0
    (λ begun. all.ensures.covers begun c.if-all-lines.false) (omega (arith, all.ensures.further.0, all.ensures.further.1.1)))) in
    elim c.then-seen-lines.branch [
      | then-seen-lines-via-then-seen-lines w ↦ absurd (omega (arith, few, same.1, room, all.auto.lines, seen.auto.lines, w.if-seen-lines.true))
      | then-seen-lines-via-else-seen-lines+then-seen-parts w ↦ absurd (omega (arith, seen.ensures.few, same.1, parts_room, seen.auto.parts, w.if-seen-parts.true))
    ]
