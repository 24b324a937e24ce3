use Rattle.std.proofs.Common.{◌≡◌, ◌+◌, ◌≤◌, ◌⊎◌, ◌∙◌, ℕ, Option, List, take, slice_range, refl, sym, subst, ap, arith}
use Rattle.niss_text.specs.declared.known.KnownPart.{KnownPart}
use Rattle.niss_text.specs.declared.parts.Part.{Part}
use Rattle.niss_text.specs.Known.{AreSaid, HaveNames, PartsTake, IsName, number_of_name, scramble_with}
use Rattle.niss_text.proofs.LineLemmas.{fewer_kept, more_behind}
use Rattle.niss_text.specs.Kept.{words_of_any_head}
use Rattle.niss_text.specs.Lines.{HasNoneBetween, Remain, Takes}
use Rattle.niss_text.proofs.HeadsOfLines.{all_next}
use Rattle.niss_text.proofs.PartLemmas.{body_low}
use Rattle.niss_text.proofs.PassedLemmas.{between_on}
use Rattle.niss_text.proofs.TakesLemmas.{takes_behind, takes_first, takes_none}
use Rattle.niss_text.proofs.TellLemmas.{are_in_attempts, parts_kept, parts_next}
use Rattle.niss_text.proofs.known.Reading.with.Goals as goal

pub returns-then-self-clause-behind : goal.returns-then-self-clause-behind
returns-then-self-clause-behind c =
    c.put_attempts-read.ensures.behind ∙ more_behind c.put_solution-solution.new.lines c.args.lines.now c.put_solution-solution.result.lines
    c.put_attempts-read.result.lines c.put_attempts-read.ensures.more c.put_solution-solution.ensures.behind

pub returns-then-self-clause-names : goal.returns-then-self-clause-names
returns-then-self-clause-names c = λ far name room.
    let text : List ℕ = c.args.text.now in
    let n : ℕ = c.args.self.parts in
    subst (λ (ps : List KnownPart). HaveNames text (take (n + 1) ps)) (sym c.put_part.ensures)
    (all_next (λ (p : KnownPart). IsName text p.name_begin p.name_end) c.args.parts.now n _ (omega (arith, room, c.put_part.auto.parts)) far name)

pub returns-then-self-clause-says : goal.returns-then-self-clause-says
returns-then-self-clause-says c = λ far is room.
    let text : List ℕ = c.args.text.now in
    let n : ℕ = c.args.self.parts in
    subst (λ (ps : List KnownPart). AreSaid text (take (n + 1) ps)) (sym c.put_part.ensures)
    (all_next (λ (p : KnownPart). p.scramble ≡ scramble_with (number_of_name text p)) c.args.parts.now n _ (omega (arith, room, c.put_part.auto.parts)) far
    (c.scramble_of_number.ensures ∙ ap (λ (o : Option ℕ). scramble_with o) is))

pub returns-else-self-clause-behind : goal.returns-else-self-clause-behind
returns-else-self-clause-behind c =
    c.put_attempts-read.ensures.behind ∙ more_behind c.put_solution-solution.new.lines c.args.lines.now c.put_solution-solution.result.lines
    c.put_attempts-read.result.lines c.put_attempts-read.ensures.more c.put_solution-solution.ensures.behind

pub returns-else-self-clause-names : goal.returns-else-self-clause-names
returns-else-self-clause-names c = λ far name room.
    let text : List ℕ = c.args.text.now in
    let n : ℕ = c.args.self.parts in
    subst (λ (ps : List KnownPart). HaveNames text (take (n + 1) ps)) (sym c.put_part.ensures)
    (all_next (λ (p : KnownPart). IsName text p.name_begin p.name_end) c.args.parts.now n _ (omega (arith, room, c.put_part.auto.parts)) far name)

pub returns-else-self-clause-says : goal.returns-else-self-clause-says
returns-else-self-clause-says c = λ far is room.
    let text : List ℕ = c.args.text.now in
    let n : ℕ = c.args.self.parts in
    subst (λ (ps : List KnownPart). AreSaid text (take (n + 1) ps)) (sym c.put_part.ensures)
    (all_next (λ (p : KnownPart). p.scramble ≡ scramble_with (number_of_name text p)) c.args.parts.now n _ (omega (arith, room, c.put_part.auto.parts)) far
    (c.scramble_of_number.ensures ∙ ap (λ (o : Option ℕ). scramble_with o) is))

pub returns-then-self-clause-takes : goal.returns-then-self-clause-takes
returns-then-self-clause-takes c = λ most body far room.
    let text : List ℕ = c.args.text.now in
    let n : ℕ = c.args.self.read.lines in
    let begins : c.min-begin.result ≡ c.args.part.now.body =
    omega (arith, c.max.ensures, c.min-begin.ensures, body_low text c.args.self.read.at most c.args.part.now body, body.within) in
    let begun : Takes text 0 (slice_range c.args.lines.now 0 n) c.min-begin.result =
    subst (λ (at : ℕ). Takes text 0 (slice_range c.args.lines.now 0 n) at) (sym begins)
    (takes_behind text c.args.lines.now n c.args.self.read.at c.args.part.now.body far
    (between_on text c.args.self.read.at c.args.part.now.begin c.args.part.now.body body.before body.heads)) in
    takes_first text c.put_attempts-read.new.lines c.put_attempts-read.result.lines c.put_attempts-read.result.at
    (c.put_attempts-read.ensures.takes words_of_any_head 0 0 (omega arith)
    (c.put_solution-solution.ensures.takes words_of_any_head 0 0 (omega arith) begun (omega (arith, room, c.put_attempts-read.ensures.more, c.put_attempts-read.auto.lines))) room)

pub returns-then-self-clause-ends : goal.returns-then-self-clause-ends
returns-then-self-clause-ends c = λ most body.
    let text : List ℕ = c.args.text.now in
    let low = body_low text c.args.self.read.at most c.args.part.now body in
    let begins : c.min-begin.result ≡ c.args.part.now.body = omega (arith, c.max.ensures, c.min-begin.ensures, low, body.within) in
    let ends : c.min-end.result ≡ c.args.part.now.end = omega (arith, c.max-2.ensures, c.min-end.ensures, begins, low, body.within) in
    let all : ℕ = c.args.self.read.lines + body.lines in
    let begun : Remain text all c.args.self.read.lines c.min-begin.result c.min-end.result =
    subst (λ (n : ℕ). Remain text all c.args.self.read.lines n c.min-end.result) (sym begins)
    (subst (λ (n : ℕ). Remain text all c.args.self.read.lines c.args.part.now.body n) (sym ends) (body.lines, refl, body.counts)) in
    let far = c.put_attempts-read.ensures.all all (c.put_solution-solution.ensures.remain all begun) in
    (far.0 ∙ ends, omega (arith, far.1, body.few))

pub returns-then-self-clause-told : goal.returns-then-self-clause-told
returns-then-self-clause-told c = λ most body have far parts_room room.
    let text : List ℕ = c.args.text.now in
    let n : ℕ = c.args.self.read.lines in
    let count : ℕ = c.args.self.parts in
    let part : Part = c.args.part.now in
    let low = body_low text c.args.self.read.at most part body in
    let begins : c.min-begin.result ≡ part.body = omega (arith, c.max.ensures, c.min-begin.ensures, low, body.within) in
    let ends : c.min-end.result ≡ part.end = omega (arith, c.max-2.ensures, c.min-end.ensures, begins, low, body.within) in
    let all : ℕ = n + body.lines in
    let remain : Remain text all n c.min-begin.result c.min-end.result =
    subst (λ (m : ℕ). Remain text all n m c.min-end.result) (sym begins)
    (subst (λ (m : ℕ). Remain text all n part.body m) (sym ends) (body.lines, refl, body.counts)) in
    let there : c.put_attempts-read.result.at ≡ part.end = (c.put_attempts-read.ensures.all all (c.put_solution-solution.ensures.remain all remain)).0 ∙ ends in
    let solution = c.put_solution-solution.ensures in
    let read = c.put_attempts-read.ensures in
    let begun : Takes text part.begin (slice_range c.args.lines.now n n) c.min-begin.result =
    takes_none text part.begin c.args.lines.now n c.min-begin.result (subst (λ (m : ℕ). HasNoneBetween text part.begin m) (sym begins) body.heads) in
    let takes : Takes text part.begin (slice_range c.put_attempts-read.new.lines n c.put_attempts-read.result.lines) c.put_attempts-read.result.at =
    read.takes words_of_any_head part.begin n solution.more
    (solution.takes words_of_any_head part.begin n (omega arith) begun (omega (arith, room, read.more, c.put_attempts-read.auto.lines))) room in
    let kept : take n c.put_attempts-read.new.lines ≡ take n c.args.lines.now =
    fewer_kept c.put_attempts-read.new.lines c.put_solution-solution.new.lines n c.put_solution-solution.result.lines solution.more read.kept ∙ solution.kept in
    subst (λ (ps : List KnownPart). PartsTake text c.put_attempts-read.new.lines 0 (take (count + 1) ps) c.put_attempts-read.result.at) (sym c.put_part.ensures)
    (parts_next text c.put_attempts-read.new.lines 0 c.args.parts.now count c.args.self.read.at _ c.put_attempts-read.result.at (omega (arith, parts_room, c.put_part.auto.parts))
    (parts_kept text c.args.lines.now c.put_attempts-read.new.lines 0 (take count c.args.parts.now) c.args.self.read.at 0 n have kept far) body.before
    (subst (λ (m : ℕ). (part.name_end ≡ 0) ⊎ ((part.begin ≤ part.name_begin) × (part.name_end ≤ m))) (sym there) body.named) takes
    (are_in_attempts c.put_solution-solution.new.lines c.put_attempts-read.new.lines n c.put_solution-solution.result.lines c.put_attempts-read.result.lines
    c.put_solution-solution.result.attempts c.put_solution-solution.result.at c.put_attempts-read.result.attempts solution.more read.more read.kept
    (solution.first (omega (arith, room, read.more, c.put_attempts-read.auto.lines))) solution.one
    (λ begun few. read.numbers few 1 c.put_solution-solution.result.lines (omega arith) begun room)))

pub returns-else-self-clause-takes : goal.returns-else-self-clause-takes
returns-else-self-clause-takes c = λ most body far room.
    let text : List ℕ = c.args.text.now in
    let n : ℕ = c.args.self.read.lines in
    let begins : c.min-begin.result ≡ c.args.part.now.body =
    omega (arith, c.max.ensures, c.min-begin.ensures, body_low text c.args.self.read.at most c.args.part.now body, body.within) in
    let begun : Takes text 0 (slice_range c.args.lines.now 0 n) c.min-begin.result =
    subst (λ (at : ℕ). Takes text 0 (slice_range c.args.lines.now 0 n) at) (sym begins)
    (takes_behind text c.args.lines.now n c.args.self.read.at c.args.part.now.body far
    (between_on text c.args.self.read.at c.args.part.now.begin c.args.part.now.body body.before body.heads)) in
    takes_first text c.put_attempts-read.new.lines c.put_attempts-read.result.lines c.put_attempts-read.result.at
    (c.put_attempts-read.ensures.takes words_of_any_head 0 0 (omega arith)
    (c.put_solution-solution.ensures.takes words_of_any_head 0 0 (omega arith) begun (omega (arith, room, c.put_attempts-read.ensures.more, c.put_attempts-read.auto.lines))) room)

pub returns-else-self-clause-ends : goal.returns-else-self-clause-ends
returns-else-self-clause-ends c = λ most body.
    let text : List ℕ = c.args.text.now in
    let low = body_low text c.args.self.read.at most c.args.part.now body in
    let begins : c.min-begin.result ≡ c.args.part.now.body = omega (arith, c.max.ensures, c.min-begin.ensures, low, body.within) in
    let ends : c.min-end.result ≡ c.args.part.now.end = omega (arith, c.max-2.ensures, c.min-end.ensures, begins, low, body.within) in
    let all : ℕ = c.args.self.read.lines + body.lines in
    let begun : Remain text all c.args.self.read.lines c.min-begin.result c.min-end.result =
    subst (λ (n : ℕ). Remain text all c.args.self.read.lines n c.min-end.result) (sym begins)
    (subst (λ (n : ℕ). Remain text all c.args.self.read.lines c.args.part.now.body n) (sym ends) (body.lines, refl, body.counts)) in
    let far = c.put_attempts-read.ensures.all all (c.put_solution-solution.ensures.remain all begun) in
    (far.0 ∙ ends, omega (arith, far.1, body.few))

pub returns-else-self-clause-told : goal.returns-else-self-clause-told
returns-else-self-clause-told c = λ most body have far parts_room room.
    let text : List ℕ = c.args.text.now in
    let n : ℕ = c.args.self.read.lines in
    let count : ℕ = c.args.self.parts in
    let part : Part = c.args.part.now in
    let low = body_low text c.args.self.read.at most part body in
    let begins : c.min-begin.result ≡ part.body = omega (arith, c.max.ensures, c.min-begin.ensures, low, body.within) in
    let ends : c.min-end.result ≡ part.end = omega (arith, c.max-2.ensures, c.min-end.ensures, begins, low, body.within) in
    let all : ℕ = n + body.lines in
    let remain : Remain text all n c.min-begin.result c.min-end.result =
    subst (λ (m : ℕ). Remain text all n m c.min-end.result) (sym begins)
    (subst (λ (m : ℕ). Remain text all n part.body m) (sym ends) (body.lines, refl, body.counts)) in
    let there : c.put_attempts-read.result.at ≡ part.end = (c.put_attempts-read.ensures.all all (c.put_solution-solution.ensures.remain all remain)).0 ∙ ends in
    let solution = c.put_solution-solution.ensures in
    let read = c.put_attempts-read.ensures in
    let begun : Takes text part.begin (slice_range c.args.lines.now n n) c.min-begin.result =
    takes_none text part.begin c.args.lines.now n c.min-begin.result (subst (λ (m : ℕ). HasNoneBetween text part.begin m) (sym begins) body.heads) in
    let takes : Takes text part.begin (slice_range c.put_attempts-read.new.lines n c.put_attempts-read.result.lines) c.put_attempts-read.result.at =
    read.takes words_of_any_head part.begin n solution.more
    (solution.takes words_of_any_head part.begin n (omega arith) begun (omega (arith, room, read.more, c.put_attempts-read.auto.lines))) room in
    let kept : take n c.put_attempts-read.new.lines ≡ take n c.args.lines.now =
    fewer_kept c.put_attempts-read.new.lines c.put_solution-solution.new.lines n c.put_solution-solution.result.lines solution.more read.kept ∙ solution.kept in
    subst (λ (ps : List KnownPart). PartsTake text c.put_attempts-read.new.lines 0 (take (count + 1) ps) c.put_attempts-read.result.at) (sym c.put_part.ensures)
    (parts_next text c.put_attempts-read.new.lines 0 c.args.parts.now count c.args.self.read.at _ c.put_attempts-read.result.at (omega (arith, parts_room, c.put_part.auto.parts))
    (parts_kept text c.args.lines.now c.put_attempts-read.new.lines 0 (take count c.args.parts.now) c.args.self.read.at 0 n have kept far) body.before
    (subst (λ (m : ℕ). (part.name_end ≡ 0) ⊎ ((part.begin ≤ part.name_begin) × (part.name_end ≤ m))) (sym there) body.named) takes
    (are_in_attempts c.put_solution-solution.new.lines c.put_attempts-read.new.lines n c.put_solution-solution.result.lines c.put_attempts-read.result.lines
    c.put_solution-solution.result.attempts c.put_solution-solution.result.at c.put_attempts-read.result.attempts solution.more read.more read.kept
    (solution.first (omega (arith, room, read.more, c.put_attempts-read.auto.lines))) solution.one
    (λ begun few. read.numbers few 1 c.put_solution-solution.result.lines (omega arith) begun room)))
