-- One more part of a text, with the lines that are told of it.
use Rattle.std.proofs.Common.{◌≡◌, ℕ, zero, suc, ◌+◌, ◌-◌, ◌<◌, ◌≤◌, ◌⊎◌, List, [], ◌∷◌, ◌++◌, length, take, drop, set, get_or, slice_range, sym, subst, ap, ◌∙◌, arith}
use Rattle.std.specs.List.{All}
use Rattle.std.proofs.lemmas.List.{drop-take, take_more_set}
use Rattle.niss_text.specs.declared.known.KnownPart.{KnownPart}
use Rattle.niss_text.specs.declared.text_line.TextLine.{TextLine}
use Rattle.niss_text.specs.Kept.{words_of_any_head}
use Rattle.niss_text.specs.Lines.{AreNumbered, HasNoneBetween, Takes}
use Rattle.niss_text.proofs.LineLemmas.{fewer_kept, numbered_begin}
use Rattle.niss_text.proofs.PassedLemmas.{between_on, none_between}
use Rattle.niss_text.specs.Known.{AreInAttempts}
unfoldable use Rattle.niss_text.specs.Known.{HaveLines, PartsTake}

pub parts_none : (text : List ℕ) (lines : List TextLine) (at : ℕ) → PartsTake text lines at [] at
unfolding PartsTake
parts_none text lines at = none_between words_of_any_head text at

parts_more : (text : List ℕ) (lines : List TextLine) (from : ℕ) (parts : List KnownPart) (to : ℕ) (part : KnownPart) (end : ℕ) → PartsTake text lines from parts to →
    HasNoneBetween text to part.begin → (part.name_end ≡ 0) ⊎ ((part.begin ≤ part.name_begin) × (part.name_end ≤ end)) →
    Takes text part.begin (slice_range lines part.first_line part.end_line) end → AreInAttempts lines part.first_line part.solution_end part.end_line →
    PartsTake text lines from (parts ++ part ∷ []) end
unfolding PartsTake
parts_more text lines from [] to part end far before named takes attempts =
    (end, between_on text from to part.begin far before, named, takes, attempts, none_between words_of_any_head text end)
parts_more text lines from (p ∷ ps) to part end far before named takes attempts =
    (far.0, far.1, far.2, far.3, far.4, parts_more text lines far.0 ps to part end far.5 before named takes attempts)

-- the same in memory
pub parts_next : (text : List ℕ) (lines : List TextLine) (from : ℕ) (parts : List KnownPart) (count to : ℕ) (part : KnownPart) (end : ℕ) → count < length parts →
    PartsTake text lines from (take count parts) to → HasNoneBetween text to part.begin → (part.name_end ≡ 0) ⊎ ((part.begin ≤ part.name_begin) × (part.name_end ≤ end)) →
    Takes text part.begin (slice_range lines part.first_line part.end_line) end → AreInAttempts lines part.first_line part.solution_end part.end_line →
    PartsTake text lines from (take (count + 1) (set parts count part)) end
parts_next text lines from parts count to part end room far before named takes attempts =
    subst (λ (ps : List KnownPart). PartsTake text lines from ps end) (sym (take_more_set parts count part room))
    (parts_more text lines from (take count parts) to part end far before named takes attempts)

-- what follows has no moves
pub parts_further : (text : List ℕ) (lines : List TextLine) (from : ℕ) (parts : List KnownPart) (to more : ℕ) → PartsTake text lines from parts to →
    HasNoneBetween text to more → PartsTake text lines from parts more
unfolding PartsTake
parts_further text lines from [] to more far next = between_on text from to more far next
parts_further text lines from (p ∷ ps) to more far next = (far.0, far.1, far.2, far.3, far.4, parts_further text lines far.0 ps to more far.5 next)

lines_order : (from : ℕ) (parts : List KnownPart) (to : ℕ) → HaveLines from parts to → from ≤ to
unfolding HaveLines
lines_order from [] to same = omega (arith, same)
lines_order from (p ∷ ps) to far = omega (arith, far.1, far.2, lines_order p.end_line ps to far.3)

slice_kept : {Item : Type 0} (old new : List Item) (a b n : ℕ) → a ≤ b → b ≤ n → take n new ≡ take n old → slice_range old a b ≡ slice_range new a b
slice_kept old new a b n order low same =
    let split : a + (b - a) ≡ b = omega (arith, order) in
    sym (drop-take a (b - a) old) ∙ ap (λ k. drop a (take k old)) split ∙ ap (λ v. drop a v) (sym (fewer_kept new old b n low same))
    ∙ ap (λ k. drop a (take k new)) (sym split) ∙ drop-take a (b - a) new

-- attempts stay where more lines are told
attempts_kept : (old new : List TextLine) (first solution end n : ℕ) → first ≤ solution → solution ≤ end → end ≤ n → take n new ≡ take n old →
    AreInAttempts old first solution end → AreInAttempts new first solution end
attempts_kept old new first solution end n low high room same are = record {
  solution = subst (λ (ls : List TextLine). All (λ (l : TextLine). l.attempt ≡ 0) ls)
      (slice_kept old new first solution n low (omega (arith, high, room)) same) are.solution;
  all = are.all;
  others = subst (λ (ls : List TextLine). AreNumbered 1 ls are.all) (slice_kept old new solution end n high room same) are.others;
}

-- the lines of a part of which the solution is told first, and then the other attempts
pub are_in_attempts : (old new : List TextLine) (first solution end attempts at all : ℕ) → first ≤ solution → solution ≤ end → take solution new ≡ take solution old →
    All (λ (l : TextLine). l.attempt ≡ 0) (slice_range old first solution) → attempts ≡ 1 →
    (AreNumbered 1 (slice_range old solution solution) attempts → attempts ≤ at + 1 → AreNumbered 1 (slice_range new solution end) all) → AreInAttempts new first solution end
are_in_attempts old new first solution end attempts at all low high same first_are one numbers = record {
  solution = subst (λ (ls : List TextLine). All (λ (l : TextLine). l.attempt ≡ 0) ls) (slice_kept old new first solution solution low (omega arith) same) first_are;
  all = all;
  others = numbers (numbered_begin 1 attempts old solution (sym one)) (omega (arith, one));
}

-- the lines of parts stay where more are told
pub parts_kept : (text : List ℕ) (old new : List TextLine) (from : ℕ) (parts : List KnownPart) (to first n : ℕ) → HaveLines first parts n → take n new ≡ take n old →
    PartsTake text old from parts to → PartsTake text new from parts to
unfolding HaveLines PartsTake
parts_kept text old new from [] to first n have same far = far
parts_kept text old new from (p ∷ ps) to first n have same far = (
  far.0,
  far.1,
  far.2,
  subst (λ (ls : List TextLine). Takes text p.begin ls far.0)
      (slice_kept old new p.first_line p.end_line n (omega (arith, have.0, have.1, have.2)) (lines_order p.end_line ps n have.3) same) far.3,
  attempts_kept old new p.first_line p.solution_end p.end_line n (omega (arith, have.0, have.1)) have.2 (lines_order p.end_line ps n have.3) same far.4,
  parts_kept text old new far.0 ps to p.end_line n have.3 same far.5,
)

-- A part that is said to be of another scramble has the same lines.
pub parts_stay : (text : List ℕ) (lines : List TextLine) (from : ℕ) (parts : List KnownPart) (to at scramble : ℕ) (none : KnownPart) → PartsTake text lines from parts to →
    PartsTake text lines from (set parts at (record (get_or parts at none) { scramble = scramble })) to
unfolding PartsTake
parts_stay text lines from [] to at scramble none far = far
parts_stay text lines from (p ∷ ps) to zero scramble none far = far
parts_stay text lines from (p ∷ ps) to (suc at) scramble none far = (far.0, far.1, far.2, far.3, far.4, parts_stay text lines far.0 ps to at scramble none far.5)
