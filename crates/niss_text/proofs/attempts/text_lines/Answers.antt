use Rattle.std.proofs.Common.{◌≡◌, ◌<◌, ℕ, List, take, length, subst, sym, arith}
use Rattle.std.proofs.lemmas.List.Elements.{All-nil}
use Rattle.niss_text.specs.Groups.{AreGrouped, AreBelow}
use Rattle.niss_text.proofs.GroupedLines.{grouped_none}
use Rattle.niss_text.specs.Lines.{Covers, Counts, AreNumbered}
use Rattle.niss_text.proofs.LineLemmas.{covers_none, counts_none, numbered_from_first, numbered_none}
use Rattle.niss_text.specs.declared.text_line.TextLine.{TextLine}
use Rattle.niss_text.proofs.attempts.text_lines.Goals as goal

pub returns-clause-covers : goal.returns-clause-covers
returns-clause-covers c = λ room.
    let text : List ℕ = c.args.text.now in
    let lines : List TextLine = c.args.lines.now in
    let told = c.put_attempts-read.ensures in
    let same : length c.put_attempts-read.new.lines ≡ length lines = c.put_attempts-read.auto.lines in
    let none : 0 ≡ c.nothing.result.lines = sym c.nothing.ensures.1.0 in
    let begin : 0 ≡ c.nothing.result.at = sym c.nothing.ensures.0 in
    let begun : Covers text 0 (take c.nothing.result.lines lines) c.nothing.result.at =
    subst (λ (n : ℕ). Covers text 0 (take n lines) c.nothing.result.at) none (subst (λ (n : ℕ). Covers text 0 (take 0 lines) n) begin (covers_none text 0)) in
    let ends : c.put_attempts-read.result.at ≡ length text = omega (arith, told.further.0, told.further.1.1) in
    subst (λ (n : ℕ). Covers text 0 (take c.put_attempts-read.result.lines c.put_attempts-read.new.lines) n) ends (told.covers begun (omega (arith, room, same)))

pub returns-clause-counts : goal.returns-clause-counts
returns-clause-counts c =
    let text : List ℕ = c.args.text.now in
    let told = c.put_attempts-read.ensures in
    let none : 0 ≡ c.nothing.result.lines = sym c.nothing.ensures.1.0 in
    let begin : 0 ≡ c.nothing.result.at = sym c.nothing.ensures.0 in
    let begun : Counts text 0 c.nothing.result.lines c.nothing.result.at =
    subst (λ (n : ℕ). Counts text 0 n c.nothing.result.at) none (subst (λ (n : ℕ). Counts text 0 0 n) begin (counts_none text 0)) in
    let ends : c.put_attempts-read.result.at ≡ length text = omega (arith, told.further.0, told.further.1.1) in
    subst (λ (n : ℕ). Counts text 0 c.put_attempts-read.result.lines n) ends (told.counts begun)

pub returns-clause-numbers : goal.returns-clause-numbers
returns-clause-numbers c = λ room.
    let lines : List TextLine = c.args.lines.now in
    let told = c.put_attempts-read.ensures in
    let same : length c.put_attempts-read.new.lines ≡ length lines = c.put_attempts-read.auto.lines in
    let none : 0 ≡ c.nothing.result.lines = sym c.nothing.ensures.1.0 in
    let begin : 0 ≡ c.nothing.result.attempts = sym c.nothing.ensures.1.1 in
    let begun : AreNumbered 0 (take c.nothing.result.lines lines) c.nothing.result.attempts =
    subst (λ (n : ℕ). AreNumbered 0 (take n lines) c.nothing.result.attempts) none (subst (λ (n : ℕ). AreNumbered 0 (take 0 lines) n) begin numbered_none) in
    numbered_from_first lines c.put_attempts-read.new.lines c.nothing.result.lines c.put_attempts-read.result.lines c.nothing.result.attempts
    c.put_attempts-read.result.attempts (λ first. told.numbers (omega (arith, begin)) 0 0 (omega arith) first (omega (arith, room, same))) begun

pub returns-clause-begins : goal.returns-clause-begins
returns-clause-begins c =
    let text : List ℕ = c.args.text.now in
    let lines : List TextLine = c.args.lines.now in
    let none : 0 ≡ c.nothing.result.lines = sym c.nothing.ensures.1.0 in
    let begin : 0 ≡ c.nothing.result.at = sym c.nothing.ensures.0 in
    let begun : Covers text 0 (take c.nothing.result.lines lines) c.nothing.result.at =
    subst (λ (n : ℕ). Covers text 0 (take n lines) c.nothing.result.at) none (subst (λ (n : ℕ). Covers text 0 (take 0 lines) n) begin (covers_none text 0)) in
    c.put_attempts-read.ensures.begins (λ fits. begun) (c.nothing.result.at, begun)

pub returns-clause-in_order : goal.returns-clause-in_order
returns-clause-in_order c =
    let lines : List TextLine = c.args.lines.now in
    let none : 0 ≡ c.nothing.result.lines = sym c.nothing.ensures.1.0 in
    let begin : 0 ≡ c.nothing.result.attempts = sym c.nothing.ensures.1.1 in
    let begun : AreNumbered 0 (take c.nothing.result.lines lines) c.nothing.result.attempts =
    subst (λ (n : ℕ). AreNumbered 0 (take n lines) c.nothing.result.attempts) none (subst (λ (n : ℕ). AreNumbered 0 (take 0 lines) n) begin numbered_none) in
    c.put_attempts-read.ensures.in_order (λ fits. begun) (omega (arith, begin)) (c.nothing.result.attempts, begun)

pub returns-clause-groups : goal.returns-clause-groups
returns-clause-groups c =
    let lines : List TextLine = c.args.lines.now in
    let none : 0 ≡ c.nothing.result.lines = sym c.nothing.ensures.1.0 in
    let begin : 0 ≡ c.nothing.result.attempts = sym c.nothing.ensures.1.1 in
    c.put_attempts-read.ensures.groups (omega (arith, begin))
    (subst (λ (n : ℕ). AreBelow c.nothing.result.attempts (take n lines)) none (All-nil (λ (l : TextLine). l.attempt < c.nothing.result.attempts)))
    (subst (λ (n : ℕ). AreGrouped (take n lines)) none grouped_none)
