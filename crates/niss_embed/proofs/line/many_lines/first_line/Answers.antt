use Rattle.std.proofs.Common.{◌≡◌, ◌==◌, true, false, inl, inr, ◌<◌, ◌+◌, ◌-◌, ◌∷◌, List, ℕ, length, take, drop, sym, ap, ◌∙◌, arith, rules, length-drop}
use Rattle.std.proofs.lemmas.Bool.Decides.{eqb_tells}
use Rattle.std.proofs.lemmas.List.{take_all, drop_all}
use Rattle.niss_embed.specs.ManyLines.{text_lines}
use Rattle.niss_embed.proofs.ManyLemmas.{before_feed, without_feed, lines_first, lines_last}
use Rattle.niss_embed.proofs.line.many_lines.first_line.Goals as goal

pub returns-in-Some : goal.returns-in-Some
returns-in-Some c =
    let text : List ℕ = c.args.text.now in
    let at : ℕ = c.in-Some.at in
    let within : at < length text = search rules in
    let first = before_feed text at within (search rules) (search rules) in
    let after : List ℕ = drop (at + 1) text in
    let rest : take (length text - (at + 1)) after ≡ after = take_all (length text - (at + 1)) after (omega (arith, length-drop (at + 1) text)) in (
      ap text_lines (sym first.1) ∙ lines_first c.lines_are_cut.ensures.only c.lines_are_cut.ensures.cut (take at text) after first.0
          ∙ ap (λ v. take at text ∷ text_lines v) (sym rest),
      omega (arith, ap length rest, length-drop (at + 1) text, within),
      rest ∙ ap (λ k. drop k text) (left within (ap length rest)),
    )
  where
    left : c.in-Some.at < length c.args.text.now → length (take (length c.args.text.now - (c.in-Some.at + 1)) (drop (c.in-Some.at + 1) c.args.text.now)) ≡ length (drop (c.in-Some.at + 1) c.args.text.now) →
        c.in-Some.at + 1 ≡ length c.args.text.now - length (take (length c.args.text.now - (c.in-Some.at + 1)) (drop (c.in-Some.at + 1) c.args.text.now))
    left within same = omega (arith, same, length-drop (c.in-Some.at + 1) c.args.text.now, within)

not_none : (n : ℕ) → (n == 0) ≡ false → 0 < n
not_none n e = elim (eqb_tells n 0) [ inl w ↦ absurd (let both : true ≡ false = sym w.0 ∙ e in cc) | inr w ↦ grind (arith, w.1) ]

pub returns-in-None : goal.returns-in-None
returns-in-None c =
    let some : 0 < length c.args.text.now = not_none (length c.args.text.now) (sym c.is_empty.ensures ∙ c.if-is_empty.false) in
    (lines_last c.lines_are_cut.ensures.only c.args.text.now some (without_feed c.args.text.now (search rules)), some, sym (drop_all (length c.args.text.now - 0) c.args.text.now (omega arith)))
