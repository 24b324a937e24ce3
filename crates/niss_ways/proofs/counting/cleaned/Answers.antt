use Rattle.std.proofs.Common.{◌≡◌, ◌+◌, ◌≤◌, ap, ◌∙◌, arith, ◌++◌, length, length-append, map, List}
use Rattle.niss_moves.specs.Cleaning.{clean_turns}
use Rattle.niss_moves.specs.declared.token.Token.{Token}
use Rattle.niss_moves.specs.declared.turn.Turn.{Turn}
use Rattle.niss_moves.specs.declared.token.Token.TheVariants as token
use Rattle.niss_ways.proofs.CleanLemmas.{cleaned_as_turns, no_more_cleaned}
use Rattle.niss_ways.proofs.counting.cleaned.Goals as goal

pub returns-clause-turns : goal.returns-clause-turns
returns-clause-turns c =
    let made = c.args.made.now in
    let first = c.args.first.now in
    let then = c.args.then.now in
    let begun : c.push_turns.new.moves.items ≡ map token.Face made =
    c.push_turns.ensures ∙ ap (λ (s : List Token). s ++ map token.Face made) c.new-moves.ensures in
    let more : c.push_turns-2.new.moves.items ≡ map token.Face made ++ map token.Face first =
    c.push_turns-2.ensures ∙ ap (λ (s : List Token). s ++ map token.Face first) begun in
    let all : c.push_turns-3.new.moves.items ≡ map token.Face made ++ map token.Face first ++ map token.Face then =
    c.push_turns-3.ensures ∙ ap (λ (s : List Token). s ++ map token.Face then) more in
    cleaned_as_turns made first then c.as_slice.result.now c.cleanup-turns.result.0.items (c.as_slice.ensures.value ∙ all)
    c.cleaned_lines.ensures.turns c.one_clean_list.ensures.one c.cleanup-turns.ensures.clean

pub returns-clause-no_more : goal.returns-clause-no_more
returns-clause-no_more c =
    let made = c.args.made.now in
    let first = c.args.first.now in
    let then = c.args.then.now in
    let all : List Turn = made ++ first ++ then in
    let few : length (clean_turns all) ≤ length all = no_more_cleaned c.cleaning_ends.ensures.lowers all (clean_turns all) (c.cleaned_lines.ensures.turns all) in
    let is : length all ≡ length made + length first + length then =
    length-append (made ++ first) then ∙ ap (λ n. n + length then) (length-append made first) in
    let same : length c.cleanup-turns.result.0.items ≡ length (clean_turns all) = ap length (returns-clause-turns c) in
    omega (arith, few, is, same)
