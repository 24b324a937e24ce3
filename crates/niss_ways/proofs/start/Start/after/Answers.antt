use Rattle.std.proofs.Common.{rules, ◌++◌, inr, sym, subst, map, reverse, MatchOption, List, Option}
use Rattle.niss_moves.specs.Effects.{inverse_turn}
use Rattle.niss_moves.specs.declared.turn.Turn.{Turn}
use Rattle.niss_ways.specs.Starts.{AreTooMany, IsAfter, Leads}
use Rattle.niss_ways.specs.declared.start.Start.{Start}
use Rattle.niss_ways.proofs.start.Start.after.Goals as goal

-- There are more than 512 turns in all.
pub returns-in_err-line : goal.returns-in_err-line
returns-in_err-line c =
    let scramble = c.args.scramble.now in
    let so_far = c.args.so_far.now in
    let before = c.as_slice-3.result.now in
    let scrambled = c.as_slice-4.result.now in
    let normal = c.as_slice-5.result.now in
    let inverse : List Turn = reverse (map inverse_turn before) in
    let line : List Turn = before ++ scrambled ++ normal in
    let leads : Leads scramble so_far line normal inverse = search rules in
    let many : AreTooMany scramble so_far = inr (inr (line, normal, inverse, leads, c.in_err-line.ensures)) in
    subst (λ (r : Option Start). MatchOption r (AreTooMany scramble so_far) (λ start. IsAfter scramble so_far start)) (sym c.from_residual-in_err-line.ensures) many
