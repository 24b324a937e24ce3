use Rattle.std.proofs.Common.{◌≡◌, refl, ap, ◌∙◌, arith, take, length}
use Rattle.std.specs.Prelude.{fold}
use Rattle.std.proofs.lemmas.List.{take_all}
use Rattle.niss_moves.specs.declared.token.Token.TheVariants as token
use Rattle.niss_moves.specs.declared.turn.Face.TheVariants.{U}
use Rattle.niss_moves.specs.declared.turn.Power.TheVariants.{Quarter}
use Rattle.niss_moves.specs.declared.turn.Turn.{Turn}
use Rattle.niss_cube.specs.Map.{map_of}
use Rattle.niss_search.specs.BothSides.{turned_before}
use Rattle.niss_ways.proofs.SolutionLemmas.{after_turn, all_effect, after_same, before_next}
use Rattle.niss_ways.proofs.solution.Solution.cube_after.Goals as goal

abbrev some_turn : Turn
some_turn = record { face = U; power = Quarter }

pub loop-turn-init : goal.loop-turn-init
loop-turn-init c = λ q p. refl

pub loop-turn-preserved : goal.loop-turn-preserved
loop-turn-preserved c =
    before_next (λ t q. c.places_stay.ensures (token.Face t) q) (map_of c.args.cube.now) c.loop-turn.here c.turn_before.new.self
    c.inverse-inverse.result.now c.loop-turn.turn-index some_turn c.inverse.result c.loop-turn-test.true c.inverse.ensures
    c.loop-turn.invariant c.turn_before.ensures

pub returns : goal.returns
returns c =
    let f = map_of c.args.cube.now in
    let ts = c.inverse-inverse.result.now in
    let i = c.loop-turn.turn-index in
    let end : i ≡ length ts = omega (arith, c.loop-turn-test.false, c.loop-turn.auto.turn-index-end) in
    let all : take i ts ≡ c.args.self.now.inverse = ap (λ n. take n ts) end ∙ take_all (length ts) ts (omega arith) ∙ c.inverse-inverse.ensures.value in
    λ q p. c.apply.ensures q p ∙ all_effect (map_of c.loop-turn.here) c.normal.result.now q
    ∙ after_same c.normal.result.now (map_of c.loop-turn.here) (fold turned_before f (take i ts)) c.loop-turn.invariant q p
    ∙ (λ j. fold after_turn (fold turned_before f (all j)) (c.normal.ensures.value j) q)
