use Rattle.std.proofs.Common.{◌≡◌, ◌<◌, ◌+◌, ℕ, List, [], ◌∷◌, ◌++◌, map, take, replicate, length, sym, ap, ◌∙◌, arith}
use Rattle.std.specs.Prelude.{slice_set, get_or}
use Rattle.niss_moves.specs.declared.turn.Turn.{Turn}
use Rattle.niss_moves.specs.declared.turn.Face.TheVariants.{U}
use Rattle.niss_moves.specs.declared.turn.Power.TheVariants.{Quarter}
use Rattle.std.proofs.lemmas.List.{take_more_set, take_more, map-append, length-set, drop-set-lt}
use Rattle.std.proofs.lemmas.Grind.{drop_more_same}
use Rattle.niss_ways.specs.Shown.{shown}
use Rattle.niss_ways.proofs.way.SideTurns.of.Goals as goal

pub loop-index-preserved : goal.loop-index-preserved
loop-index-preserved c =
    let ns = c.loop-index.numbers in
    let i = c.loop-index.index in
    let v = c.shown.result in
    let xs = c.args.turns.now in
    let f = shown c.args.names.now in
    let d : Turn = record { face = U; power = Quarter } in
    let lt : i < length ns = omega (arith, c.loop-index.invariant.room) in
    let told : take (i + 1) (slice_set ns i v) ≡ map f (take i xs) ++ v ∷ [] =
    take_more_set ns i v lt ∙ ap (λ (s : List ℕ). s ++ v ∷ []) c.loop-index.invariant.told in
    record {
      room = length-set ns i v ∙ c.loop-index.invariant.room;
      told = told ∙ (ap (λ (n : ℕ). map f (take i xs) ++ n ∷ []) c.shown.ensures.value)
          ∙ sym (ap (λ (s : List Turn). map f s) (take_more xs i d c.loop-index-test.true) ∙ map-append f (take i xs) (get_or xs i d ∷ []));
      behind = drop-set-lt (i + 1) ns i v (omega arith) ∙ drop_more_same ns (replicate 20 255) i c.loop-index.invariant.behind;
    }
