-- The words that solvers write by themselves before the moves of a step.
use Rattle.std.specs.Prelude.{ℕ, List, [], ◌∷◌, codes}

abbrev pub words_before_step : List (List ℕ)
words_before_step =
    codes "eo" ∷ codes "dr" ∷ codes "htr" ∷ codes "fr" ∷ codes "fin" ∷ codes "finish" ∷ codes "auf" ∷ []
