-- What looks for the attempts among lines.
use Rattle.std.specs.Prelude.{◌≡◌, ℕ, zero, suc, ◌<◌, ◌≤◌, ◌≢◌, ⊤, Option, None, Some, List, [], ◌∷◌, length}
use Rattle.niss_text.specs.declared.text_line.TextLine.{TextLine}
use Rattle.niss_attempts.specs.Attempts.{attempts_from}
use Rattle.niss_attempts.specs.declared.attempts.runs.Run.{Run}

-- The first ones of some lines, that many, are of an attempt, and the next one isn't.
abbrev pub Alike : ℕ → ℕ → List TextLine → Type 0
Alike attempt zero [] = ⊤
Alike attempt zero (line ∷ lines) = line.attempt ≢ attempt
Alike attempt (suc n) [] = ⊥
Alike attempt (suc n) (line ∷ lines) = (line.attempt ≡ attempt) × Alike attempt n lines

-- What is found is the first attempt with a scramble from a line on; the others follow.
abbrev pub FindsRun : List TextLine → ℕ → Option Run → Type 0
FindsRun lines from None = attempts_from from lines ≡ []
FindsRun lines from (Some it) =
    (from ≤ it.first) × (it.first < it.end) × (it.end ≤ length lines) × (attempts_from from lines ≡ it ∷ attempts_from it.end lines)
