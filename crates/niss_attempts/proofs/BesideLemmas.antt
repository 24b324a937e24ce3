-- What is found in the steps beside a solution, one step after another.
use Rattle.std.proofs.Common.{◌≡◌, ◌∙◌, ◌≤◌, ◌&&◌, ℕ, true, false, cond, Option, None, Some, List, [], ◌∷◌, ◌++◌, refl, sym, ap, subst, if◌then◌else◌, arith}
use Rattle.std.specs.List.{filter, list_any}
use Rattle.std.proofs.lemmas.List.Elements.{All-cons}
use Rattle.std.proofs.lemmas.List.{append_assoc}
use Rattle.niss_moves.specs.Line.{Moves}
use Rattle.niss_moves.specs.declared.turn.Turn.{Turn}
use Rattle.niss_text.specs.Moves.{is_wanted}
unfoldable use Rattle.niss_text.specs.Moves.{most_bytes}
use Rattle.niss_text.specs.declared.moves.MovesOf.TheVariants.{Solution, EachStep}
use Rattle.niss_text.specs.declared.text_line.TextLine.{TextLine}
use Rattle.niss_attempts.specs.Doubts.{AreWritten, doubt}
use Rattle.niss_attempts.specs.Beside.{IsDoubtBeside, IsFoundBeside, IsLongSeen, IsOfLong, IsOfSteps, IsSeen, turns_of, begins_apart, is_long_other}
use Rattle.niss_lines.specs.LineFacts.{IsReadAs}
use Rattle.niss_attempts.specs.declared.doubts.Doubt.{Doubt}
use Rattle.niss_attempts.specs.declared.doubts.Reason.TheVariants.{AnotherAttempt, SeveralSolutions}
use Rattle.niss_attempts.specs.declared.doubts.beside.Beside.{Beside}
use Rattle.niss_attempts.specs.declared.doubts.beside.Seen.{Seen}

-- what is found with a step before the others
pub found_with : (text : List ℕ) (lines : List TextLine) (scramble : Moves) (solution : List Turn) (it result : Beside) (line : TextLine) (seen : Seen) →
    IsFoundBeside text lines scramble solution it → is_wanted EachStep line ≡ true → IsSeen (is_long_other line) text line scramble solution seen →
    result.begins_apart ≡ seen.is_apart → result.another ≡ (if seen.is_apart && it.begins_apart then Some (doubt AnotherAttempt line.moves) else it.another) →
    result.slip ≡ (if seen.is_slip then Some (doubt SeveralSolutions line.moves) else it.slip) → IsFoundBeside text (line ∷ lines) scramble solution result
found_with text lines scramble solution it result line seen found wanted is_seen begins another slip = record {
  steps = record { line = line; seen = seen } ∷ found.steps;
  are_lines = ap (λ xs. line ∷ xs) found.are_lines ∙ sym (ap (λ b. cond b (line ∷ filter (is_wanted EachStep) lines) (filter (is_wanted EachStep) lines)) wanted);
  are_seen = All-cons (λ step. IsSeen (is_long_other step.line) text step.line scramble solution step.seen) (record { line = line; seen = seen }) found.steps is_seen found.are_seen;
  begins = begins;
  another = another ∙ (ap (λ b. if seen.is_apart && b then Some (doubt AnotherAttempt line.moves) else it.another) found.begins
      ∙ ap (λ other. if seen.is_apart && begins_apart found.steps then Some (doubt AnotherAttempt line.moves) else other) found.another);
  slip = slip ∙ ap (λ other. if seen.is_slip then Some (doubt SeveralSolutions line.moves) else other) found.slip;
}

-- what is seen of a long step
pub seen_long : (text : List ℕ) (line : TextLine) (scramble : Moves) (solution : List Turn) (seen : Seen) → true ≡ is_long_other line →
    IsLongSeen text line scramble solution seen → IsSeen (is_long_other line) text line scramble solution seen
seen_long text line scramble solution seen is_long it = subst (λ b. IsSeen b text line scramble solution seen) is_long it

-- What is found below some lines.
pub record IsFoundBelow (text : List ℕ) (lines rest : List TextLine) (scramble : Moves) (solution : List Turn) (it : Beside) : Type 0 where
  pub below : List TextLine
  pub whole : rest ++ below ≡ lines
  pub is_found : IsFoundBeside text below scramble solution it

-- a line that passes from those above to those below
pub one_above : (lines rest above below : List TextLine) (line : TextLine) → rest ≡ above ++ line ∷ [] → rest ++ below ≡ lines → above ++ line ∷ below ≡ lines
one_above lines rest above below line is whole =
    sym (append_assoc above (line ∷ []) below) ∙ (ap (λ xs. xs ++ below) (sym is) ∙ whole)

most_joined : (above : List TextLine) (line : TextLine) (below : List TextLine) → most_bytes (line ∷ []) ≤ most_bytes (above ++ line ∷ below)
unfolding most_bytes
most_joined [] line below = omega arith
most_joined (other ∷ above) line below = let h = most_joined above line below in omega (arith, h)

-- one line takes no more room than all
pub most_of_one : (lines rest above below : List TextLine) (line : TextLine) → rest ≡ above ++ line ∷ [] → rest ++ below ≡ lines → most_bytes (line ∷ []) ≤ most_bytes lines
most_of_one lines rest above below line is whole =
    subst (λ xs. most_bytes (line ∷ []) ≤ most_bytes xs) (one_above lines rest above below line is whole) (most_joined above line below)

-- what is told of what can't be read
pub of_unread : (text : List ℕ) (lines : List TextLine) (scramble solution places : List ℕ) → AreWritten text Solution lines solution places →
    ((given moves : Moves) → IsReadAs scramble given → IsReadAs solution moves → ⊥) → IsOfLong text lines scramble None
of_unread text lines scramble solution places is_solution not = record {
  solution = solution;
  places = places;
  is_solution = is_solution;
  of_steps = λ given moves is_given are_moves. absurd (not given moves is_given are_moves);
  of_unread = λ unread. refl;
}

same_moves : (one other : Moves) (line : List ℕ) → IsReadAs line one → IsReadAs line other → one ≡ other
same_moves one other line is_one is_other = grind (arith, is_one.1, is_other.1)

-- what is told by scramble and solution as they are read
pub of_read : (text : List ℕ) (lines : List TextLine) (scramble solution places : List ℕ) (told : Option Doubt) (given moves : Moves) → AreWritten text Solution lines solution places →
    IsReadAs scramble given → IsReadAs solution moves → IsOfSteps text lines given (turns_of moves) told → IsOfLong text lines scramble told
of_read text lines scramble solution places told given moves is_solution is_given are_moves it = record {
  solution = solution;
  places = places;
  is_solution = is_solution;
  of_steps = λ other_given other_moves is_other are_other.
      subst (λ (these : Moves). IsOfSteps text lines these (turns_of other_moves) told) (same_moves given other_given scramble is_given is_other)
      (subst (λ (these : Moves). IsOfSteps text lines given (turns_of these) told) (same_moves moves other_moves solution are_moves are_other) it);
  of_unread = λ not. absurd (not given moves is_given are_moves);
}

-- what is told without any long step
pub of_none : (text : List ℕ) (lines : List TextLine) (scramble : List ℕ) (told : Option Doubt) → false ≡ list_any is_long_other lines → told ≡ None →
    IsDoubtBeside (list_any is_long_other lines) text lines scramble told
of_none text lines scramble told none is = subst (λ b. IsDoubtBeside b text lines scramble told) none is
