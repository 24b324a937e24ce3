use Rattle.std.proofs.Common.{◌∙◌, sym, inl, inr}
use Rattle.std.proofs.lemmas.Bool.{false≢true}
use Rattle.niss_text.proofs.WordLemmas.{move_parts}
use Rattle.niss_text.proofs.short_word.move_length.Goals.{else-ends_move-via-then-ends_move+else-ends_word-2, else-ends_move-via-else-ends_move}
use Rattle.niss_text.proofs.short_word.move_length.Goals as goal

pub returns-then-not-begins_move-clause-some : goal.returns-then-not-begins_move-clause-some
returns-then-not-begins_move-clause-some c = λ is.
    absurd (false≢true (sym c.if-not-begins_move.true ∙ c.begins_move.ensures (move_parts c.args.text.now is).0))

pub returns-else-ends_move-clause-some : goal.returns-else-ends_move-clause-some
returns-else-ends_move-clause-some c = λ is.
    elim (move_parts c.args.text.now is).1 [
      | inl over ↦ absurd (false≢true (sym c.if-ends_word.false ∙ c.ends_word.ensures.is ∙ over))
      | inr signed ↦ elim c.else-ends_move.branch [
        | else-ends_move-via-then-ends_move+else-ends_word-2 w ↦
            absurd (false≢true (sym w.if-ends_word-2.false ∙ w.ends_word-then-ends_move.ensures.is ∙ signed.1))
        | else-ends_move-via-else-ends_move w ↦ absurd (false≢true (sym w.if-ends_move.false ∙ c.ends_move.ensures ∙ signed.0))
      ]
    ]
