use Rattle.std.proofs.Common.{◌≡◌, ◌≤◌, inl, inr, ◌+◌, ◌-◌, ℕ, List, length, take, drop, refl, sym, subst, ap, ◌∙◌, length-drop, arith}
use Rattle.std.proofs.lemmas.Bool.{eq-eqb, false≢true}
use Rattle.std.proofs.lemmas.List.{drop-drop}
use Rattle.niss_text.specs.Signs.{HasNoMoves}
use Rattle.niss_text.specs.Kept.{AreTurns}
use Rattle.niss_text.proofs.CommentLemmas.{moves_zero}
use Rattle.niss_text.proofs.TurnLemmas.{has_turns, turns_left, turns_front, word_front, word_some}
use Rattle.niss_text.proofs.forms.are_like_moves.Goals.{then-word-eq0-via-then-word-eq0, then-word-eq0-via-else-word-eq0+then-not-is_like_move}
use Rattle.niss_text.proofs.forms.are_like_moves.Goals as goal

pub loop-rest-init : goal.loop-rest-init
loop-rest-init c = record {
  fits = c.trimmed-rest.ensures.fits;
  turns = λ turns.
      let none = moves_zero c.args.words.now (length c.args.words.now - length c.trimmed-rest.result.now) turns.first c.trimmed-rest.ensures.skipped in
      inr (subst (λ (v : List ℕ). AreTurns v) (sym (c.trimmed-rest.ensures.rest ∙ ap (λ n. drop n c.args.words.now) none)) turns);
}

pub loop-rest-preserved : goal.loop-rest-preserved
loop-rest-preserved c =
    let rest : List ℕ = c.loop-rest.rest.now in
    let n : ℕ = c.length_of-word.result in
    let next : List ℕ = c.trimmed-rest-in-loop-rest.result.now in
    let after = c.trimmed-rest-in-loop-rest.ensures in
    let inv = c.loop-rest.invariant in
    let behind : List ℕ = c.from_place.result.now in
    let is : behind ≡ drop n rest = c.from_place.ensures in
    let m : ℕ = length behind - length next in
    let long : length behind ≡ length rest - n = ap length is ∙ length-drop n rest in
    let short : length next ≤ length behind = after.fits in
    let left_is : next ≡ drop (n + m) rest = after.rest ∙ ap (λ v. drop m v) is ∙ drop-drop m n rest in
    let none_passed : HasNoMoves (take m (drop n rest)) = subst (λ v. HasNoMoves (take m v)) is after.skipped in
    record {
      fits = omega (arith, short, long, inv.fits);
      turns = λ turns. elim (inv.turns turns) [
        | inl none ↦ absurd (false≢true (sym c.loop-rest-test.true ∙ c.is_empty.ensures ∙ eq-eqb (length rest) 0 none))
        | inr left ↦ turns_left rest next n m left (omega (arith, c.if-word-eq0.false))
            (c.length_of-word.ensures.turns refl (has_turns rest left)) left_is
            (omega (arith, long, c.length_of-word.ensures.fits)) none_passed after.unblank
      ];
    }

pub returns-then-word-eq0 : goal.returns-then-word-eq0
returns-then-word-eq0 c = λ turns.
    let rest : List ℕ = c.loop-rest.rest.now in
    let n : ℕ = c.length_of-word.result in
    elim (c.loop-rest.invariant.turns turns) [
      | inl none ↦ sym c.loop-rest-test.true ∙ c.is_empty.ensures ∙ eq-eqb (length rest) 0 none
      | inr left ↦ elim c.then-word-eq0.branch [
        | then-word-eq0-via-then-word-eq0 w ↦ absurd (word_some rest n left w.if-word-eq0.true (c.length_of-word.ensures.turns refl (has_turns rest left)))
        | then-word-eq0-via-else-word-eq0+then-not-is_like_move w ↦
            sym w.if-not-is_like_move.true ∙ w.is_like_move.ensures
            (turns_front rest n left (omega (arith, w.if-word-eq0.false)) c.length_of-word.ensures.fits)
            (word_front rest n c.length_of-word.ensures.fits (c.length_of-word.ensures.turns refl (has_turns rest left)))
      ]
    ]
