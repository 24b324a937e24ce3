use Rattle.std.proofs.Common.{◌≡◌, ℕ, ◌+◌, get_or, sym, ap, ◌∙◌, arith}
use Rattle.std.proofs.lemmas.Bool.{false≢true}
use Rattle.niss_text.specs.Signs.{is_letter}
use Rattle.niss_text.proofs.SaidLemmas.{no_pair, letter_within}
use Rattle.niss_text.proofs.words.has_word.Goals.{else-is_letter-via-then-is_letter+else-is_after_letter, else-is_letter-via-else-is_letter}
use Rattle.niss_text.proofs.words.has_word.Goals as goal

pub loop-byte-preserved : goal.loop-byte-preserved
loop-byte-preserved c =
    let text = c.args.text.now in
    let i : ℕ = c.loop-byte.byte-index in
    let inv = c.loop-byte.invariant in
    let here : c.is_letter_byte-is_letter.result ≡ is_letter (get_or text i 0) = c.is_letter_byte-is_letter.ensures in
    record {
      last = λ k next. let same : i ≡ k = omega (arith, next) in here ∙ ap (λ n. is_letter (get_or text n 0)) same;
      none = λ k low one two. no_pair k i low (λ lt. inv.none k lt one two) (λ same.
          elim c.else-is_letter.branch [
            | else-is_letter-via-then-is_letter+else-is_after_letter w ↦ false≢true (sym w.if-is_after_letter.false ∙ inv.last k same ∙ one)
            | else-is_letter-via-else-is_letter w ↦ false≢true (sym w.if-is_letter.false ∙ here ∙ ap (λ n. is_letter (get_or text n 0)) (sym same) ∙ two)
          ]);
    }

pub returns : goal.returns
returns c = λ k one two. absurd (c.loop-byte.invariant.none k (omega (arith, letter_within c.args.text.now (k + 1) two, c.loop-byte-test.false)) one two)
