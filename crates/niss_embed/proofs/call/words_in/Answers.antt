use Rattle.std.proofs.Common.{map, sym, refl, ◌∙◌, subst, arith}
use Rattle.std.specs.Prelude.{string_bytes}
use Rattle.niss_embed.specs.Run.{TakesWords}
use Rattle.niss_embed.proofs.WordLemmas.{WithRest, AreText, with_all, with_next, text_with_next, takes_all, takes_none, shorter_after, pushed_word, on_err}
use Rattle.niss_embed.proofs.call.words_in.Goals as goal

pub loop-word-init : goal.loop-word-init
loop-word-init g c = record {
  kept = subst (λ v. WithRest c.args.bytes.now c.args.bytes.now (map string_bytes v)) (sym c.new-words.ensures.items) (with_all c.args.bytes.now);
  text = subst (λ v. AreText (map string_bytes v)) (sym c.new-words.ensures.items) refl;
  shorter = omega arith;
}

pub returns-in_default-from_utf8-clause-words : goal.returns-in_default-from_utf8-clause-words
returns-in_default-from_utf8-clause-words g c =
    subst (λ v. TakesWords c.args.bytes.now (map string_bytes v)) (sym c.new.ensures.items)
    (takes_none (map string_bytes c.loop-word.words.items) c.loop-word.invariant.kept c.loop-word.invariant.text c.in-Some.ensures c.in_default-from_utf8.ensures.cases.0)

pub returns-in_err-from_str-clause-asked : goal.returns-in_err-from_str-clause-asked
returns-in_err-from_str-clause-asked g c =
    on_err c.from_residual.result (omega (arith, shorter_after c.in-Some.ensures, c.loop-word.invariant.shorter))

pub returns-in_err-push-clause-asked : goal.returns-in_err-push-clause-asked
returns-in_err-push-clause-asked g c =
    on_err c.from_residual-in_err-push.result (omega (arith, shorter_after c.in-Some.ensures, c.loop-word.invariant.shorter))

pub loop-word-smaller : goal.loop-word-smaller
loop-word-smaller g c = shorter_after c.in-Some.ensures

pub loop-word-preserved : goal.loop-word-preserved
loop-word-preserved g c =
    let more = pushed_word c.loop-word.words.items c.push.new.self.items c.in_ok-from_str.field-0
    c.in_ok-push.ensures.items (c.in_ok-from_str.ensures.ok ∙ c.in-Ok.ensures.cases.0) in
    record {
      kept = with_next (map string_bytes c.loop-word.words.items) c.loop-word.invariant.kept c.in-Some.ensures more;
      text = text_with_next (map string_bytes c.loop-word.words.items) c.loop-word.invariant.text c.in-Ok.ensures.cases.1 more;
      shorter = omega (arith, shorter_after c.in-Some.ensures, c.loop-word.invariant.shorter);
    }

pub returns-clause-words : goal.returns-clause-words
returns-clause-words g c = takes_all c.loop-word.invariant.kept c.loop-word.invariant.text c.in_default.ensures
