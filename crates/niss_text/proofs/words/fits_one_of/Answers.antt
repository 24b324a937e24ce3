use Rattle.std.proofs.Common.{ℕ, List, map, length, sym, ◌∙◌, arith}
use Rattle.std.proofs.lemmas.Bool.{false≢true}
use Rattle.std.proofs.lemmas.List.{length-map}
use Rattle.niss_text.specs.Kept.{small}
use Rattle.niss_text.proofs.ListedWords.{first_listed, listed_behind, none_listed}
use Rattle.niss_text.proofs.SaidLemmas.{none_of_test}
use Rattle.niss_text.proofs.words.fits_one_of.Goals as goal

pub returns-then-fits-clause-whole : goal.returns-then-fits-clause-whole
returns-then-fits-clause-whole c = λ is yes.
    let first = c.first_length-length in
    c.loop-rest.invariant.among (c.fits.ensures.some is c.if-fits.true)
    (first_listed c.loop-rest.rest.now (map small c.args.text.now) first.result first.ensures.fits first.ensures.before first.ensures.comma
    (c.fits.ensures.whole is c.if-fits.true))

pub loop-rest-preserved : goal.loop-rest-preserved
loop-rest-preserved c =
    let rest : List ℕ = c.loop-rest.rest.now in
    let next : List ℕ = c.behind_word-rest.result.now in
    let word : List ℕ = map small c.args.text.now in
    let inv = c.loop-rest.invariant in
    let first = c.first_length-length in
    record {
      among = λ some later. inv.among some ((listed_behind rest next word first.result first.ensures.fits first.ensures.before first.ensures.comma
          c.behind_word-rest.ensures.more c.behind_word-rest.ensures.last (omega (arith, some, length-map c.args.text.now small))).0 later);
      left = λ whole some is. (listed_behind rest next word first.result first.ensures.fits first.ensures.before first.ensures.comma
          c.behind_word-rest.ensures.more c.behind_word-rest.ensures.last (omega (arith, some, length-map c.args.text.now small))).1
          (λ same. false≢true (sym c.if-fits.false ∙ c.fits.ensures.all whole some same)) (inv.left whole some is);
    }

pub returns-clause-all : goal.returns-clause-all
returns-clause-all c = λ whole some is. absurd (none_listed c.loop-rest.rest.now (map small c.args.text.now) (none_of_test (length c.loop-rest.rest.now) (sym c.is_empty.ensures ∙ c.loop-rest-test.false)) (omega (arith, some, length-map c.args.text.now small)) (c.loop-rest.invariant.left whole some is))
