use Rattle.std.proofs.Common.{◌∙◌, sym, subst, take, List}
use Rattle.niss_text.specs.declared.moves.MovesOf.TheVariants.{EachStep}
use Rattle.niss_text.specs.declared.text_line.TextLine.{TextLine}
use Rattle.niss_attempts.specs.Doubts.{AreWritten}
use Rattle.niss_attempts.proofs.BesideLemmas.{seen_long}
use Rattle.niss_attempts.proofs.doubts.beside.Solved.see.Goals as goal

pub returns-clause-is : goal.returns-clause-is
returns-clause-is c =
    let it = c.args.self.now in
    let moves = take c.in_ok-count.count c.moves_of.new.out in
    let places = take c.in_ok-count.count c.moves_of.new.places in
    seen_long it.text.now c.args.line.now it.scramble.now it.solution.now c.see_line.result (sym c.if-not-is_long_other.false ∙ c.is_long_other.ensures) (record {
      moves = moves;
      places = places;
      are_moves = subst (λ (lines : List TextLine). AreWritten it.text.now EachStep lines moves places) c.from_ref.ensures.value c.in_ok-count.ensures.are;
      apart = c.see_line.ensures.apart;
      slip = c.see_line.ensures.slip;
    })
