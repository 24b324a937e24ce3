use Rattle.niss_moves.proofs.Names.{sym, subst, List, ℕ, ◌∙◌, take, arith, IsSuffix, between_to_end}
use Rattle.niss_moves.proofs.Completes.{blank_is}
use Rattle.niss_moves.proofs.ReaderLemmas.{move_at}
use Rattle.niss_moves.proofs.symbol.move_of.Goals as goal

pub returns-clause-moves : goal.returns-clause-moves
returns-clause-moves c =
    let bytes = c.args.bytes.now in
    let blank = blank_is _ (sym c.symbol_of.ensures ∙ c.in-Blank.is) in
    let start = c.args.start in
    let k = c.suffix_of-power.result.1 in
    let suffix = subst (λ (xs : List ℕ). IsSuffix (take k xs) c.suffix_of-power.result.0) (between_to_end bytes start _ (omega arith)) c.suffix_of-power.ensures.suffix in
    move_at bytes c.args.base c.suffix_of-power.result.0 start k blank.0 c.token.result c.requires.base suffix (omega arith) blank.1 c.token.ensures
