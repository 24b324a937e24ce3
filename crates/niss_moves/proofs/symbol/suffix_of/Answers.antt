use Rattle.niss_moves.proofs.Names.{refl, subst, arith, ◌==◌, get_or, length, ℕ, List, BeginsApostrophe, bool_byte, between_to_end}
use Rattle.niss_moves.proofs.ReaderLemmas.{suffix_at}
use Rattle.niss_moves.proofs.symbol.suffix_of.Goals as goal

pub returns-clause-suffix : goal.returns-clause-suffix
returns-clause-suffix c =
    let bytes = c.args.bytes.now in
    suffix_at (get_or bytes 0 0 == 50) bytes c.apostrophe_length-apostrophe.result (omega arith) refl (subst (λ (xs : List ℕ). BeginsApostrophe xs c.apostrophe_length-apostrophe.result) (between_to_end bytes (bool_byte (get_or bytes 0 0 == 50)) (length bytes) (omega arith)) c.apostrophe_length-apostrophe.ensures.bytes)
