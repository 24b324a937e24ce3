-- Facts that the crates above cite. Of this crate's proofs they name this file alone.

-- parts of a list that follow one another
pub use Rattle.niss_text.proofs.KeptLemmas.{parts_joined}
