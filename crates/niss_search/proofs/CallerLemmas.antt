-- Facts that the crates above cite. Of this crate's proofs they name this file alone.

pub use Rattle.niss_search.proofs.BeginningLemmas.{any_at, none_more}
pub use Rattle.niss_search.proofs.BothLemmas.{range_push}
