-- Facts on the public definitions that the crates above cite. Of this crate's proofs they name this file alone.

-- places, faces and powers by their tests, and truth values
pub use Rattle.niss_moves.proofs.Finite.{same_place_is, same_place_of, same_face_is, same_power, same_power_is, all_places, not_true}
pub use Rattle.niss_moves.proofs.Finite.{and_left, and_right, and_both, turn, at_face, at_token, at_turn, at_member, Fact, Yes, Same, Equal}
pub use Rattle.niss_moves.proofs.Finite.{Below, Alike, Both, When, Numbers, Places, Faces, Turns, Among, Tokens, Digits, Truths, Holds}
pub use Rattle.niss_moves.proofs.Finite.{tested, holds, find_passes}
unfoldable pub use Rattle.niss_moves.proofs.Finite.{every_face, every_power, every_axis, every_slice, every_token, every_turn}
pub use Rattle.niss_moves.proofs.Effects.{effect-append, inverse-append, inverse_after, inverse_before, inverse_whole}
pub use Rattle.niss_moves.proofs.CanonicalLists.{last_turn-push}
