use Rattle.niss_search.proofs.Words.{[], ◌∷◌, get_or, face_may_follow, Face, U, D, R, L, F, B}
use Rattle.niss_moves.specs.Indices.{face_index}
use Rattle.niss_search.specs.Followers.{AreFollowers}
use Rattle.niss_search.proofs.tables.followers.Followers.of.Goals as goal

pub invariant_of-result : goal.invariant_of-result
invariant_of-result c =
    let lists = c.followers_after_face.result ∷ c.followers_after_face-2.result ∷ c.followers_after_face-3.result ∷ c.followers_after_face-4.result ∷ c.followers_after_face-5.result ∷ c.followers_after_face-6.result ∷ [] in (
      c.followers_after.ensures,
      (
        (λ face none. elim face as (λ (f : Face). AreFollowers c.args.step (λ t. face_may_follow f t.face) (get_or lists (face_index f) none).items) [
          | U ↦ c.followers_after_face.ensures
          | D ↦ c.followers_after_face-2.ensures
          | R ↦ c.followers_after_face-3.ensures
          | L ↦ c.followers_after_face-4.ensures
          | F ↦ c.followers_after_face-5.ensures
          | B ↦ c.followers_after_face-6.ensures
        ]),
        tt,
      ),
    )
