use Rattle.niss_moves.proofs.Names.{refl}
use Rattle.niss_moves.proofs.Effects.{by_next, faces_so_far}
use Rattle.niss_moves.proofs.rotation.RotationSoFar.rotate.Goals as goal

pub invariant_of-self : goal.invariant_of-self
invariant_of-self c =
    faces_so_far c.args.self.now c.args.axis c.args.power c.face_before_both.result c.face_before_both-2.result c.face_before_both-3.result c.face_before_both-4.result c.face_before_both-5.result c.face_before_both-6.result _ (by_next c.args.self.now c.args.axis c.args.power c.face_before_both.result c.face_before_both-5.result _ c.face_before_both.ensures c.face_before_both-5.ensures refl) c.face_before_both.ensures c.face_before_both-2.ensures c.face_before_both-3.ensures c.face_before_both-4.ensures c.face_before_both-5.ensures c.face_before_both-6.ensures
