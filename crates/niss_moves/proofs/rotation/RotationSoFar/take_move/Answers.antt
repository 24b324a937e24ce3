use Rattle.niss_moves.proofs.Home.{takes_wide, takes_slice}
use Rattle.niss_moves.proofs.rotation.RotationSoFar.take_move.Goals as goal

pub returns-in-Wide : goal.returns-in-Wide
returns-in-Wide c =
    takes_wide c.args.self.now c.args.token c.in-Wide.face c.opposite-other.result c.in-Wide.power c.turn_before-turn.result c.rotation_with_face-axis.result.0 c.rotation_with_face-axis.result.1 c.rotate.new.self c.in-Wide.is c.opposite-other.ensures c.turn_before-turn.ensures c.rotation_with_face-axis.ensures c.rotate.ensures

pub returns-in-Slice : goal.returns-in-Slice
returns-in-Slice c =
    takes_slice c.args.self.now c.args.token c.in-Slice.slice c.in-Slice.power c.face_turn_of_slice-axis.result.0 c.opposite-face.result c.inverse-power.result c.turn_before-first.result c.turn_before-second.result c.face_turn_of_slice-axis.result.1 c.rotate-in-Slice.new.self c.in-Slice.is c.face_turn_of_slice-axis.ensures c.opposite-face.ensures c.inverse-power.ensures c.turn_before-first.ensures c.turn_before-second.ensures c.rotate-in-Slice.ensures
