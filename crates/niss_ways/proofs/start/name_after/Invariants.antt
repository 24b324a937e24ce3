use Rattle.std.proofs.Common.{◌≡◌, length}
use Rattle.std.specs.Prelude.{find}
use Rattle.niss_ways.proofs.StartLemmas.{all_faces, is_name}
use Rattle.niss_ways.proofs.start.name_after.Given as goal

abbrev pub invariant-loop-name : goal.invariant-loop-name
invariant-loop-name l = find (is_name l.rotation l.face) l.rest ≡ find (is_name l.rotation l.face) all_faces

abbrev pub decreases-loop-name : goal.decreases-loop-name
decreases-loop-name l = length l.rest
