use denote.Param.Send.{IsSync, part_keyless}
use Rattle.niss_kept.proofs.held.Kept.TheSendSync.Send.{send}
use Rattle.niss_kept.specs.contracts.held.Kept.{the_row}

pub sync : IsSync the_row
sync = record { shared = λ d b o κ q. part_keyless the_row send q d b o }
