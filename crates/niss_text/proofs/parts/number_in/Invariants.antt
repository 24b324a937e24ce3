use Rattle.std.proofs.Common.{◌≡◌, drop}
use Rattle.niss_text.specs.Known.{head_number}
use Rattle.niss_text.proofs.HeadLemmas.{going_on}
use Rattle.niss_text.proofs.parts.number_in.Given as goal

abbrev pub invariant-loop-byte : goal.invariant-loop-byte
invariant-loop-byte l = head_number l.head ≡ going_on l.number l.has_letters (drop l.byte-index l.head)
