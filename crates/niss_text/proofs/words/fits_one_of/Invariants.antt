use Rattle.std.proofs.Common.{◌≡◌, ◌<◌, true, length, map}
use Rattle.std.specs.List.{Contains}
use Rattle.niss_text.specs.Kept.{small}
use Rattle.niss_text.specs.Said.{listed}
use Rattle.niss_text.proofs.words.fits_one_of.Given as goal

abbrev pub invariant-loop-rest : goal.invariant-loop-rest
invariant-loop-rest l = record {
  among : 0 < length l.text → Contains (listed l.rest) (map small l.text) → Contains (listed l.words) (map small l.text);
  left : l.is_whole ≡ true → 0 < length l.text → Contains (listed l.words) (map small l.text) → Contains (listed l.rest) (map small l.text);
}

abbrev pub decreases-loop-rest : goal.decreases-loop-rest
decreases-loop-rest l = length l.rest
