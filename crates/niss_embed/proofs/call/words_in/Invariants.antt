use Rattle.std.proofs.Common.{◌≤◌, map, length}
use Rattle.std.specs.Prelude.{string_bytes}
use Rattle.niss_embed.proofs.WordLemmas.{WithRest, AreText}
use Rattle.niss_embed.proofs.call.words_in.Given as goal

abbrev pub invariant-loop-word : goal.invariant-loop-word
invariant-loop-word g l = record {
  kept : WithRest l.bytes l.rest (map string_bytes l.words.items);
  text : AreText (map string_bytes l.words.items);
  shorter : length l.rest ≤ length l.bytes;
}

abbrev pub decreases-loop-word : goal.decreases-loop-word
decreases-loop-word g l = length l.rest
