use Rattle.niss_shell.proofs.Names.{◌≡◌, ◌≤◌, length, map, take, flat_map, string_bytes, most_bytes, spaced_word}
use Rattle.niss_shell.proofs.input.joined_length.Given as goal

abbrev pub invariant-loop-word : goal.invariant-loop-word
invariant-loop-word g l = record {
  total : l.total ≡ length (flat_map spaced_word (map string_bytes (take l.word-index l.words)));
  fits : l.total ≤ most_bytes;
}
