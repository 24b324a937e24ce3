use Rattle.niss_shell.proofs.Names.{◌≡◌, ◌++◌, map, take, flat_map, string_bytes, spaced_word}
use Rattle.niss_shell.proofs.input.push_more_words.Given as goal

abbrev pub invariant-loop-word : goal.invariant-loop-word
invariant-loop-word g l = l.text.items ≡ l.initial.text.items ++ flat_map spaced_word (map string_bytes (take l.word-index l.words))
