use Rattle.std.proofs.Common.{arith}
use Rattle.niss_text.specs.Kept.{words_of_count}
use Rattle.niss_text.proofs.KeptLemmas.{only_nth}
use Rattle.niss_text.proofs.forms.moves_length.Goals as goal

pub returns-then-many-gt0-clause-word : goal.returns-then-many-gt0-clause-word
returns-then-many-gt0-clause-word c = only_nth words_of_count c.args.text.now c.word_length-many.result 0 (omega arith) c.word_length-many.ensures.word

pub returns-else-many-gt0-clause-word : goal.returns-else-many-gt0-clause-word
returns-else-many-gt0-clause-word c = only_nth words_of_count c.args.text.now c.word_length.result 1 (omega arith) c.word_length.ensures.word
