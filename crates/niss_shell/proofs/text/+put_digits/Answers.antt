use Rattle.niss_shell.proofs.Names.{◌/◌, append_assoc, arith, decimal}
use Rattle.niss_shell.proofs.WordsLemmas.{decimal_last}
use Rattle.niss_shell.proofs.text.+put_digits.Goals as goal

pub returns-clause-words : goal.returns-clause-words
returns-clause-words t c =
    rw (c.push-2.ensures.items, c.put_digits.ensures.words, decimal_last c.args.number (omega arith) (omega arith))
    (append_assoc c.args.text.now.items (decimal (c.args.number / 10)) _)
