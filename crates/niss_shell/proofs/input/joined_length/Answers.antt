use Rattle.niss_shell.proofs.Names.{◌≡◌, length, get_or, ap, sym, arith, string_bytes}
use Rattle.niss_shell.proofs.WordsLemmas.{joined_from}
use Rattle.niss_shell.proofs.input.joined_length.Goals as goal

pub returns-then-length-total : goal.returns-then-length-total
returns-then-length-total g c =
    let e = joined_from string_bytes c.args.words.now c.loop-word.word-index c.word-item.result c.loop-word-test.true in
    let f : length (string_bytes (get_or c.args.words.now c.loop-word.word-index c.word-item.result)) ≡ length (string_bytes c.word-item.result) =
    ap (λ w. length (string_bytes w)) (sym c.word-item.is) in
    let k : length c.as_bytes-length.result.now ≡ length (string_bytes c.word-item.result) = ap length c.as_bytes-length.ensures.value in
    omega (arith, e, f, k, c.loop-word.invariant.total, c.loop-word.invariant.fits, c.if-length-total.true)
