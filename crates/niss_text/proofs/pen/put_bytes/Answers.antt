use Rattle.std.proofs.Common.{◌+◌, ◌-◌, ℕ, List, drop, ◌∙◌, arith}
use Rattle.std.proofs.lemmas.List.{length-take-le, length-drop}
use Rattle.std.proofs.lemmas.Slice.{drop-put_mid}
use Rattle.niss_text.proofs.pen.put_bytes.Goals as goal

pub returns-clause-behind : goal.returns-clause-behind
returns-clause-behind c =
    let out : List ℕ = c.args.out.now in
    let at : ℕ = c.args.at in
    let k : ℕ = at + c.args.count - at in
    let fits = c.requires.room in
    drop-put_mid at k out c.copy_from_slice.new.self (at + c.args.count) (omega arith) (omega arith)
    (c.copy_from_slice.ensures.len ∙ length-take-le k (drop at out) (omega (arith, length-drop at out)))
