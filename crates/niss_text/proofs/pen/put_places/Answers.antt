use Rattle.std.proofs.Common.{◌+◌, ◌-◌, ℕ, List, drop, ◌∙◌, arith}
use Rattle.std.proofs.lemmas.List.{length-take-le, length-drop}
use Rattle.std.proofs.lemmas.Slice.{drop-put_mid}
use Rattle.niss_text.proofs.pen.put_places.Goals as goal

pub returns-clause-behind : goal.returns-clause-behind
returns-clause-behind c =
    let places : List ℕ = c.args.places.now in
    let at : ℕ = c.args.at in
    let k : ℕ = at + c.args.count - at in
    drop-put_mid at k places c.fill.new.self (at + c.args.count) (omega arith) (omega arith)
    (c.fill.ensures.len ∙ length-take-le k (drop at places) (omega (arith, length-drop at places)))
