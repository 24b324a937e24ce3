use Rattle.std.proofs.Common.{◌≡◌, ◌≤◌, ◌+◌, ◌-◌, drop, length, ◌∙◌, arith}
use Rattle.std.proofs.Math.Nat.{min-le_right}
use Rattle.std.proofs.lemmas.List.{length-drop, length-take-le}
use Rattle.std.proofs.lemmas.Slice.{drop-put_mid}
use Rattle.niss_embed.proofs.memory.put.Goals as goal

pub returns-clause-left : goal.returns-clause-left
returns-clause-left c =
    let free = drop c.args.at c.args.bytes.now in
    let room : length free ≡ length c.args.bytes.now - c.args.at = length-drop c.args.at c.args.bytes.now in
    let count = c.args.at + c.min-count.result - c.args.at in
    let fits : count ≤ length free = omega (arith, room, c.min-count.ensures, min-le_right (length c.args.piece.now) (length c.args.bytes.now - c.args.at)) in
    drop-put_mid c.args.at count c.args.bytes.now c.copy_from_slice.new.self (c.args.at + c.min-count.result) (omega arith) c.requires
    (c.copy_from_slice.ensures.len ∙ length-take-le count free fits)
