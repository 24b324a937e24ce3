use Rattle.std.proofs.Common.{◌≤◌, length, arith}
use Rattle.niss_shell.specs.Words.{most_bytes}
use Rattle.niss_embed.specs.Memory.{memory}
use Rattle.niss_embed.proofs.AfterLemmas.{after_solves}
use Rattle.niss_embed.proofs.line.search.after.solve_after.Goals as goal

pub returns-in-Ok : goal.returns-in-Ok
returns-in-Ok g c =
    let bounds = c.in-Some.ensures in
    let start = c.in-Ok.ensures in
    let short : length c.args.line.now ≤ most_bytes = omega (arith, c.if-line-gt-MOST_BYTES.false) in
    let solved = rw (bounds.0, c.as_slice.ensures.value) at c.solve_cube_after.ensures start.0 start.2 in
    after_solves c.args.tables.now c.args.wanted c.args.line.now c.args.after.now (memory c.args.out.now c.solve_cube_after.new.out) c.solve_cube_after.result
    c.in-Some-turns_of_text.turns.items c.in-Some-turns_of_text.ensures bounds.1 bounds.2 short (rw start.1 solved)
