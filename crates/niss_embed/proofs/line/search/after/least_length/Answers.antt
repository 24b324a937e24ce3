use Rattle.std.proofs.Common.{◌<◌, refl, arith}
use Rattle.niss_search.specs.Cubes.{near_looks_of, near_solutions_of}
use Rattle.niss_search.specs.LookNumbers.{look_number_of}
use Rattle.niss_embed.proofs.AfterLemmas.{least_is_first}
use Rattle.niss_embed.proofs.RestLemmas.{first_refused, none_came, before_first}
use Rattle.niss_embed.proofs.line.search.after.least_length.Goals as goal

pub returns-in-Err-Refused-clause-least : goal.returns-in-Err-Refused-clause-least
returns-in-Err-Refused-clause-least g c = λ e h.
    let refused = rw (c.in-Err-Refused.field-0-is, c.zero_is_no_turn-none.ensures, c.new-path.ensures) at c.in-Err-Refused.ensures.err e h in
    least_is_first c.first_is_least.ensures c.args.tables.now e c.args.limit c.new-first.result c.search_within.new.sink c.new-first.ensures.first refused

pub returns-in-Err-Refused-clause-looked : goal.returns-in-Err-Refused-clause-looked
returns-in-Err-Refused-clause-looked g c = λ e h.
    let step = c.args.tables.now in
    let n = c.args.limit in
    let made = c.search_within.new.meter in
    let at = rw (c.in-Err-Refused.field-0-is, c.zero_is_no_turn-none.ensures, c.new-path.ensures) at c.in-Err-Refused.ensures.stopped e made h (omega (arith, c.requires.meter)) in
    first_refused (look_number_of step e) (near_looks_of step e n 0) made (near_solutions_of step e n 0) c.new-first.result c.search_within.new.sink c.new-first.ensures.most (at refl)

pub returns-in-Ok-clause-looked : goal.returns-in-Ok-clause-looked
returns-in-Ok-clause-looked g c = λ e h.
    let step = c.args.tables.now in
    let n = c.args.limit in
    let went = rw (c.zero_is_no_turn-none.ensures, c.new-path.ensures) at c.in-Ok.ensures.ok e h in
    let looks = rw (c.zero_is_no_turn-none.ensures, c.new-path.ensures) at c.in-Ok.ensures.looks e h in
    let whole = none_came (look_number_of step e) (near_looks_of step e n 0) 0 (near_solutions_of step e n 0) c.new-first.result c.search_within.new.sink c.new-first.ensures.most went in
    omega (arith, looks, whole, c.requires.meter)

pub returns-in-Err-Cut-clause-unknown : goal.returns-in-Err-Cut-clause-unknown
returns-in-Err-Cut-clause-unknown g c = λ e h.
    let step = c.args.tables.now in
    let n = c.args.limit in
    let made = c.search_within.new.meter in
    let found = rw (c.in-Err-Cut.field-0-is, c.zero_is_no_turn-none.ensures, c.new-path.ensures) at c.in-Err-Cut.ensures.found e made h (omega (arith, c.requires.meter)) in
    let cut = rw (c.in-Err-Cut.field-0-is, c.zero_is_no_turn-none.ensures, c.new-path.ensures) at c.in-Err-Cut.ensures.cut e h in
    let less : made < near_looks_of step e n 0 = omega (arith, cut refl, c.search_within.ensures.within, c.requires.meter) in
    before_first (look_number_of step e) (near_looks_of step e n 0) made (near_solutions_of step e n 0) c.new-first.result c.search_within.new.sink c.new-first.ensures.most less (found refl)
