use Rattle.std.proofs.Common.{◌<◌, ◌-◌, [], length, arith}
use Rattle.std.specs.Prelude.{get_or}
use Rattle.std.proofs.lemmas.List.{get_or_default}
use Rattle.niss_ways.specs.Order.{rank_of}
use Rattle.niss_ways.specs.declared.way.Part.{Part}
use Rattle.niss_ways.specs.declared.way.SideTurns.{SideTurns}
use Rattle.niss_ways.specs.declared.way.Way.{Way}
use Rattle.niss_ways.proofs.KeptLemmas.{taken_kept}
use Rattle.niss_ways.proofs.TurnLemmas.{in_turn_full, in_turn_placed, in_turn_same}
use Rattle.niss_ways.proofs.rows.take.Goals as goal

abbrev side : SideTurns
side = record { count = 0; free = 0; turns = [] }

abbrev part : Part
part = record { step = 0; normal = side; inverse = side }

abbrev zero_way : Way
zero_way = record { total = 0; corners = 0; edges = 0; on_normal = 0; on_inverse = 0; eo = part; dr = part }

pub returns-then-rank-clause-kept : goal.returns-then-rank-clause-kept
returns-then-rank-clause-kept c =
    let room = c.args.room.now in
    let places = length room in
    let last : Way = get_or room (places - 1) zero_way in
    let better : rank_of c.args.way < rank_of last = omega (arith, c.if-rank.true, c.rank.ensures, c.rank-then-places-gt0.ensures) in
    taken_kept c.args.way c.args.count places room c.insert-then-rank.new.room last c.if-places-gt0.true (omega arith)
    (omega (arith, c.if-count-places.false)) (λ d. get_or_default room (places - 1) d zero_way (omega (arith, c.if-places-gt0.true))) better
    c.insert-then-rank.ensures.from c.insert-then-rank.ensures.still c.insert-then-rank.ensures.length

pub returns-then-count-places-clause-in_turn : goal.returns-then-count-places-clause-in_turn
returns-then-count-places-clause-in_turn c =
    λ fits s. in_turn_placed c.args.way c.args.count c.args.room.now c.insert.new.room c.insert.ensures.put (omega (arith, c.if-count-places.true))

pub returns-then-rank-clause-in_turn : goal.returns-then-rank-clause-in_turn
returns-then-rank-clause-in_turn c =
    let room = c.args.room.now in
    let places = length room in
    let last : Way = get_or room (places - 1) zero_way in
    let better : rank_of c.args.way < rank_of last = omega (arith, c.if-rank.true, c.rank.ensures, c.rank-then-places-gt0.ensures) in
    in_turn_full c.args.way c.args.count places room c.insert-then-rank.new.room last c.if-places-gt0.true (omega arith)
    (omega (arith, c.if-count-places.false)) (λ d. get_or_default room (places - 1) d zero_way (omega (arith, c.if-places-gt0.true))) better
    c.insert-then-rank.ensures.put c.insert-then-rank.ensures.length

pub returns-else-rank-clause-in_turn : goal.returns-else-rank-clause-in_turn
returns-else-rank-clause-in_turn c =
    λ fits s. in_turn_same c.args.count (length c.args.room.now) c.args.room.now (omega (arith, fits, c.if-count-places.false))

pub returns-else-places-gt0-clause-in_turn : goal.returns-else-places-gt0-clause-in_turn
returns-else-places-gt0-clause-in_turn c =
    λ fits s. in_turn_same c.args.count (length c.args.room.now) c.args.room.now (omega (arith, fits, c.if-count-places.false))
