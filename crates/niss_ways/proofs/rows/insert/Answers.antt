use Rattle.std.proofs.Common.{◌≡◌, ◌<◌, ◌≤◌, ◌-◌, ℕ, [], suc, refl, sym, subst, arith, length, ◌∙◌, ap}
use Rattle.std.specs.Prelude.{slice_set, get_or}
use Rattle.std.proofs.lemmas.List.{get_or_default, length-set}
use Rattle.niss_ways.specs.Order.{rank_of}
use Rattle.niss_ways.specs.declared.way.Part.{Part}
use Rattle.niss_ways.specs.declared.way.SideTurns.{SideTurns}
use Rattle.niss_ways.specs.declared.way.Way.{Way}
use Rattle.niss_ways.proofs.OrderLemmas.{Open, begun, shifted, closed_from, closed_stay, closed_sorted, closed_before, closed_behind, closed_after, here_filled}
use Rattle.niss_ways.proofs.rows.insert.Goals as goal
use Rattle.niss_ways.proofs.rows.insert.Goals.{else-loop-at-test, then-loop-at-test+then-rank}

abbrev side : SideTurns
side = record { count = 0; free = 0; turns = [] }

abbrev part : Part
part = record { step = 0; normal = side; inverse = side }

abbrev zero_way : Way
zero_way = record { total = 0; corners = 0; edges = 0; on_normal = 0; on_inverse = 0; eo = part; dr = part }

pub loop-at-init : goal.loop-at-init
loop-at-init c = record { same = refl; there = omega arith; free = begun rank_of c.args.room.now c.args.count c.rank-rank.result }

pub loop-at-preserved : goal.loop-at-preserved
loop-at-preserved c =
    let xs = c.loop-at.room in
    let at = c.loop-at.at in
    let old = c.args.room.now in
    let n = c.args.count in
    let r = c.rank-rank.result in
    let x : Way = get_or xs (at - 1) zero_way in
    let e : at ≡ suc (at - 1) = omega arith in
    let o : Open rank_of old n r (suc (at - 1)) xs = subst (λ (m : ℕ). Open rank_of old n r m xs) e c.loop-at.invariant.free in
    let room : suc (at - 1) < length xs = omega (arith, c.loop-at.invariant.same, c.loop-at.invariant.there) in
    let more : r < rank_of x = omega (arith, c.if-rank.false, c.rank.ensures) in
    record {
      same = length-set xs at x ∙ c.loop-at.invariant.same;
      there = omega (arith, c.loop-at.invariant.there);
      free = subst (λ (m : ℕ). Open rank_of old n r (at - 1) (slice_set xs m x)) (sym e)
          (shifted rank_of old n r (at - 1) xs x o room (λ d. get_or_default xs (at - 1) d zero_way (omega arith)) more (omega (arith, c.loop-at.invariant.there)));
    }

pub returns-clause-from : goal.returns-clause-from
returns-clause-from c =
    closed_from rank_of c.args.room.now c.args.count c.rank-rank.result c.loop-at.at c.loop-at.room c.args.way c.loop-at.invariant.free
    (omega (arith, c.loop-at.invariant.same, c.loop-at.invariant.there)) c.rank-rank.ensures

pub returns-clause-still : goal.returns-clause-still
returns-clause-still c =
    closed_stay rank_of c.args.room.now c.args.count c.rank-rank.result c.loop-at.at c.loop-at.room c.args.way c.loop-at.invariant.free
    (omega (arith, c.loop-at.invariant.same, c.loop-at.invariant.there)) c.rank-rank.ensures

pub returns-clause-sorted : goal.returns-clause-sorted
returns-clause-sorted c =
    let xs = c.loop-at.room in
    let at = c.loop-at.at in
    let at_end : (d : Way) → 0 < at → rank_of (get_or xs (at - 1) d) ≤ rank_of c.args.way =
    elim c.loop-at-test.branch [
      | else-loop-at-test w ↦ λ d some. absurd (omega (arith, w.loop-at-test.false))
      | then-loop-at-test+then-rank w ↦ λ d some.
          let same : rank_of (get_or xs (at - 1) d) ≡ rank_of (get_or xs (at - 1) zero_way) =
          ap rank_of (get_or_default xs (at - 1) d zero_way (omega (arith, c.loop-at.invariant.same, c.loop-at.invariant.there))) in
          omega (arith, same, w.if-rank.true, w.rank.ensures, c.rank-rank.ensures)
    ] in
    closed_sorted rank_of c.args.room.now c.args.count c.rank-rank.result at xs c.args.way c.loop-at.invariant.free
    (omega (arith, c.loop-at.invariant.same, c.loop-at.invariant.there)) c.rank-rank.ensures at_end

pub returns-clause-put : goal.returns-clause-put
returns-clause-put c =
    let xs = c.loop-at.room in
    let at = c.loop-at.at in
    let old = c.args.room.now in
    let n = c.args.count in
    let r = c.rank-rank.result in
    let way = c.args.way in
    let room : at < length xs = omega (arith, c.loop-at.invariant.same, c.loop-at.invariant.there) in
    record {
      at = at;
      there = c.loop-at.invariant.there;
      before = closed_before rank_of old n r at xs way c.loop-at.invariant.free room c.rank-rank.ensures;
      here = here_filled rank_of old n r at xs way c.loop-at.invariant.free room c.rank-rank.ensures;
      behind = closed_behind rank_of old n r at xs way c.loop-at.invariant.free room c.rank-rank.ensures;
      after = closed_after rank_of old n r at xs way c.loop-at.invariant.free room c.rank-rank.ensures;
    }
