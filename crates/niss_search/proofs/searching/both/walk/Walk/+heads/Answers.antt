use Rattle.niss_search.proofs.Words.{◌≡◌, ◌∙◌, ◌+◌, ◌-◌, ◌≤◌, ◌++◌, ◌∷◌, [], suc, arith, sym, ap, subst, take, take_all, get_or, length, length-append, map_of, Path, false, ℕ}
use Rattle.niss_search.proofs.Words.{err_from_is_err_and, turns_of, turned, Contains, Contains-get_or, IsTrue, Place}
use Rattle.std.proofs.lemmas.List.{take_more}
use Rattle.niss_search.proofs.DescentParts.{no_follower}
use Rattle.niss_search.proofs.BothLemmas.{done-none, done-all, parts_more, parts_stop, list_split, heads-end, heads-next, next_heads, popped, idle_end, live_end}
unfoldable use Rattle.niss_search.specs.BothWalk.{after_heads}
use Rattle.niss_search.specs.BothWalk.{parts, ends_here, MaySearch, StandsAt}
use Rattle.niss_search.proofs.searching.both.walk.Walk.+heads.Goals as goal

pub go_on-follow-requires : goal.go_on-follow-requires
go_on-follow-requires g t c κs within =
    let inv = c.loop-follower.invariant in
    let same = sym inv.head in
    let Room : Path → Type 0 = λ q. length q.turns + 1 + (c.args.left - 1) ≤ q.limit in
    let Here : Path → Type 0 = λ q. StandsAt c.args.self.now q.turns (map_of c.args.here.now) in
    let room : Room c.args.head.now = omega (arith, c.requires.room, c.requires.some) in
    let follower = c.turns_after-follower-items.ensures.columns c.loop-follower.follower-index no_follower c.loop-follower-test.true in
    let asked : MaySearch c.args.self.now.budget.now.bound c.loop-follower.meter = record { within = inv.done.within; countable = c.requires.asked.countable } in (
      omega (arith, c.requires.some),
      (within.0, (within.1.0, (within.1.1, (follower, (subst Here same c.requires.here, (c.requires.few, (subst Room same room, asked))))))),
    )

pub go_on-returns-in_err-count-clause-head : goal.go_on-returns-in_err-count-clause-head
go_on-returns-in_err-count-clause-head g t c = c.follow.ensures.head ∙ c.loop-follower.invariant.head

pub go_on-returns-in_err-count-clause-searched : goal.go_on-returns-in_err-count-clause-searched
go_on-returns-in_err-count-clause-searched g t c =
    let walk = c.args.self.now in
    let step = walk.tables.now in
    let e = map_of walk.cube.now in
    let inv = c.loop-follower.invariant in
    let head = c.args.head.now.turns in
    let left = c.args.left - 1 in
    let items = c.turns_after-follower-items.result.now in
    let i = c.loop-follower.follower-index in
    let p = err_from_is_err_and c.from_residual.result c.from_residual.ensures.1 in
    let each = next_heads walk.ends step e walk.side walk.tail head left in
    let stops = rw (inv.head, c.in_err-count.was) at c.follow.ensures.searched in
    let one : c.args.left ≡ suc left = omega (arith, c.requires.some) in
    let all = ap (after_heads walk.ends step e walk.side walk.tail head) one ∙ heads-next walk.ends step e walk.side walk.tail head left items (rw c.last.ensures at c.turns_after-follower-items.ensures.turns) in
    let split = list_split items i no_follower c.loop-follower-test.true in
    rw (p.1, p.2, all, split) (parts_stop g.K.PairSink.took g.K.PairSink.refused walk.budget.now.bound each (take i items) (get_or items i no_follower) inv.done step (λ (n : ℕ). n) _ _ stops)

pub go_on-overflow_add-count : goal.go_on-overflow_add-count
go_on-overflow_add-count g t c =
    let went = rw c.in_ok-count.was at c.follow.ensures.searched in
    omega (arith, c.loop-follower.invariant.done.counted, went.counted, went.within, c.requires.asked.countable)

pub go_on-loop-follower-preserved : goal.go_on-loop-follower-preserved
go_on-loop-follower-preserved g t c =
    let walk = c.args.self.now in
    let step = walk.tables.now in
    let inv = c.loop-follower.invariant in
    let items = c.turns_after-follower-items.result.now in
    let i = c.loop-follower.follower-index in
    let each = next_heads walk.ends step (map_of walk.cube.now) walk.side walk.tail c.args.head.now.turns (c.args.left - 1) in
    let went = rw (inv.head, c.in_ok-count.was) at c.follow.ensures.searched in
    record {
      head = c.follow.ensures.head ∙ inv.head;
      done = rw (take_more items i no_follower c.loop-follower-test.true)
          (parts_more g.K.PairSink.took g.K.PairSink.refused walk.budget.now.bound each (take i items) (get_or items i no_follower) inv.done step _ went);
    }

pub go_on-returns-clause-head : goal.go_on-returns-clause-head
go_on-returns-clause-head g t c = c.loop-follower.invariant.head

pub go_on-returns-clause-searched : goal.go_on-returns-clause-searched
go_on-returns-clause-searched g t c =
    let walk = c.args.self.now in
    let step = walk.tables.now in
    let e = map_of walk.cube.now in
    let head = c.args.head.now.turns in
    let left = c.args.left - 1 in
    let items = c.turns_after-follower-items.result.now in
    let each = next_heads walk.ends step e walk.side walk.tail head left in
    let one : c.args.left ≡ suc left = omega (arith, c.requires.some) in
    let all = ap (after_heads walk.ends step e walk.side walk.tail head) one ∙ heads-next walk.ends step e walk.side walk.tail head left items (rw c.last.ensures at c.turns_after-follower-items.ensures.turns) in
    let end : take c.loop-follower.follower-index items ≡ items = take_all c.loop-follower.follower-index items (omega (arith, c.loop-follower-test.false, c.loop-follower.auto.follower-index-end)) in
    done-all g.K.PairSink.took g.K.PairSink.refused walk.budget.now.bound step (λ (n : ℕ). n) (after_heads walk.ends step e walk.side walk.tail head c.args.left) (parts each items) all c.loop-follower.count (rw end at c.loop-follower.invariant.done)

pub follow-returns-then-is_end-clause-searched : goal.follow-returns-then-is_end-clause-searched
follow-returns-then-is_end-clause-searched g t c =
    let walk = c.args.self.now in
    let head = c.args.head.now.turns in
    let e = map_of walk.cube.now in
    let bound = walk.budget.now.bound in
    done-all g.K.PairSink.took g.K.PairSink.refused bound walk.tables.now (λ (n : ℕ). n)
    (after_heads walk.ends walk.tables.now e walk.side walk.tail (head ++ c.args.next.follower.turn ∷ []) c.args.next.left) _
    (idle_end walk.ends walk.tables.now e walk.side walk.tail head c.args.next.follower c.args.next.left c.is_end.result c.requires.follower c.is_end.ensures c.if-is_end.true)
    0 (done-none g.K.PairSink.took g.K.PairSink.refused bound c.args.meter.now c.args.sink.now c.requires.asked.within)

pub follow-push-requires : goal.follow-push-requires
follow-push-requires g t c = omega (arith, c.requires.room)

pub follow-go_below-found-requires : goal.follow-go_below-found-requires
follow-go_below-found-requires g t c κs within =
    let walk = c.args.self.now in
    let step = walk.tables.now in
    let turn = c.args.next.follower.turn in
    let column = c.requires.follower in
    let of_step : Contains (turns_of step) turn = subst (Contains (turns_of step)) column.1 (Contains-get_or (turns_of step) c.args.next.follower.column _ column.0) in
    let path = c.args.head.now in
    let here : Place → Place = λ r. turned turn (map_of c.args.here.now r) in
    let pushed : Path = record { limit = path.limit; turns = path.turns ++ turn ∷ [] } in
    let is_pushed : c.push.new.self ≡ pushed = c.push.ensures in
    let Room : Path → Type 0 = λ q. length q.turns + c.args.next.left ≤ q.limit in
    let Here : Path → Type 0 = λ q. StandsAt walk q.turns here in
    let End : Path → Type 0 = λ q. c.args.next.left ≡ 0 → ends_here walk.ends step q.turns ≡ false in
    let room : Room pushed = omega (arith, c.requires.room, length-append path.turns (turn ∷ [])) in
    let end : End pushed = live_end walk.ends step path.turns c.args.next.follower c.args.next.left c.is_end.result column c.is_end.ensures c.if-is_end.false in
    let stands : Here pushed = record {
      starts = c.start_is_kept.ensures step (map_of c.args.here.now) turn of_step c.requires.here.starts;
      is_here = c.tails_follow_heads.ensures.next step walk.side walk.cube.now path.turns (map_of c.args.here.now) turn c.requires.here.is_here;
    } in (
      omega arith,
      (
        within.0,
        (
          within.1.0,
          (
            within.1.1,
            (subst Here (sym is_pushed) stands, (c.requires.few, (subst Room (sym is_pushed) room, (subst End (sym is_pushed) end, c.requires.asked)))),
          ),
        ),
      ),
    )

pub follow-returns-clause-head : goal.follow-returns-clause-head
follow-returns-clause-head g t c =
    popped c.args.head.now c.go_below-found.new.head c.pop.new.self c.args.next.follower.turn c.pop.result
    (c.go_below-found.ensures.head ∙ c.push.ensures) c.pop.ensures.limit c.pop.ensures.some c.pop.ensures.none

pub follow-returns-clause-searched : goal.follow-returns-clause-searched
follow-returns-clause-searched g t c = rw c.push.ensures at c.go_below-found.ensures.searched

pub go_below-returns-then-next-eq0-clause-searched : goal.go_below-returns-then-next-eq0-clause-searched
go_below-returns-then-next-eq0-clause-searched g t c =
    let walk = c.args.self.now in
    rw (c.if-next-eq0.true, heads-end walk.ends walk.tables.now (map_of walk.cube.now) walk.side walk.tail c.args.head.now.turns) c.search_other.ensures

pub go_below-go_on-requires : goal.go_below-go_on-requires
go_below-go_on-requires g t c κs within =
    let walk = c.args.self.now in
    let turned_here : Place → Place = λ q. turned c.args.next.follower.turn (map_of c.args.here.now q) in
    let after = map_of c.turn.new.self in
    let stands : StandsAt walk c.args.head.now.turns after = record {
      starts = subst IsTrue (sym ((c.steps_see_places.ensures after turned_here c.turn.ensures).start walk.tables.now)) c.requires.here.starts;
      is_here = c.tails_follow_heads.ensures.same walk.tables.now walk.side walk.cube.now c.args.head.now.turns turned_here after c.requires.here.is_here c.turn.ensures;
    } in (
      omega arith,
      (within.0, (within.1.0, (within.1.1, (omega (arith, c.if-next-eq0.false), (stands, (c.requires.few, (c.requires.room, c.requires.asked))))))),
    )
