use Rattle.niss_search.proofs.Words.{◌≡◌, ◌+◌, ◌<◌, ◌≤◌, ◌^◌, ◌∙◌, sym, arith, length, get_or, drop, subst, Ok, Err, Bool, Contains}
use Rattle.niss_search.proofs.Words.{◌==◌, ◌-◌, ◌++◌, ◌∷◌, [], true, List, ap, take, take_rest, length-drop, length-append, may_follow, last_turn, Part, GoalCoordinates, position_after}
use Rattle.niss_search.proofs.Words.{Descends, at_limit, goes_on_at}
use Rattle.niss_search.proofs.Words.{Contains-get_or, nat_tests, later_at, turns_of, no_turn, later_turn_at, distance_at, progress_of, Path, for_each}
use Rattle.niss_search.proofs.DescentParts.{StopsIn-cut, StopsIn-before, GoesThrough-looks, Descends-then}
use Rattle.niss_search.proofs.BothLemmas.{popped}
use Rattle.niss_search.proofs.KeptLemmas.{Keeps-same, Keeps-wider, Keeps-then}
use Rattle.niss_search.proofs.SpentLemmas.{some_turns}
use Rattle.niss_search.proofs.AfterParts.{later_turn-goes_on, later_at-none, later_at-some, later_at-begins, later_at-far, later_at-near, later_at-split, passed-more, passed-room}
use Rattle.niss_search.proofs.searching.depth_first.Descent.+passing.Goals as goal

pub pass-returns-then-is_empty : goal.pass-returns-then-is_empty
pass-returns-then-is_empty g t c =
    let path = c.args.self.now.path.now in
    let none : length c.args.after.now ≡ 0 = grind (arith, nat_tests, c.if-is_empty.ensures) in
    record {
      keeps = Keeps-same c.args.self.now (omega arith);
      within = c.requires.asked.within;
      spent = tt;
      makes = rw (later_at-none c.args.guide.tables.now c.args.position.now path.turns c.args.after.now none)
          (GoesThrough-looks 0 c.args.meter c.args.meter c.args.self.now.count c.args.self.now.sink.now (omega arith));
    }

pub pass-admit-requires : goal.pass-admit-requires
pass-admit-requires g t c =
    let some : 0 < length c.args.after.now = grind (arith, nat_tests, c.if-is_empty.ensures) in
    record { meter = omega (arith, later_at-some c.args.guide.tables.now c.args.position.now c.args.self.now.path.now.turns c.args.after.now some, c.requires.asked.countable) }

pub pass-returns-in-Err : goal.pass-returns-in-Err
pass-returns-in-Err g t c =
    let path = c.args.self.now.path.now in
    let some : 0 < length c.args.after.now = grind (arith, nat_tests, c.if-is_empty.ensures) in
    record {
      keeps = Keeps-same c.args.self.now (omega arith);
      within = c.requires.asked.within;
      spent = λ cut. omega (arith, c.in-Err.ensures.over, some_turns c.args.guide.tables.now);
      makes = StopsIn-cut (g.B.Budget.bound c.args.guide.budget.now) (later_at c.args.guide.tables.now c.args.position.now path.turns c.args.after.now) (progress_of c.args.meter c.args.self.now)
          (g.B.Budget.is_cut c.in-Err.stop) c.in-Err.ensures.cut
          (omega (arith, c.in-Err.ensures.over, later_at-some c.args.guide.tables.now c.args.position.now path.turns c.args.after.now some))
          (later_at-begins c.args.guide.tables.now c.args.position.now path.turns c.args.after.now some);
    }

pub pass-look-requires-clause-meter : goal.pass-look-requires-clause-meter
pass-look-requires-clause-meter g t c =
    let some : 0 < length c.args.after.now = grind (arith, nat_tests, c.if-is_empty.ensures) in
    omega (arith, later_at-some c.args.guide.tables.now c.args.position.now c.args.self.now.path.now.turns c.args.after.now some, c.requires.asked.countable)

pub pass-returns-then-from-after : goal.pass-returns-then-from-after
pass-returns-then-from-after g t c =
    let path = c.args.self.now.path.now in
    let some : 0 < length c.args.after.now = grind (arith, nat_tests, c.if-is_empty.ensures) in
    let far : length c.args.after.now < distance_at c.args.guide.tables.now c.args.position.now = omega (arith, c.look.ensures.of_position, c.from.ensures) in
    record {
      keeps = Keeps-same c.args.self.now (omega (arith, c.look.ensures.tick));
      within = omega (arith, c.look.ensures.tick, c.in_default.ensures.within);
      spent = tt;
      makes = rw (later_at-far c.args.guide.tables.now c.args.position.now path.turns c.args.after.now some far)
          (GoesThrough-looks 1 c.args.meter c.look.new.meter c.args.self.now.count c.args.self.now.sink.now c.look.ensures.tick);
    }

pub pass-pass_turn-counted-requires : goal.pass-pass_turn-counted-requires
pass-pass_turn-counted-requires g t c κs within =
    let step = c.args.guide.tables.now in
    let x = c.args.position.now in
    let after = c.args.after.now in
    let i = c.loop-index.index in
    let inv = c.loop-index.invariant in
    let listed : c.turns-turns.result.now ≡ turns_of step = rw c.step.ensures at c.turns-turns.ensures in
    let turn = get_or c.turns-turns.result.now i no_turn in
    let inside : i < length c.turns-turns.result.now = omega (arith, c.loop-index-test.true, c.loop-index.auto.index-end) in
    let some : 0 < length after = grind (arith, nat_tests, c.if-is_empty.ensures) in
    let near : distance_at step x ≤ length after = omega (arith, c.look.ensures.of_position, c.from.ensures) in
    let same = sym inv.keeps.path in
    let Room : Path → Type 0 = λ q. length q.turns + length after ≤ q.limit in
    let Metered : Path → Type 0 = λ q. c.loop-index.meter + (later_turn_at step x q.turns after turn).looks < 2 ^ 128 in
    let contains : Contains (turns_of step) turn = rw (sym listed) (Contains-get_or c.turns-turns.result.now i no_turn inside) in
    let room = passed-room step x c.args.self.now.path.now.turns after i no_turn (rw (sym listed) inside) some near in
    let metered = subst Metered same (rw listed (omega (arith, inv.went.looked, room, c.requires.asked.countable))) in (
      omega arith,
      (
        within.0,
        (
          within.1.0,
          (
            within.1.1.0,
            (
              within.1.1.1.0,
              (
                within.1.1.1.1,
                (
                  c.requires.position,
                  (
                    contains,
                    (
                      some,
                      (
                        c.requires.few,
                        record {
                          room = subst Room same c.requires.asked.room;
                          countable = metered;
                          within = inv.within;
                          found = omega (arith, inv.keeps.counted, c.requires.asked.found);
                        },
                      ),
                    ),
                  ),
                ),
              ),
            ),
          ),
        ),
      ),
    )

pub pass-returns-in-Err-below : goal.pass-returns-in-Err-below
pass-returns-in-Err-below g t c =
    let step = c.args.guide.tables.now in
    let x = c.args.position.now in
    let after = c.args.after.now in
    let p = c.args.self.now.path.now.turns in
    let i = c.loop-index.index in
    let inv = c.loop-index.invariant in
    let below = c.pass_turn-counted.ensures in
    let listed : c.turns-turns.result.now ≡ turns_of step = rw c.step.ensures at c.turns-turns.ensures in
    let inside : i < length (turns_of step) = rw (sym listed) (omega (arith, c.loop-index-test.true, c.loop-index.auto.index-end)) in
    let some : 0 < length after = grind (arith, nat_tests, c.if-is_empty.ensures) in
    let near : distance_at step x ≤ length after = omega (arith, c.look.ensures.of_position, c.from.ensures) in
    let part = later_turn_at step x p after (get_or (turns_of step) i no_turn) in
    let rest = for_each (later_turn_at step x p after) (drop (i + 1) (turns_of step)) in
    let stops = rw (inv.keeps.path, c.in-Err-below.is, listed) at below.makes in
    record {
      keeps = Keeps-wider (Keeps-then inv.keeps below.keeps (omega arith)) (omega arith) (omega arith);
      within = below.within;
      spent = rw c.in-Err-below.is at below.spent;
      makes = rw (later_at-split step x p after i no_turn inside some near)
          (StopsIn-before rest
          (Descends-then g.B.Budget.is_cut (g.B.Budget.bound c.args.guide.budget.now) (Err c.in-Err-below.stop) part
          (progress_of c.pass_turn-counted.result.0 c.pass_turn-counted.new.self) inv.went stops));
    }

pub pass-loop-index-preserved : goal.pass-loop-index-preserved
pass-loop-index-preserved g t c =
    let step = c.args.guide.tables.now in
    let x = c.args.position.now in
    let after = c.args.after.now in
    let p = c.args.self.now.path.now.turns in
    let i = c.loop-index.index in
    let inv = c.loop-index.invariant in
    let kept = c.pass_turn-counted.ensures.keeps in
    let listed : c.turns-turns.result.now ≡ turns_of step = rw c.step.ensures at c.turns-turns.ensures in
    let inside : i < length (turns_of step) = rw (sym listed) (omega (arith, c.loop-index-test.true, c.loop-index.auto.index-end)) in
    let part = later_turn_at step x p after (get_or (turns_of step) i no_turn) in
    let went = rw (inv.keeps.path, c.in_default-below.is, listed) at c.pass_turn-counted.ensures.makes in
    record {
      within = c.pass_turn-counted.ensures.within;
      keeps = Keeps-then inv.keeps kept (omega arith);
      went = rw (passed-more step x p after i no_turn inside)
          (Descends-then {E = Bool} (λ b. b) 0 (Ok tt) part (progress_of c.pass_turn-counted.result.0 c.pass_turn-counted.new.self) inv.went went);
    }

pub pass-returns : goal.pass-returns
pass-returns g t c =
    let step = c.args.guide.tables.now in
    let x = c.args.position.now in
    let after = c.args.after.now in
    let p = c.args.self.now.path.now.turns in
    let inv = c.loop-index.invariant in
    let listed : c.turns-turns.result.now ≡ turns_of step = rw c.step.ensures at c.turns-turns.ensures in
    let end : c.loop-index.index ≡ length (turns_of step) = rw (sym listed) (omega (arith, c.loop-index-test.false, c.loop-index.auto.index-end)) in
    let some : 0 < length after = grind (arith, nat_tests, c.if-is_empty.ensures) in
    let near : distance_at step x ≤ length after = omega (arith, c.look.ensures.of_position, c.from.ensures) in
    record {
      keeps = Keeps-wider inv.keeps (omega arith) (omega arith);
      within = inv.within;
      spent = tt;
      makes = rw (later_at-near step x p after some near, sym end) inv.went;
    }

pub pass_turn-go_on-below-requires : goal.pass_turn-go_on-below-requires
pass_turn-go_on-below-requires g t c κs within =
    let step = c.args.guide.tables.now in
    let after = c.args.after.now in
    let path = c.args.self.now.path.now in
    let turn = c.args.turn in
    let rest = take (length after - 1) (drop 1 after) in
    let behind : rest ≡ drop 1 after = take_rest after 1 in
    let size : length rest + 1 ≡ length after = omega (arith, ap length behind, length-drop 1 after, c.requires.some) in
    let place = c.turn_place-place.result in
    let first = c.turn_place-first.result in
    let follows : may_follow (last_turn path.turns) turn ≡ true = rw c.last.ensures at (sym c.allowed.ensures.rule ∙ c.if-not-allowed.false) in
    let part = later_turn-goes_on step c.args.position.now path.turns after rest turn place first c.turn_place-place.ensures c.turn_place-first.ensures follows c.if-place-first.false behind in
    let Room : Path → Type 0 = λ q. length q.turns + length rest ≤ q.limit in
    let goes_on = λ (q : Path) (y : List GoalCoordinates). (goes_on_at (place == first) step y q.turns rest).looks in
    let pushed : Path = record { limit = path.limit; turns = path.turns ++ turn ∷ [] } in
    let room : Room pushed = omega (arith, c.requires.asked.room, size, length-append path.turns (turn ∷ [])) in
    let looked : c.args.meter + goes_on pushed (position_after c.args.position.now turn) < 2 ^ 128 = subst (λ (s : Part). c.args.meter + s.looks < 2 ^ 128) part c.requires.asked.countable in
    let metered = subst (λ (y : List GoalCoordinates). c.args.meter + goes_on pushed y < 2 ^ 128) (sym c.after-position.ensures.value) looked in (
      omega (arith, size),
      (
        within.0,
        (
          within.1.0,
          (
            within.1.1.0,
            (
              within.1.1.1.0,
              (
                within.1.1.1.1,
                (
                  c.after-position.ensures.position,
                  (
                    omega (arith, size, c.requires.few),
                    record {
                      room = subst Room (sym c.push.ensures) room;
                      countable = subst (λ (q : Path). c.args.meter + goes_on q c.after-position.result < 2 ^ 128) (sym c.push.ensures) metered;
                      within = c.requires.asked.within;
                      found = c.requires.asked.found;
                    },
                  ),
                ),
              ),
            ),
          ),
        ),
      ),
    )

pub pass_turn-returns : goal.pass_turn-returns
pass_turn-returns g t c =
    let step = c.args.guide.tables.now in
    let after = c.args.after.now in
    let path = c.args.self.now.path.now in
    let turn = c.args.turn in
    let rest = take (length after - 1) (drop 1 after) in
    let behind : rest ≡ drop 1 after = take_rest after 1 in
    let follows : may_follow (last_turn path.turns) turn ≡ true = rw c.last.ensures at (sym c.allowed.ensures.rule ∙ c.if-not-allowed.false) in
    let part = later_turn-goes_on step c.args.position.now path.turns after rest turn c.turn_place-place.result c.turn_place-first.result c.turn_place-place.ensures c.turn_place-first.ensures follows c.if-place-first.false behind in
    let below = c.go_on-below.ensures in
    let makes = rw (c.push.ensures, c.after-position.ensures.value) at below.makes in
    record {
      keeps = record {
        path = popped path c.go_on-below.new.self.path.now c.pop.new.self turn c.pop.result
            (below.keeps.path ∙ c.push.ensures) c.pop.ensures.limit c.pop.ensures.some c.pop.ensures.none;
        same_path = below.keeps.same_path;
        same_sink = below.keeps.same_sink;
        counted = below.keeps.counted;
      };
      within = below.within;
      spent = below.spent;
      makes = subst (λ (s : Part). Descends (at_limit g.K.Sink.took path.limit) (at_limit g.K.Sink.refused path.limit) s
          (progress_of c.args.meter c.args.self.now) (progress_of c.go_on-below.result.0 c.go_on-below.new.self)
          g.B.Budget.is_cut (g.B.Budget.bound c.args.guide.budget.now) c.go_on-below.result.1) (sym part) makes;
    }
