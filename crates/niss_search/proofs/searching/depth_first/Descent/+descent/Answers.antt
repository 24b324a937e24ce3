use Rattle.niss_search.proofs.Words.{◌≡◌, arith, length, ◌+◌, ◌<◌, ◌∙◌, sym, ◌≤◌, [], refl, ◌-◌, ◌∷◌, ◌++◌, get_or, subst, suc, may_follow, last_turn}
use Rattle.niss_search.proofs.Words.{distance_at, position_after, ◌^◌, IsFollower, beyond_at, progress_of, Path, All-drop, take_rest, at_limit, length-append}
use Rattle.std.proofs.lemmas.List.{length-drop}
use Rattle.niss_search.proofs.DescentParts.{no_follower, beyond_at-end, Remains-all, Remains-room}
use Rattle.niss_search.proofs.BothLemmas.{popped}
use Rattle.niss_search.proofs.KeptLemmas.{Keeps-same, Keeps-wider, Keeps-then}
use Rattle.niss_search.proofs.SpentLemmas.{few_followers, taken-spent}
use Rattle.niss_search.proofs.DescentParts.{Descends-take, Remains-cut, Remains-room_next, Remains-next, Remains-stops, Remains-far}
use Rattle.niss_search.proofs.searching.depth_first.Descent.+descent.Goals as goal

pub try_turns-loop-stop-init : goal.try_turns-loop-stop-init
try_turns-loop-stop-init g t c =
    let listed = rw c.last.ensures at c.turns_after-rest.ensures.turns in
    let left : c.args.left ≡ suc (c.args.left - 1) = omega (arith, c.requires.some) in
    record {
      columns = c.turns_after-rest.ensures.columns;
      within = c.requires.asked.within;
      some = few_followers c.args.guide.tables.now.step (may_follow (last_turn c.args.self.now.path.now.turns)) c.turns_after-rest.result.now listed;
      few = c.turns_after-rest.type_inv.1;
      keeps = Keeps-same c.args.self.now (omega arith);
      remains = Remains-all c.args.left (c.args.left - 1) c.turns_after-rest.result.now (progress_of c.args.meter c.args.self.now) left c.requires.near listed;
    }

pub try_turns-next_near-requires-clause-meter : goal.try_turns-next_near-requires-clause-meter
try_turns-next_near-requires-clause-meter g t c =
    omega (arith, Remains-room c.loop-stop.invariant.remains, c.requires.asked.countable)

pub try_turns-admit-requires : goal.try_turns-admit-requires
try_turns-admit-requires g t c =
    record { meter = omega (arith, Remains-room c.loop-stop.invariant.remains, c.requires.asked.countable) }

pub try_turns-follow-counted-requires : goal.try_turns-follow-counted-requires
try_turns-follow-counted-requires g t c κs within =
    let x = g.S.StateSpace.seen c.args.guide.tables.now.space c.args.state in
    let inv = c.loop-stop.invariant in
    let next = c.in-Some.ensures.near in
    let turn = (get_or c.loop-stop.rest.now c.in-Some.index no_follower).turn in
    let same = sym inv.keeps.path in
    let Room : Path → Type 0 = λ q. length q.turns + (1 + (c.args.left - 1)) ≤ q.limit in
    let beyond = λ (q : Path). (beyond_at c.args.guide.tables.now.step (position_after x turn) (q.turns ++ turn ∷ []) (c.args.left - 1)).looks in
    let Metered : Path → Type 0 = λ q. c.next_near.new.meter + beyond q < 2 ^ 128 in
    let near = next.near no_follower in
    let room = subst Room same (omega (arith, c.requires.asked.room, c.requires.some)) in
    let metered = subst Metered same (omega (arith, Remains-room_next inv.remains next, c.requires.asked.countable)) in (
      omega arith,
      (
        within.0,
        (
          within.1.0,
          (
            within.1.1.0,
            (
              within.1.1.1.0,
              (
                within.1.1.1.1.0,
                (
                  within.1.1.1.1.1,
                  (
                    rw c.after-after.ensures near,
                    record {
                      room = room;
                      countable = rw c.after-after.ensures metered;
                      within = omega (arith, c.in_default.ensures.within, next.looked, next.inside);
                      found = omega (arith, inv.keeps.counted, c.requires.asked.found, next.looked);
                    },
                  ),
                ),
              ),
            ),
          ),
        ),
      ),
    )

pub try_turns-returns-in-Err : goal.try_turns-returns-in-Err
try_turns-returns-in-Err g t c =
    let inv = c.loop-stop.invariant in
    record {
      keeps = Keeps-wider inv.keeps (omega arith) (omega arith);
      within = inv.within;
      spent = λ cut. omega (arith, c.in-Err.ensures.over, inv.some);
      makes = Remains-cut inv.remains (g.B.Budget.bound c.args.guide.budget.now) (g.B.Budget.is_cut c.in-Err.stop) c.in-Err.ensures.cut c.in-Err.ensures.over inv.within;
    }

pub try_turns-returns-in-Err-below : goal.try_turns-returns-in-Err-below
try_turns-returns-in-Err-below g t c =
    let inv = c.loop-stop.invariant in
    let next = c.in-Some.ensures.near in
    let below = c.follow-counted.ensures in
    record {
      keeps = Keeps-wider (Keeps-then inv.keeps below.keeps (omega (arith, next.looked))) (omega arith) (omega arith);
      within = below.within;
      spent = rw c.in-Err-below.is at below.spent;
      makes = Remains-stops inv.remains next (rw (inv.keeps.path, c.after-after.ensures, c.in-Err-below.is) at below.makes);
    }

pub try_turns-returns-in_default-next_near : goal.try_turns-returns-in_default-next_near
try_turns-returns-in_default-next_near g t c =
    let inv = c.loop-stop.invariant in
    let far = c.in_default-next_near.ensures.far in
    record {
      keeps = Keeps-wider inv.keeps (omega arith) (omega (arith, far.looked));
      within = omega (arith, c.in_default.ensures.within, far.looked);
      spent = tt;
      makes = Remains-far inv.remains far;
    }

pub try_turns-loop-stop-preserved : goal.try_turns-loop-stop-preserved
try_turns-loop-stop-preserved g t c =
    let inv = c.loop-stop.invariant in
    let rest = c.loop-stop.rest.now in
    let i = c.in-Some.index in
    let next = c.in-Some.ensures.near in
    let kept = c.follow-counted.ensures.keeps in
    let went = rw (inv.keeps.path, c.after-after.ensures, c.in_default-below.is) at c.follow-counted.ensures.makes in
    rw (take_rest rest (i + 1)) record {
      columns = All-drop (IsFollower c.args.guide.tables.now.step) (i + 1) rest inv.columns;
      within = c.follow-counted.ensures.within;
      some = omega (arith, inv.some, length-drop (i + 1) rest);
      few = omega (arith, inv.few, length-drop (i + 1) rest);
      keeps = Keeps-then inv.keeps kept (omega (arith, next.looked));
      remains = Remains-next inv.remains next went;
    }

pub extend-returns-then-left-eq0 : goal.extend-returns-then-left-eq0
extend-returns-then-left-eq0 g t c =
    let step = c.args.guide.tables.now.step in
    let x = g.S.StateSpace.seen c.args.guide.tables.now.space c.args.state in
    let path = c.args.self.now.path.now in
    let near : distance_at step x ≤ 0 = omega (arith, c.requires.near, c.if-left-eq0.true) in
    record {
      keeps = record { path = refl; same_path = refl; same_sink = refl; counted = omega (arith, c.requires.asked.found) };
      within = c.requires.asked.within;
      spent = taken-spent g.B.Budget.is_cut (g.B.Budget.bound c.args.guide.budget.now) c.args.meter step c.take.result c.taken.result c.taken.ensures;
      makes = rw (c.if-left-eq0.true, beyond_at-end step x path.turns near)
          (Descends-take (at_limit g.K.Sink.took path.limit) (at_limit g.K.Sink.refused path.limit) g.B.Budget.is_cut (g.B.Budget.bound c.args.guide.budget.now)
          c.take.result c.taken.result c.args.meter c.args.self.now.count c.args.self.now.sink.now c.take.new.self path.turns
          c.taken.ensures c.take.ensures.ok c.take.ensures.err);
    }

pub follow-extend-below-requires : goal.follow-extend-below-requires
follow-extend-below-requires g t c κs within =
    let step = c.args.guide.tables.now.step in
    let x = g.S.StateSpace.seen c.args.guide.tables.now.space c.args.state in
    let path = c.args.self.now.path.now in
    let pushed : Path = record { limit = path.limit; turns = path.turns ++ c.args.turn ∷ [] } in
    let Room : Path → Type 0 = λ q. length q.turns + c.args.left ≤ q.limit in
    let Metered : Path → Type 0 = λ q. c.args.meter + (beyond_at step x q.turns c.args.left).looks < 2 ^ 128 in
    let room : Room pushed = omega (arith, c.requires.asked.room, length-append path.turns (c.args.turn ∷ [])) in (
      omega arith,
      (
        within.0,
        (
          within.1.0,
          (
            within.1.1.0,
            (
              within.1.1.1.0,
              (
                within.1.1.1.1.0,
                (
                  within.1.1.1.1.1,
                  (
                    c.requires.near,
                    record {
                      room = subst Room (sym c.push.ensures) room;
                      countable = subst Metered (sym c.push.ensures) c.requires.asked.countable;
                      within = c.requires.asked.within;
                      found = c.requires.asked.found;
                    },
                  ),
                ),
              ),
            ),
          ),
        ),
      ),
    )

pub follow-returns : goal.follow-returns
follow-returns g t c =
    let below = c.extend-below.ensures in
    record {
      keeps = record {
        path = popped c.args.self.now.path.now c.extend-below.new.self.path.now c.pop.new.self c.args.turn c.pop.result
            (below.keeps.path ∙ c.push.ensures) c.pop.ensures.limit c.pop.ensures.some c.pop.ensures.none;
        same_path = below.keeps.same_path;
        same_sink = below.keeps.same_sink;
        counted = below.keeps.counted;
      };
      within = below.within;
      spent = below.spent;
      makes = rw c.push.ensures at below.makes;
    }
