use Rattle.niss_search.proofs.Words.{◌≡◌, arith, length, ◌+◌, ℕ, ap, ◌∙◌, sym, turns_of, ◌*◌, range_with_len, count_by, entry_distance}
use Rattle.niss_search.proofs.Words.{count_for, nat_lt, mul-le-mul, goal_ticks, ◌-◌}
use Rattle.niss_search.proofs.Bounds.{turns_of-length}
use Rattle.niss_search.proofs.FillLemmas.{count-level, count-below-zero, count-twenty, count-range-le, ticks-numbered, filled-whole, count-whole}
use Rattle.niss_search.proofs.EntryLemmas.{count_for-bound}
use Rattle.niss_search.proofs.tables.fill.fill_table.Goals as goal

pub loop-level-init : goal.loop-level-init
loop-level-init g c =
    let alt = (g.M.GoalMoves.alternative c.args.moves.now) in
    let none = count-below-zero (entry_distance alt) (range_with_len 0 (count_for alt.goal)) in
    let product = ap (λ n. length (turns_of alt.step) * n) none in
    record { filled = c.requires.filled; ticks = omega (arith, product) }

pub extend_level-requires-clause-meter : goal.extend_level-requires-clause-meter
extend_level-requires-clause-meter g c =
    let alt = (g.M.GoalMoves.alternative c.args.moves.now) in
    let p = λ (x : ℕ). nat_lt (entry_distance alt x) c.loop-level.level in
    let within = mul-le-mul (turns_of-length alt.step) (count-range-le p (count_for alt.goal)) in
    omega (arith, within, count_for-bound alt.goal)

pub loop-level-preserved : goal.loop-level-preserved
loop-level-preserved g c =
    let alt = (g.M.GoalMoves.alternative c.args.moves.now) in
    let turns = length (turns_of alt.step) in
    let more = ap (λ n. turns * n) (count-level (entry_distance alt) c.loop-level.level (range_with_len 0 (count_for alt.goal))) in
    record {
      filled = c.extend_level.ensures.filled;
      ticks = omega (arith, more, c.extend_level.ensures.ticks);
    }

pub returns-after-loop-level-clause-ticks : goal.returns-after-loop-level-clause-ticks
returns-after-loop-level-clause-ticks g c =
    let alt = (g.M.GoalMoves.alternative c.args.moves.now) in
    let last : c.loop-level.level ≡ 20 = omega arith in
    let count = λ (l : ℕ). length (turns_of alt.step) * count_by (λ x. nat_lt (entry_distance alt x) l) (range_with_len 0 (count_for alt.goal)) in
    let all : count c.loop-level.level ≡ goal_ticks alt =
    ap count last ∙ ap (λ n. length (turns_of alt.step) * n) (count-twenty (entry_distance alt) (range_with_len 0 (count_for alt.goal))) ∙ sym (ticks-numbered alt) in
    c.loop-level.invariant.ticks ∙ ap (λ n. c.args.meter.now + n) all

pub returns-then-not-extend_level-clause-filled : goal.returns-then-not-extend_level-clause-filled
returns-then-not-extend_level-clause-filled g c =
    let alt = (g.M.GoalMoves.alternative c.args.moves.now) in
    filled-whole c.entries_turn.ensures alt c.loop-level.level (c.extend_level.ensures.none c.if-not-extend_level.true) c.extend_level.new.distances (omega arith) c.extend_level.ensures.filled

pub returns-then-not-extend_level-clause-ticks : goal.returns-then-not-extend_level-clause-ticks
returns-then-not-extend_level-clause-ticks g c =
    let alt = (g.M.GoalMoves.alternative c.args.moves.now) in
    let turns = length (turns_of alt.step) in
    let entries = range_with_len 0 (count_for alt.goal) in
    let level = c.loop-level.level in
    let count = λ (l : ℕ). count_by (λ x. nat_lt (entry_distance alt x) l) entries in
    let none = c.extend_level.ensures.none c.if-not-extend_level.true in
    let next = ap (λ n. turns * n) (count-level (entry_distance alt) level entries) in
    let last : level + (20 - level) ≡ 20 = omega arith in
    let all : count (level + 1) ≡ count 20 =
    count-whole c.entries_turn.ensures alt level none 1 (omega arith) ∙ sym (count-whole c.entries_turn.ensures alt level none (20 - level) (omega arith)) ∙ ap count last in
    let whole : turns * count (level + 1) ≡ goal_ticks alt =
    ap (λ n. turns * n) (all ∙ count-twenty (entry_distance alt) entries) ∙ sym (ticks-numbered alt) in
    omega (arith, next, whole, c.loop-level.invariant.ticks, c.extend_level.ensures.ticks)
