use Rattle.niss_search.proofs.Words.{◌≡◌, arith, length, ◌+◌, ◌<◌, ℕ, ap, ◌∙◌, sym, ◌≤◌, turns_of, ◌*◌, range_with_len, count_by}
use Rattle.niss_search.proofs.Words.{entry_distance, count_for, ◌==◌, ◌^◌, IsExtended, mul-le-mul, eq-eqb, mul-add, below_more, nat_tests}
use Rattle.niss_search.proofs.Bounds.{turns_of-length}
use Rattle.niss_search.proofs.FillLemmas.{filled-next, count-to, count-past, count-range-le, extended-to, skipped, at_level, away}
use Rattle.niss_search.proofs.tables.fill.extend_level.Goals as goal

pub extend-requires-clause-meter : goal.extend-requires-clause-meter
extend-requires-clause-meter g c =
    let inv = c.loop-entry.invariant in
    let alt = (g.M.GoalMoves.alternative c.args.moves.now) in
    let p = λ (x : ℕ). entry_distance alt x == c.args.level in
    let count = count_by p (range_with_len 0 c.loop-entry.from) in
    let few : count + 1 ≤ count_for alt.goal = omega (arith, count-range-le p c.loop-entry.from, inv.filling.size, c.in-Some.ensures.found) in
    let room : c.loop-entry.meter + length (turns_of alt.step) < 2 ^ 128 = omega (arith, inv.ticks, c.requires.meter, mul-le-mul (turns_of-length alt.step) few) in
    rw (c.advance_to.ensures.moves ∙ inv.moves) room

pub extend-requires-clause-at_level : goal.extend-requires-clause-at_level
extend-requires-clause-at_level g c =
    let inv = c.loop-entry.invariant in
    let alt = (g.M.GoalMoves.alternative c.args.moves.now) in
    let found = c.in-Some.ensures.found in
    let in_range : c.in-Some.entry < count_for alt.goal = omega (arith, inv.filling.size, found) in
    let small = c.requires.small in
    rw (c.advance_to.ensures.moves ∙ inv.moves) (at_level alt c.args.level c.loop-entry.distances inv.filling c.in-Some.entry in_range small found.2)

pub loop-entry-preserved : goal.loop-entry-preserved
loop-entry-preserved g c =
    let inv = c.loop-entry.invariant in
    let alt = (g.M.GoalMoves.alternative c.args.moves.now) in
    let level = c.args.level in
    let xs = c.loop-entry.distances in
    let from = c.loop-entry.from in
    let entry = c.in-Some.entry in
    let found = c.in-Some.ensures.found in
    let least = c.in-Some.ensures.least in
    let small : level < 20 = c.requires.small in
    let in_range : entry < count_for alt.goal = omega (arith, inv.filling.size, found) in
    let byte = found.2 in
    let at : entry_distance alt entry ≡ level = at_level alt level xs inv.filling entry in_range small byte in
    let turns = length (turns_of alt.step) in
    let p = λ (x : ℕ). entry_distance alt x == level in
    let within : entry ≤ count_for alt.goal = omega arith in
    let count = count-past p from entry (omega arith) (skipped alt level xs inv.filling from entry within least) (eq-eqb _ _ at) in
    let same = c.advance_to.ensures.moves ∙ inv.moves in
    let filling = rw same at c.extend.ensures.filling in
    let extended = rw same at c.extend.ensures.extended in
    let ticks = rw same at c.extend.ensures.ticks in
    let product = ap (λ n. turns * n) count ∙ mul-add turns (count_by p (range_with_len 0 from)) 1 in
    record {
      moves = same;
      row = omega (arith, c.advance_to.ensures.from);
      filling = filling;
      within = omega (arith, filling.size);
      extended = below_more (λ j. entry_distance alt j ≡ level → IsExtended alt c.extend.new.distances j) entry (extended-to alt level xs inv.filling from entry within least c.extend.new.distances (λ j l e t m. c.extend.ensures.kept _ (inv.extended j l e t m))) (λ e. extended);
      ticks = omega (arith, product, inv.ticks, ticks);
    }

pub returns-clause-filled : goal.returns-clause-filled
returns-clause-filled g c =
    let inv = c.loop-entry.invariant in
    let alt = (g.M.GoalMoves.alternative c.args.moves.now) in
    let small : c.args.level < 20 = c.requires.small in
    let none = c.in_default.ensures.none in
    filled-next c.entries_turn.ensures alt c.args.level small c.loop-entry.distances inv.filling (extended-to alt c.args.level c.loop-entry.distances inv.filling c.loop-entry.from (count_for alt.goal) (omega arith) (λ k low high. none k low (omega (arith, inv.filling.size))) c.loop-entry.distances inv.extended)

pub returns-clause-ticks : goal.returns-clause-ticks
returns-clause-ticks g c =
    let inv = c.loop-entry.invariant in
    let alt = (g.M.GoalMoves.alternative c.args.moves.now) in
    let none = c.in_default.ensures.none in
    let skip = skipped alt c.args.level c.loop-entry.distances inv.filling c.loop-entry.from (count_for alt.goal) (omega arith) (λ k low high. none k low (omega (arith, inv.filling.size))) in
    let same = count-to (λ x. entry_distance alt x == c.args.level) c.loop-entry.from (count_for alt.goal) (omega (arith, inv.filling.size)) skip in
    inv.ticks ∙ ap (λ n. c.args.meter.now + length (turns_of alt.step) * n) (sym same)

pub returns-clause-none : goal.returns-clause-none
returns-clause-none g c = λ none_tried i inside.
    let inv = c.loop-entry.invariant in
    let alt = (g.M.GoalMoves.alternative c.args.moves.now) in
    let start : c.loop-entry.from ≡ 0 = grind (arith, nat_tests, none_tried) in
    away alt c.args.level c.loop-entry.distances inv.filling i inside (c.in_default.ensures.none i (omega (arith, start)) (omega (arith, inv.filling.size)))
