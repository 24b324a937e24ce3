use Rattle.std.proofs.Common.{◌≡◌, ◌≤◌, ◌++◌, ◌∷◌, [], append-nil, refl, rules, arith}
use Rattle.niss_text.specs.Moves.{most_bytes}
use Rattle.niss_attempts.proofs.BesideLemmas.{most_of_one, one_above}
use Rattle.niss_attempts.proofs.doubts.beside.Solved.found_in.Goals as goal

pub loop-line-init : goal.loop-line-init
loop-line-init c =
    let it = c.args.self.now in
    record {
      found = record { below = []; whole = append-nil c.args.lines.now; is_found = c.nothing-found.ensures it.text.now it.scramble.now it.solution.now };
      room = refl;
      places = refl;
    }

pub returns-in_err-seen-clause-room : goal.returns-in_err-seen-clause-room
returns-in_err-seen-clause-room c = λ one two.
    let is : c.loop-line.rest.now ≡ c.in-Some.above.now ++ c.in-Some.line.now ∷ [] = search rules in
    let so_far = c.loop-line.invariant.found in
    let few : most_bytes (c.in-Some.line.now ∷ []) ≤ most_bytes c.args.lines.now =
    most_of_one c.args.lines.now c.loop-line.rest.now c.in-Some.above.now so_far.below c.in-Some.line.now is so_far.whole in
    let none = c.in_err-seen.ensures.room (omega (arith, few, one, c.loop-line.invariant.room)) (omega (arith, few, two, c.loop-line.invariant.places)) in
    absurd (cc none)

pub loop-line-preserved : goal.loop-line-preserved
loop-line-preserved c =
    let is : c.loop-line.rest.now ≡ c.in-Some.above.now ++ c.in-Some.line.now ∷ [] = search rules in
    let so_far = c.loop-line.invariant.found in
    let it = c.args.self.now in
    record {
      found = record {
        below = c.in-Some.line.now ∷ so_far.below;
        whole = one_above c.args.lines.now c.loop-line.rest.now c.in-Some.above.now so_far.below c.in-Some.line.now is so_far.whole;
        is_found = c.with-found.ensures it.text.now so_far.below it.scramble.now it.solution.now so_far.is_found (search rules) c.in_ok-seen.ensures.is;
      };
      room = omega arith;
      places = omega arith;
    }
