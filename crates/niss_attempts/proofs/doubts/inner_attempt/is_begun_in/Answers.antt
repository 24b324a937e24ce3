use Rattle.std.proofs.Common.{◌≡◌, ◌∙◌, ◌≤◌, ◌+◌, ◌∷◌, [], List, true, length, take, min, sym, ap, subst, arith, rules}
use Rattle.std.specs.List.{list_any}
use Rattle.niss_text.specs.Moves.{is_wanted, most_bytes}
use Rattle.niss_text.specs.declared.moves.MovesOf.TheVariants.{Solution, EachStep}
use Rattle.niss_text.specs.declared.text_line.TextLine.{TextLine}
use Rattle.niss_attempts.specs.Doubts.{AreWritten}
use Rattle.niss_attempts.proofs.InnerLemmas.{at_least, begun_if, most_parted}
use Rattle.niss_attempts.proofs.doubts.inner_attempt.is_begun_in.Goals as goal

pub returns-in_err-count-clause-room : goal.returns-in_err-count-clause-room
returns-in_err-count-clause-room c = λ one two.
    let line = c.in-Some.line.now in
    let rest = c.in-Some.rest.now in
    let are : c.args.lines.now ≡ line ∷ rest = search rules in
    let all : most_bytes c.args.lines.now ≡ most_bytes (line ∷ []) + most_bytes rest = ap most_bytes are ∙ most_parted line rest in
    let within : most_bytes (line ∷ []) ≤ min (length c.args.out.now) (length c.args.places.now) =
    at_least (length c.args.out.now) (length c.args.places.now) (most_bytes (line ∷ [])) (omega (arith, all, one)) (omega (arith, all, two)) in
    let enough : most_bytes (line ∷ []) ≤ c.room_of-room.result = c.room_of-room.ensures.enough (omega (arith, within, c.min.ensures)) in
    let only : most_bytes c.from_ref.result.now ≡ most_bytes (line ∷ []) = ap most_bytes c.from_ref.ensures.value in
    let none = c.in_err-count.ensures.room (omega (arith, only, enough, c.split_at_mut-scramble.ensures.front_len))
    (omega (arith, only, enough, c.split_at_mut-scramble_places.ensures.front_len)) in
    absurd (cc none)

pub returns-clause-is : goal.returns-clause-is
returns-clause-is c =
    let line = c.in-Some.line.now in
    let rest = c.in-Some.rest.now in
    let are : c.args.lines.now ≡ line ∷ rest = search rules in
    let some : list_any (is_wanted Solution) rest ≡ true = sym c.has_solution.ensures ∙ c.if-not-has_solution.false in
    let scramble = take c.in_ok-count.count c.moves_of.new.out in
    let places = take c.in_ok-count.count c.moves_of.new.places in
    let written : AreWritten c.args.text.now EachStep (line ∷ []) scramble places =
    subst (λ (lines : List TextLine). AreWritten c.args.text.now EachStep lines scramble places) c.from_ref.ensures.value c.in_ok-count.ensures.are in
    begun_if c.args.text.now c.args.lines.now line rest scramble places c.is_solved_by.result are some written c.is_solved_by.ensures.is

pub returns-clause-room : goal.returns-clause-room
returns-clause-room c = λ one two.
    let line = c.in-Some.line.now in
    let rest = c.in-Some.rest.now in
    let are : c.args.lines.now ≡ line ∷ rest = search rules in
    let all : most_bytes c.args.lines.now ≡ most_bytes (line ∷ []) + most_bytes rest = ap most_bytes are ∙ most_parted line rest in
    c.is_solved_by.ensures.room (omega (arith, all, one, c.room_of-room.ensures.few, c.split_at_mut-scramble.ensures.back_len))
    (omega (arith, all, two, c.room_of-room.ensures.few, c.split_at_mut-scramble_places.ensures.back_len))
