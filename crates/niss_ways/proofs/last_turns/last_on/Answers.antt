use Rattle.std.proofs.Common.{◌∙◌, sym}
use Rattle.std.proofs.lemmas.List.{nil_from_length}
use Rattle.niss_ways.proofs.LastLemmas.{ends_all, ends_before}
use Rattle.niss_ways.proofs.last_turns.last_on.Goals as goal

pub returns-then-not-is_face_of-clause-value : goal.returns-then-not-is_face_of-clause-value
returns-then-not-is_face_of-clause-value c =
    ends_before c.args.axis c.args.turns.now c.loop-last.rest.now c.in-Some.front.now c.in-Some.last.now c.loop-last.count
    c.in-Some.ensures.cases.0 (sym c.is_face_of.ensures ∙ c.if-not-is_face_of.true) c.loop-last.invariant

pub returns-in_default-clause-value : goal.returns-in_default-clause-value
returns-in_default-clause-value c =
    ends_all c.args.axis c.args.turns.now c.loop-last.rest.now c.loop-last.count
    (nil_from_length c.loop-last.rest.now c.in_default.ensures.cases) c.loop-last.invariant
