use Rattle.niss_cube.proofs.Words.{Option, Some, None, ◌≡◌, ◌∙◌, ap, subst, rules, arith, length, ◌≢◌, IfNone, IfSome}
use Rattle.niss_cube.proofs.Words.{MatchOption, slice_index_or, steps, name_of}
use Rattle.std.proofs.lemmas.Option.{IfSome_then}
use Rattle.niss_cube.proofs.StepLemmas.{member}
use Rattle.niss_cube.proofs.step.Step.from_name.Goals as goal

where_none : {X W Q : Type 0} (E : X → Type 0) (r : Option X) → MatchOption r W E → (W → Q) → IfNone r Q
where_none E (Some x) m h = tt
where_none E None m h = h m

pub returns-clause-unknown : goal.returns-clause-unknown
returns-clause-unknown c =
    let u = c.find.ensures.runs.0 in
    let q = c.copied.ensures.runs u u.seen c.find.ensures.runs.1 in
    let i = c.iter.ensures.runs q.0 q.0.seen in
    let r : q.0.from.rest.now ≡ steps = ap (λ s. s.rest.now) q.1 ∙ c.iter.ensures.rest ∙ c.all.ensures in
    where_none _ c.find.result c.find.ensures.runs.2 (λ w s.
    let m = member s in
    let here : u.at m.0 ≡ Some s =
    q.2.3 m.0 ∙ i.2 m.0 s (omega (arith, m.1, i.1 (q.2.0 ∙ w.0), ap length r)) ∙ ap (λ xs. Some (slice_index_or xs m.0 s)) r ∙ ap Some m.2 in
    subst (λ o. IfSome o (λ s. name_of s ≢ c.args.name.now)) here
    (IfSome_then (u.at m.0) {Q = λ s. name_of s ≢ c.args.name.now} (w.1 (search rules) m.0) (λ s called. search rules)))
