-- How many goals a step has, and how many turns by its first goal.
use Rattle.niss_search.proofs.Words.{◌≡◌, ◌<◌, ◌≤◌, refl, length, arith, Some, Step, Axis, Edges, Domino, goals_of, turns_of}
use Rattle.std.specs.Prelude.{slice_get}
use Rattle.niss_cube.specs.declared.step.Step.TheVariants.{Eofb, Eorl, Eoud, DrudEofb, DrrlEofb, DrudEorl, DrfbEorl, DrrlEoud, DrfbEoud, Eo, DrEofb, DrEorl, DrEoud}

-- a step has one to three goals
pub goals-counted : (step : Step) → (0 < length (goals_of step)) × (length (goals_of step) ≤ 3)
goals-counted Eofb = (omega arith, omega arith)
goals-counted Eorl = (omega arith, omega arith)
goals-counted Eoud = (omega arith, omega arith)
goals-counted DrudEofb = (omega arith, omega arith)
goals-counted DrrlEofb = (omega arith, omega arith)
goals-counted DrudEorl = (omega arith, omega arith)
goals-counted DrfbEorl = (omega arith, omega arith)
goals-counted DrrlEoud = (omega arith, omega arith)
goals-counted DrfbEoud = (omega arith, omega arith)
goals-counted Eo = (omega arith, omega arith)
goals-counted DrEofb = (omega arith, omega arith)
goals-counted DrEorl = (omega arith, omega arith)
goals-counted DrEoud = (omega arith, omega arith)

-- a step has all 18 turns if it orients edges
pub turns_to_edges : (step : Step) (axis : Axis) → slice_get (goals_of step) 0 ≡ Some (Edges axis) → length (turns_of step) ≡ 18
unfolding turns_of
turns_to_edges Eofb axis h = refl
turns_to_edges Eorl axis h = refl
turns_to_edges Eoud axis h = refl
turns_to_edges DrudEofb axis h = absurd (cc h)
turns_to_edges DrrlEofb axis h = absurd (cc h)
turns_to_edges DrudEorl axis h = absurd (cc h)
turns_to_edges DrfbEorl axis h = absurd (cc h)
turns_to_edges DrrlEoud axis h = absurd (cc h)
turns_to_edges DrfbEoud axis h = absurd (cc h)
turns_to_edges Eo axis h = refl
turns_to_edges DrEofb axis h = absurd (cc h)
turns_to_edges DrEorl axis h = absurd (cc h)
turns_to_edges DrEoud axis h = absurd (cc h)

-- and 14 if it reduces to a domino
pub turns_to_domino : (step : Step) (edges axis : Axis) → slice_get (goals_of step) 0 ≡ Some (Domino edges axis) → length (turns_of step) ≡ 14
unfolding turns_of
turns_to_domino Eofb edges axis h = absurd (cc h)
turns_to_domino Eorl edges axis h = absurd (cc h)
turns_to_domino Eoud edges axis h = absurd (cc h)
turns_to_domino DrudEofb edges axis h = refl
turns_to_domino DrrlEofb edges axis h = refl
turns_to_domino DrudEorl edges axis h = refl
turns_to_domino DrfbEorl edges axis h = refl
turns_to_domino DrrlEoud edges axis h = refl
turns_to_domino DrfbEoud edges axis h = refl
turns_to_domino Eo edges axis h = absurd (cc h)
turns_to_domino DrEofb edges axis h = refl
turns_to_domino DrEorl edges axis h = refl
turns_to_domino DrEoud edges axis h = refl
