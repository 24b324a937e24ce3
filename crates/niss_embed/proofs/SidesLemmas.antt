-- From where one stands after two lines to what the call leaves and tells that lists the solutions of a step over sides.
use Rattle.std.proofs.Common.{◌≡◌, inl, inr, ◌≤◌, Bool, true, false, if◌then◌else◌, Result, Ok, Err, List, sym, subst, arith}
use Rattle.niss_cube.specs.Map.{map_of}
use Rattle.niss_cube.specs.Steps.{may_start}
use Rattle.niss_cube.specs.declared.step.Step.{Step}
use Rattle.niss_search.specs.declared.searching.both.Sides.{Sides}
use Rattle.niss_search.specs.declared.searching.both.Sides.TheVariants.{Normal, Inverse, Both}
use Rattle.niss_ways.specs.Truth.{Origin}
use Rattle.niss_ways.specs.declared.listing.Listed.{Listed}
use Rattle.niss_ways.specs.declared.way.Part.{Part}
use Rattle.niss_embed.specs.ListedSides.{IsListing, NotListing, ListsAfter, ListsFrom, ListsOrNot, nowhere_sides, number_of_sides}
use Rattle.niss_embed.specs.TwoLines as two
use Rattle.niss_embed.specs.TwoLines.{StartsAfter}
use Rattle.niss_embed.specs.declared.two_lines.sides_answer.SidesAnswer.{SidesAnswer}
use Rattle.niss_embed.specs.declared.two_lines.sides_answer.SidesWanted.{SidesWanted}
use Rattle.niss_embed.specs.declared.two_lines.Nowhere.{Nowhere}
use Rattle.niss_embed.specs.declared.two_lines.Nowhere.TheVariants.{NoStart}

from_one : (sides : Sides) → 1 ≤ number_of_sides sides
from_one Normal = omega arith
from_one Inverse = omega arith
from_one Both = omega arith

to_three : (sides : Sides) → number_of_sides sides ≤ 3
to_three Normal = omega arith
to_three Inverse = omega arith
to_three Both = omega arith

one_or_none : (b : Bool) → (if b then 1 else 0) ≤ 1
one_or_none true = omega arith
one_or_none false = omega arith

-- what is listed by numbers is in range
pub in_range : (w : SidesWanted) (listed : Listed) → IsListing w listed → NotListing w → ⊥
in_range w listed h (inl few) = omega (arith, few, h.sides, from_one listed.sides)
in_range w listed h (inr (inl many)) = omega (arith, many, h.sides, to_three listed.sides)
in_range w listed h (inr (inr (inl long))) = omega (arith, long, h.within)
in_range w listed h (inr (inr (inr words))) = omega (arith, words, h.counts, one_or_none listed.counts)

-- the step may start there, so its solutions are listed, or not
pub listed_after : (lines : Result two.Both Nowhere) (o : Origin) (step : Step) (w : SidesWanted) (room room_now : List Part) (told : SidesAnswer)
    → StartsAfter lines (Ok o) → may_start step (map_of o.cube) ≡ true → ListsFrom o step w room room_now told → ListsAfter lines step w room room_now told
listed_after (Ok lines) o step w room room_now told stands may h =
    inr (o, stands, subst (λ (b : Bool). ListsOrNot b o step w room room_now told) (sym may) h)
listed_after (Err why) o step w room room_now told stands may h = absurd stands

pub not_started : (lines : Result two.Both Nowhere) (o : Origin) (step : Step) (w : SidesWanted) (room room_now : List Part) (told : SidesAnswer)
    → StartsAfter lines (Ok o) → may_start step (map_of o.cube) ≡ false → room_now ≡ room → told ≡ nowhere_sides NoStart
    → ListsAfter lines step w room room_now told
not_started (Ok lines) o step w room room_now told stands may same is =
    inr (o, stands, subst (λ (b : Bool). ListsOrNot b o step w room room_now told) (sym may) (record { same = same; told_is = is }))
not_started (Err why) o step w room room_now told stands may same is = absurd stands
