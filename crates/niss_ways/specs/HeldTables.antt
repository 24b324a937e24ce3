-- The tables of the nine steps on an axis that a caller holds, in the order of the steps.
use Rattle.std.specs.Prelude.{◌≡◌, ⊤, ℕ, ◌/◌, ◌%◌, ◌==◌, Bool, true, false, Option, None, Some, List, get_or}
use Rattle.niss_cube.specs.declared.step.Step.{Step}
use Rattle.niss_cube.specs.declared.step.Step.TheVariants.{Eofb, Eorl, Eoud, DrudEofb, DrrlEofb, DrudEorl, DrfbEorl, DrrlEoud, DrfbEoud}
use Rattle.niss_ways.specs.declared.tables.AxisTables.{AxisTables}
use Rattle.niss_ways.specs.declared.tables.WayTables.{WayTables}

-- Those at three places are of an orientation and of the two reductions after it.
pub record AreThree {H : Type 0} (IsTable : H → Step → Type 0) (tables : List H) (at_first at_second at_third : ℕ)
    (orientation reduction other : Step) : Type 0 where
  pub first : (d : H) → IsTable (get_or tables at_first d) orientation
  pub second : (d : H) → IsTable (get_or tables at_second d) reduction
  pub third : (d : H) → IsTable (get_or tables at_third d) other

-- Those of each axis that is asked for are there: 1 F and B, 2 R and L, 4 U and D, added.
pub record AreTables {H : Type 0} (IsTable : H → Step → Type 0) (axes : ℕ) (tables : List H) : Type 0 where
  pub fb : axes % 2 ≡ 1 → AreThree IsTable tables 0 3 4 Eofb DrudEofb DrrlEofb
  pub rl : axes / 2 % 2 ≡ 1 → AreThree IsTable tables 1 5 6 Eorl DrudEorl DrfbEorl
  pub ud : axes / 4 % 2 ≡ 1 → AreThree IsTable tables 2 7 8 Eoud DrrlEoud DrfbEoud

-- These are of an orientation and of the two reductions after it.
pub record AreOf {A : Type 0} (tables : AxisTables A) (orientation reduction other : Step) : Type 0 where
  pub first : tables.orientation.now ≡ orientation
  pub second : tables.first.now ≡ reduction
  pub third : tables.second.now ≡ other

-- They are there if they are asked for, and else none are.
abbrev pub AreIfAsked : {A : Type 0} → Bool → Option (AxisTables A) → (orientation reduction other : Step) → Type 0
AreIfAsked true (Some tables) orientation reduction other = AreOf tables orientation reduction other
AreIfAsked true None orientation reduction other = ⊥
AreIfAsked false (Some tables) orientation reduction other = ⊥
AreIfAsked false None orientation reduction other = ⊤

-- The tables of each axis that is asked for, and of no other.
pub record AreAsked {A : Type 0} (axes : ℕ) (tables : WayTables A) : Type 0 where
  pub fb : AreIfAsked (axes % 2 == 1) tables.fb Eofb DrudEofb DrrlEofb
  pub rl : AreIfAsked (axes / 2 % 2 == 1) tables.rl Eorl DrudEorl DrfbEorl
  pub ud : AreIfAsked (axes / 4 % 2 == 1) tables.ud Eoud DrrlEoud DrfbEoud
