use Rattle.niss_cube.proofs.Words.{Below, Alike, Both, Numbers, Fact, Holds, holds, ℕ, rules, refl, [], get_or, moved_by, Token}
use Rattle.niss_cube.proofs.Words.{Axis, Ud, Rl, Fb, Power, Quarter, Half, Counter, place_at, axis_index, power_index, BEFORE_ROTATION}
use Rattle.niss_cube.proofs.facelet_text.before_rotation.Goals as goal

abbrev before : Axis → Power → ℕ → ℕ
before a p k = get_or (get_or (get_or BEFORE_ROTATION (axis_index a) []) (power_index p) []) k 0

abbrev row_fact : Axis → Power → Fact
row_fact a p = Numbers 54 λ k. Both (Below (before a p k) 54) (Alike (moved_by (Token.Rotation a p) (place_at (before a p k))) (place_at k))

abbrev rows_fact : Axis → Fact
rows_fact a = Both (row_fact a Quarter) (Both (row_fact a Half) (row_fact a Counter))

rows_hold : (a : Axis) → Holds (rows_fact a)
unfolding place_at
rows_hold Ud = holds (rows_fact Ud) refl
rows_hold Rl = holds (rows_fact Rl) refl
rows_hold Fb = holds (rows_fact Fb) refl

brought : (a : Axis) (p : Power) → Holds (row_fact a p)
brought a Quarter = (rows_hold a).0
brought a Half = (rows_hold a).1.0
brought a Counter = (rows_hold a).1.1

pub returns-clause-value : goal.returns-clause-value
returns-clause-value c = search rules

pub returns-clause-in_range : goal.returns-clause-in_range
returns-clause-in_range c = rw (returns-clause-value c) (λ k l. (brought c.args.axis c.args.power k l).0)

pub returns-clause-moves : goal.returns-clause-moves
returns-clause-moves c = rw (returns-clause-value c) (λ k l. (brought c.args.axis c.args.power k l).1)
