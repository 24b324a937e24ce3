-- The numbers of faces, powers, slices, axes and moves, by which tables are looked up.
use Rattle.std.specs.Prelude.{ℕ, ◌+◌, ◌*◌}
use Rattle.niss_moves.specs.Names.{Face, U, D, R, L, F, B, Power, Quarter, Half, Counter, Slice, M, E, S, Axis, Ud}
use Rattle.niss_moves.specs.Names.{Rl, Fb, Token}

abbrev pub face_index : Face → ℕ
face_index U = 0
face_index D = 1
face_index R = 2
face_index L = 3
face_index F = 4
face_index B = 5

abbrev pub power_index : Power → ℕ
power_index Quarter = 0
power_index Half = 1
power_index Counter = 2

abbrev pub layer_index : Slice → ℕ
layer_index M = 0
layer_index E = 1
layer_index S = 2

abbrev pub axis_index : Axis → ℕ
axis_index Ud = 0
axis_index Rl = 1
axis_index Fb = 2

-- The 54 moves are numbered by their kinds, those of one kind by what they turn, and then by their powers.
abbrev pub token_index : Token → ℕ
token_index (Token.Face t) = 3 * face_index t.face + power_index t.power
token_index (Token.Wide face power) = 3 * (6 + face_index face) + power_index power
token_index (Token.Slice slice power) = 3 * (12 + layer_index slice) + power_index power
token_index (Token.Rotation axis power) = 3 * (15 + axis_index axis) + power_index power
