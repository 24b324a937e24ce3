-- The version of the library as one number.
use Rattle.std.specs.Prelude.{ℕ}

abbrev pub version : ℕ
version = 30200
