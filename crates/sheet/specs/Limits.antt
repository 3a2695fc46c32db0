-- The most bytes and the most calls of a sheet.
use Rattle.std.specs.Prelude.{ℕ}

abbrev pub max_bytes : ℕ
max_bytes = 16384

abbrev pub max_calls : ℕ
max_calls = 1024
