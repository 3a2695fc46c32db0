-- How large a book is.
use Rattle.std.specs.Prelude.{ℕ}

-- seats are numbered from 0
abbrev pub seat_count : ℕ
seat_count = 8

abbrev pub max_cells : ℕ
max_cells = 64

-- the most cells that one transaction may put
abbrev pub max_writes : ℕ
max_writes = 16

-- the largest number of the latest cells
abbrev pub max_number : ℕ
max_number = 2147483647
