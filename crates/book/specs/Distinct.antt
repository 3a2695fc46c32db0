-- Writes to cells that are all apart.
use Rattle.std.specs.Prelude.{Bool, true, not, ◌&&◌, List, [], ◌∷◌, is_some}
use Rattle.book.specs.Writes.{Write, written}

abbrev pub distinct : List Write → Bool
distinct [] = true
distinct (w ∷ ws) = not (is_some (written w.cell ws)) && distinct ws
