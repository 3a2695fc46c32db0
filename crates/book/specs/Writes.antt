-- Puts of one transaction: lists of cells with the values put to them.
use Rattle.std.specs.Prelude.{ℕ, cond, List, [], ◌∷◌, Some, None, Option, ◌==◌, slice_set}
use Rattle.book.specs.declared.write.Write.{Write as CodeWrite}

-- what a cell holds
abbrev pub CellValue : Type 0
CellValue = ℕ

-- a cell with the value put to it
abbrev pub Write : Type 0
Write = CodeWrite

-- the value that the first entry for a cell has
abbrev pub written : ℕ → List Write → Option CellValue
written c [] = None
written c (w ∷ ws) = cond (w.cell == c) (Some w.value) (written c ws)

-- a write set after one more put: one entry a cell, in order of first put
abbrev pub with_put : Write → List Write → List Write
with_put p [] = p ∷ []
with_put p (w ∷ ws) = cond (w.cell == p.cell) (p ∷ ws) (w ∷ with_put p ws)

-- the cells after these writes, the last of the list first
abbrev pub applied : List Write → List CellValue → List CellValue
applied [] cells = cells
applied (w ∷ ws) cells = slice_set (applied ws cells) w.cell w.value
