-- Where a cursor stands in its sheet.
use Rattle.std.specs.Prelude.{◌≡◌, ℕ, ◌+◌, List, ◌++◌, drop}
use Rattle.sheet.specs.declared.cursor.Cursor.{Cursor}

-- the bytes that are still to be read
abbrev pub rest : Cursor → List ℕ
rest c = drop c.place c.sheet.now

-- c stands before the first byte
pub record AtStart (bs : List ℕ) (c : Cursor) : Type 0 where
  pub sheet : c.sheet.now ≡ bs
  pub place : c.place ≡ 0
  pub line : c.line ≡ 1

-- the cursor went on in its sheet by so many bytes and so many lines
pub record Moved (before after : Cursor) (bytes lines : ℕ) : Type 0 where
  pub sheet : after.sheet.now ≡ before.sheet.now
  pub place : after.place ≡ before.place + bytes
  pub line : after.line ≡ before.line + lines

-- the cursor went on past the bytes of front, and by so many lines
pub record Passed (before after : Cursor) (front : List ℕ) (lines : ℕ) : Type 0 where
  pub split : rest before ≡ front ++ rest after
  pub line : after.line ≡ before.line + lines
