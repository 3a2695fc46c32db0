-- What reading a line comes to, where it may fail: by the line, or for want of memory.
use Rattle.std.specs.Prelude.{ℕ, Option, Some, None, Result, Ok, Err}
use Rattle.book.specs.declared.refusal.Refusal.TheVariants.{UnreadableLine}
use Rattle.sheet.specs.declared.error.LineError.{LineError}
use Rattle.sheet.specs.declared.error.LineError.TheVariants.{Unreadable, NoMemory}
use Rattle.sheet.specs.declared.error.ReadError.{ReadError}
use Rattle.sheet.specs.declared.error.ReadError.TheVariants.{Declined}

-- P is true of what was read, or of none where the line is unreadable; want of memory tells nothing
abbrev pub OnReading : {A : Type 0} → Result A LineError → (Option A → Type 0) → Type 0
OnReading (Ok x) P = P (Some x)
OnReading (Err Unreadable) P = P None
OnReading (Err NoMemory) P = Unit {0}

-- the error of a sheet in which a line's error happened on the line with this number
abbrev pub error_at : LineError → ℕ → ReadError
error_at Unreadable line = Declined (UnreadableLine line)
error_at NoMemory line = ReadError.NoMemory
