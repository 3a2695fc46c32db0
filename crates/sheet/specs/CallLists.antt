-- What reading one call after another, to the end of the bytes, comes to.
use Rattle.std.specs.Prelude.{◌≡◌, ℕ, ◌+◌, ◌<◌, ◌≤◌, List, ◌++◌, length}
use Rattle.std.specs.List.{AllByRecursion}
use Rattle.book.specs.declared.call.Call.{Call}
use Rattle.book.specs.declared.refusal.Refusal.TheVariants.{UnreadableLine, SheetTooLong}
use Rattle.sheet.specs.declared.error.ReadError.{ReadError}
use Rattle.sheet.specs.declared.error.ReadError.TheVariants.{Declined, NoMemory}
use Rattle.sheet.specs.Limits.{max_calls}
use Rattle.sheet.specs.Readings.{NoCall}
use Rattle.sheet.specs.Texts.{calls_text, CallFits}

-- bs begin with the lines of calls, and left is what follows them
pub record CallsFront (bs : List ℕ) (calls : List Call) (left : List ℕ) : Type 0 where
  pub fits : AllByRecursion CallFits calls
  pub split : bs ≡ calls_text calls ++ left

-- reading bs, whose first line has the number line, stops with this error
pub data StopsCalls (bs : List ℕ) (line : ℕ) : ReadError → Type 0 where
  no_call : (calls : List Call) (left : List ℕ) → CallsFront bs calls left → length calls < max_calls → 0 < length left → NoCall left → StopsCalls bs line (Declined (UnreadableLine (length calls + line)))
  too_many_calls : (calls : List Call) (left : List ℕ) → CallsFront bs calls left → length calls ≡ max_calls → 0 < length left → StopsCalls bs line (Declined SheetTooLong)
  no_memory : StopsCalls bs line NoMemory

-- bs are the lines of calls, not too many
abbrev pub AllCalls : List ℕ → List Call → Type 0
AllCalls bs calls = AllByRecursion CallFits calls × (bs ≡ calls_text calls) × (length calls ≤ max_calls)
