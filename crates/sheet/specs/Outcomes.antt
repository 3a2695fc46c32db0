-- What reading a sheet comes to: its heading and calls, or a refusal. Each case is one line of the table in
-- docs/SHEETS.md.
use Rattle.std.specs.Prelude.{◌≡◌, ℕ, ◌+◌, ◌<◌, ◌≤◌, List, [], ◌∷◌, ◌++◌, length, vec_items}
use Rattle.std.specs.List.{AllByRecursion}
use Rattle.book.specs.declared.call.Call.{Call}
use Rattle.book.specs.declared.refusal.Refusal.{Refusal}
use Rattle.book.specs.declared.refusal.Refusal.TheVariants.{UnreadableLine, SheetTooLong}
use Rattle.sheet.specs.declared.heading.EngineChoice.{EngineChoice}
use Rattle.sheet.specs.declared.error.ReadError.{ReadError}
use Rattle.sheet.specs.declared.error.ReadError.TheVariants.{Declined, NoMemory}
use Rattle.sheet.specs.declared.reading.Sheet.{Sheet}
use Rattle.sheet.specs.Limits.{max_bytes, max_calls}
use Rattle.sheet.specs.Numbers.{Fits32}
use Rattle.sheet.specs.Readings.{NoCall, NoHeading}
use Rattle.sheet.specs.Texts.{calls_text, CallFits, heading_text}

-- what a sheet says
pub record Content : Type 0 where
  pub engine : EngineChoice
  pub version : ℕ
  pub cells : List ℕ
  pub calls : List Call

-- the one text of a sheet
abbrev pub sheet_text : Content → List ℕ
sheet_text s = heading_text s.engine s.version s.cells ++ calls_text s.calls

-- every number in it has 32 bits
abbrev pub ContentFits : Content → Type 0
ContentFits s = AllByRecursion Fits32 (s.version ∷ s.cells) × AllByRecursion CallFits s.calls

-- bs begin with the text of `read`, and `left` is what follows it
pub record Front (bs : List ℕ) (read : Content) (left : List ℕ) : Type 0 where
  pub fits : ContentFits read
  pub split : bs ≡ sheet_text read ++ left

pub data Outcome : Type 0 where
  readable : Content → Outcome
  declined : Refusal → Outcome

pub data Reads (bs : List ℕ) : Outcome → Type 0 where
  too_many_bytes : max_bytes < length bs → Reads bs (declined SheetTooLong)
  no_heading : length bs ≤ max_bytes → NoHeading bs → Reads bs (declined (UnreadableLine 1))
  no_call : length bs ≤ max_bytes → (read : Content) (left : List ℕ) → Front bs read left → length read.calls < max_calls → 0 < length left → NoCall left → Reads bs (declined (UnreadableLine (length read.calls + 2)))
  too_many_calls : length bs ≤ max_bytes → (read : Content) (left : List ℕ) → Front bs read left → length read.calls ≡ max_calls → 0 < length left → Reads bs (declined SheetTooLong)
  whole : length bs ≤ max_bytes → (read : Content) → Front bs read [] → length read.calls ≤ max_calls → Reads bs (readable read)

abbrev pub content : Sheet → Content
content s = record { engine = s.heading.engine; version = s.heading.version; cells = vec_items s.heading.cells; calls = vec_items s.calls }

-- a refusal is the outcome of reading; want of memory says nothing of the bytes, but that they are not too many
abbrev pub Fails : List ℕ → ReadError → Type 0
Fails bs (Declined refusal) = Reads bs (declined refusal)
Fails bs NoMemory = length bs ≤ max_bytes
