-- The text that answers a sheet.
use Rattle.std.specs.Prelude.{ℕ, List, [], ◌∷◌, ◌++◌, codes, decimal}
use Rattle.book.specs.declared.refusal.Refusal.{Refusal}
use Rattle.book.specs.declared.refusal.Refusal.TheVariants.{CellCount, EvenVersion, NoSuchSeat, ReadOnlySeat, SeatNotFree, NumbersUsedUp, SeatFree, SeatBusy, NoSuchCell, PutByReader, WriteSetFull, SeatReady, UnreadableLine, SheetTooLong, ListTooShort, SeatInUse}
use Rattle.book.specs.Refusals.{refusal_number}
use Rattle.sheet.specs.Outcomes.{Outcome, declined, readable}
use Rattle.report.specs.Summaries.{summary_text}

-- what follows a refusal's number: the line's number for an unreadable line, else nothing
abbrev pub line_of : Refusal → List ℕ
line_of (UnreadableLine line) = 32 ∷ decimal line
line_of CellCount = []
line_of EvenVersion = []
line_of NoSuchSeat = []
line_of ReadOnlySeat = []
line_of SeatNotFree = []
line_of NumbersUsedUp = []
line_of SeatFree = []
line_of SeatBusy = []
line_of NoSuchCell = []
line_of PutByReader = []
line_of WriteSetFull = []
line_of SeatReady = []
line_of SheetTooLong = []
line_of ListTooShort = []
line_of SeatInUse = []

abbrev pub refusal_text : Refusal → List ℕ
refusal_text refusal = codes "no " ++ (decimal (refusal_number refusal) ++ (line_of refusal ++ (10 ∷ [])))

abbrev pub outcome_text : Outcome → List ℕ
outcome_text (readable s) = summary_text s
outcome_text (declined refusal) = refusal_text refusal
