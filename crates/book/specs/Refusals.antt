-- The number of each refusal, as docs/BOOK.md lists them.
use Rattle.std.specs.Prelude.{ℕ}
use Rattle.book.specs.declared.refusal.Refusal.{Refusal}
use Rattle.book.specs.declared.refusal.Refusal.TheVariants.{CellCount, EvenVersion, NoSuchSeat, ReadOnlySeat, SeatNotFree, NumbersUsedUp, SeatFree, SeatBusy, NoSuchCell, PutByReader, WriteSetFull, SeatReady, UnreadableLine, SheetTooLong, ListTooShort, SeatInUse}

abbrev pub refusal_number : Refusal → ℕ
refusal_number CellCount = 1
refusal_number EvenVersion = 2
refusal_number NoSuchSeat = 3
refusal_number ReadOnlySeat = 4
refusal_number SeatNotFree = 5
refusal_number NumbersUsedUp = 6
refusal_number SeatFree = 7
refusal_number SeatBusy = 8
refusal_number NoSuchCell = 9
refusal_number PutByReader = 10
refusal_number WriteSetFull = 11
refusal_number SeatReady = 12
refusal_number (UnreadableLine line) = 13
refusal_number SheetTooLong = 14
refusal_number ListTooShort = 15
refusal_number SeatInUse = 16
