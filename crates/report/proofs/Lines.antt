-- No refusal but one names a line.
use Rattle.std.proofs.Common.{◌≡◌, ℕ, [], refl}
use Rattle.book.specs.declared.refusal.Refusal.{Refusal}
use Rattle.book.specs.declared.refusal.Refusal.TheVariants.{CellCount, EvenVersion, NoSuchSeat, ReadOnlySeat, SeatNotFree, NumbersUsedUp, SeatFree, SeatBusy, NoSuchCell, PutByReader, WriteSetFull, SeatReady, UnreadableLine, SheetTooLong, ListTooShort, SeatInUse}
use Rattle.report.specs.Answers.{line_of}

pub names_no_line : (r : Refusal) → ((line : ℕ) → r ≡ UnreadableLine line → ⊥) → line_of r ≡ []
names_no_line (UnreadableLine line) other = absurd (other line refl)
names_no_line CellCount other = refl
names_no_line EvenVersion other = refl
names_no_line NoSuchSeat other = refl
names_no_line ReadOnlySeat other = refl
names_no_line SeatNotFree other = refl
names_no_line NumbersUsedUp other = refl
names_no_line SeatFree other = refl
names_no_line SeatBusy other = refl
names_no_line NoSuchCell other = refl
names_no_line PutByReader other = refl
names_no_line WriteSetFull other = refl
names_no_line SeatReady other = refl
names_no_line SheetTooLong other = refl
names_no_line ListTooShort other = refl
names_no_line SeatInUse other = refl
