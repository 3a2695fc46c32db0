-- The seats that a book has.
use Rattle.std.specs.Prelude.{ℕ, cond, Ok, Err, Result, nat_le}
use Rattle.book.specs.declared.refusal.Refusal.{Refusal}
use Rattle.book.specs.declared.refusal.Refusal.TheVariants.{NoSuchSeat}
use Rattle.book.specs.Sizes.{seat_count}

-- the seat with this number, if the book has it
abbrev pub seated : ℕ → Result ℕ Refusal
seated number = cond (nat_le seat_count number) (Err NoSuchSeat) (Ok number)
