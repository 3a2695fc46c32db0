-- Seats that are free, and seats that go on.
use Rattle.std.specs.Prelude.{◌≡◌, ℕ, ◌<◌, true, false, length, Some, None}
use Rattle.book.specs.Calls.{is_busy}
use Rattle.book.specs.Meaning.{Meaning, Open, seat_part}
use Rattle.book.specs.Sizes.{seat_count}

-- a book all of whose seats are free
pub record AllFree (m : Meaning) : Type 0 where
  pub size : length m.seats ≡ seat_count
  pub free : (s : ℕ) → s < seat_count → seat_part m s ≡ None

-- where some seat is open and all open seats are busy, some busy seat would not wait
abbrev pub SomeBusyMoves : Meaning → Type 0
SomeBusyMoves m = (s : ℕ) (o : Open) → seat_part m s ≡ Some o → ((r : ℕ) (q : Open) → seat_part m r ≡ Some q → is_busy q ≡ true) → (b : ℕ) × (q : Open) × (seat_part m b ≡ Some q) × (is_busy q ≡ true) × (m.waits b ≡ false)
