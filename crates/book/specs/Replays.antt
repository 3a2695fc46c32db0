-- The serial replay: each transaction alone, on the snapshot that its numbers name. It hears no value that was told.
use Rattle.std.specs.Prelude.{ℕ, zero, suc, ◌+◌, ◌-◌, Bool, false, cond, List, [], ◌∷◌, ◌++◌, Some, None, Option, ◌==◌, slice_index}
use Rattle.std.specs.Option.{unwrap_or}
use Rattle.book.specs.Calls.{seat_of}
use Rattle.book.specs.Histories.{accepted, declined, ended, Heard, History, last_made, made, made_number, moved, opened, opened_number, put, told, waited}
use Rattle.book.specs.Meaning.{ending, getting, opening, putting, Request}
use Rattle.book.specs.Transactions.{current, place, Transaction}
use Rattle.book.specs.Writes.{applied, CellValue, Write, written}

-- the cells and their number when the run began
pub record Start : Type 0 where
  pub number : ℕ
  pub cells : List CellValue

abbrev pub is_place : ℕ → Option Transaction → Bool
is_place o None = false
is_place o (Some t) = place t == o

abbrev pub first_given : Option ℕ → Option ℕ → Option ℕ
first_given None other = other
first_given (Some n) other = Some n

-- the number that an answer gave to the transaction at a place
abbrev pub number_of : (Heard → Option ℕ) → ℕ → History → Option ℕ
number_of f o [] = None
number_of f o (e ∷ old) = cond (is_place o (current (seat_of e.call) old)) (first_given (f e.hears) (number_of f o old)) (number_of f o old)

abbrev pub opened_as : ℕ → History → Option ℕ
opened_as o h = number_of opened_number o h

abbrev pub made_as : ℕ → History → Option ℕ
made_as o h = number_of made_number o h

abbrev pub puts_of : Option Transaction → List Write
puts_of None = []
puts_of (Some t) = t.puts

abbrev pub is_number : ℕ → Option ℕ → Bool
is_number p None = false
is_number p (Some n) = n == p

-- the answered puts of the writer that made p
abbrev pub puts_made : ℕ → History → List Write
puts_made p [] = []
puts_made p (e ∷ old) = cond (is_number p (made_number e.hears)) (puts_of (current (seat_of e.call) old)) (puts_made p old)

-- the snapshot k commits after the start
abbrev pub snapshot_after : Start → History → ℕ → List CellValue
snapshot_after start h zero = start.cells
snapshot_after start h (suc k) = applied (puts_made (start.number + suc k) h) (snapshot_after start h k)

abbrev pub snapshot : Start → History → ℕ → List CellValue
snapshot start h p = snapshot_after start h (p - start.number)

-- the number of the snapshot that a transaction runs on: the one before what it made, else the one it opened on
abbrev pub runs_on : Option ℕ → Option ℕ → ℕ
runs_on (Some p) v = p - 1
runs_on None v = unwrap_or v 0

abbrev pub base : History → Transaction → ℕ
base h t = runs_on (made_as (place t) h) (opened_as (place t) h)

-- what a get is worked out to: the transaction's own last put of the cell, else the snapshot's value
abbrev pub worked_get : Start → History → Transaction → Option Request → CellValue
worked_get start h t None = 0
worked_get start h t (Some opening) = 0
worked_get start h t (Some (getting cell)) = unwrap_or (written cell t.puts) (slice_index (snapshot start h (base h t)) cell)
worked_get start h t (Some (putting p)) = 0
worked_get start h t (Some ending) = 0

abbrev pub worked_told : Start → History → Option Transaction → CellValue
worked_told start h None = 0
worked_told start h (Some t) = worked_get start h t t.asks

-- the worked value of an answer: of a told its value by the replay, of all else 0
abbrev pub worked_answer : Start → History → Heard → Option Transaction → CellValue
worked_answer start h accepted t = 0
worked_answer start h declined t = 0
worked_answer start h waited t = 0
worked_answer start h moved t = 0
worked_answer start h (opened n) t = 0
worked_answer start h told t = worked_told start h t
worked_answer start h put t = 0
worked_answer start h (made n) t = 0
worked_answer start h ended t = 0

-- the worked values of the calls of `part`, oldest first, by the whole history h
abbrev pub worked_by : Start → History → History → List CellValue
worked_by start h [] = []
worked_by start h (e ∷ old) = worked_by start h old ++ (worked_answer start h e.hears (current (seat_of e.call) old) ∷ [])

-- what a replay yields, and what an account is: a value for each call in order, the last number, and its cells
pub record Account : Type 0 where
  pub told_values : List CellValue
  pub last_number : ℕ
  pub last_cells : List CellValue

abbrev pub replay : Start → History → Account
replay start h = record { told_values = worked_by start h h; last_number = last_made start.number h; last_cells = snapshot start h (last_made start.number h) }
