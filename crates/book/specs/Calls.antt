-- Which seat a call is on, and which refusal it meets: the first line of the table in docs/BOOK.md that holds.
use Rattle.std.specs.Prelude.{ℕ, ◌+◌, Bool, true, false, cond, not, ◌&&◌, length, is_some, Some, None, count_by, Option, nat_le}
use Rattle.book.specs.declared.call.Call.{Call}
use Rattle.book.specs.declared.call.Call.TheVariants as calls
use Rattle.book.specs.declared.call.Kind.{Kind}
use Rattle.book.specs.declared.call.Kind.TheVariants.{Reader, Writer}
use Rattle.book.specs.declared.refusal.Refusal.{Refusal}
use Rattle.book.specs.declared.refusal.Refusal.TheVariants.{NoSuchSeat, SeatNotFree, NumbersUsedUp, SeatFree, SeatBusy, NoSuchCell, PutByReader, WriteSetFull, SeatReady}
use Rattle.book.specs.Meaning.{Meaning, Open, Sight, made, nothing, seat_part, view}
use Rattle.book.specs.Sizes.{max_number, seat_count}
use Rattle.book.specs.WriteSets.{lacks_room}

abbrev pub seat_of : Call → ℕ
seat_of (calls.Open kind seat) = seat
seat_of (calls.Get seat cell) = seat
seat_of (calls.Put seat cell value) = seat
seat_of (calls.End seat) = seat
seat_of (calls.Step seat) = seat

-- all calls but a step ask for something
abbrev pub is_request : Call → Bool
is_request (calls.Open kind seat) = true
is_request (calls.Get seat cell) = true
is_request (calls.Put seat cell value) = true
is_request (calls.End seat) = true
is_request (calls.Step seat) = false

-- a table of refusals, line by line: the first that holds, else what is below it
abbrev pub if_then : Bool → Refusal → Option Refusal → Option Refusal
if_then holds refusal below = cond holds (Some refusal) below

abbrev pub is_writer : Kind → Bool
is_writer Reader = false
is_writer Writer = true

abbrev pub has_made : Sight → Bool
has_made nothing = false
has_made (view number cells) = false
has_made (made number) = true

-- an open writer that has not made yet
abbrev pub will_make : Option Open → Bool
will_make None = false
will_make (Some o) = is_writer o.kind && not (has_made o.sight)

-- the numbers that are used or spoken for
abbrev pub numbers_taken : Meaning → ℕ
numbers_taken m = m.number + count_by will_make m.seats

abbrev pub is_busy : Open → Bool
is_busy o = is_some o.request

abbrev pub open_refusal : Meaning → Kind → Option Open → Option Refusal
open_refusal m kind (Some o) = Some SeatNotFree
open_refusal m kind None = if_then (is_writer kind && nat_le max_number (numbers_taken m)) NumbersUsedUp None

abbrev pub get_refusal : Meaning → ℕ → Option Open → Option Refusal
get_refusal m cell None = Some SeatFree
get_refusal m cell (Some o) = if_then (is_busy o) SeatBusy (if_then (nat_le (length m.cells) cell) NoSuchCell None)

abbrev pub put_refusal : Meaning → ℕ → Option Open → Option Refusal
put_refusal m cell None = Some SeatFree
put_refusal m cell (Some o) = if_then (is_busy o) SeatBusy (if_then (nat_le (length m.cells) cell) NoSuchCell (if_then (not (is_writer o.kind)) PutByReader (if_then (lacks_room cell o.writes) WriteSetFull None)))

abbrev pub end_refusal : Option Open → Option Refusal
end_refusal None = Some SeatFree
end_refusal (Some o) = if_then (is_busy o) SeatBusy None

abbrev pub step_refusal : Option Open → Option Refusal
step_refusal None = Some SeatFree
step_refusal (Some o) = if_then (not (is_busy o)) SeatReady None

abbrev pub seat_refusal : Meaning → Call → Option Refusal
seat_refusal m (calls.Open kind seat) = open_refusal m kind (seat_part m seat)
seat_refusal m (calls.Get seat cell) = get_refusal m cell (seat_part m seat)
seat_refusal m (calls.Put seat cell value) = put_refusal m cell (seat_part m seat)
seat_refusal m (calls.End seat) = end_refusal (seat_part m seat)
seat_refusal m (calls.Step seat) = step_refusal (seat_part m seat)

-- the refusal that a call meets, or none where it succeeds
abbrev pub refusal_of : Meaning → Call → Option Refusal
refusal_of m call = if_then (nat_le seat_count (seat_of call)) NoSuchSeat (seat_refusal m call)
