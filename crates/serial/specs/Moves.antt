-- What the moves of the serial engine promise.
use Rattle.std.specs.Prelude.{◌≡◌, ℕ, ◌+◌, ◌≤◌, Bool, List, replicate, Some, None, Option, slice_set}
use Rattle.book.specs.declared.answer.Word.{Word}
use Rattle.book.specs.declared.call.Kind.{Kind}
use Rattle.book.specs.declared.write_set.WriteSet.{WriteSet}
use Rattle.book.specs.Effects.{asked, Steps, with_seat}
use Rattle.book.specs.Meaning.{Meaning, Open, Request, seat_part}
use Rattle.book.specs.Sizes.{seat_count}
use Rattle.book.specs.Writes.{CellValue}
use Rattle.fixed_vec.specs.Listed.{Listed}
use Rattle.serial.specs.declared.state.Stage.TheVariants.{Made, Ready}
use Rattle.serial.specs.declared.state.State.{State}
use Rattle.serial.specs.declared.state.Turn.{Turn}
use Rattle.serial.specs.States.{latest, meaning_of, turn_part}

abbrev pub asked_for : Option Request → ℕ → Option Open → Option Open
asked_for None owed part = part
asked_for (Some request) owed part = asked request owed part

-- the seat's request is recorded
pub record Asked (m : Meaning) (s : ℕ) (request : Option Request) (m' : Meaning) : Type 0 where
  pub owed : ℕ
  pub within : owed ≤ 2
  pub effect : m' ≡ with_seat m s (asked_for request owed (seat_part m s)) m'.waits

-- a step of the seat that has the turn
abbrev pub TurnSteps : State → Turn → Word → ℕ → State → Type 0
TurnSteps st t word number st' = Steps (meaning_of st) t.seat (turn_part t st.number (latest st)) word number (meaning_of st')

-- a step of any seat
abbrev pub SeatSteps : Meaning → ℕ → Word → ℕ → Meaning → Type 0
SeatSteps m s word number m' = (o : Open) × (seat_part m s ≡ Some o) × Steps m s o word number m'

-- a new book
abbrev pub fresh : ℕ → List CellValue → (ℕ → Bool) → Meaning
fresh number cells waits = record { cells = cells; number = number; seats = replicate seat_count None; waits = waits }

-- the states that the moves lead to

abbrev pub ready_turn : Turn → WriteSet → Turn
ready_turn t writes = record { seat = t.seat; kind = t.kind; stage = Ready; writes = writes }

abbrev pub waiting_at : State → ℕ → Option Kind → State
waiting_at st s kind = record { cells = st.cells; number = st.number; waiting = slice_set st.waiting s kind; turn = st.turn }

abbrev pub turn_at : State → Turn → State
turn_at st t = record { cells = st.cells; number = st.number; waiting = st.waiting; turn = Some t }

abbrev pub taken_at : State → Turn → State
taken_at st t = record { cells = st.cells; number = st.number; waiting = slice_set st.waiting t.seat None; turn = Some t }

abbrev pub ended_at : State → ℕ → State
ended_at st s = record { cells = st.cells; number = st.number; waiting = slice_set st.waiting s None; turn = None }

abbrev pub committed_at : State → Listed CellValue → Turn → State
committed_at st cells t = record { cells = cells; number = st.number + 1; waiting = st.waiting; turn = Some (record { seat = t.seat; kind = t.kind; stage = Made; writes = t.writes }) }
