-- The part of one seat, and which refusal a call meets there.
use Rattle.std.specs.Prelude.{ℕ, cond, Some, None, Option, ◌==◌, slice_index_or}
use Rattle.book.specs.declared.call.Call.{Call}
use Rattle.book.specs.declared.call.Call.TheVariants as calls
use Rattle.book.specs.declared.refusal.Refusal.{Refusal}
use Rattle.book.specs.Calls.{end_refusal, get_refusal, open_refusal, put_refusal, step_refusal}
use Rattle.book.specs.Meaning.{Open}
use Rattle.serial.specs.declared.state.State.{State}
use Rattle.serial.specs.declared.state.Turn.{Turn}
use Rattle.serial.specs.States.{latest, meaning_of, turn_part, waiting_part}

-- the turn, where this seat has it
abbrev pub turn_of : Option Turn → ℕ → Option Turn
turn_of None s = None
turn_of (Some t) s = cond (t.seat == s) (Some t) None

abbrev pub part_with_turn : State → Option Turn → ℕ → Option Open
part_with_turn st None s = waiting_part (slice_index_or st.waiting s None)
part_with_turn st (Some t) s = Some (turn_part t st.number (latest st))

abbrev pub part_at : State → ℕ → Option Open
part_at st s = part_with_turn st (turn_of st.turn s) s

-- the refusal that what a call asks for meets on a seat, whichever seat the call names
abbrev pub refusal_at : State → Call → ℕ → Option Refusal
refusal_at st (calls.Open kind _) s = open_refusal (meaning_of st) kind (part_at st s)
refusal_at st (calls.Get _ cell) s = get_refusal (meaning_of st) cell (part_at st s)
refusal_at st (calls.Put _ cell value) s = put_refusal (meaning_of st) cell (part_at st s)
refusal_at st (calls.End _) s = end_refusal (part_at st s)
refusal_at st (calls.Step _) s = step_refusal (part_at st s)
