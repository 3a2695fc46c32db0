-- The meaning of the serial engine's state.
use Rattle.std.specs.Prelude.{ℕ, Bool, false, not, ◌&&◌, List, [], map, is_some, Some, None, Option, ◌==◌, slice_set}
use Rattle.book.specs.declared.call.Kind.{Kind}
use Rattle.book.specs.declared.call.Kind.TheVariants.{Reader, Writer}
use Rattle.book.specs.Meaning.{ending, getting, made, Meaning, nothing, Open, opening, putting, Request, Sight, view}
use Rattle.book.specs.Writes.{CellValue}
use Rattle.book.specs.WriteSets.{entries}
use Rattle.serial.specs.declared.state.Stage.{Stage}
use Rattle.serial.specs.declared.state.Stage.TheVariants.{Ending, Getting, Made, Putting, Ready}
use Rattle.serial.specs.declared.state.State.{State}
use Rattle.serial.specs.declared.state.Turn.{Turn}

abbrev pub stage_request : Stage → Option Request
stage_request Ready = None
stage_request (Getting cell) = Some (getting cell)
stage_request (Putting write) = Some (putting write)
stage_request Ending = Some ending
stage_request Made = Some ending

-- the turn's transaction sees the latest cells until it has made
abbrev pub stage_sight : Stage → ℕ → List CellValue → Sight
stage_sight Ready number cells = view number cells
stage_sight (Getting cell) number cells = view number cells
stage_sight (Putting write) number cells = view number cells
stage_sight Ending number cells = view number cells
stage_sight Made number cells = made number

-- a writer's end takes two steps, everything else one
abbrev pub end_owed : Kind → ℕ
end_owed Reader = 1
end_owed Writer = 2

abbrev pub stage_owed : Stage → Kind → ℕ
stage_owed Ready kind = 0
stage_owed (Getting cell) kind = 1
stage_owed (Putting write) kind = 1
stage_owed Ending kind = end_owed kind
stage_owed Made kind = 1

abbrev pub turn_part : Turn → ℕ → List CellValue → Open
turn_part t number cells = record { kind = t.kind; request = stage_request t.stage; sight = stage_sight t.stage number cells; writes = entries t.writes; owed = stage_owed t.stage t.kind }

-- an opening that waits for the turn
abbrev pub waiting_part : Option Kind → Option Open
waiting_part None = None
waiting_part (Some kind) = Some (record { kind = kind; request = Some opening; sight = nothing; writes = []; owed = 1 })

-- the seats that wait, with the one that has the turn
abbrev pub with_turn : Option Turn → ℕ → List CellValue → List (Option Open) → List (Option Open)
with_turn None number cells seats = seats
with_turn (Some t) number cells seats = slice_set seats t.seat (Some (turn_part t number cells))

abbrev pub has_turn : Option Turn → ℕ → Bool
has_turn None s = false
has_turn (Some t) s = t.seat == s

abbrev pub turn_seat : Option Turn → ℕ
turn_seat None = 0
turn_seat (Some t) = t.seat

abbrev pub latest : State → List CellValue
latest st = st.cells.items

-- an opening waits while another seat has the turn
abbrev pub meaning_of : State → Meaning
meaning_of st = record {
  cells = latest st;
  number = st.number;
  seats = with_turn st.turn st.number (latest st) (map waiting_part st.waiting);
  waits = λ s. is_some st.turn && not (has_turn st.turn s);
}
