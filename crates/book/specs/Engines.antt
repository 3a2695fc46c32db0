-- What an engine promises of each call, over the meaning before and after it.
use Rattle.std.specs.Prelude.{◌≡◌, ℕ, ◌/◌, ◌%◌, Bool, true, false, cond, not, ◌&&◌, ◌||◌, List, [], ◌∷◌, length, replicate, is_some, Some, None, Ok, Err, Option, Result, MatchResult, ◌==◌, nat_le, nat_lt, slice_index}
use Rattle.book.specs.declared.answer.Answer.{Answer}
use Rattle.book.specs.declared.answer.Answer.TheVariants.{Accepted, Declined, Stepped}
use Rattle.book.specs.declared.answer.Standing.{Standing}
use Rattle.book.specs.declared.answer.Standing.TheVariants.{Busy, Free, Ready}
use Rattle.book.specs.declared.answer.Word.{Word}
use Rattle.book.specs.declared.call.Call.{Call}
use Rattle.book.specs.declared.call.Call.TheVariants as calls
use Rattle.book.specs.declared.call.Kind.{Kind}
use Rattle.book.specs.declared.refusal.Refusal.{Refusal}
use Rattle.book.specs.declared.refusal.Refusal.TheVariants.{CellCount, EvenVersion, ListTooShort, NoSuchCell, NoSuchSeat, SeatInUse}
use Rattle.book.specs.Calls.{if_then, is_busy, refusal_of}
use Rattle.book.specs.Effects.{Accepts, Steps}
use Rattle.book.specs.Meaning.{Meaning, Open, seat_part}
use Rattle.book.specs.Sizes.{max_cells, seat_count}
use Rattle.book.specs.Writes.{CellValue}

-- the refusal that a start meets
abbrev pub start_refusal : ℕ → List CellValue → Option Refusal
start_refusal version cells = if_then (length cells == 0 || nat_lt max_cells (length cells)) CellCount (if_then (version % 2 == 0) EvenVersion None)

-- a new book: its number is half the version, rounded down, and all its seats are free
abbrev pub started : ℕ → List CellValue → (ℕ → Bool) → Meaning
started version cells waits = record { cells = cells; number = version / 2; seats = replicate seat_count None; waits = waits }

abbrev pub Starts : {E : Type 0} → (E → Meaning) → ℕ → List CellValue → Result E Refusal → Type 0
Starts meaning version cells r = MatchResult r (λ e. (start_refusal version cells ≡ None) × (meaning e ≡ started version cells (meaning e).waits)) (λ refusal. start_refusal version cells ≡ Some refusal)

-- a request is accepted, or declined with the engine left as it was
abbrev pub Asks : ℕ → Meaning → Call → Meaning → Type 0 → Result (Unit {0}) Refusal → Type 0
Asks bound m call m' same r = MatchResult r (λ _. (refusal_of m call ≡ None) × Accepts bound m call m') (λ refusal. (refusal_of m call ≡ Some refusal) × same)

-- the answer to a request
abbrev pub request_answer : Result (Unit {0}) Refusal → Answer
request_answer (Ok _) = Accepted
request_answer (Err refusal) = Declined refusal

-- the answer to a step
abbrev pub step_answer : Result (Word × ℕ) Refusal → Answer
step_answer (Ok (word, number)) = Stepped word number
step_answer (Err refusal) = Declined refusal

-- this holds where the call was declined
abbrev pub IfDeclined : Answer → Type 0 → Type 0
IfDeclined Accepted same = Unit {0}
IfDeclined (Stepped word number) same = Unit {0}
IfDeclined (Declined refusal) same = same

-- a step answers, or is declined with the engine left as it was
abbrev pub Answers : Meaning → ℕ → Meaning → Type 0 → Result (Word × ℕ) Refusal → Type 0
Answers m s m' same r = MatchResult r (λ answer. (refusal_of m (calls.Step s) ≡ None) × ((o : Open) × (seat_part m s ≡ Some o) × Steps m s o answer.0 answer.1 m')) (λ refusal. (refusal_of m (calls.Step s) ≡ Some refusal) × same)

-- questions
abbrev pub latest_cell : Meaning → ℕ → Result CellValue Refusal
latest_cell m cell = cond (nat_le (length m.cells) cell) (Err NoSuchCell) (Ok (slice_index m.cells cell))

abbrev pub kind_in : Option Open → Option Kind
kind_in None = None
kind_in (Some o) = Some o.kind

abbrev pub seat_kind : Meaning → ℕ → Result (Option Kind) Refusal
seat_kind m s = cond (nat_le seat_count s) (Err NoSuchSeat) (Ok (kind_in (seat_part m s)))

abbrev pub standing_in : Option Open → Standing
standing_in None = Free
standing_in (Some o) = cond (is_busy o) Busy Ready

abbrev pub seat_standing : Meaning → ℕ → Result Standing Refusal
seat_standing m s = cond (nat_le seat_count s) (Err NoSuchSeat) (Ok (standing_in (seat_part m s)))

abbrev pub says_free : Result Standing Refusal → Bool
says_free (Ok Free) = true
says_free (Ok Ready) = false
says_free (Ok Busy) = false
says_free (Err refusal) = false

-- whether no seat of these is open
abbrev pub none_open : List (Option Open) → Bool
none_open [] = true
none_open (part ∷ parts) = not (is_some part) && none_open parts

-- the refusal that a run of so many calls meets, with room for so many answers
abbrev pub run_refusal : ℕ → ℕ → Meaning → Option Refusal
run_refusal calls answers m = if_then (nat_lt answers calls) ListTooShort (if_then (not (none_open m.seats)) SeatInUse None)
