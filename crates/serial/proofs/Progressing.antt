-- What a step finds: a seat without the turn waits, and the one that has it is busy.
use Rattle.std.specs.Prelude.{◌≡◌, ℕ, false, true, not, ◌&&◌, is_some, Some, None, Option, ◌==◌, refl}
use Rattle.std.proofs.Common.{ap, ◌∙◌}
use Rattle.std.proofs.lemmas.Bool.{not-false}
use Rattle.book.specs.declared.answer.Word.TheVariants as words
use Rattle.book.specs.declared.call.Call.TheVariants as calls
use Rattle.book.specs.Calls.{is_busy, refusal_of, step_refusal}
use Rattle.book.specs.Effects as effects
use Rattle.book.specs.Meaning.{Open, seat_part}
use Rattle.serial.specs.declared.state.State.{State}
use Rattle.serial.specs.declared.state.Turn.{Turn}
use Rattle.serial.specs.Moves.{SeatSteps}
use Rattle.serial.specs.States.{has_turn, meaning_of}
use Rattle.book.proofs.Requests.{none_above}
use Rattle.serial.proofs.Accepting.{seat_place}
use Rattle.serial.specs.Laws.{Sound}

busy_part : (part : Option Open) → step_refusal part ≡ None → (o : Open) × (part ≡ Some o) × (is_busy o ≡ true)
busy_part None e = cc
busy_part (Some o) e = (o, refl, not-false (is_busy o) (none_above (not (is_busy o)) _ None e).0)

-- a seat that is not the turn's waits
pub waits_now : (st : State) → Sound st → (t : Turn) → st.turn ≡ Some t → (seat : ℕ) → (t.seat == seat) ≡ false → refusal_of (meaning_of st) (calls.Step seat) ≡ None → SeatSteps (meaning_of st) seat words.Wait 0 (meaning_of st)
waits_now st sound t e seat apart none =
    let found = busy_part (seat_part (meaning_of st) seat) (seat_place (meaning_of st) (calls.Step seat) none).1 in
    (found.0, found.1, effects.waits (ap (λ x. is_some x && not (has_turn x seat)) e ∙ ap not apart))
