-- One call of a run: the relation lasts, and what was told is what the replay works out.
use Rattle.std.proofs.Common.{◌≡◌, ℕ, ◌<◌, ◌∷◌, Some, refl, subst}
use Rattle.book.specs.declared.answer.Answer.{Answer}
use Rattle.book.specs.declared.answer.Answer.TheVariants.{Stepped}
use Rattle.book.specs.declared.answer.Word.{Word}
use Rattle.book.specs.declared.call.Call.{Call}
use Rattle.book.specs.declared.call.Call.TheVariants as calls
use Rattle.book.specs.Calls.{seat_of}
use Rattle.book.specs.Effects as effects
use Rattle.book.specs.Effects.{Steps}
use Rattle.book.specs.Histories.{heard, History}
use Rattle.book.specs.Law.{told_value}
use Rattle.book.specs.Meaning.{Meaning, Open}
use Rattle.book.specs.Replays.{Start, worked_answer}
use Rattle.book.specs.Runs.{accepts, declines, Does, steps}
use Rattle.book.specs.Sizes.{seat_count}
use Rattle.book.specs.Transactions.{current, Transaction}
use Rattle.book.proofs.Acts.{made_extension, open_seat, opened_extension, tied_ended, tied_made, tied_moved, tied_opened, tied_put, tied_told, told_is_worked}
use Rattle.book.proofs.Extensions.{Extension, quiet}
use Rattle.book.proofs.Requests.{seat_within, tied_accepted, tied_declined, tied_waited}
use Rattle.book.proofs.Tied.{PartTied, SeatTied, Tied}

pub record Kept (bound : ℕ) (start : Start) (h : History) (call : Call) (answer : Answer) (m' : Meaning) : Type 0 where
  pub tied : Tied bound start (record { call = call; hears = heard answer } ∷ h) m'
  pub extension : Extension start (record { call = call; hears = heard answer }) h
  pub value : told_value answer ≡ worked_answer start (record { call = call; hears = heard answer } ∷ h) (heard answer) (current (seat_of call) h)

module _ (bound : ℕ) (start : Start) (h : History) (m : Meaning) (tied : Tied bound start h m) where
  step_kept : (s : ℕ) (o : Open) (t : Transaction) → current s h ≡ Some t → SeatTied bound start h s t o → s < seat_count → (word : Word) (number : ℕ) (m' : Meaning) → Steps m s o word number m' → Kept bound start h (calls.Step s) (Stepped word number) m'
  step_kept s o t is seat within _ _ _ (effects.waits _) = record { tied = tied_waited bound start h m tied s; extension = quiet start _ h refl refl; value = refl }
  step_kept s o t is seat within _ _ _ (effects.moves _ sight may owed fewer w) = record { tied = tied_moved bound start h m tied s o t is seat within sight may owed fewer w; extension = quiet start _ h refl refl; value = refl }
  step_kept s o t is seat within _ _ _ (effects.opens _ asks number cells may owed fewer w) = record { tied = tied_opened bound start h m tied s o t is seat within asks number cells may owed fewer w; extension = opened_extension bound start h m tied s o t is seat within asks number cells may; value = refl }
  step_kept s o t is seat within _ _ _ (effects.tells_value _ cell asks number cells saw owed fewer w) = record { tied = tied_told bound start h m tied s o t is seat within cell asks number cells saw owed fewer w; extension = quiet start _ h refl refl; value = told_is_worked bound start h m tied s o t is seat within cell asks number cells saw }
  step_kept s o t is seat within _ _ _ (effects.puts _ p asks owed fewer w) = record { tied = tied_put bound start h m tied s o t is seat within p asks owed fewer w; extension = quiet start _ h refl refl; value = refl }
  step_kept s o t is seat within _ _ _ (effects.makes _ asks _ cells saw owed fewer w) = record { tied = tied_made bound start h m tied s o t is seat within asks cells saw owed fewer w; extension = made_extension bound start h m tied s o t is seat within asks cells saw; value = refl }
  step_kept s o t is seat within _ _ _ (effects.ends_reader _ _ _ number cells _ some w) = record { tied = tied_ended bound start h m tied s o t is seat within some w; extension = quiet start _ h refl refl; value = refl }
  step_kept s o t is seat within _ _ _ (effects.ends_writer _ _ _ number _ some w) = record { tied = tied_ended bound start h m tied s o t is seat within some w; extension = quiet start _ h refl refl; value = refl }

  pub call_kept : (call : Call) (answer : Answer) (m' : Meaning) → Does bound m call answer m' → Kept bound start h call answer m'
  call_kept _ _ _ (declines call refusal _) = record { tied = tied_declined bound start h m tied call; extension = quiet start _ h refl refl; value = refl }
  call_kept _ _ _ (accepts call m' asks none a) = record { tied = tied_accepted bound start h m tied call m' asks none a; extension = quiet start _ h refl refl; value = refl }
  call_kept _ _ _ (steps s o word number m' none part step) =
      let found = open_seat bound start h s (current s h) o (subst (PartTied bound start h s (current s h)) part (tied.seats s)) in
      step_kept s o found.0 found.1 found.2 (seat_within m (calls.Step s) none) word number m' step
