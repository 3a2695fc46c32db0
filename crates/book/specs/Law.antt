-- The law of runs: what holds of every list of calls on every engine that keeps the meaning.
use Rattle.std.specs.Prelude.{◌≡◌, ℕ, ◌+◌, ◌≤◌, true, List, [], ◌∷◌, map, drop, is_some, Some, None, Option, ◌≢◌}
use Rattle.book.specs.declared.answer.Answer.{Answer}
use Rattle.book.specs.declared.answer.Answer.TheVariants.{Accepted, Declined, Stepped}
use Rattle.book.specs.declared.answer.Word.{Word}
use Rattle.book.specs.declared.answer.Word.TheVariants as words
use Rattle.book.specs.declared.call.Call.{Call}
use Rattle.book.specs.declared.call.Call.TheVariants.{Step}
use Rattle.book.specs.Calls.{seat_of}
use Rattle.book.specs.Histories.{Event, Happens, heard, History, history_of, last_made, made_number, opened_number, steps_taken, waited}
use Rattle.book.specs.Meaning.{Meaning}
use Rattle.book.specs.Replays.{Account, opened_as, replay, Start}
use Rattle.book.specs.Runs.{Does}
use Rattle.book.specs.Transactions.{current, place, Transaction}
use Rattle.book.specs.Writes.{CellValue}

-- what a step told, and 0 for every other answer
abbrev pub step_value : Word → ℕ → CellValue
step_value words.Wait n = 0
step_value words.Moved n = 0
step_value words.Opened n = 0
step_value words.Told n = n
step_value words.Put n = 0
step_value words.Made n = 0
step_value words.Ended n = 0

abbrev pub told_value : Answer → CellValue
told_value Accepted = 0
told_value (Stepped word n) = step_value word n
told_value (Declined refusal) = 0

abbrev pub start_of : Meaning → Start
start_of m = record { number = m.number; cells = m.cells }

-- what a run told, and the book at its end
abbrev pub account_of : List Answer → Meaning → Account
account_of answers m = record { told_values = map told_value answers; last_number = m.number; last_cells = m.cells }

-- how many made answers there are
abbrev pub one_if_made : Option ℕ → ℕ
one_if_made None = 0
one_if_made (Some p) = 1

abbrev pub made_count : History → ℕ
made_count [] = 0
made_count (e ∷ old) = one_if_made (made_number e.hears) + made_count old

-- the event e, with old before it, was an answer to this transaction
pub record AnswersTo (h : History) (e : Event) (old : History) (t : Transaction) : Type 0 where
  pub happens : Happens h e old
  pub belongs : current (seat_of e.call) old ≡ Some t

pub record NumbersAreRight (start : ℕ) (h : History) : Type 0 where
  -- the k-th made answer has the number start + k
  pub commit_numbers_rise_by_one : (e : Event) (old : History) (p : ℕ) → Happens h e old → made_number e.hears ≡ Some p → p ≡ start + (made_count old + 1)
  -- each made answer is an answer to a transaction
  pub every_number_has_a_maker : (e : Event) (old : History) (p : ℕ) → Happens h e old → made_number e.hears ≡ Some p → (t : Transaction) × AnswersTo h e old t
  -- two made numbers are equal exactly when one transaction made both
  pub each_number_has_one_maker : (e f : Event) (old older : History) (t u : Transaction) (p q : ℕ) → AnswersTo h e old t → AnswersTo h f older u → made_number e.hears ≡ Some p → made_number f.hears ≡ Some q → (p ≡ q → place t ≡ place u) × (place t ≡ place u → p ≡ q)
  -- a transaction opens on a snapshot of its own time
  pub opened_between_opening_and_answer : (e : Event) (old : History) (t : Transaction) (v : ℕ) → AnswersTo h e old t → opened_number e.hears ≡ Some v → (last_made start t.before ≤ v) × (v ≤ last_made start old)
  -- a writer makes the number after the one it opened on
  pub made_number_follows_opened_number : (e : Event) (old : History) (t : Transaction) (p : ℕ) → AnswersTo h e old t → made_number e.hears ≡ Some p → (v : ℕ) × (opened_as (place t) h ≡ Some v) × (p ≡ v + 1)

abbrev pub IsOpen : ℕ → History → Type 0
IsOpen s h = is_some (current s h) ≡ true

-- its transaction has an unanswered request
abbrev pub IsBusy : ℕ → History → Type 0
IsBusy s h = (t : Transaction) × (current s h ≡ Some t) × (is_some t.asks ≡ true)

pub record SomethingMoves (bound : ℕ) (h : History) (m : Meaning) : Type 0 where
  -- if transactions are open and all of them are busy, some busy seat's step, called next, does not wait
  pub some_busy_seat_moves : (s : ℕ) → IsOpen s h → ((u : ℕ) → IsOpen u h → IsBusy u h) → (b : ℕ) × IsBusy b h × ((answer : Answer) (m' : Meaning) → Does bound m (Step b) answer m' → heard answer ≢ waited)
  -- at no time has a seat's last request taken more steps, but for those that waited, than the bound
  pub requests_take_few_steps : (k s : ℕ) → steps_taken s (drop k h) ≤ bound

pub record LawOfRuns (bound : ℕ) (start : Meaning) (calls : List Call) (answers : List Answer) (end : Meaning) : Type 0 where
  pub account_is_serial_replay : account_of answers end ≡ replay (start_of start) (history_of calls answers)
  pub numbers_are_right : NumbersAreRight start.number (history_of calls answers)
  pub something_moves : SomethingMoves bound (history_of calls answers) end
