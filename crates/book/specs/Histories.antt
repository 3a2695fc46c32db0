-- A history: the calls of a run with what may be heard of their answers, the newest first. No value that was told can be
-- heard: the type has no room for it.
use Rattle.std.specs.Prelude.{ℕ, ◌+◌, cond, List, [], ◌∷◌, Some, None, Option, ◌==◌}
use Rattle.std.specs.Option.{unwrap_or}
use Rattle.book.specs.declared.answer.Answer.{Answer}
use Rattle.book.specs.declared.answer.Answer.TheVariants.{Accepted, Declined, Stepped}
use Rattle.book.specs.declared.answer.Word.{Word}
use Rattle.book.specs.declared.answer.Word.TheVariants as words
use Rattle.book.specs.declared.call.Call.{Call}
use Rattle.book.specs.Calls.{seat_of}

pub data Heard : Type 0 where
  accepted : Heard
  declined : Heard
  waited : Heard
  moved : Heard
  opened : (number : ℕ) → Heard
  told : Heard
  put : Heard
  made : (number : ℕ) → Heard
  ended : Heard

abbrev pub heard_step : Word → ℕ → Heard
heard_step words.Wait n = waited
heard_step words.Moved n = moved
heard_step words.Opened n = opened n
heard_step words.Told n = told
heard_step words.Put n = put
heard_step words.Made n = made n
heard_step words.Ended n = ended

abbrev pub heard : Answer → Heard
heard Accepted = accepted
heard (Stepped word n) = heard_step word n
heard (Declined refusal) = declined

pub record Event : Type 0 where
  pub call : Call
  pub hears : Heard

abbrev pub History : Type 0
History = List Event

-- the history of calls and their answers, given oldest first, behind an older one
abbrev pub history_after : History → List Call → List Answer → History
history_after old [] answers = old
history_after old (call ∷ calls) [] = old
history_after old (call ∷ calls) (answer ∷ answers) = history_after (record { call = call; hears = heard answer } ∷ old) calls answers

abbrev pub history_of : List Call → List Answer → History
history_of calls answers = history_after [] calls answers

-- e is in the history h, and old is what came before it
pub data Happens : History → Event → History → Type 0 where
  newest : (e : Event) (old : History) → Happens (e ∷ old) e old
  earlier : (x : Event) (h : History) (e : Event) (old : History) → Happens h e old → Happens (x ∷ h) e old

abbrev pub opened_number : Heard → Option ℕ
opened_number accepted = None
opened_number declined = None
opened_number waited = None
opened_number moved = None
opened_number (opened n) = Some n
opened_number told = None
opened_number put = None
opened_number (made n) = None
opened_number ended = None

abbrev pub made_number : Heard → Option ℕ
made_number accepted = None
made_number declined = None
made_number waited = None
made_number moved = None
made_number (opened n) = None
made_number told = None
made_number put = None
made_number (made n) = Some n
made_number ended = None

-- the number of the last made answer, or the start's where there is none
abbrev pub last_made : ℕ → History → ℕ
last_made start [] = start
last_made start (e ∷ old) = unwrap_or (made_number e.hears) (last_made start old)

-- steps that a seat has taken, but for those that waited, since its last request was accepted
abbrev pub counted : Heard → ℕ → ℕ
counted accepted n = 0
counted declined n = n
counted waited n = n
counted moved n = n + 1
counted (opened number) n = n + 1
counted told n = n + 1
counted put n = n + 1
counted (made number) n = n + 1
counted ended n = n + 1

abbrev pub steps_taken : ℕ → History → ℕ
steps_taken s [] = 0
steps_taken s (e ∷ old) = cond (seat_of e.call == s) (counted e.hears (steps_taken s old)) (steps_taken s old)
