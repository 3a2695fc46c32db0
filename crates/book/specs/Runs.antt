-- The run of a list of calls, each acting on what the one before left.
use Rattle.std.specs.Prelude.{◌≡◌, ℕ, true, List, [], ◌∷◌, ◌++◌, Some, None}
use Rattle.book.specs.declared.answer.Answer.{Answer}
use Rattle.book.specs.declared.answer.Answer.TheVariants.{Accepted, Declined, Stepped}
use Rattle.book.specs.declared.answer.Word.{Word}
use Rattle.book.specs.declared.call.Call.{Call}
use Rattle.book.specs.declared.call.Call.TheVariants as calls
use Rattle.book.specs.declared.refusal.Refusal.{Refusal}
use Rattle.book.specs.Calls.{is_request, refusal_of}
use Rattle.book.specs.Effects.{Accepts, Steps}
use Rattle.book.specs.Meaning.{Meaning, Open, seat_part}

-- one call on a book that means m: its answer, and what the book means then
pub data Does (bound : ℕ) (m : Meaning) : Call → Answer → Meaning → Type 0 where
  declines : (call : Call) (refusal : Refusal) → refusal_of m call ≡ Some refusal → Does bound m call (Declined refusal) m
  accepts : (call : Call) (m' : Meaning) → is_request call ≡ true → refusal_of m call ≡ None → Accepts bound m call m' → Does bound m call Accepted m'
  steps : (s : ℕ) (o : Open) (word : Word) (number : ℕ) (m' : Meaning) → refusal_of m (calls.Step s) ≡ None → seat_part m s ≡ Some o → Steps m s o word number m' → Does bound m (calls.Step s) (Stepped word number) m'

-- calls with their answers lead from one meaning to another
pub data Run (bound : ℕ) (start : Meaning) : List Call → List Answer → Meaning → Type 0 where
  none : Run bound start [] [] start
  more : (cs : List Call) (as' : List Answer) (m : Meaning) → Run bound start cs as' m → (call : Call) (answer : Answer) (m' : Meaning) → Does bound m call answer m' → Run bound start (cs ++ (call ∷ [])) (as' ++ (answer ∷ [])) m'
