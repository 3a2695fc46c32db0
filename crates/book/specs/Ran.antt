-- What running a list of calls on an engine comes to.
use Rattle.std.specs.Prelude.{◌≡◌, ℕ, List, length, take, drop}
use Rattle.book.specs.declared.answer.Answer.{Answer}
use Rattle.book.specs.declared.call.Call.{Call}
use Rattle.book.specs.Law.{LawOfRuns}
use Rattle.book.specs.Meaning.{Meaning}
use Rattle.book.specs.Runs.{Run}

-- the calls were run from m to m'; their answers stand at the front of the list, and the rest of it is as it was
pub record Ran (bound : ℕ) (m : Meaning) (calls : List Call) (before after : List Answer) (m' : Meaning) : Type 0 where
  pub run : Run bound m calls (take (length calls) after) m'
  pub law : LawOfRuns bound m calls (take (length calls) after) m'
  pub untouched : drop (length calls) after ≡ drop (length calls) before
