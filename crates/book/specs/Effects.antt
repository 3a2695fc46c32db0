-- What an accepted request and each answered step do to the meaning. Free are the steps owed, who would wait next, and
-- when an opening receives its view.
use Rattle.std.specs.Prelude.{◌≡◌, ℕ, ◌+◌, ◌<◌, ◌≤◌, Bool, true, false, ◌⊎◌, List, [], Some, None, Option, slice_index, slice_set}
use Rattle.std.specs.Option.{unwrap_or}
use Rattle.book.specs.declared.answer.Word.{Word}
use Rattle.book.specs.declared.answer.Word.TheVariants as words
use Rattle.book.specs.declared.call.Call.{Call}
use Rattle.book.specs.declared.call.Call.TheVariants as calls
use Rattle.book.specs.declared.call.Kind.TheVariants.{Reader, Writer}
use Rattle.book.specs.Calls.{seat_of}
use Rattle.book.specs.Meaning.{Meaning, Open, Request, Sight, ending, getting, made, nothing, opening, putting, seat_part, view}
use Rattle.book.specs.Writes.{applied, CellValue, with_put, Write, written}

-- an open seat with this request and these steps owed
abbrev pub asked : Request → ℕ → Option Open → Option Open
asked request owed None = None
asked request owed (Some o) = Some (record { kind = o.kind; request = Some request; sight = o.sight; writes = o.writes; owed = owed })

-- the seat's part after its request was accepted
abbrev pub requested : Call → ℕ → Option Open → Option Open
requested (calls.Open kind seat) owed part = Some (record { kind = kind; request = Some opening; sight = nothing; writes = []; owed = owed })
requested (calls.Get seat cell) owed part = asked (getting cell) owed part
requested (calls.Put seat cell value) owed part = asked (putting (record { cell = cell; value = value })) owed part
requested (calls.End seat) owed part = asked ending owed part
requested (calls.Step seat) owed part = part

-- the meaning with another part of one seat, and others that would wait
abbrev pub with_seat : Meaning → ℕ → Option Open → (ℕ → Bool) → Meaning
with_seat m s part waits = record { cells = m.cells; number = m.number; seats = slice_set m.seats s part; waits = waits }

-- m' is m after the request was accepted
pub record Accepts (bound : ℕ) (m : Meaning) (call : Call) (m' : Meaning) : Type 0 where
  pub owed : ℕ
  pub within : owed ≤ bound
  pub effect : m' ≡ with_seat m (seat_of call) (requested call owed (seat_part m (seat_of call))) m'.waits

-- what an opening seat may come to see: what it saw, or the latest cells if it saw nothing
abbrev pub MaySee : Meaning → Open → Sight → Type 0
MaySee m o sight = (sight ≡ o.sight) ⊎ ((o.request ≡ Some opening) × (o.sight ≡ nothing) × (sight ≡ view m.number m.cells))

-- the part of a seat that goes on, with fewer steps owed
abbrev pub onward : Open → Option Request → Sight → List Write → ℕ → Option Open
onward o request sight writes owed = Some (record { kind = o.kind; request = request; sight = sight; writes = writes; owed = owed })

-- the value that a transaction gets: its own put of the cell, else its view's
abbrev pub tells : Open → List CellValue → ℕ → CellValue
tells o cells cell = unwrap_or (written cell o.writes) (slice_index cells cell)

-- the meaning after a commit
abbrev pub committed : Meaning → ℕ → Open → ℕ → (ℕ → Bool) → Meaning
committed m s o owed waits = record { cells = applied o.writes m.cells; number = m.number + 1; seats = slice_set m.seats s (onward o (Some ending) (made (m.number + 1)) o.writes owed); waits = waits }

-- a step of seat s, whose part is o, answers a word and a number, and leaves the meaning m'
pub data Steps (m : Meaning) (s : ℕ) (o : Open) : Word → ℕ → Meaning → Type 0 where
  waits : m.waits s ≡ true → Steps m s o words.Wait 0 m
  moves : m.waits s ≡ false → (sight : Sight) → MaySee m o sight → (owed : ℕ) → owed < o.owed → (w : ℕ → Bool) → Steps m s o words.Moved 0 (with_seat m s (onward o o.request sight o.writes owed) w)
  opens : m.waits s ≡ false → o.request ≡ Some opening → (number : ℕ) (cells : List CellValue) → MaySee m o (view number cells) → (owed : ℕ) → owed < o.owed → (w : ℕ → Bool) → Steps m s o words.Opened number (with_seat m s (onward o None (view number cells) o.writes owed) w)
  tells_value : m.waits s ≡ false → (cell : ℕ) → o.request ≡ Some (getting cell) → (number : ℕ) (cells : List CellValue) → o.sight ≡ view number cells → (owed : ℕ) → owed < o.owed → (w : ℕ → Bool) → Steps m s o words.Told (tells o cells cell) (with_seat m s (onward o None o.sight o.writes owed) w)
  puts : m.waits s ≡ false → (put : Write) → o.request ≡ Some (putting put) → (owed : ℕ) → owed < o.owed → (w : ℕ → Bool) → Steps m s o words.Put 0 (with_seat m s (onward o None o.sight (with_put put o.writes) owed) w)
  makes : m.waits s ≡ false → o.request ≡ Some ending → o.kind ≡ Writer → (cells : List CellValue) → o.sight ≡ view m.number cells → (owed : ℕ) → owed < o.owed → (w : ℕ → Bool) → Steps m s o words.Made (m.number + 1) (committed m s o owed w)
  ends_reader : m.waits s ≡ false → o.request ≡ Some ending → o.kind ≡ Reader → (number : ℕ) (cells : List CellValue) → o.sight ≡ view number cells → 0 < o.owed → (w : ℕ → Bool) → Steps m s o words.Ended number (with_seat m s None w)
  ends_writer : m.waits s ≡ false → o.request ≡ Some ending → o.kind ≡ Writer → (number : ℕ) → o.sight ≡ made number → 0 < o.owed → (w : ℕ → Bool) → Steps m s o words.Ended number (with_seat m s None w)
