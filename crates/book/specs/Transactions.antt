-- A transaction: an accepted opening with the later accepted requests of its seat, up to the seat's ended.
use Rattle.std.specs.Prelude.{ℕ, cond, List, [], ◌∷◌, length, Some, None, Option, ◌==◌}
use Rattle.book.specs.declared.call.Call.{Call}
use Rattle.book.specs.declared.call.Call.TheVariants as calls
use Rattle.book.specs.declared.call.Kind.{Kind}
use Rattle.book.specs.Calls.{seat_of}
use Rattle.book.specs.Histories.{accepted, declined, ended, Heard, History, made, moved, opened, put, told, waited}
use Rattle.book.specs.Meaning.{ending, getting, opening, putting, Request}
use Rattle.book.specs.Writes.{Write}

pub record Transaction : Type 0 where
  -- what had happened when it opened
  pub before : History
  pub kind : Kind
  -- its unanswered request
  pub asks : Option Request
  -- its answered puts, the newest first
  pub puts : List Write

-- transactions are told apart by how many calls came before their opening
abbrev pub place : Transaction → ℕ
place t = length t.before

abbrev pub asking : Option Request → Option Transaction → Option Transaction
asking request None = None
asking request (Some t) = Some (record { before = t.before; kind = t.kind; asks = request; puts = t.puts })

-- the puts with the one that is asked for
abbrev pub with_asked : Option Request → List Write → List Write
with_asked None puts = puts
with_asked (Some opening) puts = puts
with_asked (Some (getting cell)) puts = puts
with_asked (Some (putting p)) puts = p ∷ puts
with_asked (Some ending) puts = puts

abbrev pub putting_done : Option Transaction → Option Transaction
putting_done None = None
putting_done (Some t) = Some (record { before = t.before; kind = t.kind; asks = None; puts = with_asked t.asks t.puts })

-- an accepted call: an opening begins a transaction, and the others are its requests
abbrev pub requesting : Call → History → Option Transaction → Option Transaction
requesting (calls.Open kind seat) old t = Some (record { before = old; kind = kind; asks = Some opening; puts = [] })
requesting (calls.Get seat cell) old t = asking (Some (getting cell)) t
requesting (calls.Put seat cell value) old t = asking (Some (putting (record { cell = cell; value = value }))) t
requesting (calls.End seat) old t = asking (Some ending) t
requesting (calls.Step seat) old t = t

-- a seat's transaction after one more call on it
abbrev pub going_on : Call → Heard → History → Option Transaction → Option Transaction
going_on call accepted old t = requesting call old t
going_on call declined old t = t
going_on call waited old t = t
going_on call moved old t = t
going_on call (opened number) old t = asking None t
going_on call told old t = asking None t
going_on call put old t = putting_done t
going_on call (made number) old t = t
going_on call ended old t = None

-- the transaction that is open on a seat
abbrev pub current : ℕ → History → Option Transaction
current s [] = None
current s (e ∷ old) = cond (seat_of e.call == s) (going_on e.call e.hears old (current s old)) (current s old)
