-- The relation between what a book means and the history that led there. Everything in the law is read off it.
use Rattle.std.proofs.Common.{◌≡◌, ℕ, ◌+◌, ◌≤◌, ◌⊎◌, List, length, drop, Some, None, Option}
use Rattle.book.specs.Calls.{seat_of}
use Rattle.book.specs.Histories.{Event, Happens, History, last_made, made_number, opened_number, steps_taken, told}
use Rattle.book.specs.Law.{made_count}
use Rattle.book.specs.Meaning.{ending, made, Meaning, nothing, Open, opening, seat_part, Sight, view}
use Rattle.book.specs.Replays.{made_as, opened_as, snapshot, Start}
use Rattle.book.specs.Sizes.{seat_count}
use Rattle.book.specs.Transactions.{current, place, Transaction}
use Rattle.book.specs.Writes.{CellValue}
use Rattle.book.proofs.WriteSets.{write_set}

-- a transaction that has a view v: still opening, or opened on v
abbrev pub Opens : History → Transaction → ℕ → Type 0
Opens h t v = ((t.asks ≡ Some opening) × (opened_as (place t) h ≡ None)) ⊎ ((t.asks ≡ Some opening → ⊥) × (opened_as (place t) h ≡ Some v))

pub record HasView (start : Start) (h : History) (t : Transaction) (v : ℕ) (cells : List CellValue) : Type 0 where
  pub opens : Opens h t v
  pub makes_none : made_as (place t) h ≡ None
  pub is_snapshot : cells ≡ snapshot start h v
  pub since_opening : last_made start.number t.before ≤ v
  pub since_start : start.number ≤ v
  pub till_now : v ≤ last_made start.number h

pub record SeesNothing (h : History) (t : Transaction) : Type 0 where
  pub asks_opening : t.asks ≡ Some opening
  pub opened_none : opened_as (place t) h ≡ None
  pub makes_none : made_as (place t) h ≡ None

pub record HasMade (h : History) (t : Transaction) (p : ℕ) : Type 0 where
  pub asks_ending : t.asks ≡ Some ending
  pub makes_this : made_as (place t) h ≡ Some p

abbrev pub Sees : Start → History → Transaction → Sight → Type 0
Sees start h t nothing = SeesNothing h t
Sees start h t (view v cells) = HasView start h t v cells
Sees start h t (made p) = HasMade h t p

pub record SeatTied (bound : ℕ) (start : Start) (h : History) (s : ℕ) (t : Transaction) (o : Open) : Type 0 where
  pub kinds : t.kind ≡ o.kind
  pub requests : t.asks ≡ o.request
  pub writes : o.writes ≡ write_set t.puts
  pub begun : last_made start.number t.before ≤ last_made start.number h
  pub owes : o.owed + steps_taken s h ≤ bound
  pub sees : Sees start h t o.sight

abbrev pub PartTied : ℕ → Start → History → ℕ → Option Transaction → Option Open → Type 0
PartTied bound start h s None None = Unit {0}
PartTied bound start h s None (Some o) = ⊥
PartTied bound start h s (Some t) None = ⊥
PartTied bound start h s (Some t) (Some o) = SeatTied bound start h s t o

-- the transaction at the place o opened on w, and what it may have made is the next number
pub record Fixed (start : Start) (h : History) (o w : ℕ) : Type 0 where
  pub opened_on : opened_as o h ≡ Some w
  pub makes_next : (made_as o h ≡ None) ⊎ (made_as o h ≡ Some (w + 1))
  pub since_start : start.number ≤ w
  pub till_now : w ≤ last_made start.number h

-- what was told to a transaction was told when its number was fixed
abbrev pub ToldFixed : Start → History → History → Type 0
ToldFixed start h part = (e : Event) (old : History) (t : Transaction) → Happens part e old → e.hears ≡ told → current (seat_of e.call) old ≡ Some t → (w : ℕ) × Fixed start h (place t) w

pub record MadeFact (start : Start) (h : History) (old : History) (t : Transaction) (p : ℕ) : Type 0 where
  pub counted_from_start : p ≡ start.number + (made_count old + 1)
  pub makes_once : made_as (place t) h ≡ Some p
  pub view_number : ℕ
  pub opened_on : opened_as (place t) h ≡ Some view_number
  pub follows : p ≡ view_number + 1

-- each made and each opened answer so far
abbrev pub MadeFacts : Start → History → History → Type 0
MadeFacts start h part = (e : Event) (old : History) (p : ℕ) → Happens part e old → made_number e.hears ≡ Some p → (t : Transaction) × (current (seat_of e.call) old ≡ Some t) × MadeFact start h old t p

abbrev pub OpenedFacts : Start → History → Type 0
OpenedFacts start part = (e : Event) (old : History) (t : Transaction) (v : ℕ) → Happens part e old → opened_number e.hears ≡ Some v → current (seat_of e.call) old ≡ Some t → (last_made start.number t.before ≤ v) × (v ≤ last_made start.number old)

pub record Tied (bound : ℕ) (start : Start) (h : History) (m : Meaning) : Type 0 where
  pub number : m.number ≡ last_made start.number h
  pub rising : last_made start.number h ≡ start.number + made_count h
  pub cells : m.cells ≡ snapshot start h (last_made start.number h)
  pub size : length m.seats ≡ seat_count
  pub seats : (s : ℕ) → PartTied bound start h s (current s h) (seat_part m s)
  pub told_fixed : ToldFixed start h h
  pub made_facts : MadeFacts start h h
  pub opened_facts : OpenedFacts start h
  pub few_steps : (k s : ℕ) → steps_taken s (drop k h) ≤ bound
