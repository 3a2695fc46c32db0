-- The meaning of a book: all that code above an engine may know of it.
use Rattle.std.specs.Prelude.{ℕ, Bool, List, None, Option, slice_index_or}
use Rattle.book.specs.declared.call.Kind.{Kind}
use Rattle.book.specs.Writes.{CellValue, Write}

-- what a seat was asked for
pub data Request : Type 0 where
  opening : Request
  getting : (cell : ℕ) → Request
  putting : (put : Write) → Request
  ending : Request

-- what a transaction sees: nothing yet, or a view, the cells of a number; past its commit only the number it made
pub data Sight : Type 0 where
  nothing : Sight
  view : (number : ℕ) (cells : List CellValue) → Sight
  made : (number : ℕ) → Sight

-- the part of an open seat
pub record Open : Type 0 where
  pub kind : Kind
  pub request : Option Request
  pub sight : Sight
  pub writes : List Write
  pub owed : ℕ

pub record Meaning : Type 0 where
  -- the latest cells, and how many commits lead to them
  pub cells : List CellValue
  pub number : ℕ
  -- each seat in order: none where it is free
  pub seats : List (Option Open)
  -- whether a step of a busy seat would wait
  pub waits : ℕ → Bool

abbrev pub seat_part : Meaning → ℕ → Option Open
seat_part m s = slice_index_or m.seats s None
