-- The text of a line: a letter, then numbers, each after one space, then a line feed.
-- The text of a sheet: its heading's line, then one line a call.
use Rattle.std.specs.Prelude.{ℕ, List, [], ◌∷◌, ◌++◌, codes, decimal}
use Rattle.std.specs.List.{flat_map, AllByRecursion}
use Rattle.book.specs.declared.call.Call.{Call}
use Rattle.book.specs.declared.call.Call.TheVariants.{Open, Get, Put, End, Step}
use Rattle.book.specs.declared.call.Kind.{Kind}
use Rattle.book.specs.declared.call.Kind.TheVariants.{Reader, Writer}
use Rattle.sheet.specs.declared.heading.EngineChoice.{EngineChoice}
use Rattle.sheet.specs.declared.heading.EngineChoice.TheVariants.{Pessimistic, Serial}
use Rattle.sheet.specs.Numbers.{Fits32}

abbrev pub spaced : List ℕ → List ℕ
spaced [] = []
spaced (n ∷ ns) = 32 ∷ (decimal n ++ spaced ns)

-- what follows the letter of a line
abbrev pub operands_text : List ℕ → List ℕ
operands_text numbers = spaced numbers ++ (10 ∷ [])

abbrev pub line_text : ℕ → List ℕ → List ℕ
line_text letter numbers = letter ∷ operands_text numbers

-- m for the pessimistic engine, t for the serial one
abbrev pub engine_letter : EngineChoice → ℕ
engine_letter Pessimistic = 109
engine_letter Serial = 116

-- the word that names an engine
abbrev pub engine_name : EngineChoice → List ℕ
engine_name Pessimistic = codes "pessimistic"
engine_name Serial = codes "serial"

abbrev pub heading_text : EngineChoice → ℕ → List ℕ → List ℕ
heading_text engine version cells = line_text (engine_letter engine) (version ∷ cells)

-- r and w open, g gets, p puts, e ends, s steps
abbrev pub open_letter : Kind → ℕ
open_letter Reader = 114
open_letter Writer = 119

abbrev pub call_letter : Call → ℕ
call_letter (Open kind seat) = open_letter kind
call_letter (Get seat cell) = 103
call_letter (Put seat cell value) = 112
call_letter (End seat) = 101
call_letter (Step seat) = 115

abbrev pub call_numbers : Call → List ℕ
call_numbers (Open kind seat) = seat ∷ []
call_numbers (Get seat cell) = seat ∷ cell ∷ []
call_numbers (Put seat cell value) = seat ∷ cell ∷ value ∷ []
call_numbers (End seat) = seat ∷ []
call_numbers (Step seat) = seat ∷ []

abbrev pub call_text : Call → List ℕ
call_text call = line_text (call_letter call) (call_numbers call)

-- every number of the call has 32 bits
abbrev pub CallFits : Call → Type 0
CallFits call = AllByRecursion Fits32 (call_numbers call)

abbrev pub calls_text : List Call → List ℕ
calls_text calls = flat_map call_text calls
