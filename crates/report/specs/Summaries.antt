-- The summary of a readable sheet, row by row.
use Rattle.std.specs.Prelude.{ℕ, List, [], ◌∷◌, ◌++◌, length, codes, decimal, count_by, nat_eq}
use Rattle.book.specs.declared.call.Call.{Call}
use Rattle.sheet.specs.Outcomes.{Content}
use Rattle.sheet.specs.Texts.{call_letter, engine_name}

-- how many calls have this letter
abbrev pub calls_with : ℕ → List Call → ℕ
calls_with letter calls = count_by (λ call. nat_eq (call_letter call) letter) calls

-- a label, a space, a number and a line feed
abbrev pub row_text : List ℕ → ℕ → List ℕ
row_text label n = label ++ (32 ∷ (decimal n ++ (10 ∷ [])))

abbrev pub summary_text : Content → List ℕ
summary_text s = codes "engine " ++ (engine_name s.engine ++ (10 ∷ [])) ++ row_text (codes "version") s.version ++ row_text (codes "cells") (length s.cells) ++ row_text (codes "calls") (length s.calls) ++ row_text (codes "openings of readers") (calls_with 114 s.calls) ++ row_text (codes "openings of writers") (calls_with 119 s.calls) ++ row_text (codes "gets") (calls_with 103 s.calls) ++ row_text (codes "puts") (calls_with 112 s.calls) ++ row_text (codes "ends") (calls_with 101 s.calls) ++ row_text (codes "steps") (calls_with 115 s.calls)
