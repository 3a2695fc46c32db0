-- What reading a number after a space, and a whole line, comes to.
use Rattle.std.specs.Prelude.{◌≡◌, ℕ, Bool, false, List, ◌∷◌, ◌++◌, decimal, MatchBool, Option, MatchOption, ◌≢◌}
use Rattle.std.specs.List.{AllByRecursion}
use Rattle.sheet.specs.declared.cursor.Cursor.{Cursor}
use Rattle.sheet.specs.Fields.{digit, separator, word_length}
use Rattle.sheet.specs.Numbers.{Fits32}
use Rattle.sheet.specs.Places.{rest, Passed}
use Rattle.sheet.specs.Texts.{operands_text, line_text}

-- a field ends before these bytes: they begin with a separator, or there are none
abbrev pub FieldEnds : List ℕ → Type 0
FieldEnds bs = word_length bs ≡ 0

-- b can stand as the letter of a line
abbrev pub LineLetter : ℕ → Type 0
LineLetter b = (separator b ≡ false) × (digit b ≡ false)

-- bs do not begin with a space and a number
abbrev pub NoOperand : List ℕ → Type 0
NoOperand bs = (n : ℕ) (after : List ℕ) → Fits32 n → FieldEnds after → bs ≢ 32 ∷ (decimal n ++ after)

-- r is the number that was read after a space
abbrev pub ReadsOperand : Cursor → Cursor → Option ℕ → Type 0
ReadsOperand before after r = MatchOption r (NoOperand (rest before) × (after.line ≡ before.line)) (λ n. Fits32 n × Passed before after (32 ∷ decimal n) 0 × FieldEnds (rest after))

-- bs do not begin with numbers, each after a space, and a line feed
abbrev pub NoOperands : List ℕ → Type 0
NoOperands bs = (numbers after : List ℕ) → AllByRecursion Fits32 numbers → bs ≢ operands_text numbers ++ after

-- found says whether the rest of a line was read, and numbers are its numbers
abbrev pub ReadsOperands : Cursor → Cursor → Bool → List ℕ → Type 0
ReadsOperands before after found numbers = MatchBool found (AllByRecursion Fits32 numbers × Passed before after (operands_text numbers) 1) (NoOperands (rest before) × (after.line ≡ before.line))

-- bs do not begin with the text of a line
abbrev pub NoLine : List ℕ → Type 0
NoLine bs = (letter : ℕ) (numbers after : List ℕ) → LineLetter letter → AllByRecursion Fits32 numbers → bs ≢ line_text letter numbers ++ after

-- r and numbers are the letter and the numbers of the line that was read
abbrev pub ReadsLine : Cursor → Cursor → Option ℕ → List ℕ → Type 0
ReadsLine before after r numbers = MatchOption r (NoLine (rest before) × (after.line ≡ before.line)) (λ letter. AllByRecursion Fits32 numbers × Passed before after (line_text letter numbers) 1)
