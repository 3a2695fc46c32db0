-- Which call, and which engine, a line writes; and what it means that bytes begin with the line of none.
use Rattle.std.specs.Prelude.{◌≡◌, ℕ, List, ◌∷◌, ◌++◌, vec_items, Option, MatchOption, ◌≢◌}
use Rattle.std.specs.List.{AllByRecursion}
use Rattle.book.specs.declared.call.Call.{Call}
use Rattle.sheet.specs.declared.cursor.Cursor.{Cursor}
use Rattle.sheet.specs.declared.heading.EngineChoice.{EngineChoice}
use Rattle.sheet.specs.declared.heading.Heading.{Heading}
use Rattle.sheet.specs.Numbers.{Fits32}
use Rattle.sheet.specs.Places.{rest, Passed}
use Rattle.sheet.specs.Texts.{call_letter, call_numbers, call_text, CallFits, engine_letter, heading_text}

-- r is the call with this letter and these numbers, or none where no call has them
abbrev pub ReadsCall : ℕ → List ℕ → Option Call → Type 0
ReadsCall letter numbers r = MatchOption r ((call : Call) → call_letter call ≡ letter → call_numbers call ≢ numbers) (λ call. (call_letter call ≡ letter) × (call_numbers call ≡ numbers))

-- r is the engine with this letter, or none where no engine has it
abbrev pub ReadsEngine : ℕ → Option EngineChoice → Type 0
ReadsEngine letter r = MatchOption r ((engine : EngineChoice) → engine_letter engine ≢ letter) (λ engine. engine_letter engine ≡ letter)

-- bs do not begin with the text of a call
abbrev pub NoCall : List ℕ → Type 0
NoCall bs = (call : Call) (after : List ℕ) → CallFits call → bs ≢ call_text call ++ after

-- r is the call on the line that was read
abbrev pub ReadsCallLine : Cursor → Cursor → Option Call → Type 0
ReadsCallLine before after r = MatchOption r (NoCall (rest before)) (λ call. CallFits call × Passed before after (call_text call) 1)

-- bs do not begin with the text of a heading
abbrev pub NoHeading : List ℕ → Type 0
NoHeading bs = (engine : EngineChoice) (version : ℕ) (cells after : List ℕ) → AllByRecursion Fits32 (version ∷ cells) → bs ≢ heading_text engine version cells ++ after

-- r is the heading on the line that was read
abbrev pub ReadsHeadingLine : Cursor → Cursor → Option Heading → Type 0
ReadsHeadingLine before after r = MatchOption r (NoHeading (rest before)) (λ h. AllByRecursion Fits32 (h.version ∷ vec_items h.cells) × Passed before after (heading_text h.engine h.version (vec_items h.cells)) 1)
