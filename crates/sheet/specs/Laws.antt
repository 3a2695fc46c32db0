-- What holds of the texts of headings, calls and sheets, whatever reads them.
use Rattle.std.specs.Prelude.{◌≡◌, ℕ, ◌≤◌, List, ◌∷◌, length}
use Rattle.std.specs.List.{AllByRecursion}
use Rattle.book.specs.declared.call.Call.{Call}
use Rattle.sheet.specs.declared.heading.EngineChoice.{EngineChoice}
use Rattle.sheet.specs.Limits.{max_bytes, max_calls}
use Rattle.sheet.specs.Numbers.{Fits32}
use Rattle.sheet.specs.Outcomes.{Content, ContentFits, Outcome, Reads, readable, sheet_text}
use Rattle.sheet.specs.Texts.{CallFits, call_text, heading_text}

-- calls with one text are one call
abbrev pub CallsHaveOwnTexts : Type 0
CallsHaveOwnTexts = (c d : Call) → CallFits c → CallFits d → call_text c ≡ call_text d → c ≡ d

-- headings with one text are one heading
abbrev pub HeadingsHaveOwnTexts : Type 0
HeadingsHaveOwnTexts = (e f : EngineChoice) (v w : ℕ) (cells others : List ℕ) → AllByRecursion Fits32 (v ∷ cells) → AllByRecursion Fits32 (w ∷ others) → heading_text e v cells ≡ heading_text f w others → (e ≡ f) × (v ≡ w) × (cells ≡ others)

-- no bytes have two outcomes
abbrev pub OutcomeIsUnique : Type 0
OutcomeIsUnique = (bs : List ℕ) (o p : Outcome) → Reads bs o → Reads bs p → o ≡ p

-- what was written is read back, within the limits
abbrev pub WrittenIsReadBack : Type 0
WrittenIsReadBack = (s : Content) → ContentFits s → length (sheet_text s) ≤ max_bytes → length s.calls ≤ max_calls → Reads (sheet_text s) (readable s)

pub record ReadingLaws : Type 0 where
  pub calls_have_own_texts : CallsHaveOwnTexts
  pub headings_have_own_texts : HeadingsHaveOwnTexts
  pub outcome_is_unique : OutcomeIsUnique
  pub written_is_read_back : WrittenIsReadBack
