-- From a heading and the calls behind it to the whole sheet.
use Rattle.std.proofs.Common.{◌≡◌, ℕ, ◌≤◌, List, [], ◌∷◌, ◌++◌, length, drop, sym, ap, ◌∙◌, append_assoc, append-nil}
use Rattle.std.specs.List.{AllByRecursion}
use Rattle.book.specs.declared.call.Call.{Call}
use Rattle.sheet.specs.declared.cursor.Cursor.{Cursor}
use Rattle.sheet.specs.declared.error.ReadError.{ReadError}
use Rattle.sheet.specs.declared.heading.EngineChoice.{EngineChoice}
use Rattle.sheet.specs.CallLists as lists
use Rattle.sheet.specs.CallLists.{AllCalls, CallsFront, StopsCalls}
use Rattle.sheet.specs.Limits.{max_bytes}
use Rattle.sheet.specs.Numbers.{Fits32}
use Rattle.sheet.specs.Outcomes.{Content, Fails, Front, Reads, no_call, readable, too_many_calls, whole}
use Rattle.sheet.specs.Places.{AtStart, rest}
use Rattle.sheet.specs.Texts.{calls_text, heading_text}

pub start_rest : (bs : List ℕ) (c : Cursor) → AtStart bs c → rest c ≡ bs
start_rest bs c start = (λ i. drop (start.place i) (start.sheet i))

module _ (bs left : List ℕ) (engine : EngineChoice) (version : ℕ) (cells : List ℕ) (fits : AllByRecursion Fits32 (version ∷ cells)) (split : bs ≡ heading_text engine version cells ++ left) where
  abbrev said : List Call → Content
  said calls = record { engine = engine; version = version; cells = cells; calls = calls }

  sheet_front : (calls : List Call) (after : List ℕ) → CallsFront left calls after → Front bs (said calls) after
  sheet_front calls after front = record {
    fits = (fits, front.fits);
    split = split ∙ ap (λ (l : List ℕ). heading_text engine version cells ++ l) front.split ∙ sym (append_assoc (heading_text engine version cells) (calls_text calls) after);
  }

  pub stops : length bs ≤ max_bytes → (e : ReadError) → StopsCalls left 2 e → Fails bs e
  stops short _ (lists.no_call calls after front few some none) = no_call short (said calls) after (sheet_front calls after front) few some none
  stops short _ (lists.too_many_calls calls after front many some) = too_many_calls short (said calls) after (sheet_front calls after front) many some
  stops short _ lists.no_memory = short

  pub reads : length bs ≤ max_bytes → (calls : List Call) → AllCalls left calls → Reads bs (readable (said calls))
  reads short calls all = whole short (said calls) (sheet_front calls [] (record { fits = all.0; split = all.1 ∙ sym (append-nil (calls_text calls)) })) all.2
