-- What a `?` and an `ok_or` make of what reading a line comes to.
use Rattle.std.proofs.Common.{◌≡◌, ℕ, ok_or, MatchResult, Some, None, Option, Ok, Err, Result, IsErrAnd, subst}
use Rattle.std.proofs.lemmas.Result.{err_from_is_err_and}
use Rattle.book.specs.declared.refusal.Refusal.TheVariants.{UnreadableLine}
use Rattle.sheet.specs.declared.error.LineError.{LineError}
use Rattle.sheet.specs.declared.error.LineError.TheVariants.{Unreadable, NoMemory}
use Rattle.sheet.specs.declared.error.ReadError.{ReadError}
use Rattle.sheet.specs.declared.error.ReadError.TheVariants.{Declined}
use Rattle.sheet.specs.LineErrors.{OnReading, error_at}

pub or_unreadable : {A : Type 0} (P : Option A → Type 0) (o : Option A) → P o → OnReading (ok_or o Unreadable) P
or_unreadable P None h = h
or_unreadable P (Some x) h = h

-- an error is passed on, and what was read before it tells what the whole comes to
pub passed_on : {A B : Type 0} (P : Option A → Type 0) (Q : Option B → Type 0) (e : LineError) (r : Result B LineError) → IsErrAnd r (λ d. d ≡ e) → OnReading {A = A} (Err e) P → (P None → Q None) → OnReading r Q
passed_on P Q Unreadable r is h more = let p = err_from_is_err_and r is in rw (p.1, p.2) (more h)
passed_on P Q NoMemory r is h more = let p = err_from_is_err_and r is in rw (p.1, p.2) tt

-- a line's error becomes the sheet's, on the line with this number
pub told_on_line : {A : Type 0} (P : Option A → Type 0) (Stops : ReadError → Type 0) (line : ℕ) (r : Result A LineError) (d : ReadError) → MatchResult r (λ x. ◌≡◌ {A = Result A ReadError} (Err d) (Ok x)) (λ e. d ≡ error_at e line) → OnReading r P → (P None → Stops (Declined (UnreadableLine line))) → Stops ReadError.NoMemory → Stops d
told_on_line P Stops line (Ok x) d is h unreadable no_memory = absurd (cc)
told_on_line P Stops line (Err Unreadable) d is h unreadable no_memory = rw is (unreadable h)
told_on_line P Stops line (Err NoMemory) d is h unreadable no_memory = rw is no_memory

-- what was read stays, where only the error was made another
pub kept_on_line : {A : Type 0} (P : Option A → Type 0) (r : Result A LineError) (x : A) → MatchResult r (λ y. ◌≡◌ {A = Result A ReadError} (Ok x) (Ok y)) (λ _. ⊥) → OnReading r P → P (Some x)
kept_on_line P (Ok y) x is h = let same : y ≡ x = cc in subst (λ z. P (Some z)) same h
kept_on_line P (Err _) x is h = absurd is
