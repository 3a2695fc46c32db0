-- Calls are read one after the other.
use Rattle.std.proofs.Common.{◌≡◌, ℕ, ◌+◌, ◌<◌, List, length, sym, subst}
use Rattle.book.specs.declared.call.Call.{Call}
use Rattle.book.specs.declared.refusal.Refusal.TheVariants.{UnreadableLine}
use Rattle.sheet.specs.declared.error.ReadError.TheVariants.{Declined}
use Rattle.sheet.specs.CallLists.{CallsFront, StopsCalls, no_call}
use Rattle.sheet.specs.Limits.{max_calls}
use Rattle.sheet.specs.Readings.{NoCall}

pub stops_at : (bs : List ℕ) (first line : ℕ) (calls : List Call) (left : List ℕ) → CallsFront bs calls left → length calls < max_calls → 0 < length left → NoCall left → line ≡ length calls + first → StopsCalls bs first (Declined (UnreadableLine line))
stops_at bs first line calls left front few some none e =
    subst (λ (n : ℕ). StopsCalls bs first (Declined (UnreadableLine n))) (sym e) (no_call calls left front few some none)
