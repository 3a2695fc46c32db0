-- What an engine promises of a call is what a run says of it.
use Rattle.std.proofs.Common.{◌≡◌, ℕ, true, Some, Ok, Err, Result, sym, subst}
use Rattle.book.specs.declared.answer.Answer.{Answer}
use Rattle.book.specs.declared.answer.Answer.TheVariants.{Declined}
use Rattle.book.specs.declared.answer.Word.{Word}
use Rattle.book.specs.declared.call.Call.{Call}
use Rattle.book.specs.declared.call.Call.TheVariants as calls
use Rattle.book.specs.declared.refusal.Refusal.{Refusal}
use Rattle.book.specs.Calls.{is_request, refusal_of}
use Rattle.book.specs.Engines.{Answers, Asks, request_answer, step_answer}
use Rattle.book.specs.Meaning.{Meaning}
use Rattle.book.specs.Runs.{accepts, declines, Does, steps}

module _ (bound : ℕ) (m m' : Meaning) {same : Type 0} (unchanged : same → m' ≡ m) where
  -- a call that was made, and its answer, by other names
  renamed : {made call : Call} {given answer : Answer} → made ≡ call → given ≡ answer → Does bound m call answer m' → Does bound m made given m'
  renamed {made} {call} {given} {answer} is told does = subst (λ x. Does bound m x given m') (sym is) (subst (λ x. Does bound m call x m') (sym told) does)

  declined_does : (call : Call) (refusal : Refusal) → refusal_of m call ≡ Some refusal → same → Does bound m call (Declined refusal) m'
  declined_does call refusal is still = subst (Does bound m call (Declined refusal)) (sym (unchanged still)) (declines call refusal is)

  pub asks_does : (made call : Call) (given : Answer) (r : Result (Unit {0}) Refusal) → made ≡ call → given ≡ request_answer r → is_request call ≡ true → Asks bound m call m' same r → Does bound m made given m'
  asks_does made call given (Ok _) is told asks (none, effect) = renamed is told (accepts call m' asks none effect)
  asks_does made call given (Err refusal) is told asks (declined, still) = renamed is told (declined_does call refusal declined still)

  pub answers_does : (made : Call) (seat : ℕ) (given : Answer) (r : Result (Word × ℕ) Refusal) → made ≡ calls.Step seat → given ≡ step_answer r → Answers m seat m' same r → Does bound m made given m'
  answers_does made seat given (Ok (word, number)) is told (none, (o, here, step)) = renamed is told (steps seat o word number m' none here step)
  answers_does made seat given (Err refusal) is told (declined, still) = renamed is told (declined_does (calls.Step seat) refusal declined still)
