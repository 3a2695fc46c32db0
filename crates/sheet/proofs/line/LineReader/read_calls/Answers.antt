use Rattle.std.proofs.Common.{rules, sym, ◌∙◌, arith}
use Rattle.std.proofs.lemmas.Result.{MatchResult-weaker, err_from_is_err_and}
use Rattle.std.proofs.lemmas.Bool.{eqb-true, eqb-false}
use Rattle.sheet.specs.CallLists.{StopsCalls, too_many_calls, no_memory}
use Rattle.sheet.specs.Limits.{max_calls}
use Rattle.sheet.specs.Places.{rest}
use Rattle.sheet.specs.Readings.{ReadsCallLine}
use Rattle.sheet.proofs.LineErrors.{told_on_line}
use Rattle.sheet.proofs.CallFronts.{stops_at}
use Rattle.sheet.proofs.line.LineReader.read_calls.Goals as goal

pub returns-then-is_full : goal.returns-then-is_full
returns-then-is_full c =
    let more = eqb-false _ 0 (sym c.loop-calls-test.ensures) in
    too_many_calls _ _ c.loop-calls.invariant.front (omega (arith, eqb-true _ max_calls (sym c.if-is_full.ensures), c.loop-calls.calls.ok.0)) (omega arith)

pub returns-in_err-call : goal.returns-in_err-call
returns-in_err-call c =
    let some = eqb-false _ 0 (sym c.loop-calls-test.ensures) in
    let p = err_from_is_err_and c.from_residual.result c.from_residual.ensures.1 in
    rw (p.1, p.2)
    (told_on_line (ReadsCallLine c.loop-calls.self.cursor c.read_call.new.self.cursor) (StopsCalls (rest c.args.self.now.cursor) c.args.self.now.cursor.line) c.line-line.result c.read_call.result _
    (MatchResult-weaker c.read_call.result c.in_err-call.ensures.cases (λ x e. e) (λ e h. search rules))
    c.read_call.ensures
    (λ none. stops_at _ _ _ _ _ c.loop-calls.invariant.front (omega (arith, eqb-false _ max_calls (sym c.if-is_full.ensures), c.loop-calls.calls.ok.0)) (omega arith) none (c.line-line.ensures ∙ c.loop-calls.invariant.line))
    no_memory)

pub returns-in_err-push : goal.returns-in_err-push
returns-in_err-push c = let p = err_from_is_err_and c.from_residual-in_err-push.result c.from_residual-in_err-push.ensures.1 in rw (p.1, p.2) no_memory
