use Rattle.std.proofs.Common.{sym, refl, arith}
use Rattle.book.specs.Runs.{none}
use Rattle.book.proofs.Running.{ran, rest_more, run_accepted, run_more}
use Rattle.book.proofs.runner.run.Goals as goal

pub loop-i-init : goal.loop-i-init
loop-i-init g c = (none, refl)

pub loop-i-preserved : goal.loop-i-preserved
loop-i-preserved g c =
    (run_more _ _ _ _ c.args.calls.now c.loop-i.answers c.loop-i.i _ _ c.loop-i-test.true (omega arith) c.loop-i.invariant.0 c.call_on.ensures.does, rest_more c.loop-i.answers c.args.answers.now c.loop-i.i c.call_on.result c.loop-i.invariant.1)

pub returns : goal.returns
returns g c =
    let m = g.E.Engine.meaning c.args.engine.now in
    let free = sym c.if-not-all_free.ensures in
    (run_accepted _ _ m c.if-answers-calls.false free, ran _ m _ c.args.calls.now c.args.answers.now c.loop-i.answers c.loop-i.i (omega arith) (omega arith) (g.met.E.Engine.sized c.args.engine.now) free (g.met.E.Engine.progress c.loop-i.engine) c.loop-i.invariant.0 c.loop-i.invariant.1)
