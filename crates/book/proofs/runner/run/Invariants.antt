use Rattle.std.proofs.Common.{◌≡◌, take, drop}
use Rattle.book.specs.Runs.{Run}
use Rattle.book.proofs.runner.run.Given as goal

abbrev pub invariant-loop-i : goal.invariant-loop-i
invariant-loop-i g l = Run g.E.Engine.BOUND (g.E.Engine.meaning l.initial.engine) (take l.i l.calls) (take l.i l.answers) (g.E.Engine.meaning l.engine) × (drop l.i l.answers ≡ drop l.i l.initial.answers)
