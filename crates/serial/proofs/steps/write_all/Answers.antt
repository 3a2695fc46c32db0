use Rattle.std.proofs.Common.{ap, ◌∙◌}
use Rattle.book.specs.Writes.{applied}
use Rattle.serial.proofs.Stepping.{write_more}
use Rattle.serial.proofs.steps.write_all.Goals as goal

pub loop-write-preserved : goal.loop-write-preserved
loop-write-preserved c = (ap (applied c.next.new.self.iter.rest.now) c.set.ensures.items ∙ write_more _ c.next.new.self.iter.rest.now c.in-Some.write.now c.loop-write.cells.items _ c.in-Some.ensures.steps c.loop-write.invariant.0, c.set.ensures.spare ∙ c.loop-write.invariant.1)
