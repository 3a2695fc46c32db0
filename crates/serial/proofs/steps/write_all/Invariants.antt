use Rattle.std.proofs.Common.{◌≡◌}
use Rattle.book.specs.Writes.{applied}
use Rattle.serial.proofs.steps.write_all.Given as goal

-- what is left to write, over the cells so far; the unused places are as they were
abbrev pub invariant-loop-write : goal.invariant-loop-write
invariant-loop-write l = (applied l.write-iterator.iter.rest.now l.cells.items ≡ applied l.writes l.initial.cells.items) × (l.cells.spare ≡ l.initial.cells.spare)
