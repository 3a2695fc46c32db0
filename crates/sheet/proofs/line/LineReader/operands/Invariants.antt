use Rattle.std.proofs.Common.{◌≡◌, length, vec_items}
use Rattle.sheet.specs.Places.{rest}
use Rattle.sheet.proofs.ReadLines.{Begun}
use Rattle.sheet.proofs.line.LineReader.operands.Given as goal

abbrev pub invariant-loop-self : goal.invariant-loop-self
invariant-loop-self l = record {
  begun : Begun (rest l.initial.self.cursor) (vec_items l.self.numbers) (rest l.self.cursor);
  line : l.self.cursor.line ≡ l.initial.self.cursor.line;
}

abbrev pub decreases-loop-self : goal.decreases-loop-self
decreases-loop-self l = length (rest l.self.cursor)
