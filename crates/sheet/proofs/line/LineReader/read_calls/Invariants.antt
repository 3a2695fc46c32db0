use Rattle.std.proofs.Common.{◌≡◌, ◌+◌, ◌≤◌, length, vec_items}
use Rattle.sheet.specs.CallLists.{CallsFront}
use Rattle.sheet.specs.Limits.{max_calls}
use Rattle.sheet.specs.Places.{rest}
use Rattle.sheet.proofs.line.LineReader.read_calls.Given as goal

abbrev pub invariant-loop-calls : goal.invariant-loop-calls
invariant-loop-calls l = record {
  front : CallsFront (rest l.initial.self.cursor) (vec_items l.calls) (rest l.self.cursor);
  few : length (vec_items l.calls) ≤ max_calls;
  line : l.self.cursor.line ≡ length (vec_items l.calls) + l.initial.self.cursor.line;
}

abbrev pub decreases-loop-calls : goal.decreases-loop-calls
decreases-loop-calls l = length (rest l.self.cursor)
