use Rattle.std.proofs.Common.{sym, ◌∙◌, arith}
use Rattle.sheet.specs.Lines.{ReadsOperand}
use Rattle.sheet.proofs.LineErrors.{or_unreadable, passed_on}
use Rattle.sheet.proofs.Operands.{moved_rest}
use Rattle.sheet.proofs.ReadLines.{not_begun, begun_more, begun_done}
use Rattle.sheet.proofs.line.LineReader.operands.Goals as goal

pub returns-in_err-n : goal.returns-in_err-n
returns-in_err-n c =
    let feed = c.loop-self-test.ensures in
    let same = moved_rest _ _ 0 0 feed.moved in
    let read = or_unreadable (ReadsOperand c.line_feed.new.self c.operand.new.cursor) c.operand.result c.operand.ensures in
    passed_on (ReadsOperand c.line_feed.new.self c.operand.new.cursor) _ c.in_err-n.field-0.0 c.from_residual.result c.from_residual.ensures.1
    (rw (← c.in_err-n.ensures.value) at read)
    (λ none. (not_begun _ _ _ c.loop-self.invariant.begun (sym feed.found) (rw same at none.0), omega (arith, none.1, feed.moved.line, c.loop-self.invariant.line)))

pub loop-self-preserved : goal.loop-self-preserved
loop-self-preserved c =
    let feed = c.loop-self-test.ensures in
    let same = moved_rest _ _ 0 0 feed.moved in
    let some = rw c.in_ok-n.ensures.ok_part at c.operand.ensures in
    let pushed = rw (← c.in_ok-map_err.ensures.variant) at c.push.ensures.items in
    record {
      begun = rw pushed (begun_more _ _ _ _ _ c.loop-self.invariant.begun some.0 (sym same ∙ some.1.split) some.2);
      line = omega (arith, some.1.line, feed.moved.line, c.loop-self.invariant.line);
    }

pub returns : goal.returns
returns c =
    let feed = c.loop-self-test.ensures in
    let read = c.loop-self.invariant in
    (read.begun.fits, record { split = begun_done _ _ _ _ read.begun (sym feed.found) (moved_rest _ _ 1 1 feed.moved); line = omega (arith, feed.moved.line, read.line) })
