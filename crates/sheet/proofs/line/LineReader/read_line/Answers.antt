use Rattle.std.proofs.Common.{arith}
use Rattle.sheet.proofs.ReadLines.{no_letter_field}
use Rattle.sheet.proofs.line.LineReader.read_line.Goals as goal

pub returns-in_default : goal.returns-in_default
returns-in_default c = (no_letter_field _ c.field.result c.field.ensures.found (λ b e. cc), omega (arith, c.field.ensures.moved.line))
