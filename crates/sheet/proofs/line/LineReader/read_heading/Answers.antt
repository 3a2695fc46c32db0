use Rattle.sheet.specs.Lines.{ReadsLine}
use Rattle.sheet.proofs.LineErrors.{passed_on}
use Rattle.sheet.proofs.LineTexts.{no_line_no_heading}
use Rattle.sheet.proofs.line.LineReader.read_heading.Goals as goal

pub returns-in_err-letter : goal.returns-in_err-letter
returns-in_err-letter c = passed_on (λ o. ReadsLine c.args.self.now.cursor c.read_line.new.self.cursor o _) _ _ c.from_residual.result c.from_residual.ensures.1 c.in_err-letter.ensures (λ none. no_line_no_heading _ none.0)
