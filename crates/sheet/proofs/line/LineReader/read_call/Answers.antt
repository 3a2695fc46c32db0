use Rattle.std.proofs.Common.{ℕ, List, subst}
use Rattle.sheet.specs.Lines.{ReadsLine}
use Rattle.sheet.specs.Readings.{ReadsCall, ReadsCallLine}
use Rattle.sheet.proofs.LineErrors.{or_unreadable, passed_on}
use Rattle.sheet.proofs.LineTexts.{no_line_no_call, reads_call_line}
use Rattle.sheet.proofs.line.LineReader.read_call.Goals as goal

pub returns-in_err-letter : goal.returns-in_err-letter
returns-in_err-letter c = passed_on (λ o. ReadsLine c.args.self.now.cursor c.read_line.new.self.cursor o _) _ _ c.from_residual.result c.from_residual.ensures.1 c.in_err-letter.ensures (λ none. no_line_no_call _ none.0)

pub returns : goal.returns
returns c =
    let line = c.in_ok-letter.ensures in
    let is = subst (λ (l : List ℕ). ReadsCall c.in_ok-letter.letter l c.call_of.result) c.as_slice.ensures.value c.call_of.ensures in
    rw c.ok_or.ensures.value (or_unreadable (ReadsCallLine c.args.self.now.cursor _) c.call_of.result (reads_call_line _ _ _ _ line.0 line.1 _ is))
