use Rattle.std.proofs.Common.{ℕ, take, sym, ap, ◌∙◌}
use Rattle.sheet.specs.Places.{rest}
use Rattle.sheet.proofs.Operands.{no_operand, same_line, reads_operand, empty_is_no_number, letter_is_no_number}
use Rattle.sheet.proofs.line.operand.Goals as goal

pub returns-in-Number : goal.returns-in-Number
returns-in-Number c =
    let space = c.if-not-space.ensures in
    let is = rw c.in-Number.is at c.in_ok-digits.ensures.found.1 in
    reads_operand _ _ _ (sym space.found) space.moved _ _ c.field.ensures.moved is.0 c.number.ensures

pub returns-in-Letter : goal.returns-in-Letter
returns-in-Letter c =
    let space = c.if-not-space.ensures in
    let is = rw c.in-Letter.is at c.in_ok-digits.ensures.found.1 in
    (no_operand _ _ c.field.new.self (sym space.found) space.moved (λ n fits e. letter_is_no_number n _ is.1 fits e), same_line _ _ _ (sym space.found) space.moved c.field.ensures.moved)

pub returns-in_err-digits : goal.returns-in_err-digits
returns-in_err-digits c =
    let space = c.if-not-space.ensures in
    let none = ap (λ (k : ℕ). take k (rest c.space.new.self)) c.in_err-digits.ensures.found in
    rw c.from_residual.ensures
    (no_operand _ _ c.field.new.self (sym space.found) space.moved (λ n fits e. empty_is_no_number n fits (sym none ∙ e)), same_line _ _ _ (sym space.found) space.moved c.field.ensures.moved)
