use Rattle.std.proofs.Common.{sym, ap, ◌∙◌, subst, arith}
use Rattle.std.proofs.lemmas.List.{take_all}
use Rattle.std.specs.Str.Parse.{AllDigits, digits_value}
use Rattle.sheet.proofs.Decimals.{reads_value, shaped_short, summed_more}
use Rattle.sheet.proofs.numeral.number.Goals as goal

pub overflow_mul-value : goal.overflow_mul-value
overflow_mul-value c =
    let short = shaped_short _ _ _ c.loop-b.invariant (sym c.if-not-has_number_shape.ensures) in
    record { fits = omega (arith, short) }

pub overflow_add-value : goal.overflow_add-value
overflow_add-value c =
    let short = shaped_short _ _ _ c.loop-b.invariant (sym c.if-not-has_number_shape.ensures) in
    record { fits = omega (arith, short) }

pub loop-b-preserved : goal.loop-b-preserved
loop-b-preserved c =
    let range = c.if-not-is_ascii_digit.ensures.cases in
    rw c.from.ensures (summed_more _ _ _ c.loop-b-test.true range.0 range.1 c.loop-b.invariant)

pub returns : goal.returns
returns c =
    let all = take_all c.loop-b.b-index c.args.digits.now (omega arith) in
    rw c.ok.ensures.value
    (reads_value _ _ _ (sym c.if-not-has_number_shape.ensures) (subst (AllDigits 10) all c.loop-b.invariant.digits) (c.loop-b.invariant.means ∙ ap (digits_value 10) all) c.try_from.ensures)
