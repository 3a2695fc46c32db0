use Rattle.sheet.proofs.Decimals.{Summed}
use Rattle.sheet.proofs.numeral.number.Given as goal

abbrev pub invariant-loop-b : goal.invariant-loop-b
invariant-loop-b l = Summed l.digits l.b-index l.value
