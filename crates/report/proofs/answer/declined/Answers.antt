use Rattle.std.proofs.Common.{◌≡◌, ℕ, List, [], ◌∷◌, ◌++◌, string_bytes, codes, decimal, sym, ap, ◌∙◌}
use Rattle.std.proofs.lemmas.Result.{IfOk-weaker}
use Rattle.book.specs.Refusals.{refusal_number}
use Rattle.report.specs.Answers.{refusal_text}
use Rattle.report.proofs.Lines.{names_no_line}
use Rattle.report.proofs.answer.declined.Goals as goal

pub returns-in_default : goal.returns-in_default
returns-in_default c =
    let number = ap (λ (n : ℕ). codes "no " ++ (decimal n ++ (10 ∷ []))) c.number-number.ensures in
    let line = ap (λ (l : List ℕ). codes "no " ++ (decimal (refusal_number c.args.refusal) ++ (l ++ (10 ∷ [])))) (sym (names_no_line c.args.refusal c.in_default.not-UnreadableLine)) in
    IfOk-weaker c.format-in_default.result _ (λ t. string_bytes t ≡ refusal_text c.args.refusal) (λ t e. e ∙ number ∙ line) c.format-in_default.ensures.ok
