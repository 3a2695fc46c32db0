use Rattle.std.proofs.Common.{◌≡◌, ℕ, rules, sym, ◌∙◌, subst, arith}
use Rattle.std.proofs.lemmas.Result.{MatchResult-weaker, err_from_is_err_and}
use Rattle.std.proofs.lemmas.Bool.{ltb-false, ltb-true}
use Rattle.sheet.specs.CallLists.{StopsCalls}
use Rattle.sheet.specs.Limits.{max_bytes}
use Rattle.sheet.specs.Outcomes.{Fails, too_many_bytes, no_heading}
use Rattle.sheet.specs.Places.{rest}
use Rattle.sheet.specs.Readings.{NoHeading, ReadsHeadingLine}
use Rattle.sheet.proofs.LineErrors.{kept_on_line, told_on_line}
use Rattle.sheet.proofs.SheetFronts.{start_rest, stops, reads}
use Rattle.sheet.proofs.SheetLaws.{reading_laws}
use Rattle.sheet.proofs.reading.whole.read.Goals as goal

pub returns-then-too_long : goal.returns-then-too_long
returns-then-too_long c = record { outcome = too_many_bytes (ltb-true max_bytes _ (sym c.if-too_long.ensures)); laws = reading_laws }

pub returns-in_err-heading : goal.returns-in_err-heading
returns-in_err-heading c =
    let short = ltb-false max_bytes _ (sym c.if-too_long.ensures) in
    let p = err_from_is_err_and c.from_residual.result c.from_residual.ensures.1 in
    let fails = told_on_line (ReadsHeadingLine c.new-lines.result.cursor c.read_heading.new.self.cursor) (Fails c.args.bytes.now) 1 c.read_heading.result _
    (MatchResult-weaker c.read_heading.result c.in_err-heading.ensures.cases (λ x e. e) (λ e h. search rules))
    c.read_heading.ensures
    (λ none. no_heading short (subst NoHeading (start_rest _ _ c.new-lines.ensures) none))
    short in
    record { outcome = rw (p.1, p.2) fails; laws = reading_laws }

pub returns-in_err-calls : goal.returns-in_err-calls
returns-in_err-calls c =
    let heading = kept_on_line (ReadsHeadingLine c.new-lines.result.cursor c.read_heading.new.self.cursor) c.read_heading.result _ c.in_ok-heading.ensures.cases c.read_heading.ensures in
    let split = sym (start_rest _ _ c.new-lines.ensures) ∙ heading.1.split in
    let second : c.read_heading.new.self.cursor.line ≡ 2 = omega (arith, heading.1.line, c.new-lines.ensures.line) in
    let stopped = subst (λ (n : ℕ). StopsCalls (rest c.read_heading.new.self.cursor) n c.in_err-calls.field-0.0) second c.in_err-calls.ensures in
    let p = err_from_is_err_and c.from_residual-in_err-calls.result c.from_residual-in_err-calls.ensures.1 in
    record { outcome = rw (p.1, p.2) (stops _ _ _ _ _ heading.0 split (ltb-false max_bytes _ (sym c.if-too_long.ensures)) _ stopped); laws = reading_laws }

pub returns : goal.returns
returns c =
    let heading = kept_on_line (ReadsHeadingLine c.new-lines.result.cursor c.read_heading.new.self.cursor) c.read_heading.result _ c.in_ok-heading.ensures.cases c.read_heading.ensures in
    let split = sym (start_rest _ _ c.new-lines.ensures) ∙ heading.1.split in
    record { outcome = reads _ _ _ _ _ heading.0 split (ltb-false max_bytes _ (sym c.if-too_long.ensures)) _ c.in_ok-calls.ensures; laws = reading_laws }
