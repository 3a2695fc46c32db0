use Rattle.std.proofs.Common.{length, codes, refl, ap, ◌∙◌}
use Rattle.report.specs.Summaries.{calls_with}
use Rattle.report.proofs.Rows.{row_more}
use Rattle.report.proofs.summary.summary.Goals as goal

pub returns : goal.returns
returns c =
    let same = c.as_slice-calls.ensures.value in
    let t1 = row_more (codes "version") c.in_ok-push_row.ensures c.in_ok-text.ensures.ok refl in
    let t2 = row_more (codes "cells") c.in_ok-push_row-2.ensures t1 (c.len.ensures ∙ c.args.sheet.now.heading.cells.ok.0) in
    let t3 = row_more (codes "calls") c.in_ok-push_row-3.ensures t2 (ap length same) in
    let t4 = row_more (codes "openings of readers") c.in_ok-push_row-4.ensures t3 (c.count.ensures ∙ ap (calls_with 114) same) in
    let t5 = row_more (codes "openings of writers") c.in_ok-push_row-5.ensures t4 (c.count-2.ensures ∙ ap (calls_with 119) same) in
    let t6 = row_more (codes "gets") c.in_ok-push_row-6.ensures t5 (c.count-3.ensures ∙ ap (calls_with 103) same) in
    let t7 = row_more (codes "puts") c.in_ok-push_row-7.ensures t6 (c.count-4.ensures ∙ ap (calls_with 112) same) in
    let t8 = row_more (codes "ends") c.in_ok-push_row-8.ensures t7 (c.count-5.ensures ∙ ap (calls_with 101) same) in
    row_more (codes "steps") c.in_ok-push_row-9.ensures t8 (c.count-6.ensures ∙ ap (calls_with 115) same)
