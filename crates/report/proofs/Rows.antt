-- A text grows row by row.
use Rattle.std.proofs.Common.{◌≡◌, ℕ, List, ◌++◌, ◌∙◌}
use Rattle.report.specs.Summaries.{row_text}

pub row_more : (label : List ℕ) {was now before : List ℕ} {n m : ℕ} → now ≡ was ++ row_text label n → was ≡ before → n ≡ m → now ≡ before ++ row_text label m
row_more label grown text number = grown ∙ (λ i. text i ++ row_text label (number i))
