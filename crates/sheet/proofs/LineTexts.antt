-- The text of a line tells its letter, its numbers and where it ends; so a line writes one call, or one heading, or none.
use Rattle.std.proofs.Common.{◌≡◌, ℕ, List, [], ◌∷◌, ◌++◌, get_or, drop, Some, None, decimal, Option, sym, refl, ap, ◌∙◌, subst, append_assoc}
use Rattle.std.specs.List.{AllByRecursion}
use Rattle.book.specs.declared.call.Call.{Call}
use Rattle.book.specs.declared.call.Call.TheVariants.{Open, Get, Put, End, Step}
use Rattle.book.specs.declared.call.Kind.TheVariants.{Reader, Writer}
use Rattle.sheet.specs.declared.cursor.Cursor.{Cursor}
use Rattle.sheet.specs.declared.heading.EngineChoice.{EngineChoice}
use Rattle.sheet.specs.declared.heading.EngineChoice.TheVariants.{Pessimistic, Serial}
use Rattle.sheet.specs.Lines.{LineLetter, NoLine}
use Rattle.sheet.specs.Numbers.{Fits32}
use Rattle.sheet.specs.Places.{rest, Passed}
use Rattle.sheet.specs.Readings.{NoCall, NoHeading, ReadsCall, ReadsCallLine}
use Rattle.sheet.specs.Texts.{call_letter, call_numbers, engine_letter, line_text, spaced}
use Rattle.sheet.proofs.ReadLines.{same_number, spaced_ends}

numbers_tell : (ns ms t u : List ℕ) → AllByRecursion Fits32 ns → AllByRecursion Fits32 ms → spaced ns ++ (10 ∷ t) ≡ spaced ms ++ (10 ∷ u) → (ns ≡ ms) × (t ≡ u)
numbers_tell [] [] t u n-fits m-fits e = (refl, cc)
numbers_tell [] (m ∷ ms) t u n-fits m-fits e = absurd (cc)
numbers_tell (n ∷ ns) [] t u n-fits m-fits e = absurd (cc)
numbers_tell (n ∷ ns) (m ∷ ms) t u n-fits m-fits e =
    let tails = sym (append_assoc (decimal n) (spaced ns) (10 ∷ t)) ∙ ap (drop 1) e ∙ append_assoc (decimal m) (spaced ms) (10 ∷ u) in
    let both = same_number n m _ _ n-fits.0 m-fits.0 (spaced_ends ns (10 ∷ t) refl) (spaced_ends ms (10 ∷ u) refl) tails in
    let on = numbers_tell ns ms t u n-fits.1 m-fits.1 both.1 in
    ((λ i. both.0 i ∷ on.0 i), on.1)

pub line_tells : (c d : ℕ) (ns ms t u : List ℕ) → AllByRecursion Fits32 ns → AllByRecursion Fits32 ms → line_text c ns ++ t ≡ line_text d ms ++ u → (c ≡ d) × (ns ≡ ms) × (t ≡ u)
line_tells c d ns ms t u n-fits m-fits e =
    let tails = sym (append_assoc (spaced ns) (10 ∷ []) t) ∙ ap (drop 1) e ∙ append_assoc (spaced ms) (10 ∷ []) u in
    let on = numbers_tell ns ms t u n-fits m-fits tails in
    (ap (λ (l : List ℕ). get_or l 0 0) e, on.0, on.1)

call_line_letter : (call : Call) → LineLetter (call_letter call)
call_line_letter (Open Reader seat) = (refl, refl)
call_line_letter (Open Writer seat) = (refl, refl)
call_line_letter (Get seat cell) = (refl, refl)
call_line_letter (Put seat cell value) = (refl, refl)
call_line_letter (End seat) = (refl, refl)
call_line_letter (Step seat) = (refl, refl)

engine_line_letter : (engine : EngineChoice) → LineLetter (engine_letter engine)
engine_line_letter Pessimistic = (refl, refl)
engine_line_letter Serial = (refl, refl)

pub no_line_no_call : (bs : List ℕ) → NoLine bs → NoCall bs
no_line_no_call bs none call after fits e = none (call_letter call) (call_numbers call) after (call_line_letter call) fits e

pub no_line_no_heading : (bs : List ℕ) → NoLine bs → NoHeading bs
no_line_no_heading bs none engine version cells after fits e = none (engine_letter engine) (version ∷ cells) after (engine_line_letter engine) fits e

module _ (before after : Cursor) (letter : ℕ) (numbers : List ℕ) (fits : AllByRecursion Fits32 numbers) (line : Passed before after (line_text letter numbers) 1) where
  -- each line that could stand there is this one
  this_line : (d : ℕ) (ms u : List ℕ) → AllByRecursion Fits32 ms → rest before ≡ line_text d ms ++ u → (d ≡ letter) × (ms ≡ numbers) × (u ≡ rest after)
  this_line d ms u ms-fit e = line_tells d letter ms numbers u (rest after) ms-fit fits (sym e ∙ line.split)

  pub reads_call_line : (r : Option Call) → ReadsCall letter numbers r → ReadsCallLine before after r
  reads_call_line None none = λ call u Call-fits e. let this = this_line (call_letter call) (call_numbers call) u Call-fits e in none call this.0 this.1
  reads_call_line (Some call) is = (subst (AllByRecursion Fits32) (sym is.1) fits, record { split = line.split ∙ (λ i. line_text (sym is.0 i) (sym is.1 i) ++ rest after); line = line.line })
