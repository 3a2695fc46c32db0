-- The numbers of a line are read one by one. What is read so far tells each text that could stand there.
use Rattle.std.proofs.Common.{◌≡◌, ℕ, true, false, Bor, Option, Some, None, List, [], ◌∷◌, ◌++◌, take, drop, decimal, sym, refl, ap, ◌∙◌, subst, append_assoc, append-nil, arith}
use Rattle.std.proofs.lemmas.Fmt.{decimal_injective}
use Rattle.std.proofs.ByRecursion.{All-push}
use Rattle.std.proofs.lemmas.List.{append_cancel_left}
use Rattle.std.proofs.lemmas.Bool.{true≢false, not_from_false}
use Rattle.std.specs.List.{AllByRecursion}
use Rattle.sheet.specs.declared.field.Field.{Field}
use Rattle.sheet.specs.declared.field.Field.TheVariants.{Letter, Number}
use Rattle.sheet.specs.Fields.{ReadsField, digit, is_letter, starts_with, word}
use Rattle.sheet.specs.Lines.{FieldEnds, LineLetter, NoLine, NoOperand, NoOperands}
use Rattle.sheet.specs.Numbers.{Fits32}
use Rattle.sheet.specs.Texts.{spaced, operands_text, line_text}
use Rattle.sheet.proofs.Operands.{number_word}
use Rattle.sheet.proofs.Words.{starts_then, word_front}

-- a number's text tells the number and where the text ends
pub same_number : (m n : ℕ) (x y : List ℕ) → Fits32 m → Fits32 n → FieldEnds x → FieldEnds y → decimal m ++ x ≡ decimal n ++ y → (m ≡ n) × (x ≡ y)
same_number m n x y m-fits n-fits x-ends y-ends e =
    let texts : decimal m ≡ decimal n = sym (number_word m x (decimal m ++ x) m-fits x-ends refl) ∙ number_word n y (decimal m ++ x) n-fits y-ends e in
    (decimal_injective m n (omega arith) (omega arith) texts, append_cancel_left (decimal n) x y (subst (λ (l : List ℕ). l ++ x ≡ decimal n ++ y) texts e))

pub spaced_ends : (ns left : List ℕ) → FieldEnds left → FieldEnds (spaced ns ++ left)
spaced_ends [] left ends = ends
spaced_ends (n ∷ ns) left ends = refl

-- more numbers are to be read, and this is the next one
pub record Next (more left after : List ℕ) : Type 0 where
  pub number : ℕ
  pub others : List ℕ
  pub fits : Fits32 number
  pub split : left ≡ 32 ∷ (decimal number ++ (spaced others ++ (10 ∷ after)))

-- where `seen` is read, `left` is to be read, and no line feed is next, a text that stands there has a number next
pub next_number : (seen more left after : List ℕ) → AllByRecursion Fits32 seen → AllByRecursion Fits32 more → FieldEnds left → starts_with 10 left ≡ false → spaced more ++ (10 ∷ after) ≡ spaced seen ++ left → Next more left after
next_number [] [] left after s m ends apart e = absurd (true≢false (ap (starts_with 10) e ∙ apart))
next_number [] (n ∷ more) left after s m ends apart e = record { number = n; others = more; fits = m.0; split = sym e ∙ ap (λ (l : List ℕ). 32 ∷ l) (append_assoc (decimal n) (spaced more) (10 ∷ after)) }
next_number (k ∷ seen) [] left after s m ends apart e = absurd (cc)
next_number (k ∷ seen) (n ∷ more) left after s m ends apart e =
    let tails = sym (append_assoc (decimal n) (spaced more) (10 ∷ after)) ∙ ap (drop 1) e ∙ append_assoc (decimal k) (spaced seen) left in
    let both = same_number n k _ _ m.0 s.0 (spaced_ends more (10 ∷ after) refl) (spaced_ends seen left ends) tails in
    let on = next_number seen more left after s.1 m.1 ends apart both.1 in
    record { number = on.number; others = on.others; fits = on.fits; split = on.split }

-- numbers are read, and the field that was read last has ended
pub record Begun (start numbers left : List ℕ) : Type 0 where
  pub fits : AllByRecursion Fits32 numbers
  pub split : start ≡ spaced numbers ++ left
  pub ends : FieldEnds left

pub not_begun : (start numbers left : List ℕ) → Begun start numbers left → starts_with 10 left ≡ false → NoOperand left → NoOperands start
not_begun start numbers left h apart none more after fits e =
    let on = next_number numbers more left after h.fits fits h.ends apart (sym (append_assoc (spaced more) (10 ∷ []) after) ∙ sym e ∙ h.split) in
    none on.number (spaced on.others ++ (10 ∷ after)) on.fits (spaced_ends on.others (10 ∷ after) refl) on.split

spaced_push : (ns : List ℕ) (n : ℕ) (left : List ℕ) → spaced ns ++ (32 ∷ (decimal n ++ left)) ≡ spaced (ns ++ (n ∷ [])) ++ left
spaced_push [] n left = ap (λ (l : List ℕ). 32 ∷ (l ++ left)) (sym (append-nil (decimal n)))
spaced_push (k ∷ ns) n left =
    ap (λ (l : List ℕ). 32 ∷ l) (append_assoc (decimal k) (spaced ns) (32 ∷ (decimal n ++ left)) ∙ ap (λ (l : List ℕ). decimal k ++ l) (spaced_push ns n left) ∙ sym (append_assoc (decimal k) (spaced (ns ++ (n ∷ []))) left))

pub begun_more : (start numbers left after : List ℕ) (n : ℕ) → Begun start numbers left → Fits32 n → left ≡ 32 ∷ (decimal n ++ after) → FieldEnds after → Begun start (numbers ++ (n ∷ [])) after
begun_more start numbers left after n h fits e ends = record {
  fits = All-push Fits32 numbers n h.fits fits;
  split = h.split ∙ ap (λ (l : List ℕ). spaced numbers ++ l) e ∙ spaced_push numbers n after;
  ends = ends;
}

pub begun_done : (start numbers left after : List ℕ) → Begun start numbers left → starts_with 10 left ≡ true → after ≡ drop 1 left → start ≡ operands_text numbers ++ after
begun_done start numbers left after h feed e =
    h.split ∙ ap (λ (l : List ℕ). spaced numbers ++ l) (starts_then 10 left feed ∙ ap (λ (l : List ℕ). 10 ∷ l) (sym e)) ∙ sym (append_assoc (spaced numbers) (10 ∷ []) after)

-- the word at the front of a line is its letter
letter_word : (letter : ℕ) (numbers after : List ℕ) → LineLetter letter → word (line_text letter numbers ++ after) ≡ letter ∷ []
letter_word letter numbers after is =
    let ends = spaced_ends numbers (10 ∷ after) refl in
    ap (λ (l : List ℕ). word (letter ∷ l)) (append_assoc (spaced numbers) (10 ∷ []) after) ∙ word_front (letter ∷ []) (spaced numbers ++ (10 ∷ after)) (is.0, tt) ends

-- bytes whose first word is no letter are no line
pub no_letter : (bs : List ℕ) → is_letter (word bs) ≡ false → NoLine bs
no_letter bs other letter numbers after is fits e =
    let w : word bs ≡ letter ∷ [] = ap word e ∙ letter_word letter numbers after is in
    true≢false (sym (not_from_false (digit letter) is.1) ∙ sym (ap is_letter w) ∙ other)

-- the field at the front of a line is a letter
pub no_letter_field : (bs : List ℕ) (r : Option Field) → ReadsField bs r → ((b : Bor (List ℕ)) → r ≡ Some (Letter b) → ⊥) → NoLine bs
no_letter_field bs None none other = no_letter bs (ap (λ (n : ℕ). is_letter (take n bs)) none)
no_letter_field bs (Some (Letter b)) is other = absurd (other b refl)
no_letter_field bs (Some (Number b)) is other = no_letter bs is.1.1
