-- A number after one space: how it is found, and that nothing else is one.
use Rattle.std.proofs.Common.{◌≡◌, ℕ, ◌+◌, true, not, eqb, List, [], ◌∷◌, ◌++◌, length, get_or, drop, Some, None, decimal, Option, sym, refl, ap, ◌∙◌, arith, take-append-drop}
use Rattle.std.proofs.lemmas.List.{drop-drop}
use Rattle.std.proofs.lemmas.Str.Parse.{digit_at, digit_from_value}
use Rattle.std.proofs.lemmas.Bool.{and_parts}
use Rattle.std.proofs.lemmas.Bool.Decides.{nat_tests}
use Rattle.std.specs.Str.Parse.{AllDigits}
use Rattle.sheet.specs.declared.cursor.Cursor.{Cursor}
use Rattle.sheet.specs.Fields.{digit, is_letter, starts_with, word, word_length}
use Rattle.sheet.specs.Lines.{FieldEnds, NoOperand, ReadsOperand}
use Rattle.sheet.specs.Numbers.{Fits32, ReadsNumber}
use Rattle.sheet.specs.Places.{rest, Moved, Passed}
use Rattle.sheet.proofs.Decimals.{spelled_out}
use Rattle.sheet.proofs.Words.{Solid, word_front, after_word, starts_then}

digits_solid : (ds : List ℕ) → AllDigits 10 ds → Solid ds
digits_solid [] h = tt
digits_solid (d ∷ ds) h = let range = digit_from_value d h.0 in (grind (arith, nat_tests), digits_solid ds h.1)

pub decimal_solid : (n : ℕ) → Fits32 n → Solid (decimal n)
decimal_solid n fits = digits_solid (decimal n) (spelled_out (decimal n) n fits refl).digits

-- the number at the front of bs is its first word
pub number_word : (n : ℕ) (after bs : List ℕ) → Fits32 n → FieldEnds after → bs ≡ decimal n ++ after → word bs ≡ decimal n
number_word n after bs fits ends e = ap word e ∙ word_front (decimal n) after (decimal_solid n fits) ends

pub empty_is_no_number : (n : ℕ) → Fits32 n → [] ≡ decimal n → ⊥
empty_is_no_number n fits e = omega (arith, (spelled_out [] n fits e).some)

pub letter_is_no_number : (n : ℕ) (w : List ℕ) → is_letter w ≡ true → Fits32 n → w ≡ decimal n → ⊥
letter_is_no_number n w letter fits e =
    let s = spelled_out w n fits e in
    let range = digit_at w 0 s.digits s.some in
    let apart = (and_parts (eqb (length w) 1) (not (digit (get_or w 0 0))) letter).1 in
    grind (arith, nat_tests)

pub moved_rest : (before after : Cursor) (bytes lines : ℕ) → Moved before after bytes lines → rest after ≡ drop bytes (rest before)
moved_rest before after bytes lines m = ap (λ (p : ℕ). drop p after.sheet.now) m.place ∙ ap (drop (before.place + bytes)) m.sheet ∙ sym (drop-drop bytes before.place before.sheet.now)

-- the cursor went past one byte
pub passed_byte : (b : ℕ) (before after : Cursor) (lines : ℕ) → starts_with b (rest before) ≡ true → Moved before after 1 lines → rest before ≡ b ∷ rest after
passed_byte b before after lines found m = starts_then b (rest before) found ∙ ap (λ (l : List ℕ). b ∷ l) (sym (moved_rest before after 1 lines m))

-- the cursor went past the first word
pub passed_word : (before after : Cursor) → Moved before after (word_length (rest before)) 0 → (rest before ≡ word (rest before) ++ rest after) × FieldEnds (rest after)
passed_word before after m =
    let left = moved_rest before after (word_length (rest before)) 0 m in
    (sym (take-append-drop (word_length (rest before)) (rest before)) ∙ ap (λ (l : List ℕ). word (rest before) ++ l) (sym left), ap word_length left ∙ after_word (rest before))

module _ (before between after : Cursor) (found : starts_with 32 (rest before) ≡ true) (space : Moved before between 1 0) where
  pub no_operand : ((n : ℕ) → Fits32 n → word (rest between) ≡ decimal n → ⊥) → NoOperand (rest before)
  no_operand none n rest' fits ends e =
      let past : 32 ∷ rest between ≡ 32 ∷ (decimal n ++ rest') = sym (passed_byte 32 before between 0 found space) ∙ e in
      none n fits (number_word n rest' (rest between) fits ends (ap (drop 1) past))

  pub same_line : Moved between after (word_length (rest between)) 0 → after.line ≡ before.line
  same_line field = omega (arith, field.line, space.line)

  pub one_operand : (n : ℕ) → Moved between after (word_length (rest between)) 0 → word (rest between) ≡ decimal n → Passed before after (32 ∷ decimal n) 0 × FieldEnds (rest after)
  one_operand n field is =
      let first = passed_byte 32 before between 0 found space in
      let second = passed_word between after field in
      (record { split = first ∙ ap (λ (l : List ℕ). 32 ∷ l) (second.0 ∙ ap (λ (l : List ℕ). l ++ rest after) is); line = omega (arith, field.line, space.line) }, second.1)

  pub reads_operand : (w : List ℕ) (r : Option ℕ) → Moved between after (word_length (rest between)) 0 → w ≡ word (rest between) → ReadsNumber w r → ReadsOperand before after r
  reads_operand w None field is none = (no_operand (λ n fits e. none n fits (is ∙ e)), same_line field)
  reads_operand w (Some n) field is some = let p = one_operand n field (sym is ∙ some.1) in (some.0, p.0, p.1)
