-- What the text of a number of 32 bits looks like, and that such a text is the one of its value.
use Rattle.std.proofs.Common.{◌≡◌, ℕ, ◌+◌, ◌-◌, ◌*◌, ◌^◌, ◌<◌, ◌≤◌, true, not, eqb, leb, List, [], ◌∷◌, length, get_or, take, Ok, Err, decimal, Result, sym, refl, ap, ◌∙◌, subst, ⊎_elim, arith, length-take}
use Rattle.std.proofs.lemmas.Fmt.{decimal_nonempty, decimal_digit, first_decimal, length-decimal-le, digits_decimal, digits_value-decimal, decimal-digits_value}
use Rattle.std.proofs.lemmas.Int.Digits.{digits_value_more, digits_more}
use Rattle.std.proofs.lemmas.Str.Parse.{IsNumeralModel, digit_at, numerals_by_value, tells_digits, digits_value_short}
use Rattle.std.proofs.lemmas.Bool.{and_from, and_parts, cases_lt, eqb-false, false≢true, le-leb, leb-true, ne_eqb, not_from_false, not-true}
use Rattle.std.proofs.lemmas.Bool.Decides.{nat_tests}
use Rattle.std.specs.Result.{OkIff, result_ok}
use Rattle.std.specs.Str.Parse.{AllDigits, digits_value}
use Rattle.std.specs.Char.{digit_value}
use Rattle.sheet.specs.Fields.{digit}
use Rattle.sheet.specs.Numbers.{Fits32, ReadsNumber, number_shape}

pub own : IsNumeralModel (AllDigits 10) (digits_value 10)
own = numerals_by_value (AllDigits 10) tells_digits

-- what is true of the text of a number
pub record Spelled (bs : List ℕ) (n : ℕ) : Type 0 where
  pub some : 0 < length bs
  pub few : length bs ≤ 10
  pub plain : get_or bs 0 0 ≡ 48 → length bs ≡ 1
  pub digits : AllDigits 10 bs
  pub means : digits_value 10 bs ≡ n

no_zero_first : (n : ℕ) → Fits32 n → get_or (decimal n) 0 0 ≡ 48 → length (decimal n) ≡ 1
no_zero_first n fits zero-first =
    ⊎_elim
    (λ (positive : 0 < n). absurd (omega (arith, first_decimal n positive (omega arith))))
    (λ (none : n ≤ 0). ap length (decimal_digit n (omega arith)))
    (cases_lt 0 n)

spelled : (n : ℕ) → Fits32 n → Spelled (decimal n) n
spelled n fits =
    let wide : n < 2 ^ 64 = omega arith in
    record {
      some = decimal_nonempty n wide;
      few = length-decimal-le 10 n (omega arith) (omega arith) wide;
      plain = no_zero_first n fits;
      digits = digits_decimal own n wide;
      means = digits_value-decimal own n wide;
    }

pub spelled_out : (bs : List ℕ) (n : ℕ) → Fits32 n → bs ≡ decimal n → Spelled bs n
spelled_out bs n fits e = subst (λ (l : List ℕ). Spelled l n) (sym e) (spelled n fits)

pub text_of_value : (bs : List ℕ) → AllDigits 10 bs → 0 < length bs → (get_or bs 0 0 ≡ 48 → length bs ≡ 1) → Fits32 (digits_value 10 bs) → bs ≡ decimal (digits_value 10 bs)
text_of_value bs digits some plain fits = sym (decimal-digits_value own bs digits some plain (omega arith))

value_of_digit : (c : ℕ) → 48 ≤ c → c ≤ 57 → digit_value c ≡ c - 48
value_of_digit c low high = grind (arith, nat_tests)

-- the first i bytes are digits, and v is what they write
pub record Summed (bs : List ℕ) (i v : ℕ) : Type 0 where
  pub digits : AllDigits 10 (take i bs)
  pub means : v ≡ digits_value 10 (take i bs)

pub summed_more : (bs : List ℕ) (i v : ℕ) → i < length bs → 48 ≤ get_or bs i 0 → get_or bs i 0 ≤ 57 → Summed bs i v → Summed bs (i + 1) (v * 10 + (get_or bs i 0 - 48))
summed_more bs i v within low high h =
    let is = value_of_digit (get_or bs i 0) low high in
    record {
      digits = digits_more 10 bs i within h.digits (omega arith);
      means = ap (λ (w : ℕ). w * 10 + (get_or bs i 0 - 48)) h.means ∙ ap (λ (d : ℕ). digits_value 10 (take i bs) * 10 + d) (sym is) ∙ sym (digits_value_more 10 bs i within);
    }

shape_spelled : (bs : List ℕ) (n : ℕ) → Spelled bs n → number_shape bs ≡ true
shape_spelled [] n s = absurd (omega (arith, s.some))
shape_spelled (b ∷ []) n s = refl
shape_spelled (b ∷ c ∷ bs) n s = and_from (not (eqb b 48)) (leb (length (b ∷ c ∷ bs)) 10) (not_from_false (eqb b 48) (ne_eqb b 48 (λ e. omega (arith, s.plain e)))) (le-leb _ 10 s.few)

-- the text of a number has the shape of one
pub decimal_shape : (n : ℕ) → Fits32 n → number_shape (decimal n) ≡ true
decimal_shape n fits = shape_spelled (decimal n) n (spelled n fits)

pub decimal_digit_at : (n i : ℕ) → Fits32 n → i < length (decimal n) → digit (get_or (decimal n) i 0) ≡ true
decimal_digit_at n i fits within =
    let range = digit_at (decimal n) i (spelled n fits).digits within in
    and_from _ _ (le-leb 48 _ range.0) (le-leb _ 57 range.1)

-- what the shape says
shape_parts : (bs : List ℕ) → number_shape bs ≡ true → (0 < length bs) × (length bs ≤ 10) × (get_or bs 0 0 ≡ 48 → length bs ≡ 1)
shape_parts [] h = absurd (false≢true h)
shape_parts (b ∷ []) h = (omega arith, omega arith, λ _. refl)
shape_parts (b ∷ c ∷ bs) h =
    let parts = and_parts (not (eqb b 48)) (leb (length (b ∷ c ∷ bs)) 10) h in
    (omega arith, leb-true _ 10 parts.1, λ e. absurd (eqb-false b 48 (not-true _ parts.0) e))

-- the digits of bytes of the right shape write a number that does not overflow
pub shaped_short : (bs : List ℕ) (i v : ℕ) → Summed bs i v → number_shape bs ≡ true → v < 10 ^ 10
shaped_short bs i v h shape =
    let few = (shape_parts bs shape).1 in
    rw h.means (digits_value_short own (take i bs) 10 h.digits (simp length-take (omega arith)))

-- digits of the right shape write their value, and it is read where it has 32 bits
pub reads_value : {E : Type 0} (bs : List ℕ) (v : ℕ) (r : Result ℕ E) → number_shape bs ≡ true → AllDigits 10 bs → v ≡ digits_value 10 bs → OkIff r (Fits32 v) v → ReadsNumber bs (result_ok r)
reads_value bs v (Ok x) shape digits means (fits, same) =
    let parts = shape_parts bs shape in
    let text = text_of_value bs digits parts.0 parts.2 (omega arith) in
    (omega arith, text ∙ ap decimal (sym means ∙ sym same))
reads_value bs v (Err _) shape digits means too_large = λ n fits e. too_large (omega (arith, (spelled_out bs n fits e).means))
