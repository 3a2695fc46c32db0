-- The text of a number is `decimal n`: its digits, the first of them no zero unless the number is 0.
-- A field holds a number of 32 bits. Reading is the inverse of writing.
use Rattle.std.specs.Prelude.{◌≡◌, ℕ, ◌^◌, ◌<◌, Bool, true, false, not, ◌&&◌, List, [], ◌∷◌, length, decimal, Option, MatchOption, ◌==◌, ◌≢◌, nat_le}

abbrev pub Fits32 : ℕ → Type 0
Fits32 n = n < 2 ^ 32

-- one byte, or up to ten of which the first is no zero
abbrev pub number_shape : List ℕ → Bool
number_shape [] = false
number_shape (b ∷ []) = true
number_shape (b ∷ c ∷ bs) = not (b == 48) && nat_le (length (b ∷ c ∷ bs)) 10

-- r is the number whose text is bs, or none where bs is the text of no number
abbrev pub ReadsNumber : List ℕ → Option ℕ → Type 0
ReadsNumber bs r = MatchOption r ((n : ℕ) → Fits32 n → bs ≢ decimal n) (λ n. Fits32 n × (bs ≡ decimal n))
