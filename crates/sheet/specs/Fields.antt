-- A line's fields: each goes up to the next space or line feed.
use Rattle.std.specs.Prelude.{◌≡◌, ℕ, ◌<◌, Bool, true, false, not, ◌&&◌, ◌||◌, List, [], ◌∷◌, length, take, Option, MatchOption, ◌==◌, nat_le, slice_index}
use Rattle.std.specs.List.{position_or_len}
use Rattle.sheet.specs.declared.field.Field.{Field}
use Rattle.sheet.specs.declared.field.Field.TheVariants.{Letter, Number}

-- a space or a line feed
abbrev pub separator : ℕ → Bool
separator b = b == 32 || b == 10

abbrev pub digit : ℕ → Bool
digit b = nat_le 48 b && nat_le b 57

-- how many bytes stand before the first separator
abbrev pub word_length : List ℕ → ℕ
word_length bs = position_or_len separator bs

-- the bytes before the first separator
abbrev pub word : List ℕ → List ℕ
word bs = take (word_length bs) bs

-- a single byte that is no digit
abbrev pub is_letter : List ℕ → Bool
is_letter w = length w == 1 && not (digit (slice_index w 0))

-- f is the field that consists of the bytes w
abbrev pub IsField : List ℕ → Field → Type 0
IsField w (Letter b) = (b.now ≡ w) × (is_letter w ≡ true)
IsField w (Number b) = (b.now ≡ w) × (is_letter w ≡ false)

-- r is the field at the front of bs, or none where a separator or nothing stands there
abbrev pub ReadsField : List ℕ → Option Field → Type 0
ReadsField bs r = MatchOption r (word_length bs ≡ 0) (λ f. (0 < word_length bs) × IsField (word bs) f)

-- b is the first byte of bs
abbrev pub starts_with : ℕ → List ℕ → Bool
starts_with b [] = false
starts_with b (x ∷ bs) = x == b
