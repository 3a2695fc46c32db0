-- The last element of a list that passes a test, by its place.
use Rattle.std.specs.Prelude.{◌≡◌, ℕ, suc, ◌<◌, Bool, true, false, cond, List, [], ◌∷◌, length, Some, None, Option, slice_index_or}

-- a place in the tail of a list, else the head's place where the head passes
abbrev pub tail_first : Bool → Option ℕ → Option ℕ
tail_first head None = cond head (Some 0) None
tail_first head (Some i) = Some (suc i)

abbrev pub last_match : {X : Type 0} → (X → Bool) → List X → Option ℕ
last_match test [] = None
last_match test (x ∷ xs) = tail_first (test x) (last_match test xs)

-- r is the place of an element that passes, and none behind it does; or r is none, and no element passes
abbrev pub IsLast : {X : Type 0} → (X → Bool) → List X → Option ℕ → Type 0
IsLast {X} test xs None = (i : ℕ) (d : X) → i < length xs → test (slice_index_or xs i d) ≡ false
IsLast {X} test xs (Some i) = (i < length xs) × ((d : X) → test (slice_index_or xs i d) ≡ true) × ((j : ℕ) (d : X) → i < j → j < length xs → test (slice_index_or xs j d) ≡ false)
