-- The front of a list after a write into it, and how many places a list of fixed room has.
use Rattle.std.proofs.Common.{◌≡◌, ℕ, ◌<◌, ◌≤◌, List, length, slice_set, take, ap, arith}
use Rattle.std.proofs.Math.Seq.{take-set-lt}
use Rattle.std.proofs.lemmas.List.{length-append}
use Rattle.fixed_vec.specs.Listed.{Listed, places}

pub take_set_below : {T : Type 0} (n : ℕ) (xs : List T) (i : ℕ) (x : T) → i < n → take n (slice_set xs i x) ≡ slice_set (take n xs) i x
take_set_below n xs i x below = take-set-lt n xs i x below

-- there are no more elements than places
pub items_fit : {T : Type 0} (l : Listed T) (n : ℕ) → length (places l) ≡ n → length l.items ≤ n
items_fit l n whole = omega (arith, length-append l.items l.spare, whole)

-- as many elements, with the same unused places, take as many places
pub places_stay : {T : Type 0} (l l' : Listed T) → length l'.items ≡ length l.items → l'.spare ≡ l.spare → length (places l') ≡ length (places l)
places_stay {T} l l' items spare = omega (arith, length-append l.items l.spare, length-append l'.items l'.spare, items, ap (length {A = T}) spare)
