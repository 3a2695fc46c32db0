-- Seats that are seen to be free, one after the other.
use Rattle.std.proofs.Common.{◌≡◌, ℕ, zero, suc, ◌+◌, ◌<◌, Bool, true, false, cond, not, ◌&&◌, leb, List, [], ◌∷◌, length, get_or, is_some, Some, None, Ok, Option, sym, refl, ap, ◌∙◌, arith}
use Rattle.std.specs.List.{list_all, range_with_len}
use Rattle.std.proofs.lemmas.Bool.{and_parts, cond-false, lt-leb, true≢false}
use Rattle.book.specs.declared.answer.Standing.TheVariants.{Busy, Ready}
use Rattle.book.specs.Calls.{is_busy}
use Rattle.book.specs.Engines.{none_open, says_free, seat_standing, standing_in}
use Rattle.book.specs.Meaning.{Meaning, Open, seat_part}
use Rattle.book.specs.Progress.{AllFree}
use Rattle.book.specs.Sizes.{seat_count}

pub free_at : (xs : List (Option Open)) (i : ℕ) → none_open xs ≡ true → get_or xs i None ≡ None
free_at [] i all = refl
free_at (None ∷ xs) zero all = refl
free_at (Some o ∷ xs) zero all = absurd (true≢false (sym all))
free_at (x ∷ xs) (suc i) all = free_at xs i (and_parts (not (is_some x)) (none_open xs) all).1

pub all_free : (m : Meaning) → length m.seats ≡ seat_count → none_open m.seats ≡ true → AllFree m
all_free m size all = record { size = size; free = λ s _. free_at m.seats s all }

standing_open : (part : Option Open) → says_free (Ok (standing_in part)) ≡ not (is_some part)
standing_open None = refl
standing_open (Some o) = open_is_not_free (is_busy o)
  where
    open_is_not_free : (b : Bool) → says_free (Ok (cond b Busy Ready)) ≡ false
    open_is_not_free true = refl
    open_is_not_free false = refl

-- a list of seats has none open where each place in turn, from a on, passes a test that says so
none_open_by : (test : ℕ → Bool) (a : ℕ) (xs : List (Option Open)) → ((i k : ℕ) → k ≡ a + i → i < length xs → test k ≡ not (is_some (get_or xs i None))) → list_all test (range_with_len a (length xs)) ≡ none_open xs
none_open_by test a [] says = refl
none_open_by test a (x ∷ xs) says = (λ j. says 0 a (omega arith) (omega arith) j && none_open_by test (a + 1) xs (λ i k is within. says (suc i) k (omega (arith, is)) (omega arith)) j)

says_of_seat : (m : Meaning) (s : ℕ) → s < seat_count → says_free (seat_standing m s) ≡ not (is_some (seat_part m s))
says_of_seat m s within = ap says_free (cond-false (leb seat_count s) _ _ (lt-leb seat_count s within)) ∙ standing_open (seat_part m s)

-- all seats say that they are free exactly where none is open
pub all_say_free : (m : Meaning) → length m.seats ≡ seat_count → list_all (λ s. says_free (seat_standing m s)) (range_with_len 0 seat_count) ≡ none_open m.seats
all_say_free m size =
    ap (λ (n : ℕ). list_all (λ s. says_free (seat_standing m s)) (range_with_len 0 n)) (sym size)
    ∙ none_open_by (λ s. says_free (seat_standing m s)) 0 m.seats (λ i k is within. says_of_seat m k (omega (arith, is, size)) ∙ ap (λ (j : ℕ). not (is_some (seat_part m j))) (omega (arith, is)))
