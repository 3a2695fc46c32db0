-- Words and separators in a list of bytes.
use Rattle.std.proofs.Common.{◌≡◌, ℕ, ◌<◌, ◌≤◌, Bool, true, false, not, List, [], ◌∷◌, ◌++◌, length, drop, sym, ap, ⊎_elim, arith}
use Rattle.std.proofs.lemmas.List.{take_at}
use Rattle.std.proofs.lemmas.Bool.{cases_lt, eqb-true, false≢true}
use Rattle.std.proofs.lemmas.List.Sums.{prefix_len-drop_all, prefix_len-drop_no, prefix_len_stops}
use Rattle.std.specs.List.{AllByRecursion}
use Rattle.sheet.specs.Fields.{separator, word_length, word, starts_with}

-- bytes of which none parts fields
abbrev pub Solid : List ℕ → Type 0
Solid bs = AllByRecursion (λ b. separator b ≡ false) bs

pub word_length_front : (ds after : List ℕ) → Solid ds → word_length after ≡ 0 → word_length (ds ++ after) ≡ length ds
word_length_front [] after solid ends = ends
word_length_front (d ∷ ds) after solid ends = rw solid.0 (omega (arith, word_length_front ds after solid.1 ends))

pub word_front : (ds after : List ℕ) → Solid ds → word_length after ≡ 0 → word (ds ++ after) ≡ ds
word_front ds after solid ends = take_at ds after _ (sym (word_length_front ds after solid ends))

-- what follows a word does not go on with it
pub after_word : (bs : List ℕ) → word_length (drop (word_length bs) bs) ≡ 0
after_word bs =
    let p : ℕ → Bool = λ b. not (separator b) in
    let at : ℕ = word_length bs in
    ⊎_elim
    (λ (some : at < length bs). prefix_len-drop_no p bs at 0 some (prefix_len_stops p bs 0 some))
    (λ (none : length bs ≤ at). prefix_len-drop_all p bs at none)
    (cases_lt at (length bs))

pub starts_then : (b : ℕ) (bs : List ℕ) → starts_with b bs ≡ true → bs ≡ b ∷ drop 1 bs
starts_then b [] found = absurd (false≢true found)
starts_then b (x ∷ bs) found = ap (λ (y : ℕ). y ∷ bs) (eqb-true x b found)
