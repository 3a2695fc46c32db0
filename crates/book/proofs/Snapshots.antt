-- Snapshots, as a history grows by one event: a commit adds one, and nothing changes one that was there.
use Rattle.std.proofs.Common.{◌≡◌, ℕ, zero, suc, ◌+◌, ◌-◌, ◌<◌, ◌≤◌, false, ◌∷◌, Some, None, sym, refl, ap, ◌∙◌, arith}
use Rattle.std.proofs.lemmas.Bool.{cond-false, cond-true, eq-eqb, ne_eqb}
use Rattle.book.specs.Calls.{seat_of}
use Rattle.book.specs.Histories.{Event, History, made_number}
use Rattle.book.specs.Replays.{is_number, puts_made, puts_of, snapshot, snapshot_after, Start}
use Rattle.book.specs.Transactions.{current}
use Rattle.book.specs.Writes.{applied}

puts_made_other : (p : ℕ) (e : Event) (h : History) → is_number p (made_number e.hears) ≡ false → puts_made p (e ∷ h) ≡ puts_made p h
puts_made_other p e h other = cond-false (is_number p (made_number e.hears)) _ _ other

after_same : (start : Start) (h g : History) (k : ℕ) → ((j : ℕ) → 0 < j → j ≤ k → puts_made (start.number + j) g ≡ puts_made (start.number + j) h) → snapshot_after start g k ≡ snapshot_after start h k
after_same start h g zero same = refl
after_same start h g (suc k) same = (λ i. applied (same (suc k) (omega arith) (omega arith) i) (after_same start h g k (λ j some few. same j some (omega arith)) i))

-- an answer that makes nothing leaves all snapshots
pub snapshot_quiet : (start : Start) (e : Event) (h : History) (p : ℕ) → made_number e.hears ≡ None → snapshot start (e ∷ h) p ≡ snapshot start h p
snapshot_quiet start e h p quiet = after_same start h (e ∷ h) (p - start.number) (λ j _ _. puts_made_other (start.number + j) e h (ap (is_number (start.number + j)) quiet))

-- a commit leaves the snapshots before it
pub snapshot_kept : (start : Start) (e : Event) (h : History) (q p : ℕ) → made_number e.hears ≡ Some q → start.number < q → p < q → snapshot start (e ∷ h) p ≡ snapshot start h p
snapshot_kept start e h q p makes late below = after_same start h (e ∷ h) (p - start.number) (λ j some few. puts_made_other (start.number + j) e h (ap (is_number (start.number + j)) makes ∙ ne_eqb q (start.number + j) (λ is. omega arith)))

-- and its own is the one before it with the puts of its writer
pub snapshot_made : (start : Start) (e : Event) (h : History) (p : ℕ) → made_number e.hears ≡ Some (p + 1) → start.number ≤ p → snapshot start (e ∷ h) (p + 1) ≡ applied (puts_of (current (seat_of e.call) h)) (snapshot start h p)
snapshot_made start e h p makes late =
    let next : (p + 1) - start.number ≡ suc (p - start.number) = omega arith in
    let is : start.number + suc (p - start.number) ≡ p + 1 = omega arith in
    let own : puts_made (start.number + suc (p - start.number)) (e ∷ h) ≡ puts_of (current (seat_of e.call) h) = cond-true (is_number (start.number + suc (p - start.number)) (made_number e.hears)) _ _ (ap (is_number (start.number + suc (p - start.number))) makes ∙ eq-eqb (p + 1) _ (sym is)) in
    ap (snapshot_after start (e ∷ h)) next ∙ (λ i. applied (own i) (snapshot_kept start e h (p + 1) p makes (omega arith) (omega arith) i))
