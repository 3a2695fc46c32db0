-- The relation lasts through one more event, given what the event does to its own seat.
use Rattle.std.proofs.Common.{◌≡◌, ℕ, zero, suc, ◌+◌, ◌<◌, ◌≤◌, true, false, eqb, List, ◌∷◌, length, get_or, drop, set, Some, None, Option, sym, refl, ap, ◌∙◌, subst, ⊎_elim, arith}
use Rattle.std.proofs.lemmas.List.{get_or-set_other, get_or-set_same, length-set}
use Rattle.std.proofs.lemmas.Bool.{cases_Bool, cond-false, eqb-false, eqb-true}
use Rattle.book.specs.Calls.{seat_of}
use Rattle.book.specs.Histories.{earlier, Event, History, last_made, made_number, newest, opened_number, steps_taken, told}
use Rattle.book.specs.Law.{made_count}
use Rattle.book.specs.Meaning.{Meaning, Open, seat_part}
use Rattle.book.specs.Replays.{snapshot, Start}
use Rattle.book.specs.Sizes.{seat_count}
use Rattle.book.specs.Transactions.{current, place, Transaction}
use Rattle.book.proofs.Extensions.{Extension, fixed_stays, made_fact_stays, seat_stays}
use Rattle.book.proofs.Places.{current_other}
use Rattle.book.proofs.Tied.{Fixed, MadeFact, MadeFacts, OpenedFacts, PartTied, Tied, ToldFixed}

-- what has to be shown of one event, on the seat s
pub record Grown (bound : ℕ) (start : Start) (e : Event) (h : History) (m' : Meaning) (s : ℕ) (part : Option Open) : Type 0 where
  pub extension : Extension start e h
  pub number : m'.number ≡ last_made start.number (e ∷ h)
  pub rising : last_made start.number (e ∷ h) ≡ start.number + made_count (e ∷ h)
  pub cells : m'.cells ≡ snapshot start (e ∷ h) (last_made start.number (e ∷ h))
  pub own_seat : PartTied bound start (e ∷ h) s (current s (e ∷ h)) part
  pub own_steps : steps_taken s (e ∷ h) ≤ bound
  pub new_told : (t : Transaction) → e.hears ≡ told → current s h ≡ Some t → (w : ℕ) × Fixed start (e ∷ h) (place t) w
  pub new_made : (p : ℕ) → made_number e.hears ≡ Some p → (t : Transaction) × (current s h ≡ Some t) × MadeFact start (e ∷ h) h t p
  pub new_opened : (t : Transaction) (v : ℕ) → opened_number e.hears ≡ Some v → current s h ≡ Some t → (last_made start.number t.before ≤ v) × (v ≤ last_made start.number h)

module _ (bound : ℕ) (start : Start) (e : Event) (h : History) (m m' : Meaning) (part : Option Open) (tied : Tied bound start h m) where
  others_stay : (g : Extension start e h) (s : ℕ) → eqb (seat_of e.call) s ≡ false → (t : Option Transaction) (o : Option Open) → current s h ≡ t → PartTied bound start h s t o → PartTied bound start (e ∷ h) s t o
  others_stay g s off None None is p = tt
  others_stay g s off None (Some o) is p = p
  others_stay g s off (Some t) None is p = p
  others_stay g s off (Some t) (Some o) is p = seat_stays bound start e h g s t o (eqb-false (seat_of e.call) s off) off is p

  tolds : Grown bound start e h m' (seat_of e.call) part → ToldFixed start (e ∷ h) (e ∷ h)
  tolds g _ _ t (newest _ _) tells is = g.new_told t tells is
  tolds g f old t (earlier _ _ _ _ happens) tells is = let w = tied.told_fixed f old t happens tells is in (w.0, fixed_stays bound start e h g.extension (place t) w.0 w.1)

  mades : Grown bound start e h m' (seat_of e.call) part → MadeFacts start (e ∷ h) (e ∷ h)
  mades g _ _ p (newest _ _) makes = g.new_made p makes
  mades g f old p (earlier _ _ _ _ happens) makes = let w = tied.made_facts f old p happens makes in (w.0, w.1, made_fact_stays bound start e h g.extension old w.0 p w.2)

  openeds : Grown bound start e h m' (seat_of e.call) part → OpenedFacts start (e ∷ h)
  openeds g _ _ t v (newest _ _) opens is = g.new_opened t v opens is
  openeds g f old t v (earlier _ _ _ _ happens) opens is = tied.opened_facts f old t v happens opens is

  seat_tied : Grown bound start e h m' (seat_of e.call) part → seat_part m' (seat_of e.call) ≡ part → ((r : ℕ) → (r ≡ seat_of e.call → ⊥) → seat_part m' r ≡ seat_part m r) → (s : ℕ) → PartTied bound start (e ∷ h) s (current s (e ∷ h)) (seat_part m' s)
  seat_tied g own others s =
      ⊎_elim
      (λ (on : eqb (seat_of e.call) s ≡ true).
      subst (λ (r : ℕ). PartTied bound start (e ∷ h) r (current r (e ∷ h)) (seat_part m' r)) (eqb-true (seat_of e.call) s on) (subst (PartTied bound start (e ∷ h) (seat_of e.call) (current (seat_of e.call) (e ∷ h))) (sym own) g.own_seat))
      (λ (off : eqb (seat_of e.call) s ≡ false).
      subst (λ t. PartTied bound start (e ∷ h) s t (seat_part m' s)) (sym (current_other s e h off))
      (subst (PartTied bound start (e ∷ h) s (current s h)) (sym (others s (λ is. eqb-false (seat_of e.call) s off (sym is)))) (others_stay g.extension s off (current s h) (seat_part m s) refl (tied.seats s))))
      (cases_Bool (eqb (seat_of e.call) s))

  few : Grown bound start e h m' (seat_of e.call) part → (k s : ℕ) → steps_taken s (drop k (e ∷ h)) ≤ bound
  few g zero s =
      ⊎_elim
      (λ (on : eqb (seat_of e.call) s ≡ true). subst (λ (r : ℕ). steps_taken r (e ∷ h) ≤ bound) (eqb-true (seat_of e.call) s on) g.own_steps)
      (λ (off : eqb (seat_of e.call) s ≡ false). subst (λ (n : ℕ). n ≤ bound) (sym (cond-false (eqb (seat_of e.call) s) _ (steps_taken s h) off)) (tied.few_steps 0 s))
      (cases_Bool (eqb (seat_of e.call) s))
  few g (suc k) s = tied.few_steps k s

  -- given the parts of all seats afterwards
  pub grown_by : Grown bound start e h m' (seat_of e.call) part → length m'.seats ≡ seat_count → seat_part m' (seat_of e.call) ≡ part → ((r : ℕ) → (r ≡ seat_of e.call → ⊥) → seat_part m' r ≡ seat_part m r) → Tied bound start (e ∷ h) m'
  grown_by g size own others = record {
    number = g.number;
    rising = g.rising;
    cells = g.cells;
    size = size;
    seats = seat_tied g own others;
    told_fixed = tolds g;
    made_facts = mades g;
    opened_facts = openeds g;
    few_steps = few g;
  }

  -- given that one seat of the book has another part
  pub grown : Grown bound start e h m' (seat_of e.call) part → m'.seats ≡ set m.seats (seat_of e.call) part → seat_of e.call < seat_count → Tied bound start (e ∷ h) m'
  grown g effect within =
      grown_by g (ap length effect ∙ length-set m.seats (seat_of e.call) part ∙ tied.size)
      (ap (λ (l : List (Option Open)). get_or l (seat_of e.call) None) effect ∙ get_or-set_same m.seats (seat_of e.call) part None (omega (arith, tied.size)))
      (λ r apart. ap (λ (l : List (Option Open)). get_or l r None) effect ∙ get_or-set_other m.seats (seat_of e.call) r part None apart)
