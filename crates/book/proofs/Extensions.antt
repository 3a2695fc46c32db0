-- What one more event keeps of everything that was before it.
use Rattle.std.proofs.Common.{◌≡◌, ℕ, ◌+◌, ◌≤◌, false, eqb, ◌⊎◌, List, [], ◌∷◌, ◌++◌, get_or, Some, None, Option, unwrap_or, sym, refl, ap, ◌∙◌, subst, inl, inr, ⊎_elim, arith}
use Rattle.std.proofs.lemmas.Option.{none-some, same_Some}
use Rattle.std.proofs.lemmas.Bool.{cases_eq, cond-false}
use Rattle.book.specs.Calls.{seat_of}
use Rattle.book.specs.Histories.{accepted, declined, earlier, ended, Event, Heard, History, last_made, made, made_number, moved, newest, opened, opened_number, put, steps_taken, told, waited}
use Rattle.book.specs.Meaning.{ending, getting, made as made-sight, nothing, Open, opening, putting, Request, Sight, view}
use Rattle.book.specs.Replays.{base, made_as, number_of, opened_as, runs_on, snapshot, Start, worked_answer, worked_by, worked_get}
use Rattle.book.specs.Transactions.{current, place, Transaction}
use Rattle.book.specs.Writes.{CellValue, written}
use Rattle.book.proofs.Places.{number_given, number_kept, number_quiet, places_apart}
use Rattle.book.proofs.Snapshots.{snapshot_kept, snapshot_quiet}
use Rattle.book.proofs.Tied.{Fixed, MadeFact, Sees, SeatTied, ToldFixed}

pub record Extension (start : Start) (e : Event) (h : History) : Type 0 where
  pub last : last_made start.number h ≤ last_made start.number (e ∷ h)
  pub snapshots : (p : ℕ) → p ≤ last_made start.number h → snapshot start (e ∷ h) p ≡ snapshot start h p
  pub opened_stays : (o n : ℕ) → opened_as o h ≡ Some n → opened_as o (e ∷ h) ≡ Some n
  pub made_stays : (o n : ℕ) → made_as o h ≡ Some n → made_as o (e ∷ h) ≡ Some n
  pub made_next : (o w : ℕ) → opened_as o h ≡ Some w → made_as o h ≡ None → (made_as o (e ∷ h) ≡ None) ⊎ (made_as o (e ∷ h) ≡ Some (w + 1))
  pub others_opened : (s : ℕ) (t : Transaction) → (seat_of e.call ≡ s → ⊥) → current s h ≡ Some t → opened_as (place t) (e ∷ h) ≡ opened_as (place t) h
  pub others_made : (s : ℕ) (t : Transaction) → (seat_of e.call ≡ s → ⊥) → current s h ≡ Some t → made_as (place t) (e ∷ h) ≡ made_as (place t) h

-- an answer that opens and makes nothing
pub quiet : (start : Start) (e : Event) (h : History) → opened_number e.hears ≡ None → made_number e.hears ≡ None → Extension start e h
quiet start e h opens-none makes_none = record {
  last = subst (λ (x : Option ℕ). last_made start.number h ≤ unwrap_or x (last_made start.number h)) (sym makes_none) (omega arith);
  snapshots = λ p _. snapshot_quiet start e h p makes_none;
  opened_stays = λ o n is. number_quiet opened_number o e h opens-none ∙ is;
  made_stays = λ o n is. number_quiet made_number o e h makes_none ∙ is;
  made_next = λ o w _ none. inl (number_quiet made_number o e h makes_none ∙ none);
  others_opened = λ s t _ _. number_quiet opened_number (place t) e h opens-none;
  others_made = λ s t _ _. number_quiet made_number (place t) e h makes_none;
}

-- a number that is given stays, if the event's own transaction had none
given_stays : (f : Heard → Option ℕ) (e : Event) (h : History) (t : Transaction) → current (seat_of e.call) h ≡ Some t → number_of f (place t) h ≡ None → (o n : ℕ) → number_of f o h ≡ Some n → number_of f o (e ∷ h) ≡ Some n
given_stays f e h t is none o n some =
    number_kept f o e h t is (λ same. none-some n (sym none ∙ ap (λ (x : ℕ). number_of f x h) same ∙ some)) ∙ some

-- an answer that opens
pub opening_event : (start : Start) (e : Event) (h : History) (t : Transaction) → current (seat_of e.call) h ≡ Some t → opened_as (place t) h ≡ None → made_number e.hears ≡ None → Extension start e h
opening_event start e h t is none makes_none = record {
  last = subst (λ (x : Option ℕ). last_made start.number h ≤ unwrap_or x (last_made start.number h)) (sym makes_none) (omega arith);
  snapshots = λ p _. snapshot_quiet start e h p makes_none;
  opened_stays = given_stays opened_number e h t is none;
  made_stays = λ o n is-n. number_quiet made_number o e h makes_none ∙ is-n;
  made_next = λ o w _ made_none. inl (number_quiet made_number o e h makes_none ∙ made_none);
  others_opened = λ s u apart is-u. number_kept opened_number (place u) e h t is (places_apart h (seat_of e.call) s t u apart is is-u);
  others_made = λ s u _ _. number_quiet made_number (place u) e h makes_none;
}

-- an answer that makes the number after the last
pub making_event : (start : Start) (e : Event) (h : History) (t : Transaction) (w : ℕ) → current (seat_of e.call) h ≡ Some t → made_as (place t) h ≡ None → opened_as (place t) h ≡ Some w → opened_number e.hears ≡ None → made_number e.hears ≡ Some (w + 1) → w ≡ last_made start.number h → start.number ≤ w → Extension start e h
making_event start e h t w is none on opens-none makes last since = record {
  last = subst (λ (x : Option ℕ). last_made start.number h ≤ unwrap_or x (last_made start.number h)) (sym makes) (omega arith);
  snapshots = λ p till. snapshot_kept start e h (w + 1) p makes (omega arith) (omega arith);
  opened_stays = λ o n is-n. number_quiet opened_number o e h opens-none ∙ is-n;
  made_stays = given_stays made_number e h t is none;
  made_next = λ o v on-v made_none.
      ⊎_elim
      (λ (same : place t ≡ o).
      let vs : v ≡ w = same_Some v w (sym on-v ∙ ap (λ (x : ℕ). opened_as x h) (sym same) ∙ on) in
      inr (ap (λ (x : ℕ). made_as x (e ∷ h)) (sym same) ∙ number_given made_number e h t (w + 1) makes is ∙ ap (λ (x : ℕ). Some (x + 1)) (sym vs)))
      (λ (apart : place t ≡ o → ⊥). inl (number_kept made_number o e h t is apart ∙ made_none))
      (cases_eq (place t) o);
  others_opened = λ s u _ _. number_quiet opened_number (place u) e h opens-none;
  others_made = λ s u apart is-u. number_kept made_number (place u) e h t is (places_apart h (seat_of e.call) s t u apart is is-u);
}

module _ (bound : ℕ) (start : Start) (e : Event) (h : History) (x : Extension start e h) where
  pub fixed_stays : (o w : ℕ) → Fixed start h o w → Fixed start (e ∷ h) o w
  fixed_stays o w f = record {
    opened_on = x.opened_stays o w f.opened_on;
    makes_next = ⊎_elim (λ none. x.made_next o w f.opened_on none) (λ some. inr (x.made_stays o (w + 1) some)) f.makes_next;
    since_start = f.since_start;
    till_now = omega (arith, f.till_now, x.last);
  }

  pub made_fact_stays : (old : History) (t : Transaction) (p : ℕ) → MadeFact start h old t p → MadeFact start (e ∷ h) old t p
  made_fact_stays old t p f = record {
    counted_from_start = f.counted_from_start;
    makes_once = x.made_stays (place t) p f.makes_once;
    view_number = f.view_number;
    opened_on = x.opened_stays (place t) f.view_number f.opened_on;
    follows = f.follows;
  }

  -- a transaction whose numbers and request stay sees what it saw
  pub sees_stays : (t : Transaction) (sight : Sight) → opened_as (place t) (e ∷ h) ≡ opened_as (place t) h → made_as (place t) (e ∷ h) ≡ made_as (place t) h → Sees start h t sight → Sees start (e ∷ h) t sight
  sees_stays t nothing on mn s = record { asks_opening = s.asks_opening; opened_none = on ∙ s.opened_none; makes_none = mn ∙ s.makes_none }
  sees_stays t (view v cells) on mn s = record {
    opens = ⊎_elim (λ a. inl (a.0, on ∙ a.1)) (λ b. inr (b.0, on ∙ b.1)) s.opens;
    makes_none = mn ∙ s.makes_none;
    is_snapshot = s.is_snapshot ∙ sym (x.snapshots v s.till_now);
    since_opening = s.since_opening;
    since_start = s.since_start;
    till_now = omega (arith, s.till_now, x.last);
  }
  sees_stays t (made-sight p) on mn s = record { asks_ending = s.asks_ending; makes_this = mn ∙ s.makes_this }

  -- a seat that the event is not on
  pub seat_stays : (s : ℕ) (t : Transaction) (o : Open) → (seat_of e.call ≡ s → ⊥) → eqb (seat_of e.call) s ≡ false → current s h ≡ Some t → SeatTied bound start h s t o → SeatTied bound start (e ∷ h) s t o
  seat_stays s t o apart off is tied = record {
    kinds = tied.kinds;
    requests = tied.requests;
    writes = tied.writes;
    begun = omega (arith, tied.begun, x.last);
    owes = subst (λ (n : ℕ). o.owed + n ≤ bound) (sym (cond-false (eqb (seat_of e.call) s) _ (steps_taken s h) off)) tied.owes;
    sees = sees_stays t o.sight (x.others_opened s t apart is) (x.others_made s t apart is) tied.sees;
  }

  -- what was worked out stays
  base_of : (g : History) (t : Transaction) (w : ℕ) → Fixed start g (place t) w → base g t ≡ w
  base_of g t w f =
      ⊎_elim
      (λ none. (λ i. runs_on (none i) (f.opened_on i)))
      (λ some. (λ i. runs_on (some i) (f.opened_on i)) ∙ omega arith)
      f.makes_next

  worked_get_stays : (t : Transaction) (r : Option Request) (w : ℕ) → Fixed start h (place t) w → worked_get start (e ∷ h) t r ≡ worked_get start h t r
  worked_get_stays t None w f = refl
  worked_get_stays t (Some opening) w f = refl
  worked_get_stays t (Some (getting cell)) w f =
      let cells : snapshot start (e ∷ h) (base (e ∷ h) t) ≡ snapshot start h (base h t) = ap (snapshot start (e ∷ h)) (base_of (e ∷ h) t w (fixed_stays (place t) w f)) ∙ x.snapshots w f.till_now ∙ ap (snapshot start h) (sym (base_of h t w f)) in
      ap (λ (l : List CellValue). unwrap_or (written cell t.puts) (get_or l cell 0)) cells
  worked_get_stays t (Some (putting p)) w f = refl
  worked_get_stays t (Some ending) w f = refl

  worked_answer_stays : (hears : Heard) (t : Option Transaction) → ((u : Transaction) → hears ≡ told → t ≡ Some u → (w : ℕ) × Fixed start h (place u) w) → worked_answer start (e ∷ h) hears t ≡ worked_answer start h hears t
  worked_answer_stays accepted t fixed = refl
  worked_answer_stays declined t fixed = refl
  worked_answer_stays waited t fixed = refl
  worked_answer_stays moved t fixed = refl
  worked_answer_stays (opened n) t fixed = refl
  worked_answer_stays told None fixed = refl
  worked_answer_stays told (Some u) fixed = let f = fixed u refl refl in worked_get_stays u u.asks f.0 f.1
  worked_answer_stays put t fixed = refl
  worked_answer_stays (made n) t fixed = refl
  worked_answer_stays ended t fixed = refl

  pub worked_stays : (part : History) → ToldFixed start h part → worked_by start (e ∷ h) part ≡ worked_by start h part
  worked_stays [] fixed = refl
  worked_stays (y ∷ old) fixed =
      let rest = worked_stays old (λ f older t happens. fixed f older t (earlier y old f older happens)) in
      let this = worked_answer_stays y.hears (current (seat_of y.call) old) (λ u tells is. fixed y old u (newest y old) tells is) in
      (λ i. rest i ++ (this i ∷ []))

  -- the number that a transaction of which something was told runs on
  pub told_base : (t : Transaction) (w : ℕ) → Fixed start (e ∷ h) (place t) w → base (e ∷ h) t ≡ w
  told_base t w f = base_of (e ∷ h) t w f
