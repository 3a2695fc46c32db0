-- Declined calls, waits and accepted requests keep the relation between meaning and history.
use Rattle.std.proofs.Common.{◌≡◌, ℕ, ◌+◌, ◌<◌, ◌≤◌, Bool, true, false, cond, eqb, leb, [], ◌∷◌, length, set, is_some, Some, None, Option, sym, refl, ap, ◌∙◌, subst, arith}
use Rattle.std.proofs.lemmas.Option.{same_Some}
use Rattle.std.proofs.lemmas.Bool.{cond-true, eq-eqb, false≢true, leb-false, true≢false}
use Rattle.book.specs.declared.call.Call.{Call}
use Rattle.book.specs.declared.call.Call.TheVariants as calls
use Rattle.book.specs.declared.refusal.Refusal.{Refusal}
use Rattle.book.specs.Calls.{end_refusal, get_refusal, if_then, is_busy, is_request, put_refusal, refusal_of, seat_of, seat_refusal}
use Rattle.book.specs.Effects.{Accepts, asked}
use Rattle.book.specs.Histories.{accepted, counted, declined, Event, History, last_made, made_number, opened_number, steps_taken, told, waited}
use Rattle.book.specs.Meaning.{ending, getting, Meaning, nothing, Open, opening, putting, Request, seat_part}
use Rattle.book.specs.Replays.{Start}
use Rattle.book.specs.Sizes.{seat_count}
use Rattle.book.specs.Transactions.{asking, current, going_on, place, Transaction}
use Rattle.book.proofs.Acts.{open_seat, quiet_grown, view_stays}
use Rattle.book.proofs.Extensions.{quiet, sees_stays}
use Rattle.book.proofs.Growing.{grown, grown_by}
use Rattle.book.proofs.Places.{current_same, number_fresh, number_quiet}
use Rattle.book.proofs.Tied.{PartTied, Sees, SeatTied, Tied}
use Rattle.book.proofs.WriteSets.{write_set}

-- a table's line that meets nothing
pub none_above : (b : Bool) (r : Refusal) (x : Option Refusal) → if_then b r x ≡ None → (b ≡ false) × (x ≡ None)
none_above true r x e = absurd cc
none_above false r x e = (refl, e)

pub seat_within : (m : Meaning) (call : Call) → refusal_of m call ≡ None → seat_of call < seat_count
seat_within m call e = leb-false seat_count (seat_of call) (none_above (leb seat_count (seat_of call)) _ (seat_refusal m call) e).0

-- an event after which the seat's transaction and its steps are as they were
module _ (bound : ℕ) (start : Start) (h : History) (m : Meaning) (tied : Tied bound start h m) (e : Event) (opens-none : opened_number e.hears ≡ None) (makes_none : made_number e.hears ≡ None) (not_told : e.hears ≡ told → ⊥) (same-t : (u : Option Transaction) → going_on e.call e.hears h u ≡ u) (same-n : (n : ℕ) → counted e.hears n ≡ n) where
  cond_both_same : {X : Type 0} (b : Bool) (x y : X) → x ≡ y → cond b x y ≡ y
  cond_both_same true x y p = p
  cond_both_same false x y p = refl

  same_current : (r : ℕ) → current r (e ∷ h) ≡ current r h
  same_current r = cond_both_same (eqb (seat_of e.call) r) (going_on e.call e.hears h (current r h)) (current r h) (same-t (current r h))

  same_taken : (r : ℕ) → steps_taken r (e ∷ h) ≡ steps_taken r h
  same_taken r = cond_both_same (eqb (seat_of e.call) r) (counted e.hears (steps_taken r h)) (steps_taken r h) (same-n (steps_taken r h))

  part_stays : (r : ℕ) (u : Option Transaction) (o : Option Open) → PartTied bound start h r u o → PartTied bound start (e ∷ h) r u o
  part_stays r None None p = tt
  part_stays r None (Some o) p = p
  part_stays r (Some u) None p = p
  part_stays r (Some u) (Some o) p =
      let x = quiet start e h opens-none makes_none in
      record {
        kinds = p.kinds;
        requests = p.requests;
        writes = p.writes;
        begun = omega (arith, p.begun, x.last);
        owes = subst (λ (n : ℕ). o.owed + n ≤ bound) (sym (same_taken r)) p.owes;
        sees = sees_stays bound start e h x u o.sight (number_quiet opened_number (place u) e h opens-none) (number_quiet made_number (place u) e h makes_none) p.sees;
      }

  pub tied_still : Tied bound start (e ∷ h) m
  tied_still =
      let here = seat_of e.call in
      let part = seat_part m here in
      grown_by bound start e h m m part tied
      (quiet_grown bound start e h m m part tied opens-none makes_none refl refl (subst (λ u. PartTied bound start (e ∷ h) here u part) (sym (same_current here)) (part_stays here (current here h) part (tied.seats here))) (subst (λ (n : ℕ). n ≤ bound) (sym (same_taken here)) (tied.few_steps 0 here)) (λ u tells _. absurd (not_told tells)))
      tied.size refl (λ _ _. refl)

pub tied_declined : (bound : ℕ) (start : Start) (h : History) (m : Meaning) → Tied bound start h m → (call : Call) → Tied bound start (record { call = call; hears = declined } ∷ h) m
tied_declined bound start h m tied call = tied_still bound start h m tied (record { call = call; hears = declined }) refl refl (λ e. cc) (λ _. refl) (λ _. refl)

pub tied_waited : (bound : ℕ) (start : Start) (h : History) (m : Meaning) → Tied bound start h m → (s : ℕ) → Tied bound start (record { call = calls.Step s; hears = waited } ∷ h) m
tied_waited bound start h m tied s = tied_still bound start h m tied (record { call = calls.Step s; hears = waited }) refl refl (λ e. cc) (λ _. refl) (λ _. refl)

-- a free seat has no transaction, and an open one has its own
free_seat : (bound : ℕ) (start : Start) (h : History) (s : ℕ) (u : Option Transaction) → PartTied bound start h s u None → u ≡ None
free_seat bound start h s None p = refl
free_seat bound start h s (Some u) p = absurd p

module _ (bound : ℕ) (start : Start) (h : History) (m : Meaning) (tied : Tied bound start h m) (call : Call) (within : seat_of call < seat_count) where
  abbrev asks_event : Event
  asks_event = record { call = call; hears = accepted }

  here_now : current (seat_of call) (asks_event ∷ h) ≡ going_on call accepted h (current (seat_of call) h)
  here_now = current_same (seat_of call) asks_event h (eq-eqb (seat_of call) (seat_of call) refl)

  none_taken : steps_taken (seat_of call) (asks_event ∷ h) ≡ 0
  none_taken = cond-true (eqb (seat_of call) (seat_of call)) 0 (steps_taken (seat_of call) h) (eq-eqb (seat_of call) (seat_of call) refl)

  accepted_tied : (m' : Meaning) (part : Option Open) → m'.number ≡ m.number → m'.cells ≡ m.cells → m'.seats ≡ set m.seats (seat_of call) part → PartTied bound start (asks_event ∷ h) (seat_of call) (going_on call accepted h (current (seat_of call) h)) part → Tied bound start (asks_event ∷ h) m'
  accepted_tied m' part number cells seats own =
      grown bound start asks_event h m m' part tied
      (quiet_grown bound start asks_event h m m' part tied refl refl number cells (subst (λ u. PartTied bound start (asks_event ∷ h) (seat_of call) u part) (sym here_now) own) (omega (arith, none_taken)) (λ u tells _. absurd (not_told tells)))
      seats within
    where
      not_told : accepted ≡ told → ⊥
      not_told e = cc

  -- a new transaction
  fresh_tied : (o : Open) → (t : Transaction) → t.before ≡ h → t.asks ≡ Some opening → t.puts ≡ [] → t.kind ≡ o.kind → o.request ≡ Some opening → o.sight ≡ nothing → o.writes ≡ [] → o.owed ≤ bound → SeatTied bound start (asks_event ∷ h) (seat_of call) t o
  fresh_tied o t before asks puts kinds request sight writes owed = record {
    kinds = kinds;
    requests = asks ∙ sym request;
    writes = writes ∙ ap write_set (sym puts);
    begun = subst (λ (g : History). last_made start.number g ≤ last_made start.number h) (sym before) (omega arith);
    owes = omega (arith, none_taken);
    sees = subst (Sees start (asks_event ∷ h) t) (sym sight) (record {
      asks_opening = asks;
      opened_none = number_quiet opened_number (place t) asks_event h refl ∙ number_fresh opened_number (place t) h (omega (arith, ap length before));
      makes_none = number_quiet made_number (place t) asks_event h refl ∙ number_fresh made_number (place t) h (omega (arith, ap length before));
    });
  }

  -- a further request of an open transaction that has no unanswered one
  further_tied : (t : Transaction) (o : Open) (r : Request) (owed : ℕ) → (r ≡ opening → ⊥) → is_busy o ≡ false → owed ≤ bound → SeatTied bound start h (seat_of call) t o → SeatTied bound start (asks_event ∷ h) (seat_of call) (record { before = t.before; kind = t.kind; asks = Some r; puts = t.puts }) (record { kind = o.kind; request = Some r; sight = o.sight; writes = o.writes; owed = owed })
  further_tied t o r owed not_opening idle few seat =
      let x = quiet start asks_event h refl refl in
      record {
        kinds = seat.kinds;
        requests = refl;
        writes = seat.writes;
        begun = seat.begun;
        owes = omega (arith, none_taken);
        sees = view_stays start asks_event h t (Some r) t.puts o.sight x (number_quiet opened_number (place t) asks_event h refl) (number_quiet made_number (place t) asks_event h refl) (busy_not opening) (busy_not ending) (λ e. not_opening (same_Some r opening e)) seat.sees;
      }
    where
      busy_not : (q : Request) → t.asks ≡ Some q → ⊥
      busy_not q e = true≢false (sym (ap is_some (sym seat.requests ∙ e)) ∙ idle)

  open_tied : (o : Open) (r : Request) (owed : ℕ) → seat_part m (seat_of call) ≡ Some o → is_busy o ≡ false → (r ≡ opening → ⊥) → owed ≤ bound → PartTied bound start (asks_event ∷ h) (seat_of call) (asking (Some r) (current (seat_of call) h)) (asked r owed (seat_part m (seat_of call)))
  open_tied o r owed part idle not_opening few =
      let found = open_seat bound start h (seat_of call) (current (seat_of call) h) o (subst (PartTied bound start h (seat_of call) (current (seat_of call) h)) part (tied.seats (seat_of call))) in
      subst (λ q. PartTied bound start (asks_event ∷ h) (seat_of call) (asking (Some r) q) (asked r owed (seat_part m (seat_of call)))) (sym found.1)
      (subst (λ q. PartTied bound start (asks_event ∷ h) (seat_of call) (asking (Some r) (Some found.0)) (asked r owed q)) (sym part) (further_tied found.0 o r owed not_opening idle few found.2))

-- a seat that may get, put or end is open and has no unanswered request
abbrev pub Idle : Option Open → Type 0
Idle part = (o : Open) × (part ≡ Some o) × (is_busy o ≡ false)

idle_get : (m : Meaning) (cell : ℕ) (part : Option Open) → get_refusal m cell part ≡ None → Idle part
idle_get m cell None e = absurd cc
idle_get m cell (Some o) e = (o, refl, (none_above (is_busy o) _ _ e).0)

idle_put : (m : Meaning) (cell : ℕ) (part : Option Open) → put_refusal m cell part ≡ None → Idle part
idle_put m cell None e = absurd cc
idle_put m cell (Some o) e = (o, refl, (none_above (is_busy o) _ _ e).0)

idle_end : (part : Option Open) → end_refusal part ≡ None → Idle part
idle_end None e = absurd cc
idle_end (Some o) e = (o, refl, (none_above (is_busy o) _ _ e).0)

seat_none : (m : Meaning) (call : Call) → refusal_of m call ≡ None → seat_refusal m call ≡ None
seat_none m call e = (none_above (leb seat_count (seat_of call)) _ (seat_refusal m call) e).1

pub tied_accepted : (bound : ℕ) (start : Start) (h : History) (m : Meaning) → Tied bound start h m → (call : Call) (m' : Meaning) → is_request call ≡ true → refusal_of m call ≡ None → Accepts bound m call m' → Tied bound start (record { call = call; hears = accepted } ∷ h) m'
tied_accepted bound start h m tied (calls.Open kind seat) m' asks none a =
    accepted_tied bound start h m tied (calls.Open kind seat) (seat_within m (calls.Open kind seat) none) m' _ (ap (λ (x : Meaning). x.number) a.effect) (ap (λ (x : Meaning). x.cells) a.effect) (ap (λ (x : Meaning). x.seats) a.effect)
    (fresh_tied bound start h m tied (calls.Open kind seat) (seat_within m (calls.Open kind seat) none) _ _ refl refl refl refl refl refl refl a.within)
tied_accepted bound start h m tied (calls.Get seat cell) m' asks none a =
    let call = calls.Get seat cell in
    let idle = idle_get m cell (seat_part m seat) (seat_none m call none) in
    accepted_tied bound start h m tied call (seat_within m call none) m' _ (ap (λ (x : Meaning). x.number) a.effect) (ap (λ (x : Meaning). x.cells) a.effect) (ap (λ (x : Meaning). x.seats) a.effect)
    (open_tied bound start h m tied call (seat_within m call none) idle.0 (getting cell) a.owed idle.1 idle.2 (λ e. cc) a.within)
tied_accepted bound start h m tied (calls.Put seat cell value) m' asks none a =
    let call = calls.Put seat cell value in
    let idle = idle_put m cell (seat_part m seat) (seat_none m call none) in
    accepted_tied bound start h m tied call (seat_within m call none) m' _ (ap (λ (x : Meaning). x.number) a.effect) (ap (λ (x : Meaning). x.cells) a.effect) (ap (λ (x : Meaning). x.seats) a.effect)
    (open_tied bound start h m tied call (seat_within m call none) idle.0 (putting (record { cell = cell; value = value })) a.owed idle.1 idle.2 (λ e. cc) a.within)
tied_accepted bound start h m tied (calls.End seat) m' asks none a =
    let call = calls.End seat in
    let idle = idle_end (seat_part m seat) (seat_none m call none) in
    accepted_tied bound start h m tied call (seat_within m call none) m' _ (ap (λ (x : Meaning). x.number) a.effect) (ap (λ (x : Meaning). x.cells) a.effect) (ap (λ (x : Meaning). x.seats) a.effect)
    (open_tied bound start h m tied call (seat_within m call none) idle.0 ending a.owed idle.1 idle.2 (λ e. cc) a.within)
tied_accepted bound start h m tied (calls.Step seat) m' asks none a = absurd (false≢true asks)
