-- Each call keeps the relation between meaning and history.
use Rattle.std.proofs.Common.{◌≡◌, ℕ, ◌+◌, ◌<◌, ◌≤◌, Bool, eqb, List, ◌∷◌, get_or, Some, None, Option, unwrap_or, sym, refl, ap, ◌∙◌, subst, inl, inr, ⊎_elim, arith}
use Rattle.std.proofs.lemmas.Option.{none-some, same_Some}
use Rattle.std.proofs.lemmas.Bool.{cond-true, eq-eqb}
use Rattle.book.specs.declared.call.Call.TheVariants as calls
use Rattle.book.specs.Calls.{seat_of}
use Rattle.book.specs.Effects.{committed, MaySee, onward, tells, with_seat}
use Rattle.book.specs.Histories.{counted, ended, Event, Heard, History, last_made, made, made_number, moved, opened, opened_number, put, steps_taken, told}
use Rattle.book.specs.Law.{made_count, one_if_made}
use Rattle.book.specs.Meaning.{ending, getting, made as made-sight, Meaning, nothing, Open, opening, putting, Request, Sight, view}
use Rattle.book.specs.Replays.{base, made_as, opened_as, puts_of, snapshot, Start, worked_answer, worked_get, worked_told}
use Rattle.book.specs.Sizes.{seat_count}
use Rattle.book.specs.Transactions.{current, going_on, place, Transaction, with_asked}
use Rattle.book.specs.Writes.{applied, CellValue, with_put, Write, written}
use Rattle.book.proofs.Extensions.{Extension, fixed_stays, making_event, opening_event, quiet, sees_stays, told_base}
use Rattle.book.proofs.Growing.{Grown, grown}
use Rattle.book.proofs.Places.{current_same, number_given, number_quiet}
use Rattle.book.proofs.Snapshots.{snapshot_made}
use Rattle.book.proofs.Tied.{Fixed, MadeFact, PartTied, Sees, SeatTied, Tied}
use Rattle.book.proofs.WriteSets.{write_set, write_set-applied, write_set-written}

pub not_same_request : (x y : Request) (r : Option Request) → r ≡ Some x → r ≡ Some y → (x ≡ y → ⊥) → ⊥
not_same_request x y r p q apart = apart (cc)

-- an event that opens and makes nothing, on a book whose cells and number stay
pub quiet_grown : (bound : ℕ) (start : Start) (e : Event) (h : History) (m m' : Meaning) (part : Option Open) → Tied bound start h m → opened_number e.hears ≡ None → made_number e.hears ≡ None → m'.number ≡ m.number → m'.cells ≡ m.cells → PartTied bound start (e ∷ h) (seat_of e.call) (current (seat_of e.call) (e ∷ h)) part → steps_taken (seat_of e.call) (e ∷ h) ≤ bound → ((t : Transaction) → e.hears ≡ told → current (seat_of e.call) h ≡ Some t → (w : ℕ) × Fixed start (e ∷ h) (place t) w) → Grown bound start e h m' (seat_of e.call) part
quiet_grown bound start e h m m' part tied opens-none makes_none number cells own few tolds =
    let n0 = start.number in
    let x = quiet start e h opens-none makes_none in
    let last : last_made n0 (e ∷ h) ≡ last_made n0 h = ap (λ (y : Option ℕ). unwrap_or y (last_made n0 h)) makes_none in
    let count : made_count (e ∷ h) ≡ made_count h = ap (λ (y : Option ℕ). one_if_made y + made_count h) makes_none ∙ omega arith in
    record {
      extension = x;
      number = number ∙ tied.number ∙ sym last;
      rising = last ∙ tied.rising ∙ ap (λ (n : ℕ). n0 + n) (sym count);
      cells = cells ∙ tied.cells ∙ sym (x.snapshots (last_made n0 h) (omega arith)) ∙ ap (snapshot start (e ∷ h)) (sym last);
      own_seat = own;
      own_steps = few;
      new_told = tolds;
      new_made = λ p makes. absurd (none-some p (sym makes_none ∙ makes));
      new_opened = λ t v opens _. absurd (none-some v (sym opens-none ∙ opens));
    }

-- the transaction of an open seat
pub open_seat : (bound : ℕ) (start : Start) (h : History) (s : ℕ) (t : Option Transaction) (o : Open) → PartTied bound start h s t (Some o) → (u : Transaction) × (t ≡ Some u) × SeatTied bound start h s u o
open_seat bound start h s None o p = absurd p
open_seat bound start h s (Some u) o p = (u, refl, p)

-- a transaction whose request is neither an opening nor an end has a view, and keeps it
pub view_stays : (start : Start) (e : Event) (h : History) (t : Transaction) (r : Option Request) (ps : List Write) (sight : Sight) → Extension start e h → opened_as (place t) (e ∷ h) ≡ opened_as (place t) h → made_as (place t) (e ∷ h) ≡ made_as (place t) h → (t.asks ≡ Some opening → ⊥) → (t.asks ≡ Some ending → ⊥) → (r ≡ Some opening → ⊥) → Sees start h t sight → Sees start (e ∷ h) (record { before = t.before; kind = t.kind; asks = r; puts = ps }) sight
view_stays start e h t r ps nothing x on mn not_opening not_ending new sees = absurd (not_opening sees.asks_opening)
view_stays start e h t r ps (view v cells) x on mn not_opening not_ending new sees = record {
  opens = ⊎_elim (λ a. absurd (not_opening a.0)) (λ b. inr (new, on ∙ b.1)) sees.opens;
  makes_none = mn ∙ sees.makes_none;
  is_snapshot = sees.is_snapshot ∙ sym (x.snapshots v sees.till_now);
  since_opening = sees.since_opening;
  since_start = sees.since_start;
  till_now = omega (arith, sees.till_now, x.last);
}
view_stays start e h t r ps (made-sight p) x on mn not_opening not_ending new sees = absurd (not_ending sees.asks_ending)

-- a step of seat s, whose part is o and whose transaction is t
module _ (bound : ℕ) (start : Start) (h : History) (m : Meaning) (tied : Tied bound start h m) (s : ℕ) (o : Open) (t : Transaction) (is : current s h ≡ Some t) (seat : SeatTied bound start h s t o) (within : s < seat_count) where
  abbrev step : Heard → Event
  step hears = record { call = calls.Step s; hears = hears }

  now_at : (hears : Heard) → current s (step hears ∷ h) ≡ going_on (calls.Step s) hears h (Some t)
  now_at hears = current_same s (step hears) h (eq-eqb s s refl) ∙ ap (going_on (calls.Step s) hears h) is

  taken : (hears : Heard) → steps_taken s (step hears ∷ h) ≡ counted hears (steps_taken s h)
  taken hears = cond-true (eqb s s) (counted hears (steps_taken s h)) (steps_taken s h) (eq-eqb s s refl)

  last_is : m.number ≡ last_made start.number h
  last_is = tied.number

  late : start.number ≤ last_made start.number h
  late = omega (arith, tied.rising)

  -- the seat's part after a step that goes on
  abbrev Next : Option Request → List Write → Transaction
  Next r ps = record { before = t.before; kind = t.kind; asks = r; puts = ps }

  own_tied : (hears : Heard) (r : Option Request) (ps ws : List Write) (sight : Sight) (owed : ℕ) → counted hears (steps_taken s h) ≡ steps_taken s h + 1 → last_made start.number h ≤ last_made start.number (step hears ∷ h) → owed < o.owed → ws ≡ write_set ps → Sees start (step hears ∷ h) (Next r ps) sight → SeatTied bound start (step hears ∷ h) s (Next r ps) (record { kind = o.kind; request = r; sight = sight; writes = ws; owed = owed })
  own_tied hears r ps ws sight owed one last fewer writes sees = record {
    kinds = seat.kinds;
    requests = refl;
    writes = writes;
    begun = omega (arith, seat.begun, last);
    owes = omega (arith, seat.owes, taken hears, one);
    sees = sees;
  }

  few_after : (hears : Heard) → counted hears (steps_taken s h) ≡ steps_taken s h + 1 → 0 < o.owed → steps_taken s (step hears ∷ h) ≤ bound
  few_after hears one some = omega (arith, seat.owes, taken hears, one)

  -- moved
  moved_sees : (sight : Sight) → MaySee m o sight → Sees start (step moved ∷ h) t sight
  moved_sees sight (inl same) =
      let x = quiet start (step moved) h refl refl in
      subst (Sees start (step moved ∷ h) t) (sym same) (sees_stays bound start (step moved) h x t o.sight (number_quiet opened_number (place t) (step moved) h refl) (number_quiet made_number (place t) (step moved) h refl) seat.sees)
  moved_sees sight (inr (asks, none, latest)) =
      let x = quiet start (step moved) h refl refl in
      let saw = subst (Sees start h t) none seat.sees in
      subst (Sees start (step moved ∷ h) t) (sym latest) (record {
        opens = inl (seat.requests ∙ asks, number_quiet opened_number (place t) (step moved) h refl ∙ saw.opened_none);
        makes_none = number_quiet made_number (place t) (step moved) h refl ∙ saw.makes_none;
        is_snapshot = tied.cells ∙ ap (snapshot start h) (sym last_is) ∙ sym (x.snapshots m.number (omega (arith, last_is)));
        since_opening = omega (arith, seat.begun, last_is);
        since_start = omega (arith, late, last_is);
        till_now = omega (arith, last_is);
      })

  same_transaction : Some t ≡ Some (Next t.asks t.puts)
  same_transaction = refl

  pub tied_moved : (sight : Sight) → MaySee m o sight → (owed : ℕ) → owed < o.owed → (w : ℕ → Bool) → Tied bound start (step moved ∷ h) (with_seat m s (onward o o.request sight o.writes owed) w)
  tied_moved sight may owed fewer w =
      let part = onward o o.request sight o.writes owed in
      let own : SeatTied bound start (step moved ∷ h) s t (record { kind = o.kind; request = o.request; sight = sight; writes = o.writes; owed = owed }) = record {
        kinds = seat.kinds;
        requests = seat.requests;
        writes = seat.writes;
        begun = seat.begun;
        owes = omega (arith, seat.owes, taken moved);
        sees = moved_sees sight may;
      } in
      grown bound start (step moved) h m (with_seat m s part w) part tied
      (quiet_grown bound start (step moved) h m (with_seat m s part w) part tied refl refl refl refl (subst (λ u. PartTied bound start (step moved ∷ h) s u part) (sym (now_at moved)) own) (few_after moved refl (omega arith)) (λ u tells _. absurd (not_told tells)))
      refl within
    where
      not_told : moved ≡ told → ⊥
      not_told e = cc

  -- told
  pub told_number : (cell : ℕ) → o.request ≡ Some (getting cell) → (number : ℕ) (cells : List CellValue) → o.sight ≡ view number cells → Fixed start (step told ∷ h) (place t) number × (cells ≡ snapshot start h number) × (number ≤ last_made start.number h)
  told_number cell asks number cells saw =
      let x = quiet start (step told) h refl refl in
      let sees = subst (Sees start h t) saw seat.sees in
      let on : opened_as (place t) h ≡ Some number = ⊎_elim (λ a. absurd (not_same_request opening (getting cell) t.asks a.0 (seat.requests ∙ asks) (λ e. cc))) (λ b. b.1) sees.opens in
      (fixed_stays bound start (step told) h x (place t) number (record { opened_on = on; makes_next = inl sees.makes_none; since_start = sees.since_start; till_now = sees.till_now }), sees.is_snapshot, sees.till_now)

  not_opening : (r : Request) → o.request ≡ Some r → (opening ≡ r → ⊥) → t.asks ≡ Some opening → ⊥
  not_opening r asks apart e = not_same_request opening r t.asks e (seat.requests ∙ asks) apart

  not_ending : (r : Request) → o.request ≡ Some r → (ending ≡ r → ⊥) → t.asks ≡ Some ending → ⊥
  not_ending r asks apart e = not_same_request ending r t.asks e (seat.requests ∙ asks) apart

  none_asked : ◌≡◌ {A = Option Request} None (Some opening) → ⊥
  none_asked e = cc

  pub tied_told : (cell : ℕ) → o.request ≡ Some (getting cell) → (number : ℕ) (cells : List CellValue) → o.sight ≡ view number cells → (owed : ℕ) → owed < o.owed → (w : ℕ → Bool) → Tied bound start (step told ∷ h) (with_seat m s (onward o None o.sight o.writes owed) w)
  tied_told cell asks number cells saw owed fewer w =
      let x = quiet start (step told) h refl refl in
      let part = onward o None o.sight o.writes owed in
      let sees = view_stays start (step told) h t None t.puts o.sight x (number_quiet opened_number (place t) (step told) h refl) (number_quiet made_number (place t) (step told) h refl) (not_opening (getting cell) asks (λ e. cc)) (not_ending (getting cell) asks (λ e. cc)) none_asked seat.sees in
      grown bound start (step told) h m (with_seat m s part w) part tied
      (quiet_grown bound start (step told) h m (with_seat m s part w) part tied refl refl refl refl (subst (λ u. PartTied bound start (step told ∷ h) s u part) (sym (now_at told)) (own_tied told None t.puts o.writes o.sight owed refl x.last fewer seat.writes sees)) (few_after told refl (omega arith)) (λ u _ is-u. subst (λ (v : Transaction). (n : ℕ) × Fixed start (step told ∷ h) (place v) n) (same_Some _ _ (sym is ∙ is-u)) (number, (told_number cell asks number cells saw).0)))
      refl within

  -- what was told is what the replay works out
  pub told_is_worked : (cell : ℕ) → o.request ≡ Some (getting cell) → (number : ℕ) (cells : List CellValue) → o.sight ≡ view number cells → tells o cells cell ≡ worked_answer start (step told ∷ h) told (current s h)
  told_is_worked cell asks number cells saw =
      let x = quiet start (step told) h refl refl in
      let fact = told_number cell asks number cells saw in
      let same-snapshot : snapshot start (step told ∷ h) (base (step told ∷ h) t) ≡ cells = ap (snapshot start (step told ∷ h)) (told_base bound start (step told) h x t number fact.0) ∙ x.snapshots number fact.2 ∙ sym fact.1 in
      let own : written cell o.writes ≡ written cell t.puts = ap (written cell) seat.writes ∙ write_set-written cell t.puts in
      (λ i. unwrap_or (own i) (get_or (sym same-snapshot i) cell 0)) ∙ ap (worked_get start (step told ∷ h) t) (sym (seat.requests ∙ asks)) ∙ ap (worked_told start (step told ∷ h)) (sym is)

  -- put
  pub tied_put : (p : Write) → o.request ≡ Some (putting p) → (owed : ℕ) → owed < o.owed → (w : ℕ → Bool) → Tied bound start (step put ∷ h) (with_seat m s (onward o None o.sight (with_put p o.writes) owed) w)
  tied_put p asks owed fewer w =
      let x = quiet start (step put) h refl refl in
      let part = onward o None o.sight (with_put p o.writes) owed in
      let now-puts : with_asked t.asks t.puts ≡ p ∷ t.puts = ap (λ (r : Option Request). with_asked r t.puts) (seat.requests ∙ asks) in
      let now-t : current s (step put ∷ h) ≡ Some (Next None (p ∷ t.puts)) = now_at put ∙ ap (λ (ps : List Write). Some (Next None ps)) now-puts in
      let sees = view_stays start (step put) h t None (p ∷ t.puts) o.sight x (number_quiet opened_number (place t) (step put) h refl) (number_quiet made_number (place t) (step put) h refl) (not_opening (putting p) asks (λ e. cc)) (not_ending (putting p) asks (λ e. cc)) none_asked seat.sees in
      grown bound start (step put) h m (with_seat m s part w) part tied
      (quiet_grown bound start (step put) h m (with_seat m s part w) part tied refl refl refl refl (subst (λ u. PartTied bound start (step put ∷ h) s u part) (sym now-t) (own_tied put None (p ∷ t.puts) (with_put p o.writes) o.sight owed refl x.last fewer (ap (with_put p) seat.writes) sees)) (few_after put refl (omega arith)) (λ u tells _. absurd (not_told tells)))
      refl within
    where
      not_told : put ≡ told → ⊥
      not_told e = cc

  -- ended
  pub tied_ended : 0 < o.owed → (w : ℕ → Bool) → Tied bound start (step ended ∷ h) (with_seat m s None w)
  tied_ended some w =
      grown bound start (step ended) h m (with_seat m s None w) None tied
      (quiet_grown bound start (step ended) h m (with_seat m s None w) None tied refl refl refl refl (subst (λ u. PartTied bound start (step ended ∷ h) s u None) (sym (now_at ended)) tt) (few_after ended refl some) (λ u tells _. absurd (not_told tells)))
      refl within
    where
      not_told : ended ≡ told → ⊥
      not_told e = cc

  -- opened: the view that the seat has, or the latest cells
  record OpensOn (number : ℕ) (cells : List CellValue) : Type 0 where
    opened_none : opened_as (place t) h ≡ None
    makes_none : made_as (place t) h ≡ None
    is_snapshot : cells ≡ snapshot start h number
    since_opening : last_made start.number t.before ≤ number
    since_start : start.number ≤ number
    till_now : number ≤ last_made start.number h

  opens_on : o.request ≡ Some opening → (number : ℕ) (cells : List CellValue) → MaySee m o (view number cells) → OpensOn number cells
  opens_on asks number cells (inl same) =
      let sees = subst (Sees start h t) (sym same) seat.sees in
      record {
        opened_none = ⊎_elim (λ a. a.1) (λ b. absurd (b.0 (seat.requests ∙ asks))) sees.opens;
        makes_none = sees.makes_none;
        is_snapshot = sees.is_snapshot;
        since_opening = sees.since_opening;
        since_start = sees.since_start;
        till_now = sees.till_now;
      }
  opens_on asks number cells (inr (_, none, latest)) =
      let sees = subst (Sees start h t) none seat.sees in
      let n-is : number ≡ m.number = same_number latest in
      let c-is : cells ≡ m.cells = same_cells latest in
      record {
        opened_none = sees.opened_none;
        makes_none = sees.makes_none;
        is_snapshot = c-is ∙ tied.cells ∙ ap (snapshot start h) (sym (n-is ∙ last_is));
        since_opening = omega (arith, seat.begun, last_is, n-is);
        since_start = omega (arith, late, last_is, n-is);
        till_now = omega (arith, last_is, n-is);
      }
    where
      same_number : view number cells ≡ view m.number m.cells → number ≡ m.number
      same_number e = cc

      same_cells : view number cells ≡ view m.number m.cells → cells ≡ m.cells
      same_cells e = cc

  pub tied_opened : o.request ≡ Some opening → (number : ℕ) (cells : List CellValue) → MaySee m o (view number cells) → (owed : ℕ) → owed < o.owed → (w : ℕ → Bool) → Tied bound start (step (opened number) ∷ h) (with_seat m s (onward o None (view number cells) o.writes owed) w)
  tied_opened asks number cells may owed fewer w =
      let e = step (opened number) in
      let on = opens_on asks number cells may in
      let x = opening_event start e h t is on.opened_none refl in
      let part = onward o None (view number cells) o.writes owed in
      let sees : Sees start (e ∷ h) (Next None t.puts) (view number cells) = record {
        opens = inr (none_asked, number_given opened_number e h t number refl is);
        makes_none = number_quiet made_number (place t) e h refl ∙ on.makes_none;
        is_snapshot = on.is_snapshot ∙ sym (x.snapshots number on.till_now);
        since_opening = on.since_opening;
        since_start = on.since_start;
        till_now = on.till_now;
      } in
      grown bound start e h m (with_seat m s part w) part tied
      (record {
        extension = x;
        number = last_is;
        rising = tied.rising ∙ ap (λ (n : ℕ). start.number + n) (omega arith);
        cells = tied.cells ∙ sym (x.snapshots (last_made start.number h) (omega arith));
        own_seat = subst (λ u. PartTied bound start (e ∷ h) s u part) (sym (now_at (opened number))) (own_tied (opened number) None t.puts o.writes (view number cells) owed refl x.last fewer seat.writes sees);
        own_steps = few_after (opened number) refl (omega arith);
        new_told = λ u tells _. absurd (not_told tells);
        new_made = λ p makes. absurd (none-some p makes);
        new_opened = λ u v opens is-u. subst (λ (y : Transaction). (last_made start.number y.before ≤ v) × (v ≤ last_made start.number h)) (same_Some _ _ (sym is ∙ is-u)) (subst (λ (n : ℕ). (last_made start.number t.before ≤ n) × (n ≤ last_made start.number h)) (same_Some number v opens) (on.since_opening, on.till_now));
      })
      refl within
    where
      not_told : opened number ≡ told → ⊥
      not_told e = cc

  -- made
  pub tied_made : o.request ≡ Some ending → (cells : List CellValue) → o.sight ≡ view m.number cells → (owed : ℕ) → owed < o.owed → (w : ℕ → Bool) → Tied bound start (step (made (m.number + 1)) ∷ h) (committed m s o owed w)
  tied_made asks cells saw owed fewer w =
      let e = step (made (m.number + 1)) in
      let sees = subst (Sees start h t) saw seat.sees in
      let on : opened_as (place t) h ≡ Some m.number = ⊎_elim (λ a. absurd (not_same_request opening ending t.asks a.0 (seat.requests ∙ asks) (λ q. cc))) (λ b. b.1) sees.opens in
      let x = making_event start e h t m.number is sees.makes_none on refl refl last_is sees.since_start in
      let part = onward o (Some ending) (made-sight (m.number + 1)) o.writes owed in
      let gives = number_given made_number e h t (m.number + 1) refl is in
      let own : SeatTied bound start (e ∷ h) s t (record { kind = o.kind; request = Some ending; sight = made-sight (m.number + 1); writes = o.writes; owed = owed }) = record {
        kinds = seat.kinds;
        requests = seat.requests ∙ asks;
        writes = seat.writes;
        begun = omega (arith, seat.begun, last_is);
        owes = omega (arith, seat.owes, taken (made (m.number + 1)));
        sees = record { asks_ending = seat.requests ∙ asks; makes_this = gives };
      } in
      let new-cells : applied o.writes m.cells ≡ snapshot start (e ∷ h) (m.number + 1) =
      (λ i. applied (seat.writes i) ((tied.cells ∙ ap (snapshot start h) (sym last_is)) i)) ∙ write_set-applied t.puts (snapshot start h m.number) ∙ ap (λ u. applied (puts_of u) (snapshot start h m.number)) (sym is) ∙ sym (snapshot_made start e h m.number refl sees.since_start) in
      grown bound start e h m (committed m s o owed w) part tied
      (record {
        extension = x;
        number = refl;
        rising = omega (arith, last_is, tied.rising);
        cells = new-cells;
        own_seat = subst (λ u. PartTied bound start (e ∷ h) s u part) (sym (now_at (made (m.number + 1)))) own;
        own_steps = few_after (made (m.number + 1)) refl (omega arith);
        new_told = λ u tells _. absurd (not_told tells);
        new_made = λ p makes. (
          t,
          is,
          subst (λ (n : ℕ). MadeFact start (e ∷ h) h t n) (same_Some (m.number + 1) p makes) (record {
            counted_from_start = omega (arith, last_is, tied.rising);
            makes_once = gives;
            view_number = m.number;
            opened_on = x.opened_stays (place t) m.number on;
            follows = refl;
          }),
        );
        new_opened = λ u v opens _. absurd (none-some v opens);
      })
      refl within
    where
      not_told : made (m.number + 1) ≡ told → ⊥
      not_told q = cc

  -- what an opened and a made answer keep
  pub opened_extension : o.request ≡ Some opening → (number : ℕ) (cells : List CellValue) → MaySee m o (view number cells) → Extension start (step (opened number)) h
  opened_extension asks number cells may = opening_event start (step (opened number)) h t is (opens_on asks number cells may).opened_none refl

  pub made_extension : o.request ≡ Some ending → (cells : List CellValue) → o.sight ≡ view m.number cells → Extension start (step (made (m.number + 1))) h
  made_extension asks cells saw =
      let sees = subst (Sees start h t) saw seat.sees in
      let on : opened_as (place t) h ≡ Some m.number = ⊎_elim (λ a. absurd (not_same_request opening ending t.asks a.0 (seat.requests ∙ asks) (λ q. cc))) (λ b. b.1) sees.opens in
      making_event start (step (made (m.number + 1))) h t m.number is sees.makes_none on refl refl last_is sees.since_start
