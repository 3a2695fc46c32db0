-- Accepted requests on the serial engine.
use Rattle.std.specs.Prelude.{◌≡◌, ℕ, ◌+◌, ◌<◌, ◌≤◌, true, false, not, ◌&&◌, List, [], map, length, set, is_some, Some, None, count_by, Option, ◌==◌, ◌≢◌, nat_le, slice_index_or, slice_set, refl}
use Rattle.std.proofs.Common.{inl, inr, sym, ap, ◌∙◌, arith, length-set}
use Rattle.std.proofs.lemmas.Bool.{cases_Bool, cond-false, cond-true, eqb-true, leb-false}
use Rattle.std.proofs.lemmas.Bool.Decides.{nat_tests}
use Rattle.book.specs.declared.call.Call.{Call}
use Rattle.book.specs.declared.call.Call.TheVariants as calls
use Rattle.book.specs.declared.call.Kind.{Kind}
use Rattle.book.specs.declared.call.Kind.TheVariants.{Reader, Writer}
use Rattle.book.specs.Calls.{end_refusal, has_made, is_busy, is_writer, numbers_taken, open_refusal, put_refusal, refusal_of, seat_of, seat_refusal, will_make}
use Rattle.book.specs.Effects.{Accepts}
use Rattle.book.specs.Meaning.{Meaning, Open, seat_part}
use Rattle.book.specs.Sizes.{max_number, seat_count}
use Rattle.book.specs.Writes.{CellValue}
use Rattle.book.specs.WriteSets.{entries, has_room}
use Rattle.book.proofs.Requests.{none_above}
use Rattle.serial.specs.declared.state.Stage.{Stage}
use Rattle.serial.specs.declared.state.Stage.TheVariants.{Ending, Getting, Made, Putting, Ready}
use Rattle.serial.specs.declared.state.State.{State}
use Rattle.serial.specs.declared.state.Turn.{Turn}
use Rattle.serial.specs.Moves.{Asked, asked_for, turn_at, waiting_at}
use Rattle.serial.specs.Rooms.{stage_room}
use Rattle.serial.specs.Seats.{part_with_turn, turn_of}
use Rattle.serial.specs.States.{has_turn, latest, meaning_of, stage_owed, stage_request, stage_sight, turn_part, waiting_part, with_turn}
use Rattle.serial.proofs.SeatLists.{count_set, goes_on, one, waits_now}
use Rattle.serial.specs.Laws.{Sound, part_is, seats_sized}

pub seat_place : (m : Meaning) (call : Call) → refusal_of m call ≡ None → (seat_of call < 8) × (seat_refusal m call ≡ None)
seat_place m call e = let parts = none_above (nat_le seat_count (seat_of call)) _ (seat_refusal m call) e in (leb-false seat_count (seat_of call) parts.0, parts.1)

-- the number of writers that will make, where one seat changes
pub taken_after : (m m' : Meaning) (s : ℕ) (part : Option Open) → length m.seats ≡ 8 → s < 8 → m'.seats ≡ slice_set m.seats s part → count_by will_make m'.seats + one (will_make (seat_part m s)) ≡ count_by will_make m.seats + one (will_make part)
taken_after m m' s part sized place effect = ap (λ (l : List (Option Open)). count_by will_make l + one (will_make (seat_part m s))) effect ∙ count_set will_make m.seats s part None (omega arith)

-- openings
free_part : (m : Meaning) (kind : Kind) (part : Option Open) → open_refusal m kind part ≡ None → (part ≡ None) × ((is_writer kind && nat_le max_number (numbers_taken m)) ≡ false)
free_part m kind None e = (refl, (none_above (is_writer kind && nat_le max_number (numbers_taken m)) _ None e).0)
free_part m kind (Some o) e = cc

no_turn : (st : State) (s : ℕ) (turn : Option Turn) → part_with_turn st (turn_of turn s) s ≡ None → has_turn turn s ≡ false
no_turn st s None e = refl
no_turn st s (Some t) e =
    elim (cases_Bool (t.seat == s)) [
      | inl on ↦ let q = ap (λ x. part_with_turn st x s) (sym (cond-true (t.seat == s) (Some t) None on)) ∙ e in cc
      | inr off ↦ off
    ]

writer_room : (kind : Kind) (taken : ℕ) → taken ≤ max_number → (is_writer kind && nat_le max_number taken) ≡ false → taken + one (will_make (waiting_part (Some kind))) ≤ max_number
writer_room Reader taken fits none = omega arith
writer_room Writer taken fits none = omega (arith, leb-false max_number taken none)

module _ (st : State) (sound : Sound st) (kind : Kind) (seat : ℕ) (none : refusal_of (meaning_of st) (calls.Open kind seat) ≡ None) where
  place : seat < 8
  place = (seat_place (meaning_of st) (calls.Open kind seat) none).0

  free : (seat_part (meaning_of st) seat ≡ None) × ((is_writer kind && nat_le max_number (numbers_taken (meaning_of st))) ≡ false)
  free = free_part (meaning_of st) kind (seat_part (meaning_of st) seat) (seat_place (meaning_of st) (calls.Open kind seat) none).1

  seats_after : (meaning_of (waiting_at st seat (Some kind))).seats ≡ slice_set (meaning_of st).seats seat (waiting_part (Some kind))
  seats_after = waits_now st.waiting st.number (latest st) st.turn seat (Some kind) (no_turn st seat st.turn (sym (part_is st sound.seats sound.within seat place) ∙ free.0))

  pub opening_waits : Accepts 2 (meaning_of st) (calls.Open kind seat) (meaning_of (waiting_at st seat (Some kind)))
  opening_waits = record {
    owed = 1;
    within = omega arith;
    effect = (λ i. record { cells = latest st; number = st.number; seats = seats_after i; waits = (meaning_of (waiting_at st seat (Some kind))).waits });
  }

  pub opening_sound : Sound (waiting_at st seat (Some kind))
  opening_sound = record {
    cells = sound.cells;
    count = sound.count;
    seats = length-set st.waiting seat (Some kind) ∙ sound.seats;
    within = sound.within;
    fits = sound.fits;
    room =
        let counts = taken_after (meaning_of st) (meaning_of (waiting_at st seat (Some kind))) seat (waiting_part (Some kind)) (seats_sized st sound.seats) place seats_after in
        let before : one (will_make (seat_part (meaning_of st) seat)) ≡ 0 = ap (λ p. one (will_make p)) free.0 in
        omega (arith, writer_room kind (numbers_taken (meaning_of st)) sound.room free.1);
  }

-- further requests
pub turn_found : (turn : Option Turn) (s : ℕ) (t : Turn) → turn_of turn s ≡ Some t → (turn ≡ Some t) × (t.seat ≡ s)
turn_found None s t e = cc
turn_found (Some u) s t e =
    elim (cases_Bool (u.seat == s)) [
      | inl on ↦ let q = sym (cond-true (u.seat == s) (Some u) None on) ∙ e in let at = eqb-true u.seat s on in (q, cc)
      | inr off ↦ let q = sym (cond-false (u.seat == s) (Some u) None off) ∙ e in cc
    ]

ready_stage : (stage : Stage) → is_some (stage_request stage) ≡ false → stage ≡ Ready
ready_stage Ready e = refl
ready_stage (Getting cell) e = cc
ready_stage (Putting write) e = cc
ready_stage Ending e = cc
ready_stage Made e = cc

owed_few : (stage : Stage) (kind : Kind) → stage_owed stage kind ≤ 2
owed_few Ready kind = omega arith
owed_few (Getting cell) kind = omega arith
owed_few (Putting write) kind = omega arith
owed_few Ending Reader = omega arith
owed_few Ending Writer = omega arith
owed_few Made kind = omega arith

idle_part : (part : Option Open) → end_refusal part ≡ None → (o : Open) × (part ≡ Some o) × (is_busy o ≡ false)
idle_part None e = cc
idle_part (Some o) e = (o, refl, (none_above (is_busy o) _ None e).0)

-- an idle seat has the turn, and its transaction is ready
idle_has_turn : (st : State) (s : ℕ) (turn : Option Turn) (o : Open) → part_with_turn st turn s ≡ Some o → is_busy o ≡ false → (t : Turn) × (turn ≡ Some t) × (t.stage ≡ Ready)
idle_has_turn st s None o e idle = absurd (waiting_busy (slice_index_or st.waiting s None) e)
  where
    waiting_busy : (k : Option Kind) → waiting_part k ≢ Some o
    waiting_busy None q = cc
    waiting_busy (Some kind) q = cc
idle_has_turn st s (Some t) o e idle = (t, refl, ready_stage t.stage (let is : turn_part t st.number (latest st) ≡ o = cc in ap is_busy is ∙ idle))

asked_part : (stage : Stage) (t : Turn) (n : ℕ) (cells : List CellValue) → t.stage ≡ Ready → has_made (stage_sight stage 0 []) ≡ false → Some (turn_part (record { seat = t.seat; kind = t.kind; stage = stage; writes = t.writes }) n cells) ≡ asked_for (stage_request stage) (stage_owed stage t.kind) (Some (turn_part t n cells))
asked_part Ready t n cells ready unmade = ap (λ (x : Stage). Some (turn_part (record { seat = t.seat; kind = t.kind; stage = x; writes = t.writes }) n cells)) (sym ready)
asked_part (Getting cell) t n cells ready unmade = ap (λ (x : Stage). asked_for (stage_request (Getting cell)) 1 (Some (turn_part (record { seat = t.seat; kind = t.kind; stage = x; writes = t.writes }) n cells))) (sym ready)
asked_part (Putting write) t n cells ready unmade = ap (λ (x : Stage). asked_for (stage_request (Putting write)) 1 (Some (turn_part (record { seat = t.seat; kind = t.kind; stage = x; writes = t.writes }) n cells))) (sym ready)
asked_part Ending t n cells ready unmade = ap (λ (x : Stage). asked_for (stage_request Ending) (stage_owed Ending t.kind) (Some (turn_part (record { seat = t.seat; kind = t.kind; stage = x; writes = t.writes }) n cells))) (sym ready)
asked_part Made t n cells ready unmade = cc

pub not_made : (stage : Stage) (n : ℕ) (cells : List CellValue) → has_made (stage_sight stage 0 []) ≡ has_made (stage_sight stage n cells)
not_made Ready n cells = refl
not_made (Getting cell) n cells = refl
not_made (Putting write) n cells = refl
not_made Ending n cells = refl
not_made Made n cells = refl

module _ (st : State) (sound : Sound st) (seat : ℕ) (stage : Stage) (none : refusal_of (meaning_of st) (calls.End seat) ≡ None) (unmade : has_made (stage_sight stage 0 []) ≡ false) where
  idle : (o : Open) × (seat_part (meaning_of st) seat ≡ Some o) × (is_busy o ≡ false)
  idle = idle_part (seat_part (meaning_of st) seat) (seat_place (meaning_of st) (calls.End seat) none).1

  at_place : seat < 8
  at_place = (seat_place (meaning_of st) (calls.End seat) none).0

  found : (t : Turn) × (turn_of st.turn seat ≡ Some t) × (t.stage ≡ Ready)
  found = idle_has_turn st seat (turn_of st.turn seat) idle.0 (sym (part_is st sound.seats sound.within seat at_place) ∙ idle.1) idle.2

  pub some_turn : turn_of st.turn seat ≡ None → ⊥
  some_turn e = let q = found.1 in cc

  module _ (t : Turn) (is : turn_of st.turn seat ≡ Some t) where
    abbrev next : Turn
    next = record { seat = t.seat; kind = t.kind; stage = stage; writes = t.writes }

    turn_is : (st.turn ≡ Some t) × (t.seat ≡ seat)
    turn_is = turn_found st.turn seat t is

    ready : t.stage ≡ Ready
    ready = let same : t ≡ found.0 = (let q = found.1 in cc) in ap (λ (x : Turn). x.stage) same ∙ found.2

    old_seats : (meaning_of st).seats ≡ with_turn (Some t) st.number (latest st) (map waiting_part st.waiting)
    old_seats = ap (λ x. with_turn x st.number (latest st) (map waiting_part st.waiting)) turn_is.0

    old_part : seat_part (meaning_of st) seat ≡ Some (turn_part t st.number (latest st))
    old_part = part_is st sound.seats sound.within seat at_place ∙ ap (λ x. part_with_turn st x seat) is

    new_part : Some (turn_part next st.number (latest st)) ≡ asked_for (stage_request stage) (stage_owed stage t.kind) (seat_part (meaning_of st) seat)
    new_part = asked_part stage t st.number (latest st) ready unmade ∙ ap (asked_for (stage_request stage) (stage_owed stage t.kind)) (sym old_part)

    seats_asked : (meaning_of (turn_at st next)).seats ≡ slice_set (meaning_of st).seats seat (Some (turn_part next st.number (latest st)))
    seats_asked = goes_on st.waiting st.number (latest st) t next st.number (latest st) refl ∙ (λ i. set (sym old_seats i) (turn_is.1 i) (Some (turn_part next st.number (latest st))))

    pub asks : Asked (meaning_of st) seat (stage_request stage) (meaning_of (turn_at st next))
    asks = record {
      owed = stage_owed stage t.kind;
      within = owed_few stage t.kind;
      effect = (λ i. record { cells = latest st; number = st.number; seats = (seats_asked ∙ ap (set (meaning_of st).seats seat) new_part) i; waits = (meaning_of (turn_at st next)).waits });
    }

    pub asks_sound : stage_room stage t.kind t.writes ≡ true → Sound (turn_at st next)
    asks_sound fits = record {
      cells = sound.cells;
      count = sound.count;
      seats = sound.seats;
      within = omega (arith, turn_is.1, at_place);
      fits = fits;
      room =
          let counts = taken_after (meaning_of st) (meaning_of (turn_at st next)) seat (Some (turn_part next st.number (latest st))) (seats_sized st sound.seats) at_place seats_asked in
          let same : will_make (seat_part (meaning_of st) seat) ≡ will_make (Some (turn_part next st.number (latest st))) = ap will_make old_part ∙ (λ i. is_writer t.kind && not ((ap (λ (x : Stage). has_made (stage_sight x st.number (latest st))) ready ∙ sym unmade ∙ not_made stage st.number (latest st)) i)) in
          omega (arith, sound.room, counts, ap one same);
    }

-- a put that is accepted finds room
room_left : (m : Meaning) (cell : ℕ) (o : Open) → put_refusal m cell (Some o) ≡ None → has_room cell o.writes ≡ true
room_left m cell o e = grind (arith, nat_tests)

pub put_fits : (st : State) → Sound st → (seat cell value : ℕ) → refusal_of (meaning_of st) (calls.Put seat cell value) ≡ None → (t : Turn) → turn_of st.turn seat ≡ Some t → has_room cell (entries t.writes) ≡ true
put_fits st sound seat cell value e t is =
    let place = seat_place (meaning_of st) (calls.Put seat cell value) e in
    let part = part_is st sound.seats sound.within seat place.0 ∙ ap (λ x. part_with_turn st x seat) is in
    room_left (meaning_of st) cell (turn_part t st.number (latest st)) (ap (put_refusal (meaning_of st) cell) (sym part) ∙ place.1)
