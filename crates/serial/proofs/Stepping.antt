-- Steps of the serial engine.
use Rattle.std.specs.Prelude.{◌≡◌, ℕ, ◌+◌, ◌<◌, ◌≤◌, Bool, true, false, not, ◌&&◌, ◌⊎◌, List, [], ◌∷◌, map, get_or, set, is_some, Some, None, Option, slice_index_or, slice_set, refl}
use Rattle.std.proofs.Common.{length, inl, inr, sym, ap, subst, ◌∙◌, arith, length-set}
use Rattle.std.specs.List.{push}
use Rattle.book.specs.declared.answer.Word.{Word}
use Rattle.book.specs.declared.answer.Word.TheVariants as words
use Rattle.book.specs.declared.call.Call.TheVariants as calls
use Rattle.book.specs.declared.call.Kind.{Kind}
use Rattle.book.specs.declared.call.Kind.TheVariants.{Reader, Writer}
use Rattle.book.specs.declared.write_set.WriteSet.{WriteSet}
use Rattle.book.specs.Calls.{has_made, is_writer, numbers_taken, refusal_of, will_make}
use Rattle.book.specs.Effects as effects
use Rattle.book.specs.Effects.{committed, onward, Steps, tells, with_seat}
use Rattle.book.specs.Meaning.{Meaning, nothing, Open, opening, seat_part, Sight, view}
use Rattle.book.specs.Sizes.{max_cells}
use Rattle.book.specs.Writes.{applied, CellValue, with_put, Write}
use Rattle.book.specs.WriteSets.{entries}
use Rattle.fixed_vec.specs.Listed.{Listed, places}
use Rattle.fixed_vec.proofs.Places.{items_fit, places_stay}
use Rattle.serial.specs.declared.state.Stage.{Stage}
use Rattle.serial.specs.declared.state.Stage.TheVariants.{Ending, Getting, Made, Putting, Ready}
use Rattle.serial.specs.declared.state.State.{State}
use Rattle.serial.specs.declared.state.Turn.{Turn}
use Rattle.serial.specs.Moves.{committed_at, ended_at, ready_turn, SeatSteps, taken_at, turn_at, TurnSteps}
use Rattle.serial.specs.Rooms.{stage_room, turn_room}
use Rattle.serial.specs.Seats.{part_with_turn, turn_of}
use Rattle.serial.specs.States.{has_turn, latest, meaning_of, stage_owed, stage_request, stage_sight, turn_part, turn_seat, waiting_part, with_turn}
use Rattle.serial.proofs.Accepting.{seat_place, taken_after}
use Rattle.serial.proofs.SeatLists.{count_one, gives_up, goes_on, one, takes_turn}
use Rattle.serial.specs.Laws.{Sound, part_is, seats_sized, turn_goes_on, turn_has_part}

-- the last of the list is written first
applied_last : (ws : List Write) (w : Write) (cells : List CellValue) → applied (push ws w) cells ≡ applied ws (slice_set cells w.cell w.value)
applied_last [] w cells = refl
applied_last (v ∷ ws) w cells = ap (λ (l : List CellValue). slice_set l v.cell v.value) (applied_last ws w cells)

-- one more write is made, the last of those that were left
pub write_more : (left rest : List Write) (w : Write) (cells all : List CellValue) → left ≡ push rest w → applied left cells ≡ all → applied rest (slice_set cells w.cell w.value) ≡ all
write_more left rest w cells all last so_far = sym (applied_last rest w cells) ∙ ap (λ (ws : List Write). applied ws cells) (sym last) ∙ so_far

-- writes keep how many cells there are
applied_length : (ws : List Write) (cells : List CellValue) → length (applied ws cells) ≡ length cells
applied_length [] cells = refl
applied_length (w ∷ ws) cells = length-set (applied ws cells) w.cell w.value ∙ applied_length ws cells

-- a step, told by what was answered and by the state that it led to
pub steps_to : (m : Meaning) (seat : ℕ) (o : Open) (r answer : Word × ℕ) (st after : State) → r ≡ answer → st ≡ after → Steps m seat o answer.0 answer.1 (meaning_of after) → Steps m seat o r.0 r.1 (meaning_of st)
steps_to m seat o r answer st after told is steps = subst (λ (x : Word × ℕ). Steps m seat o x.0 x.1 (meaning_of st)) (sym told) (subst (λ (x : State). Steps m seat o answer.0 answer.1 (meaning_of x)) (sym is) steps)

module _ (st : State) (sound : Sound st) (t : Turn) (turn_is : st.turn ≡ Some t) where
  place : t.seat < 8
  place = omega (arith, sound.within, ap turn_seat turn_is)

  pub holder_part : seat_part (meaning_of st) t.seat ≡ Some (turn_part t st.number (latest st))
  holder_part = turn_has_part st sound t turn_is

  pub goes : (meaning_of st).waits t.seat ≡ false
  goes = turn_goes_on st sound t turn_is

  old_seats : (meaning_of st).seats ≡ with_turn (Some t) st.number (latest st) (map waiting_part st.waiting)
  old_seats = ap (λ x. with_turn x st.number (latest st) (map waiting_part st.waiting)) turn_is

  -- the turn's transaction at another stage
  on : (u : Turn) (n : ℕ) (cs : List CellValue) → u.seat ≡ t.seat → with_turn (Some u) n cs (map waiting_part st.waiting) ≡ slice_set (meaning_of st).seats t.seat (Some (turn_part u n cs))
  on u n cs same = goes_on st.waiting st.number (latest st) t u n cs same ∙ ap (λ (l : List (Option Open)). set l t.seat (Some (turn_part u n cs))) (sym old_seats)

  room_after : (st' : State) (p : Option Open) → (meaning_of st').seats ≡ slice_set (meaning_of st).seats t.seat p → st'.number + one (will_make p) ≤ st.number + one (will_make (Some (turn_part t st.number (latest st)))) → numbers_taken (meaning_of st') ≤ 2147483647
  room_after st' p effect fewer =
      let counts = taken_after (meaning_of st) (meaning_of st') t.seat p (seats_sized st sound.seats) place effect in
      let was : one (will_make (seat_part (meaning_of st) t.seat)) ≡ one (will_make (Some (turn_part t st.number (latest st)))) = ap (λ x. one (will_make x)) holder_part in
      omega (arith, sound.room, counts, was, fewer)

  -- a request that is answered: the transaction is ready again
  abbrev pub answered : WriteSet → State
  answered ws = turn_at st (ready_turn t ws)

  abbrev answered_turn : WriteSet → Turn
  answered_turn ws = record { seat = t.seat; kind = t.kind; stage = Ready; writes = ws }

  answered_is : (ws : WriteSet) (sight : Sight) (writes : List Write) → sight ≡ view st.number (latest st) → writes ≡ entries ws → with_seat (meaning_of st) t.seat (onward (turn_part t st.number (latest st)) None sight writes 0) (meaning_of (answered ws)).waits ≡ meaning_of (answered ws)
  answered_is ws sight writes saw wrote =
      let seats = on (answered_turn ws) st.number (latest st) refl in
      let parts : onward (turn_part t st.number (latest st)) None sight writes 0 ≡ Some (turn_part (answered_turn ws) st.number (latest st)) = (λ i. Some (record { kind = t.kind; request = None; sight = saw i; writes = wrote i; owed = 0 })) in
      (λ i. record { cells = latest st; number = st.number; seats = (ap (set (meaning_of st).seats t.seat) parts ∙ sym seats) i; waits = (meaning_of (answered ws)).waits })

  pub answered_sound : (ws : WriteSet) → has_made (stage_sight t.stage st.number (latest st)) ≡ false → Sound (answered ws)
  answered_sound ws unmade = record {
    cells = sound.cells;
    count = sound.count;
    seats = sound.seats;
    within = place;
    fits = refl;
    room = room_after (answered ws) (Some (turn_part (answered_turn ws) st.number (latest st))) (on (answered_turn ws) st.number (latest st) refl) (omega (arith, ap (λ (b : Bool). one (is_writer t.kind && not b)) unmade));
  }

  -- told
  pub tells_now : (cell : ℕ) → t.stage ≡ Getting cell → TurnSteps st t words.Told (tells (turn_part t st.number (latest st)) (latest st) cell) (answered t.writes)
  tells_now cell asked =
      let saw = ap (λ (x : Stage). stage_sight x st.number (latest st)) asked in
      subst (Steps (meaning_of st) t.seat (turn_part t st.number (latest st)) words.Told (tells (turn_part t st.number (latest st)) (latest st) cell)) (answered_is t.writes _ _ saw refl)
      (effects.tells_value goes cell (ap stage_request asked) st.number (latest st) saw 0 (omega (arith, ap (λ (x : Stage). stage_owed x t.kind) asked)) _)

  -- put
  pub puts_now : (write : Write) (ws : WriteSet) → t.stage ≡ Putting write → entries ws ≡ with_put write (entries t.writes) → TurnSteps st t words.Put 0 (answered ws)
  puts_now write ws asked wrote =
      subst (Steps (meaning_of st) t.seat (turn_part t st.number (latest st)) words.Put 0) (answered_is ws _ _ (ap (λ (x : Stage). stage_sight x st.number (latest st)) asked) (sym wrote))
      (effects.puts goes write (ap stage_request asked) 0 (omega (arith, ap (λ (x : Stage). stage_owed x t.kind) asked)) _)

  writer_is : (k : Kind) → is_writer k ≡ true → k ≡ Writer
  writer_is Reader e = cc
  writer_is Writer e = refl

  -- only writers make
  pub maker_writes : t.stage ≡ Made → t.kind ≡ Writer
  maker_writes at = writer_is t.kind (ap (λ (x : Stage). stage_room x t.kind t.writes) (sym at) ∙ ap turn_room (sym turn_is) ∙ sound.fits)

  owed_is : (stage : Stage) (kind : Kind) → t.stage ≡ stage → t.kind ≡ kind → stage_owed t.stage t.kind ≡ stage_owed stage kind
  owed_is stage kind at is = (λ i. stage_owed (at i) (is i))

  -- ended
  ended_seats : (meaning_of (ended_at st t.seat)).seats ≡ slice_set (meaning_of st).seats t.seat None
  ended_seats = gives_up st.waiting st.number (latest st) t ∙ ap (λ (l : List (Option Open)). set l t.seat None) (sym old_seats)

  ended_is : with_seat (meaning_of st) t.seat None (meaning_of (ended_at st t.seat)).waits ≡ meaning_of (ended_at st t.seat)
  ended_is = (λ i. record { cells = latest st; number = st.number; seats = sym ended_seats i; waits = (meaning_of (ended_at st t.seat)).waits })

  pub ended_sound : Sound (ended_at st t.seat)
  ended_sound = record {
    cells = sound.cells;
    count = sound.count;
    seats = length-set st.waiting t.seat None ∙ sound.seats;
    within = omega arith;
    fits = refl;
    room = room_after (ended_at st t.seat) None ended_seats (omega arith);
  }

  pub ends_now : ((t.stage ≡ Made) × (t.kind ≡ Writer)) ⊎ ((t.stage ≡ Ending) × (t.kind ≡ Reader)) → TurnSteps st t words.Ended st.number (ended_at st t.seat)
  ends_now (inl (at, kind)) =
      subst (Steps (meaning_of st) t.seat (turn_part t st.number (latest st)) words.Ended st.number) ended_is
      (effects.ends_writer goes (ap stage_request at) kind st.number (ap (λ (x : Stage). stage_sight x st.number (latest st)) at) (omega (arith, ap (λ (x : Stage). stage_owed x t.kind) at)) _)
  ends_now (inr (at, kind)) =
      subst (Steps (meaning_of st) t.seat (turn_part t st.number (latest st)) words.Ended st.number) ended_is
      (effects.ends_reader goes (ap stage_request at) kind st.number (latest st) (ap (λ (x : Stage). stage_sight x st.number (latest st)) at) (omega (arith, owed_is Ending Reader at kind)) _)

  -- made
  module _ (cells : Listed CellValue) (wrote : cells.items ≡ applied (entries t.writes) (latest st)) (rest : cells.spare ≡ st.cells.spare) (at : t.stage ≡ Ending) (kind : t.kind ≡ Writer) where
    abbrev made_turn : Turn
    made_turn = record { seat = t.seat; kind = t.kind; stage = Made; writes = t.writes }

    abbrev after : State
    after = committed_at st cells t

    made_seats : (meaning_of after).seats ≡ slice_set (meaning_of st).seats t.seat (Some (turn_part made_turn (st.number + 1) cells.items))
    made_seats = on made_turn (st.number + 1) cells.items refl

    made_is : committed (meaning_of st) t.seat (turn_part t st.number (latest st)) 1 (meaning_of after).waits ≡ meaning_of after
    made_is = (λ i. record { cells = sym wrote i; number = st.number + 1; seats = sym made_seats i; waits = (meaning_of after).waits })

    saw : stage_sight t.stage st.number (latest st) ≡ view st.number (latest st)
    saw = ap (λ (x : Stage). stage_sight x st.number (latest st)) at

    pub makes_now : TurnSteps st t words.Made (st.number + 1) after
    makes_now =
        subst (Steps (meaning_of st) t.seat (turn_part t st.number (latest st)) words.Made (st.number + 1)) made_is
        (effects.makes goes (ap stage_request at) kind (latest st) saw 1 (omega (arith, owed_is Ending Writer at kind)) _)

    will : will_make (Some (turn_part t st.number (latest st))) ≡ true
    will = (λ i. is_writer (kind i) && not (has_made (saw i)))

    will_not : will_make (Some (turn_part made_turn (st.number + 1) cells.items)) ≡ false
    will_not = ap (λ (k : Kind). is_writer k && not true) kind

    all_places : length (places cells) ≡ max_cells
    all_places = places_stay st.cells cells (ap (length {A = CellValue}) wrote ∙ applied_length (entries t.writes) (latest st)) rest ∙ sound.cells

    pub made_sound : Sound after
    made_sound = record {
      cells = all_places;
      count = items_fit cells max_cells all_places;
      seats = sound.seats;
      within = place;
      fits = ap is_writer kind;
      room = room_after after (Some (turn_part made_turn (st.number + 1) cells.items)) made_seats (omega (arith, ap one will, ap one will_not));
    }

  -- a writer that has not made finds a number
  pub number_left : t.stage ≡ Ending → t.kind ≡ Writer → st.number + 1 ≤ 2147483647
  number_left at kind =
      let some = count_one (meaning_of st).seats t.seat (omega (arith, seats_sized st sound.seats, place)) in
      let will-make : will_make (seat_part (meaning_of st) t.seat) ≡ true = ap will_make holder_part ∙ (λ i. is_writer (kind i) && not (has_made (stage_sight (at i) st.number (latest st)))) in
      omega (arith, sound.room, some, ap one will-make)

-- opened
module _ (st : State) (sound : Sound st) (free : st.turn ≡ None) (seat : ℕ) (busy : refusal_of (meaning_of st) (calls.Step seat) ≡ None) where
  at_place : seat < 8
  at_place = (seat_place (meaning_of st) (calls.Step seat) busy).0

  part_waits : seat_part (meaning_of st) seat ≡ waiting_part (slice_index_or st.waiting seat None)
  part_waits = part_is st sound.seats sound.within seat at_place ∙ ap (λ x. part_with_turn st (turn_of x seat) seat) free

  module _ (kind : Kind) (ws : WriteSet) (is : get_or st.waiting seat None ≡ Some kind) (empty : entries ws ≡ []) where
    abbrev taker : Turn
    taker = record { seat = seat; kind = kind; stage = Ready; writes = ws }

    taken_seats : (meaning_of (taken_at st taker)).seats ≡ slice_set (meaning_of st).seats seat (Some (turn_part taker st.number (latest st)))
    taken_seats = takes_turn st.waiting st.number (latest st) taker ∙ ap (λ x. set (with_turn x st.number (latest st) (map waiting_part st.waiting)) seat (Some (turn_part taker st.number (latest st)))) (sym free)

    abbrev opener : Open
    opener = record { kind = kind; request = Some opening; sight = nothing; writes = []; owed = 1 }

    waits_here : seat_part (meaning_of st) seat ≡ Some opener
    waits_here = part_waits ∙ ap waiting_part is

    goes_free : (meaning_of st).waits seat ≡ false
    goes_free = ap (λ x. is_some x && not (has_turn x seat)) free

    opened_is : with_seat (meaning_of st) seat (onward opener None (view st.number (latest st)) [] 0) (meaning_of (taken_at st taker)).waits ≡ meaning_of (taken_at st taker)
    opened_is =
        let parts : onward opener None (view st.number (latest st)) [] 0 ≡ Some (turn_part taker st.number (latest st)) = (λ i. Some (record { kind = kind; request = None; sight = view st.number (latest st); writes = sym empty i; owed = 0 })) in
        (λ i. record { cells = latest st; number = st.number; seats = (ap (set (meaning_of st).seats seat) parts ∙ sym taken_seats) i; waits = (meaning_of (taken_at st taker)).waits })

    pub opens_now : SeatSteps (meaning_of st) seat words.Opened st.number (meaning_of (taken_at st taker))
    opens_now = (opener, waits_here, subst (Steps (meaning_of st) seat opener words.Opened st.number) opened_is (effects.opens goes_free refl st.number (latest st) (inr (refl, refl, refl)) 0 (omega arith) _))

    pub taken_sound : Sound (taken_at st taker)
    taken_sound = record {
      cells = sound.cells;
      count = sound.count;
      seats = length-set st.waiting seat None ∙ sound.seats;
      within = at_place;
      fits = refl;
      room =
          let counts = taken_after (meaning_of st) (meaning_of (taken_at st taker)) seat (Some (turn_part taker st.number (latest st))) (seats_sized st sound.seats) at_place taken_seats in
          let same : will_make (seat_part (meaning_of st) seat) ≡ will_make (Some (turn_part taker st.number (latest st))) = ap will_make waits_here in
          omega (arith, sound.room, counts, ap one same);
    }
