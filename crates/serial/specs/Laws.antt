-- Why the serial engine keeps the laws of the trait: as many seats as a book has, and some busy seat moves, namely the one
-- that has the turn, or any where none has it.
use Rattle.std.specs.Prelude.{◌≡◌, ℕ, ◌<◌, ◌≤◌, true, false, not, ◌&&◌, List, map, length, get_or, is_some, Some, None, Option, ◌==◌, slice_index_or, slice_set, refl}
use Rattle.std.proofs.Common.{inl, inr, sym, ap, ◌∙◌, arith, length-set}
use Rattle.std.proofs.lemmas.List.{get_or-map, get_or-set_other, get_or-set_same, length-map}
use Rattle.std.proofs.lemmas.Bool.{cases_Bool, cond-false, cond-true, eq-eqb, eqb-false, eqb-true}
use Rattle.book.specs.Calls.{is_busy, numbers_taken}
use Rattle.book.specs.Meaning.{Open, seat_part}
use Rattle.book.specs.Progress.{SomeBusyMoves}
use Rattle.book.specs.Sizes.{max_cells, max_number, seat_count}
use Rattle.fixed_vec.specs.Listed.{places}
use Rattle.serial.specs.declared.serial.Serial.{Serial}
use Rattle.serial.specs.declared.state.State.{State}
use Rattle.serial.specs.declared.state.Turn.{Turn}
use Rattle.serial.specs.Rooms.{turn_room}
use Rattle.serial.specs.Seats.{part_at, part_with_turn, turn_of}
use Rattle.serial.specs.States.{has_turn, latest, meaning_of, turn_part, turn_seat, waiting_part, with_turn}

-- what the engine's type says of its state
abbrev pub Sound : State → Type 0
Sound st = record {
  cells : length (places st.cells) ≡ max_cells;
  count : length st.cells.items ≤ max_cells;
  seats : length st.waiting ≡ seat_count;
  within : turn_seat st.turn < seat_count;
  fits : turn_room st.turn ≡ true;
  room : numbers_taken (meaning_of st) ≤ max_number;
}

pub sound_of : (e : Serial) → Sound e.state
sound_of e = record { cells = e.cells; count = e.count; seats = e.seats; within = e.within; fits = e.fits; room = e.room }

-- the parts of the seats in the meaning, one by one
module _ (st : State) (sized : length st.waiting ≡ 8) where
  abbrev base : List (Option Open)
  base = map waiting_part st.waiting

  long : length base ≡ 8
  long = length-map st.waiting waiting_part ∙ sized

  part_by : (turn : Option Turn) → turn_seat turn < 8 → (s : ℕ) → s < 8 → slice_index_or (with_turn turn st.number (latest st) base) s None ≡ part_with_turn st (turn_of turn s) s
  part_by None within s place = get_or-map waiting_part st.waiting s None None (omega arith)
  part_by (Some t) within s place =
      elim (cases_Bool (t.seat == s)) [
        | inl on ↦
            let is = eqb-true t.seat s on in
            ap (λ (r : ℕ). get_or (slice_set base t.seat (Some (turn_part t st.number (latest st)))) r None) (sym is) ∙ get_or-set_same base t.seat (Some (turn_part t st.number (latest st))) None (omega (arith, long)) ∙ ap (λ x. part_with_turn st x s) (sym (cond-true (t.seat == s) (Some t) None on))
        | inr off ↦
            get_or-set_other base t.seat s (Some (turn_part t st.number (latest st))) None (λ e. eqb-false t.seat s off (sym e)) ∙ get_or-map waiting_part st.waiting s None None (omega arith) ∙ ap (λ x. part_with_turn st x s) (sym (cond-false (t.seat == s) (Some t) None off))
      ]

  pub part_is : turn_seat st.turn < 8 → (s : ℕ) → s < 8 → seat_part (meaning_of st) s ≡ part_at st s
  part_is within s place = part_by st.turn within s place

  seats_by : (turn : Option Turn) → length (with_turn turn st.number (latest st) base) ≡ 8
  seats_by None = long
  seats_by (Some t) = length-set base t.seat (Some (turn_part t st.number (latest st))) ∙ long

  pub seats_sized : length (meaning_of st).seats ≡ seat_count
  seats_sized = seats_by st.turn

module _ (st : State) (sound : Sound st) (t : Turn) (turn_is : st.turn ≡ Some t) where
  place : t.seat < 8
  place = omega (arith, sound.within, ap turn_seat turn_is)

  pub turn_has_part : seat_part (meaning_of st) t.seat ≡ Some (turn_part t st.number (latest st))
  turn_has_part = part_is st sound.seats sound.within t.seat place ∙ ap (λ x. part_with_turn st (turn_of x t.seat) t.seat) turn_is ∙ ap (λ x. part_with_turn st x t.seat) (cond-true (t.seat == t.seat) (Some t) None (eq-eqb t.seat t.seat refl))

  pub turn_goes_on : (meaning_of st).waits t.seat ≡ false
  turn_goes_on = ap (λ x. is_some x && not (has_turn x t.seat)) turn_is ∙ ap not (eq-eqb t.seat t.seat refl)

pub someone_moves : (st : State) → Sound st → SomeBusyMoves (meaning_of st)
someone_moves st sound s o here all = by st.turn refl
  where
    by : (turn : Option Turn) → st.turn ≡ turn → (b : ℕ) × (q : Open) × (seat_part (meaning_of st) b ≡ Some q) × (is_busy q ≡ true) × ((meaning_of st).waits b ≡ false)
    by None e = (s, o, here, all s o here, ap (λ x. is_some x && not (has_turn x s)) e)
    by (Some t) e =
        let part = turn_has_part st sound t e in
        (t.seat, turn_part t st.number (latest st), part, all t.seat (turn_part t st.number (latest st)) part, turn_goes_on st sound t e)
