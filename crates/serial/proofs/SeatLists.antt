-- What the moves of the serial engine do to the seats of its meaning.
use Rattle.std.specs.Prelude.{◌≡◌, ℕ, ◌+◌, ◌<◌, ◌≤◌, Bool, false, cond, List, map, length, set, Some, None, count_by, Option, slice_index_or, slice_set}
use Rattle.std.proofs.Common.{sym, ap, ◌∙◌, arith}
use Rattle.std.proofs.lemmas.List.{map-set, set_comm, set-set}
use Rattle.std.proofs.lemmas.List.Sums.{sum_by-set}
use Rattle.std.proofs.lemmas.Bool.{eqb-false}
use Rattle.book.specs.declared.call.Kind.{Kind}
use Rattle.book.specs.Calls.{will_make}
use Rattle.book.specs.Meaning.{Open}
use Rattle.book.specs.Writes.{CellValue}
use Rattle.serial.specs.declared.state.Turn.{Turn}
use Rattle.serial.specs.States.{has_turn, turn_part, waiting_part, with_turn}

module _ (waiting : List (Option Kind)) (number : ℕ) (cells : List CellValue) where
  -- a seat without the turn waits for it
  pub waits_now : (turn : Option Turn) (s : ℕ) (k : Option Kind) → has_turn turn s ≡ false → with_turn turn number cells (map waiting_part (slice_set waiting s k)) ≡ slice_set (with_turn turn number cells (map waiting_part waiting)) s (waiting_part k)
  waits_now None s k off = map-set waiting_part waiting s k
  waits_now (Some t) s k off =
      ap (λ (l : List (Option Open)). set l t.seat (Some (turn_part t number cells))) (map-set waiting_part waiting s k) ∙ set_comm (map waiting_part waiting) s t.seat (waiting_part k) (Some (turn_part t number cells)) (λ e. eqb-false t.seat s off (sym e))

  -- the seat with the turn goes on
  pub goes_on : (t u : Turn) (n : ℕ) (cs : List CellValue) → u.seat ≡ t.seat → with_turn (Some u) n cs (map waiting_part waiting) ≡ slice_set (with_turn (Some t) number cells (map waiting_part waiting)) t.seat (Some (turn_part u n cs))
  goes_on t u n cs same =
      ap (λ (s : ℕ). set (map waiting_part waiting) s (Some (turn_part u n cs))) same ∙ sym (set-set (map waiting_part waiting) t.seat (Some (turn_part t number cells)) (Some (turn_part u n cs)))

  -- a seat that waited takes the turn
  pub takes_turn : (u : Turn) → with_turn (Some u) number cells (map waiting_part (slice_set waiting u.seat None)) ≡ slice_set (map waiting_part waiting) u.seat (Some (turn_part u number cells))
  takes_turn u =
      ap (λ (l : List (Option Open)). set l u.seat (Some (turn_part u number cells))) (map-set waiting_part waiting u.seat None) ∙ set-set (map waiting_part waiting) u.seat None (Some (turn_part u number cells))

  -- the seat with the turn gives it up
  pub gives_up : (t : Turn) → map waiting_part (slice_set waiting t.seat None) ≡ slice_set (with_turn (Some t) number cells (map waiting_part waiting)) t.seat None
  gives_up t = map-set waiting_part waiting t.seat None ∙ sym (set-set (map waiting_part waiting) t.seat (Some (turn_part t number cells)) None)

abbrev pub one : Bool → ℕ
one b = cond b 1 0

-- counting with one element changed
pub count_set : {X : Type 0} (f : X → Bool) (l : List X) (s : ℕ) (x d : X) → s < length l → count_by f (slice_set l s x) + one (f (slice_index_or l s d)) ≡ count_by f l + one (f x)
count_set f l s x d within = sum_by-set (λ y. one (f y)) l s x d within

pub count_one : (l : List (Option Open)) (s : ℕ) → s < length l → one (will_make (slice_index_or l s None)) ≤ count_by will_make l
count_one l s within =
    let without : count_by will_make (slice_set l s None) + one (will_make (slice_index_or l s None)) ≡ count_by will_make l + 0 = count_set will_make l s None None within in
    omega arith
