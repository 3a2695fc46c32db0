-- In a write set the last entry of a cell is its only one.
use Rattle.std.proofs.Common.{◌≡◌, ℕ, ◌<◌, ◌≤◌, Bool, true, false, cond, not, ◌||◌, eqb, ltb, List, [], ◌∷◌, ◌++◌, length, is_some, Some, None, Ok, Err, OnOk, OnErr, Option, Result, sym, refl, ap, ◌∙◌, subst, inl, inr, arith}
use Rattle.std.proofs.lemmas.Bool.{and_from, and_parts, cases_Bool, cond-false, cond-true, eqb-false, eqb-true, le-ltb, lt-ltb, ne_eqb, not-true, true≢false}
use Rattle.fixed_vec.specs.Listed.{Listed}
use Rattle.fixed_vec.specs.declared.Full.{Full}
use Rattle.lookup.specs.Last.{last_match, tail_first}
use Rattle.std.specs.Result.{result_or}
use Rattle.book.specs.declared.refusal.Refusal.TheVariants.{WriteSetFull}
use Rattle.book.specs.Distinct.{distinct}
use Rattle.book.specs.Sizes.{max_writes}
use Rattle.book.specs.Writes.{CellValue, with_put, Write, written}
use Rattle.book.specs.WriteSets.{has_room, Position, Puts}

is_none : (x : Option CellValue) → is_some x ≡ false → x ≡ None
is_none None e = refl
is_none (Some v) e = absurd (true≢false e)

abbrev pub test : ℕ → Write → Bool
test c w = eqb w.cell c

step : (c : ℕ) (w : Write) (ws : List Write) → distinct (w ∷ ws) ≡ true → (r : Option ℕ) → Position c ws r → Position c (w ∷ ws) (tail_first (test c w) r)
step c w ws apart (Some j) (within, found, replaced) =
    let alone : written w.cell ws ≡ None = is_none _ (not-true _ (and_parts (not (is_some (written w.cell ws))) (distinct ws) apart).0) in
    let other : eqb w.cell c ≡ false = ne_eqb w.cell c (λ is. let f = found w in let p = ap (λ (x : ℕ). written x ws) is in cc) in (
      omega arith,
      λ d. cond-false (eqb w.cell c) _ _ other ∙ found d,
      λ p is. ap (λ (l : List Write). w ∷ l) (replaced p is) ∙ sym (cond-false (eqb w.cell p.cell) (p ∷ ws) (w ∷ with_put p ws) (ap (eqb w.cell) is ∙ other)),
    )
step c w ws apart None none =
    elim (cases_Bool (eqb w.cell c)) [
      | inl on ↦ subst (Position c (w ∷ ws)) (sym (cond-true (eqb w.cell c) (Some 0) None on)) (omega arith, λ d. cond-true (eqb w.cell c) _ _ on, λ p is. sym (cond-true (eqb w.cell p.cell) (p ∷ ws) (w ∷ with_put p ws) (ap (eqb w.cell) is ∙ on)))
      | inr off ↦ subst (Position c (w ∷ ws)) (sym (cond-false (eqb w.cell c) (Some 0) None off)) (cond-false (eqb w.cell c) (Some w.value) (written c ws) off ∙ none)
    ]

-- the search finds the entry of a cell
pub finds : (c : ℕ) (ws : List Write) → distinct ws ≡ true → Position c ws (last_match (test c) ws)
finds c [] apart = refl
finds c (w ∷ ws) apart = step c w ws apart (last_match (test c) ws) (finds c ws (and_parts (not (is_some (written w.cell ws))) (distinct ws) apart).1)

-- a put of another cell is not seen
written_other : (c : ℕ) (p : Write) (ws : List Write) → eqb p.cell c ≡ false → written c (with_put p ws) ≡ written c ws
written_other c p [] off = cond-false (eqb p.cell c) _ _ off
written_other c p (w ∷ ws) off =
    elim (cases_Bool (eqb w.cell p.cell)) [
      | inl same ↦
          let is = eqb-true w.cell p.cell same in
          ap (written c) (cond-true (eqb w.cell p.cell) (p ∷ ws) (w ∷ with_put p ws) same) ∙ cond-false (eqb p.cell c) _ _ off ∙ sym (cond-false (eqb w.cell c) _ _ (ap (λ (x : ℕ). eqb x c) is ∙ off))
      | inr apart ↦ ap (written c) (cond-false (eqb w.cell p.cell) (p ∷ ws) (w ∷ with_put p ws) apart) ∙ ap (λ x. cond (eqb w.cell c) (Some w.value) x) (written_other c p ws off)
    ]

-- a write set stays one
pub distinct-put : (p : Write) (ws : List Write) → distinct ws ≡ true → distinct (with_put p ws) ≡ true
distinct-put p [] apart = refl
distinct-put p (w ∷ ws) apart =
    let parts = and_parts (not (is_some (written w.cell ws))) (distinct ws) apart in
    elim (cases_Bool (eqb w.cell p.cell)) [
      | inl same ↦
          let is = eqb-true w.cell p.cell same in
          ap distinct (cond-true (eqb w.cell p.cell) (p ∷ ws) (w ∷ with_put p ws) same) ∙ and_from _ _ (ap (λ (x : ℕ). not (is_some (written x ws))) (sym is) ∙ parts.0) parts.1
      | inr other ↦
          let off : eqb p.cell w.cell ≡ false = ne_eqb p.cell w.cell (λ e. eqb-false w.cell p.cell other (sym e)) in
          ap distinct (cond-false (eqb w.cell p.cell) (p ∷ ws) (w ∷ with_put p ws) other) ∙ and_from _ _ (ap (λ x. not (is_some x)) (written_other w.cell p ws off) ∙ parts.0) (distinct-put p ws parts.1)
    ]

-- a cell that was not put comes last
pub new_put : (p : Write) (ws : List Write) → written p.cell ws ≡ None → with_put p ws ≡ ws ++ (p ∷ [])
new_put p [] none = refl
new_put p (w ∷ ws) none =
    elim (cases_Bool (eqb w.cell p.cell)) [
      | inl same ↦ let e = sym (cond-true (eqb w.cell p.cell) (Some w.value) (written p.cell ws) same) ∙ none in absurd cc
      | inr other ↦ cond-false (eqb w.cell p.cell) (p ∷ ws) (w ∷ with_put p ws) other ∙ ap (λ (l : List Write). w ∷ l) (new_put p ws (sym (cond-false (eqb w.cell p.cell) (Some w.value) (written p.cell ws) other) ∙ none))
    ]

-- what a put comes to, by whether the cell was put
pub room_found : (cell : ℕ) (ws : List Write) (v : CellValue) → written cell ws ≡ Some v → has_room cell ws ≡ true
room_found cell ws v found = ap (λ x. is_some x || ltb (length ws) max_writes) found

pub room_new : (cell : ℕ) (ws : List Write) → written cell ws ≡ None → length ws < max_writes → has_room cell ws ≡ true
room_new cell ws none few = ap (λ x. is_some x || ltb (length ws) max_writes) none ∙ lt-ltb (length ws) max_writes few

pub room_none : (cell : ℕ) (ws : List Write) → written cell ws ≡ None → max_writes ≤ length ws → has_room cell ws ≡ false
room_none cell ws none full = ap (λ x. is_some x || ltb (length ws) max_writes) none ∙ le-ltb (length ws) max_writes full

-- a write of a new cell goes behind the others, or nothing changes
pub pushed_apart : (r : Result (Unit {0}) Full) (ws ws' : Listed Write) (p : Write) → written p.cell ws.items ≡ None → distinct ws.items ≡ true → OnOk r (ws'.items ≡ ws.items ++ (p ∷ [])) → OnErr r (ws' ≡ ws) → distinct ws'.items ≡ true
pushed_apart (Ok _) ws ws' p none apart added same = ap distinct (added ∙ sym (new_put p ws.items none)) ∙ distinct-put p ws.items apart
pushed_apart (Err _) ws ws' p none apart added same = ap (λ v. distinct v.items) same ∙ apart

pub pushed_puts : (r : Result (Unit {0}) Full) (ws ws' : Listed Write) (p : Write) → written p.cell ws.items ≡ None → OnOk r (length ws.items < max_writes) → OnErr r (length ws.items ≡ max_writes) → OnOk r (ws'.items ≡ ws.items ++ (p ∷ [])) → OnErr r (ws' ≡ ws) → Puts p ws.items ws'.items (result_or r (Err WriteSetFull))
pushed_puts (Ok _) ws ws' p none room full added same = (room_new p.cell ws.items none room, added ∙ sym (new_put p ws.items none))
pushed_puts (Err _) ws ws' p none room full added same = (refl, room_none p.cell ws.items none (omega (arith, full)), ap (λ v. v.items) same)
