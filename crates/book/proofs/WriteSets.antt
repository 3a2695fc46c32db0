-- A write set says as much as all the puts that it was made from.
use Rattle.std.proofs.Common.{◌≡◌, ℕ, true, false, cond, eqb, ◌⊎◌, List, [], ◌∷◌, set, Some, sym, refl, ap, ◌∙◌, inl, inr, ⊎_elim}
use Rattle.std.proofs.lemmas.List.{set_comm, set-set}
use Rattle.std.proofs.lemmas.Bool.{cases_Bool, cond-false, cond-true, eqb-false, eqb-true, ne_eqb}
use Rattle.book.specs.Writes.{applied, CellValue, with_put, Write, written}

-- the write set of puts, given newest first
abbrev pub write_set : List Write → List Write
write_set [] = []
write_set (p ∷ ps) = with_put p (write_set ps)

applied-put : (p : Write) (ws : List Write) (cells : List CellValue) → applied (with_put p ws) cells ≡ set (applied ws cells) p.cell p.value
applied-put p [] cells = refl
applied-put p (w ∷ ws) cells =
    ⊎_elim
    (λ same.
    let e = eqb-true w.cell p.cell same in
    ap (λ (l : List Write). applied l cells) (cond-true (eqb w.cell p.cell) (p ∷ ws) (w ∷ with_put p ws) same) ∙ sym (set-set (applied ws cells) p.cell w.value p.value) ∙ ap (λ (c : ℕ). set (set (applied ws cells) c w.value) p.cell p.value) (sym e))
    (λ other.
    ap (λ (l : List Write). applied l cells) (cond-false (eqb w.cell p.cell) (p ∷ ws) (w ∷ with_put p ws) other) ∙ ap (λ (l : List CellValue). set l w.cell w.value) (applied-put p ws cells) ∙ set_comm (applied ws cells) p.cell w.cell p.value w.value (λ e. eqb-false _ _ other (sym e)))
    (cases_Bool (eqb w.cell p.cell))

pub write_set-applied : (ps : List Write) (cells : List CellValue) → applied (write_set ps) cells ≡ applied ps cells
write_set-applied [] cells = refl
write_set-applied (p ∷ ps) cells = applied-put p (write_set ps) cells ∙ ap (λ (l : List CellValue). set l p.cell p.value) (write_set-applied ps cells)

-- looking up a cell after a put
written-put : (c : ℕ) (p : Write) (ws : List Write) → written c (with_put p ws) ≡ cond (eqb p.cell c) (Some p.value) (written c ws)
written-put c p [] = refl
written-put c p (w ∷ ws) =
    ⊎_elim
    (λ same.
    ap (λ (l : List Write). written c l) (cond-true (eqb w.cell p.cell) (p ∷ ws) (w ∷ with_put p ws) same) ∙ skip (eqb-true w.cell p.cell same) (cases_Bool (eqb p.cell c)))
    (λ other.
    ap (λ (l : List Write). written c l) (cond-false (eqb w.cell p.cell) (p ∷ ws) (w ∷ with_put p ws) other) ∙ ap (λ x. cond (eqb w.cell c) (Some w.value) x) (written-put c p ws) ∙ swap (λ e. eqb-false _ _ other e) (cases_Bool (eqb p.cell c)))
    (cases_Bool (eqb w.cell p.cell))
  where
    skip : w.cell ≡ p.cell → (eqb p.cell c ≡ true) ⊎ (eqb p.cell c ≡ false) → cond (eqb p.cell c) (Some p.value) (written c ws) ≡ cond (eqb p.cell c) (Some p.value) (written c (w ∷ ws))
    skip e (inl yes-p) = cond-true (eqb p.cell c) _ _ yes-p ∙ sym (cond-true (eqb p.cell c) _ _ yes-p)
    skip e (inr no-p) = ap (λ x. cond (eqb p.cell c) (Some p.value) x) (sym (cond-false (eqb w.cell c) (Some w.value) (written c ws) (ap (λ (k : ℕ). eqb k c) e ∙ no-p)))

    swap : (w.cell ≡ p.cell → ⊥) → (eqb p.cell c ≡ true) ⊎ (eqb p.cell c ≡ false) → cond (eqb w.cell c) (Some w.value) (cond (eqb p.cell c) (Some p.value) (written c ws)) ≡ cond (eqb p.cell c) (Some p.value) (written c (w ∷ ws))
    swap apart (inl yes-p) =
        let is = eqb-true p.cell c yes-p in
        cond-false (eqb w.cell c) _ _ (ne_eqb _ _ (λ e. apart (e ∙ sym is))) ∙ cond-true (eqb p.cell c) _ _ yes-p ∙ sym (cond-true (eqb p.cell c) _ _ yes-p)
    swap apart (inr no-p) = ap (λ x. cond (eqb w.cell c) (Some w.value) x) (cond-false (eqb p.cell c) _ _ no-p) ∙ sym (cond-false (eqb p.cell c) _ _ no-p)

pub write_set-written : (c : ℕ) (ps : List Write) → written c (write_set ps) ≡ written c ps
write_set-written c [] = refl
write_set-written c (p ∷ ps) = written-put c p (write_set ps) ∙ ap (λ x. cond (eqb p.cell c) (Some p.value) x) (write_set-written c ps)
