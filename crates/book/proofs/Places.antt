-- Transactions and their places in a history that grows by one event.
use Rattle.std.proofs.Common.{◌≡◌, ℕ, suc, ◌<◌, ◌≤◌, Bool, true, false, cond, eqb, ◌⊎◌, [], ◌∷◌, length, Some, None, Option, sym, refl, ap, ◌∙◌, subst, inl, inr, ⊎_elim, arith}
use Rattle.std.proofs.lemmas.Bool.{cases_Bool, cond_both, cond-false, cond-true, eq-eqb, eqb-true, false≢true, ne_eqb}
use Rattle.book.specs.declared.call.Call.{Call}
use Rattle.book.specs.declared.call.Call.TheVariants as calls
use Rattle.book.specs.Calls.{seat_of}
use Rattle.book.specs.Histories.{accepted, declined, ended, Event, Heard, History, made, moved, opened, put, told, waited}
use Rattle.book.specs.Meaning.{Request}
use Rattle.book.specs.Replays.{first_given, is_place, number_of}
use Rattle.book.specs.Transactions.{asking, current, going_on, place, putting_done, requesting, Transaction}

pub current_other : (s : ℕ) (e : Event) (h : History) → eqb (seat_of e.call) s ≡ false → current s (e ∷ h) ≡ current s h
current_other s e h other = cond-false (eqb (seat_of e.call) s) (going_on e.call e.hears h (current s h)) (current s h) other

pub current_same : (s : ℕ) (e : Event) (h : History) → eqb (seat_of e.call) s ≡ true → current s (e ∷ h) ≡ going_on e.call e.hears h (current s h)
current_same s e h same = cond-true (eqb (seat_of e.call) s) (going_on e.call e.hears h (current s h)) (current s h) same

-- a transaction that may be there opened among the first n calls
abbrev pub Placed : ℕ → Option Transaction → Type 0
Placed n None = Unit {0}
Placed n (Some t) = place t < n

placed_more : (n : ℕ) (t : Option Transaction) → Placed n t → Placed (suc n) t
placed_more n None p = tt
placed_more n (Some t) p = omega arith

placed_asking : (n : ℕ) (r : Option Request) (t : Option Transaction) → Placed n t → Placed (suc n) (asking r t)
placed_asking n r None p = tt
placed_asking n r (Some t) p = omega arith

placed_putting : (n : ℕ) (t : Option Transaction) → Placed n t → Placed (suc n) (putting_done t)
placed_putting n None p = tt
placed_putting n (Some t) p = omega arith

placed_requesting : (call : Call) (old : History) (t : Option Transaction) → Placed (length old) t → Placed (suc (length old)) (requesting call old t)
placed_requesting (calls.Open kind seat) old t p = omega arith
placed_requesting (calls.Get seat cell) old t p = placed_asking (length old) _ t p
placed_requesting (calls.Put seat cell value) old t p = placed_asking (length old) _ t p
placed_requesting (calls.End seat) old t p = placed_asking (length old) _ t p
placed_requesting (calls.Step seat) old t p = placed_more (length old) t p

placed_on : (call : Call) (hears : Heard) (old : History) (t : Option Transaction) → Placed (length old) t → Placed (suc (length old)) (going_on call hears old t)
placed_on call accepted old t p = placed_requesting call old t p
placed_on call declined old t p = placed_more (length old) t p
placed_on call waited old t p = placed_more (length old) t p
placed_on call moved old t p = placed_more (length old) t p
placed_on call (opened n) old t p = placed_asking (length old) None t p
placed_on call told old t p = placed_asking (length old) None t p
placed_on call put old t p = placed_putting (length old) t p
placed_on call (made n) old t p = placed_more (length old) t p
placed_on call ended old t p = tt

pub current_placed : (s : ℕ) (h : History) → Placed (length h) (current s h)
current_placed s [] = tt
current_placed s (e ∷ old) =
    cond_both (eqb (seat_of e.call) s) (going_on e.call e.hears old (current s old)) (current s old) (Placed (suc (length old))) (λ _. placed_on e.call e.hears old (current s old) (current_placed s old)) (λ _. placed_more (length old) (current s old) (current_placed s old))

-- a seat's transaction is at the place o, if there is one
abbrev At : ℕ → Option Transaction → Type 0
At o None = ⊥
At o (Some t) = place t ≡ o

-- a seat whose transaction goes on has it at its old place, or it is new
on_place : (call : Call) (hears : Heard) (old : History) (t : Option Transaction) (o : ℕ) → At o (going_on call hears old t) → At o t ⊎ (o ≡ length old)
on_place (calls.Open kind seat) accepted old t o a = inr (sym a)
on_place (calls.Get seat cell) accepted old None o a = absurd a
on_place (calls.Get seat cell) accepted old (Some t) o a = inl a
on_place (calls.Put seat cell value) accepted old None o a = absurd a
on_place (calls.Put seat cell value) accepted old (Some t) o a = inl a
on_place (calls.End seat) accepted old None o a = absurd a
on_place (calls.End seat) accepted old (Some t) o a = inl a
on_place (calls.Step seat) accepted old t o a = inl a
on_place call declined old t o a = inl a
on_place call waited old t o a = inl a
on_place call moved old t o a = inl a
on_place call (opened n) old None o a = absurd a
on_place call (opened n) old (Some t) o a = inl a
on_place call told old None o a = absurd a
on_place call told old (Some t) o a = inl a
on_place call put old None o a = absurd a
on_place call put old (Some t) o a = inl a
on_place call (made n) old t o a = inl a
on_place call ended old t o a = absurd a

placed_below : (n o : ℕ) (t : Option Transaction) → Placed n t → At o t → o < n
placed_below n o None p a = absurd a
placed_below n o (Some t) p a = omega arith

-- seats that are apart have transactions at places that are apart
apart_at : (h : History) (r s o : ℕ) → (r ≡ s → ⊥) → At o (current r h) → At o (current s h) → ⊥
apart_at [] r s o apart a b = a
apart_at (e ∷ old) r s o apart a b =
    ⊎_elim
    (λ (on-r : eqb (seat_of e.call) r ≡ true).
    let off-s : eqb (seat_of e.call) s ≡ false = ne_eqb _ s (λ is. apart (sym (eqb-true _ r on-r) ∙ is)) in
    let b' = subst (At o) (current_other s e old off-s) b in
    ⊎_elim (λ a'. apart_at old r s o apart a' b') (λ new. omega (arith, placed_below (length old) o (current s old) (current_placed s old) b')) (on_place e.call e.hears old (current r old) o (subst (At o) (current_same r e old on-r) a)))
    (λ (off-r : eqb (seat_of e.call) r ≡ false).
    let a' = subst (At o) (current_other r e old off-r) a in
    ⊎_elim
    (λ (on-s : eqb (seat_of e.call) s ≡ true).
    ⊎_elim (λ b'. apart_at old r s o apart a' b') (λ new. omega (arith, placed_below (length old) o (current r old) (current_placed r old) a')) (on_place e.call e.hears old (current s old) o (subst (At o) (current_same s e old on-s) b)))
    (λ (off-s : eqb (seat_of e.call) s ≡ false). apart_at old r s o apart a' (subst (At o) (current_other s e old off-s) b))
    (cases_Bool (eqb (seat_of e.call) s)))
    (cases_Bool (eqb (seat_of e.call) r))

pub places_apart : (h : History) (r s : ℕ) (t u : Transaction) → (r ≡ s → ⊥) → current r h ≡ Some t → current s h ≡ Some u → place t ≡ place u → ⊥
places_apart h r s t u apart e f same = apart_at h r s (place u) apart (subst (At (place u)) (sym e) same) (subst (At (place u)) (sym f) refl)

-- numbers of transactions, as a history grows

is_place_at : (o : ℕ) (t : Option Transaction) → is_place o t ≡ true → At o t
is_place_at o None e = absurd (false≢true e)
is_place_at o (Some t) e = eqb-true (place t) o e

pub number_fresh : (f : Heard → Option ℕ) (o : ℕ) (h : History) → length h ≤ o → number_of f o h ≡ None
number_fresh f o [] long = refl
number_fresh f o (e ∷ old) long =
    let off : is_place o (current (seat_of e.call) old) ≡ false = ⊎_elim (λ on. absurd (omega (arith, placed_below (length old) o (current (seat_of e.call) old) (current_placed (seat_of e.call) old) (is_place_at o _ on)))) (λ off. off) (cases_Bool (is_place o (current (seat_of e.call) old))) in
    cond-false (is_place o (current (seat_of e.call) old)) _ _ off ∙ number_fresh f o old (omega arith)

cond_same : (b : Bool) (x : Option ℕ) → cond b x x ≡ x
cond_same true x = refl
cond_same false x = refl

-- an answer without a number leaves them
pub number_quiet : (f : Heard → Option ℕ) (o : ℕ) (e : Event) (h : History) → f e.hears ≡ None → number_of f o (e ∷ h) ≡ number_of f o h
number_quiet f o e h quiet =
    ap (λ x. cond (is_place o (current (seat_of e.call) h)) (first_given x (number_of f o h)) (number_of f o h)) quiet ∙ cond_same (is_place o (current (seat_of e.call) h)) (number_of f o h)

-- an answer with a number gives it to its own transaction
pub number_given : (f : Heard → Option ℕ) (e : Event) (h : History) (t : Transaction) (n : ℕ) → f e.hears ≡ Some n → current (seat_of e.call) h ≡ Some t → number_of f (place t) (e ∷ h) ≡ Some n
number_given f e h t n gives is =
    cond-true (is_place (place t) (current (seat_of e.call) h)) _ _ (ap (is_place (place t)) is ∙ eq-eqb (place t) (place t) refl) ∙ ap (λ x. first_given x (number_of f (place t) h)) gives

-- and leaves those of the others
pub number_kept : (f : Heard → Option ℕ) (o : ℕ) (e : Event) (h : History) (t : Transaction) → current (seat_of e.call) h ≡ Some t → (place t ≡ o → ⊥) → number_of f o (e ∷ h) ≡ number_of f o h
number_kept f o e h t is apart = cond-false (is_place o (current (seat_of e.call) h)) _ _ (ap (is_place o) is ∙ ne_eqb (place t) o apart)
