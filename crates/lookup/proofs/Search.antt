-- Only one place is the last that passes.
use Rattle.std.proofs.Common.{◌≡◌, ℕ, zero, suc, ◌<◌, Bool, false, List, [], ◌∷◌, length, get_or, Some, None, Option, sym, refl, ap, ◌∙◌, arith}
use Rattle.std.proofs.lemmas.Bool.{cond-false, cond-true}
use Rattle.lookup.specs.Last.{IsLast, last_match, tail_first}

-- no element behind the first one passes
none_behind : {X : Type 0} (test : X → Bool) (x : X) (xs : List X) → ((j : ℕ) (d : X) → 0 < j → j < length (x ∷ xs) → test (get_or (x ∷ xs) j d) ≡ false) → IsLast test xs None
none_behind test x xs later i d within = later (suc i) d (omega arith) (omega arith)

pub is_last_only : {X : Type 0} (test : X → Bool) (xs : List X) (r : Option ℕ) → IsLast test xs r → r ≡ last_match test xs
is_last_only test [] None last = refl
is_last_only test [] (Some i) last = absurd (omega (arith, last.0))
is_last_only test (x ∷ xs) None last = sym (ap (tail_first (test x)) (sym (is_last_only test xs None (none_behind test x xs (λ j d some within. last j d within)))) ∙ cond-false (test x) (Some 0) None (last 0 x (omega arith)))
is_last_only test (x ∷ xs) (Some zero) (within, passes, later) = sym (ap (tail_first (test x)) (sym (is_last_only test xs None (none_behind test x xs later))) ∙ cond-true (test x) (Some 0) None (passes x))
is_last_only test (x ∷ xs) (Some (suc i)) (within, passes, later) = ap (tail_first (test x)) (is_last_only test xs (Some i) (omega arith, passes, λ j d behind end. later (suc j) d (omega arith) (omega arith)))
