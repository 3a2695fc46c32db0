-- A run grows by one call, and its answers by one place.
use Rattle.std.proofs.Common.{◌≡◌, ℕ, ◌+◌, ◌<◌, ◌≤◌, true, not, ltb, List, [], ◌∷◌, ◌++◌, length, get_or, take, drop, set, None, sym, ap, ◌∙◌, subst, arith}
use Rattle.std.proofs.lemmas.List.{drop-drop, drop-set-lt, take_all, take_more, take_more_set}
use Rattle.std.proofs.lemmas.Bool.{cond-false, le-ltb}
use Rattle.book.specs.declared.answer.Answer.{Answer}
use Rattle.book.specs.declared.call.Call.{Call}
use Rattle.book.specs.Engines.{none_open, run_refusal}
use Rattle.book.specs.Meaning.{Meaning}
use Rattle.book.specs.Progress.{SomeBusyMoves}
use Rattle.book.specs.Ran.{Ran}
use Rattle.book.specs.Runs.{Does, more, Run}
use Rattle.book.specs.Sizes.{seat_count}
use Rattle.book.proofs.FreeSeats.{all_free}
use Rattle.book.proofs.LawOfRuns.{law_of_runs}

pub run_more : (bound : ℕ) (m0 m m' : Meaning) (cs : List Call) (as' : List Answer) (i : ℕ) (d : Call) (a : Answer) → i < length cs → i < length as' → Run bound m0 (take i cs) (take i as') m → Does bound m (get_or cs i d) a m' → Run bound m0 (take (i + 1) cs) (take (i + 1) (set as' i a)) m'
run_more bound m0 m m' cs as' i d a in-cs in-as run does =
    subst (λ (l : List Call). Run bound m0 l (take (i + 1) (set as' i a)) m') (sym (take_more cs i d in-cs))
    (subst (λ (l : List Answer). Run bound m0 (take i cs ++ (get_or cs i d ∷ [])) l m') (sym (take_more_set as' i a in-as)) (more (take i cs) (take i as') m run (get_or cs i d) a m' does))

pub rest_more : (as' first : List Answer) (i : ℕ) (a : Answer) → drop i as' ≡ drop i first → drop (i + 1) (set as' i a) ≡ drop (i + 1) first
rest_more as' first i a same = drop-set-lt (i + 1) as' i a (omega arith) ∙ sym (drop-drop 1 i as') ∙ ap (drop 1) same ∙ drop-drop 1 i first

-- no line of the table of runs holds
pub run_accepted : (calls answers : ℕ) (m : Meaning) → calls ≤ answers → none_open m.seats ≡ true → run_refusal calls answers m ≡ None
run_accepted calls answers m room free =
    cond-false (ltb answers calls) _ _ (le-ltb answers calls room) ∙ cond-false (not (none_open m.seats)) _ _ (ap not free)

pub ran : (bound : ℕ) (m m' : Meaning) (cs : List Call) (before after : List Answer) (i : ℕ) → length cs ≤ i → i ≤ length cs → length m.seats ≡ seat_count → none_open m.seats ≡ true → SomeBusyMoves m' → Run bound m (take i cs) (take i after) m' → drop i after ≡ drop i before → Ran bound m cs before after m'
ran bound m m' cs before after i all within size free moves run rest =
    let is : i ≡ length cs = omega arith in
    let whole : Run bound m cs (take (length cs) after) m' = subst (λ (l : List Call). Run bound m l (take (length cs) after) m') (take_all i cs all) (subst (λ (n : ℕ). Run bound m (take i cs) (take n after) m') is run) in
    record {
      run = whole;
      law = law_of_runs bound m cs (take (length cs) after) m' (all_free m size free) moves whole;
      untouched = ap (λ (n : ℕ). drop n after) (sym is) ∙ rest ∙ ap (λ (n : ℕ). drop n before) is;
    }
