-- The law of runs, read off the relation at the end of a run.
use Rattle.std.proofs.Common.{◌≡◌, ℕ, zero, suc, ◌+◌, ◌-◌, ◌<◌, ◌≤◌, true, false, List, [], ◌∷◌, ◌++◌, map, length, drop, is_some as option_is_some, Some, None, Option, sym, refl, ap, ◌∙◌, subst, ⊎_elim, arith, length-append}
use Rattle.std.proofs.lemmas.Option.{same_Some}
use Rattle.std.proofs.lemmas.List.{get_or_past, map_push}
use Rattle.std.proofs.lemmas.Bool.{cases_lt, true≢false}
use Rattle.book.specs.declared.answer.Answer.{Answer}
use Rattle.book.specs.declared.answer.Word.{Word}
use Rattle.book.specs.declared.answer.Word.TheVariants as words
use Rattle.book.specs.declared.call.Call.{Call}
use Rattle.book.specs.declared.call.Call.TheVariants as calls
use Rattle.book.specs.Calls.{is_busy, seat_of}
use Rattle.book.specs.Effects as effects
use Rattle.book.specs.Effects.{Steps}
use Rattle.book.specs.Histories.{earlier, Event, Happens, heard, heard_step, History, history_after, history_of, made_number, newest, steps_taken, waited}
use Rattle.book.specs.Law.{AnswersTo, IsBusy, IsOpen, LawOfRuns, made_count, NumbersAreRight, one_if_made, SomethingMoves, start_of, told_value}
use Rattle.book.specs.Meaning.{Meaning, Open, seat_part}
use Rattle.book.specs.Replays.{made_as, snapshot_after, Start, worked_by}
use Rattle.book.specs.Progress.{AllFree, SomeBusyMoves}
use Rattle.book.specs.Runs.{accepts, declines, Does, more, none, Run, steps}
use Rattle.book.specs.Sizes.{seat_count}
use Rattle.book.specs.Transactions.{current, place, Transaction}
use Rattle.book.proofs.Acts.{open_seat}
use Rattle.book.proofs.Extensions.{worked_stays}
use Rattle.book.proofs.Tied.{MadeFact, PartTied, SeatTied, Tied}
use Rattle.book.proofs.Told.{call_kept}

history_push : (old : History) (cs : List Call) (as' : List Answer) (c : Call) (a : Answer) → length cs ≡ length as' → history_after old (cs ++ (c ∷ [])) (as' ++ (a ∷ [])) ≡ record { call = c; hears = heard a } ∷ history_after old cs as'
history_push old [] [] c a same = refl
history_push old [] (b ∷ as') c a same = absurd (omega arith)
history_push old (d ∷ cs) [] c a same = absurd (omega arith)
history_push old (d ∷ cs) (b ∷ as') c a same = history_push (record { call = d; hears = heard b } ∷ old) cs as' c a (omega arith)

tied_at_start : (bound : ℕ) (m : Meaning) → AllFree m → Tied bound (start_of m) [] m
tied_at_start bound m free = record {
  number = refl;
  rising = omega arith;
  cells = ap (snapshot_after (start_of m) []) (none_after m.number);
  size = free.size;
  seats = λ s. subst (PartTied bound (start_of m) [] s None) (sym (nobody s)) tt;
  told_fixed = λ e old t happens. absurd (nothing_happens happens);
  made_facts = λ e old p happens. absurd (nothing_happens happens);
  opened_facts = λ e old t v happens. absurd (nothing_happens happens);
  few_steps = λ k s. subst (λ (h : History). steps_taken s h ≤ bound) (sym (nothing_left k)) (omega arith);
}
  where
    none_after : (n : ℕ) → 0 ≡ n - n
    none_after n = omega arith

    nobody : (s : ℕ) → seat_part m s ≡ None
    nobody s = ⊎_elim (λ within. free.free s within) (λ past. get_or_past m.seats s None (omega (arith, free.size))) (cases_lt s seat_count)

    nothing_left : (k : ℕ) → ◌≡◌ {A = History} (drop k []) []
    nothing_left zero = refl
    nothing_left (suc k) = refl

    nothing_happens : {e : Event} {old : History} → Happens [] e old → ⊥
    nothing_happens happens = elim happens [ ]

-- what a run keeps
pub record RunTied (bound : ℕ) (m0 : Meaning) (cs : List Call) (as' : List Answer) (m : Meaning) : Type 0 where
  pub lengths : length cs ≡ length as'
  pub tied : Tied bound (start_of m0) (history_of cs as') m
  pub account : map told_value as' ≡ worked_by (start_of m0) (history_of cs as') (history_of cs as')

pub run_tied : (bound : ℕ) (m0 : Meaning) (cs : List Call) (as' : List Answer) (m : Meaning) → AllFree m0 → Run bound m0 cs as' m → RunTied bound m0 cs as' m
run_tied bound m0 _ _ _ free none = record { lengths = refl; tied = tied_at_start bound m0 free; account = refl }
run_tied bound m0 _ _ _ free (more cs as' m run call answer m' does) =
    let before = run_tied bound m0 cs as' m free run in
    let h = history_of cs as' in
    let kept = call_kept bound (start_of m0) h m before.tied call answer m' does in
    let now-h : history_of (cs ++ (call ∷ [])) (as' ++ (answer ∷ [])) ≡ record { call = call; hears = heard answer } ∷ h = history_push [] cs as' call answer before.lengths in
    let worked : worked_by (start_of m0) (record { call = call; hears = heard answer } ∷ h) h ≡ worked_by (start_of m0) h h = worked_stays bound (start_of m0) (record { call = call; hears = heard answer }) h kept.extension h before.tied.told_fixed in
    record {
      lengths = omega (arith, length-append cs (call ∷ []), length-append as' (answer ∷ []), before.lengths);
      tied = subst (λ (g : History). Tied bound (start_of m0) g m') (sym now-h) kept.tied;
      account = map_push told_value as' answer ∙ (λ i. (before.account ∙ sym worked) i ++ (kept.value i ∷ [])) ∙ ap (λ (g : History). worked_by (start_of m0) g g) (sym now-h);
    }

-- a made answer counts among those before any later one
made_before : (h : History) (e : Event) (old : History) (p : ℕ) → Happens h e old → made_number e.hears ≡ Some p → made_count old < made_count h
made_before _ e old p (newest _ _) makes = subst (λ (x : Option ℕ). made_count old < one_if_made x + made_count old) (sym makes) (omega arith)
made_before _ e old p (earlier x h _ _ happens) makes = omega (arith, made_before h e old p happens makes)

-- made answers with as many before them are one
one_made : (h : History) (e f : Event) (old older : History) (p q : ℕ) → Happens h e old → Happens h f older → made_number e.hears ≡ Some p → made_number f.hears ≡ Some q → made_count old ≡ made_count older → (e ≡ f) × (old ≡ older)
one_made _ _ _ _ _ p q (newest e old) (newest _ _) makes-p makes-q same = (refl, refl)
one_made _ _ f _ older p q (newest e old) (earlier _ _ _ _ happens) makes-p makes-q same = absurd (omega (arith, made_before old f older q happens makes-q))
one_made _ e _ old _ p q (earlier _ _ _ _ happens) (newest f older) makes-p makes-q same = absurd (omega (arith, made_before older e old p happens makes-p))
one_made _ e f old older p q (earlier x h _ _ first) (earlier _ _ _ _ second) makes-p makes-q same = one_made h e f old older p q first second makes-p makes-q same

module _ (bound : ℕ) (start : Start) (h : History) (m : Meaning) (tied : Tied bound start h m) where
  made_fact : (e : Event) (old : History) (t : Transaction) (p : ℕ) → AnswersTo h e old t → made_number e.hears ≡ Some p → MadeFact start h old t p
  made_fact e old t p to makes =
      let found = tied.made_facts e old p to.happens makes in
      subst (λ (u : Transaction). MadeFact start h old u p) (same_Some found.0 t (sym found.1 ∙ to.belongs)) found.2

  one_maker : (e f : Event) (old older : History) (t u : Transaction) (p q : ℕ) → AnswersTo h e old t → AnswersTo h f older u → made_number e.hears ≡ Some p → made_number f.hears ≡ Some q → (p ≡ q → place t ≡ place u) × (place t ≡ place u → p ≡ q)
  one_maker e f old older t u p q to-e to-f makes-p makes-q =
      let first = made_fact e old t p to-e makes-p in
      let second = made_fact f older u q to-f makes-q in (
        λ same.
            let counts : made_count old ≡ made_count older = omega (arith, first.counted_from_start, second.counted_from_start) in
            let both = one_made h e f old older p q to-e.happens to-f.happens makes-p makes-q counts in
            let calls_same : current (seat_of e.call) old ≡ current (seat_of f.call) older = (λ i. current (seat_of (both.0 i).call) (both.1 i)) in
            ap place (same_Some t u (sym to-e.belongs ∙ calls_same ∙ to-f.belongs)),
        λ same. same_Some p q (sym (ap (λ (x : ℕ). made_as x h) (sym same) ∙ first.makes_once) ∙ second.makes_once),
      )

  pub numbers : NumbersAreRight start.number h
  numbers = record {
    commit_numbers_rise_by_one = λ e old p happens makes. (tied.made_facts e old p happens makes).2.counted_from_start;
    every_number_has_a_maker = λ e old p happens makes. let fact = tied.made_facts e old p happens makes in (fact.0, record { happens = happens; belongs = fact.1 });
    each_number_has_one_maker = one_maker;
    opened_between_opening_and_answer = λ e old t v to opens. tied.opened_facts e old t v to.happens opens to.belongs;
    made_number_follows_opened_number = λ e old t p to makes. let fact = made_fact e old t p to makes in (fact.view_number, fact.opened_on, fact.follows);
  }

-- a seat is open in the meaning exactly when it has a transaction, and busy when that has an unanswered request
open_part : (bound : ℕ) (start : Start) (h : History) (s : ℕ) (t : Transaction) (part : Option Open) → PartTied bound start h s (Some t) part → (o : Open) × (part ≡ Some o) × SeatTied bound start h s t o
open_part bound start h s t None p = absurd p
open_part bound start h s t (Some o) p = (o, refl, p)

is_some : {X : Type 0} (x : Option X) → option_is_some x ≡ true → (y : X) × (x ≡ Some y)
is_some None e = absurd (true≢false (sym e))
is_some (Some y) e = (y, refl)

waited_is_no : (word : Word) (n : ℕ) → (heard_step word n ≡ waited) → word ≡ words.Wait
waited_is_no words.Wait n e = refl
waited_is_no words.Moved n e = absurd cc
waited_is_no words.Opened n e = absurd cc
waited_is_no words.Told n e = absurd cc
waited_is_no words.Put n e = absurd cc
waited_is_no words.Made n e = absurd cc
waited_is_no words.Ended n e = absurd cc

-- only a seat that would wait answers that it does
wait_waits : (m : Meaning) (s : ℕ) (o : Open) (word : Word) (n : ℕ) (m' : Meaning) → Steps m s o word n m' → word ≡ words.Wait → m.waits s ≡ true
wait_waits m s o _ _ _ (effects.waits would) e = would
wait_waits m s o _ _ _ (effects.moves _ _ _ _ _ _) e = absurd cc
wait_waits m s o _ _ _ (effects.opens _ _ _ _ _ _ _ _) e = absurd cc
wait_waits m s o _ _ _ (effects.tells_value _ _ _ _ _ _ _ _ _) e = absurd cc
wait_waits m s o _ _ _ (effects.puts _ _ _ _ _ _) e = absurd cc
wait_waits m s o _ _ _ (effects.makes _ _ _ _ _ _ _ _) e = absurd cc
wait_waits m s o _ _ _ (effects.ends_reader _ _ _ _ _ _ _ _) e = absurd cc
wait_waits m s o _ _ _ (effects.ends_writer _ _ _ _ _ _ _) e = absurd cc

step_goes_on : (bound : ℕ) (m : Meaning) (s : ℕ) → m.waits s ≡ false → (call : Call) (answer : Answer) (m' : Meaning) → call ≡ calls.Step s → Does bound m call answer m' → heard answer ≡ waited → ⊥
step_goes_on bound m s goes _ _ _ is (declines call refusal _) e = cc
step_goes_on bound m s goes _ _ _ is (accepts call m' _ _ _) e = cc
step_goes_on bound m s goes _ _ _ is (steps r o word n m' _ _ step) e =
    let same : r ≡ s = cc in
    true≢false (sym (wait_waits m r o word n m' step (waited_is_no word n e)) ∙ ap m.waits same ∙ goes)

module _ (bound : ℕ) (start : Start) (h : History) (m : Meaning) (tied : Tied bound start h m) where
  open_in_meaning : (s : ℕ) → IsOpen s h → (t : Transaction) × (current s h ≡ Some t) × ((o : Open) × (seat_part m s ≡ Some o) × SeatTied bound start h s t o)
  open_in_meaning s open' =
      let t = is_some (current s h) open' in
      (t.0, t.1, open_part bound start h s t.0 (seat_part m s) (subst (λ x. PartTied bound start h s x (seat_part m s)) t.1 (tied.seats s)))

  busy_in_meaning : ((u : ℕ) → IsOpen u h → IsBusy u h) → (r : ℕ) (q : Open) → seat_part m r ≡ Some q → is_busy q ≡ true
  busy_in_meaning all r q part =
      let found = open_seat bound start h r (current r h) q (subst (PartTied bound start h r (current r h)) part (tied.seats r)) in
      let busy = all r (ap option_is_some found.1) in
      let same : busy.0 ≡ found.0 = same_Some busy.0 found.0 (sym busy.1 ∙ found.1) in
      ap option_is_some (sym found.2.requests) ∙ ap (λ (x : Transaction). option_is_some x.asks) (sym same) ∙ busy.2

  pub moves_on : SomeBusyMoves m → SomethingMoves bound h m
  moves_on law = record {
    some_busy_seat_moves = λ s open' all.
        let here = open_in_meaning s open' in
        let mover = law s here.2.0 here.2.1 (busy_in_meaning all) in
        let found = open_seat bound start h mover.0 (current mover.0 h) mover.1 (subst (PartTied bound start h mover.0 (current mover.0 h)) mover.2 (tied.seats mover.0)) in (
          mover.0,
          (found.0, found.1, ap option_is_some found.2.requests ∙ mover.3),
          λ answer m' does e. step_goes_on bound m mover.0 mover.4 (calls.Step mover.0) answer m' refl does e,
        );
    requests_take_few_steps = tied.few_steps;
  }

-- every run on a book that began with all seats free, where some busy seat moves at the end
pub law_of_runs : (bound : ℕ) (m0 : Meaning) (cs : List Call) (as' : List Answer) (m : Meaning) → AllFree m0 → SomeBusyMoves m → Run bound m0 cs as' m → LawOfRuns bound m0 cs as' m
law_of_runs bound m0 cs as' m free moves run =
    let t = run_tied bound m0 cs as' m free run in
    let h = history_of cs as' in
    record {
      account_is_serial_replay = (λ i. record { told_values = t.account i; last_number = t.tied.number i; last_cells = t.tied.cells i });
      numbers_are_right = numbers bound (start_of m0) h m t.tied;
      something_moves = moves_on bound (start_of m0) h m t.tied moves;
    }
