-- Texts tell what they are the texts of, so reading has one outcome.
use Rattle.std.proofs.Common.{◌≡◌, ℕ, ◌+◌, ◌<◌, ◌≤◌, cond, eqb, ◌⊎◌, List, [], ◌∷◌, ◌++◌, length, get_or, drop, sym, refl, ap, ◌∙◌, inl, inr, ⊎_elim, append_assoc, append-nil, arith}
use Rattle.std.specs.List.{AllByRecursion}
use Rattle.book.specs.declared.call.Call.{Call}
use Rattle.book.specs.declared.call.Call.TheVariants.{Open, Get, Put, End, Step}
use Rattle.book.specs.declared.call.Kind.TheVariants.{Reader, Writer}
use Rattle.book.specs.declared.refusal.Refusal.TheVariants.{UnreadableLine}
use Rattle.sheet.specs.declared.heading.EngineChoice.{EngineChoice}
use Rattle.sheet.specs.declared.heading.EngineChoice.TheVariants.{Pessimistic, Serial}
use Rattle.sheet.specs.Laws.{CallsHaveOwnTexts, HeadingsHaveOwnTexts, OutcomeIsUnique, ReadingLaws, WrittenIsReadBack}
use Rattle.sheet.specs.Numbers.{Fits32}
use Rattle.sheet.specs.Outcomes.{Content, Front, declined, no_call, no_heading, readable, sheet_text, too_many_bytes, too_many_calls, whole}
use Rattle.sheet.specs.Readings.{NoCall, NoHeading}
use Rattle.sheet.specs.Texts.{CallFits, call_letter, call_numbers, calls_text, call_text, engine_letter, heading_text}
use Rattle.sheet.proofs.LineTexts.{line_tells}

-- the call with this letter and these numbers
call_with : ℕ → List ℕ → Call
call_with letter ns =
    cond (eqb letter 114) (Open Reader (get_or ns 0 0)) (cond (eqb letter 119) (Open Writer (get_or ns 0 0)) (cond (eqb letter 103) (Get (get_or ns 0 0) (get_or ns 1 0)) (cond (eqb letter 112) (Put (get_or ns 0 0) (get_or ns 1 0) (get_or ns 2 0)) (cond (eqb letter 101) (End (get_or ns 0 0)) (Step (get_or ns 0 0))))))

is_call_with : (call : Call) → call ≡ call_with (call_letter call) (call_numbers call)
unfolding call_with
is_call_with (Open Reader seat) = refl
is_call_with (Open Writer seat) = refl
is_call_with (Get seat cell) = refl
is_call_with (Put seat cell value) = refl
is_call_with (End seat) = refl
is_call_with (Step seat) = refl

engine_with : ℕ → EngineChoice
engine_with letter = cond (eqb letter 109) Pessimistic Serial

is_engine_with : (engine : EngineChoice) → engine ≡ engine_with (engine_letter engine)
unfolding engine_with
is_engine_with Pessimistic = refl
is_engine_with Serial = refl

-- a call's text tells the call and where the text ends
call_tells : (c d : Call) (t u : List ℕ) → CallFits c → CallFits d → call_text c ++ t ≡ call_text d ++ u → (c ≡ d) × (t ≡ u)
call_tells c d t u c-fits d-fits e =
    let line = line_tells (call_letter c) (call_letter d) (call_numbers c) (call_numbers d) t u c-fits d-fits e in
    (is_call_with c ∙ (λ i. call_with (line.0 i) (line.1 i)) ∙ sym (is_call_with d), line.2)

heading_tells : (e f : EngineChoice) (v w : ℕ) (cs ds t u : List ℕ) → AllByRecursion Fits32 (v ∷ cs) → AllByRecursion Fits32 (w ∷ ds) → heading_text e v cs ++ t ≡ heading_text f w ds ++ u → (e ≡ f) × (v ∷ cs ≡ w ∷ ds) × (t ≡ u)
heading_tells e f v w cs ds t u e-fits f-fits same =
    let line = line_tells (engine_letter e) (engine_letter f) (v ∷ cs) (w ∷ ds) t u e-fits f-fits same in
    (is_engine_with e ∙ ap engine_with line.0 ∙ sym (is_engine_with f), line.1, line.2)

pub calls_have_own_texts : CallsHaveOwnTexts
calls_have_own_texts c d c-fits d-fits e = (call_tells c d [] [] c-fits d-fits (ap (λ (l : List ℕ). l ++ []) e)).0

pub headings_have_own_texts : HeadingsHaveOwnTexts
headings_have_own_texts e f v w cs ds e-fits f-fits same =
    let told = heading_tells e f v w cs ds [] [] e-fits f-fits (ap (λ (l : List ℕ). l ++ []) same) in
    (told.0, ap (λ (l : List ℕ). get_or l 0 0) told.1, ap (drop 1) told.1)

-- bs begin with the text of a call
record OneMore (bs : List ℕ) : Type 0 where
  call : Call
  after : List ℕ
  fits : CallFits call
  split : bs ≡ call_text call ++ after

-- two ways to cut bytes into calls and what is left: one way, or the one with fewer calls goes on with a call
data Compared (cs : List Call) (x : List ℕ) (ds : List Call) (y : List ℕ) : Type 0 where
  same : cs ≡ ds → x ≡ y → Compared cs x ds y
  first_goes_on : length cs < length ds → OneMore x → Compared cs x ds y
  second_goes_on : length ds < length cs → OneMore y → Compared cs x ds y

one_more_each : (c : Call) (cs : List Call) (x : List ℕ) (d : Call) (ds : List Call) (y : List ℕ) → c ≡ d → Compared cs x ds y → Compared (c ∷ cs) x (d ∷ ds) y
one_more_each c cs x d ds y e (same p q) = same (λ i. e i ∷ p i) q
one_more_each c cs x d ds y e (first_goes_on few more) = first_goes_on (omega arith) more
one_more_each c cs x d ds y e (second_goes_on few more) = second_goes_on (omega arith) more

compare_calls : (cs ds : List Call) (x y : List ℕ) → AllByRecursion CallFits cs → AllByRecursion CallFits ds → calls_text cs ++ x ≡ calls_text ds ++ y → Compared cs x ds y
compare_calls [] [] x y c-fits d-fits e = same refl e
compare_calls [] (d ∷ ds) x y c-fits d-fits e = first_goes_on (omega arith) (record { call = d; after = calls_text ds ++ y; fits = d-fits.0; split = e ∙ append_assoc (call_text d) (calls_text ds) y })
compare_calls (c ∷ cs) [] x y c-fits d-fits e = second_goes_on (omega arith) (record { call = c; after = calls_text cs ++ x; fits = c-fits.0; split = sym e ∙ append_assoc (call_text c) (calls_text cs) x })
compare_calls (c ∷ cs) (d ∷ ds) x y c-fits d-fits e =
    let told = call_tells c d (calls_text cs ++ x) (calls_text ds ++ y) c-fits.0 d-fits.0 (sym (append_assoc (call_text c) (calls_text cs) x) ∙ e ∙ append_assoc (call_text d) (calls_text ds) y) in
    one_more_each c cs x d ds y told.0 (compare_calls cs ds x y c-fits.1 d-fits.1 told.1)

no_more : (bs : List ℕ) → NoCall bs → OneMore bs → ⊥
no_more bs none more = none more.call more.after more.fits more.split

not_empty : (bs : List ℕ) → bs ≡ [] → OneMore bs → ⊥
not_empty bs e more = omega (arith, ap length (sym e ∙ more.split))

begins_with_heading : (bs : List ℕ) (s : Content) (left : List ℕ) → Front bs s left → NoHeading bs → ⊥
begins_with_heading bs s left front none = none s.engine s.version s.cells (calls_text s.calls ++ left) front.fits.0 (front.split ∙ append_assoc (heading_text s.engine s.version s.cells) (calls_text s.calls) left)

-- two fronts of the same bytes
module _ (bs : List ℕ) (s r : Content) (x y : List ℕ) (f : Front bs s x) (g : Front bs r y) where
  fronts : (s.engine ≡ r.engine) × (s.version ∷ s.cells ≡ r.version ∷ r.cells) × (calls_text s.calls ++ x ≡ calls_text r.calls ++ y)
  fronts =
      let first = append_assoc (heading_text s.engine s.version s.cells) (calls_text s.calls) x in
      let second = append_assoc (heading_text r.engine r.version r.cells) (calls_text r.calls) y in
      heading_tells _ _ _ _ _ _ _ _ f.fits.0 g.fits.0 (sym first ∙ sym f.split ∙ g.split ∙ second)

  compared : Compared s.calls x r.calls y
  compared = compare_calls s.calls r.calls x y f.fits.1 g.fits.1 fronts.2

  same_content : s.calls ≡ r.calls → s ≡ r
  same_content e = λ i. record { engine = fronts.0 i; version = get_or (fronts.1 i) 0 0; cells = drop 1 (fronts.1 i); calls = e i }

  -- a refused call stands in one place only
  one_bad_line : NoCall x → NoCall y → length s.calls ≡ length r.calls
  one_bad_line no-x no-y = elim compared [ same e _ ↦ ap length e | first_goes_on _ more ↦ absurd (no_more x no-x more) | second_goes_on _ more ↦ absurd (no_more y no-y more) ]

  -- where a call is refused, reading goes no further
  ends_at_bad_line : NoCall x → length s.calls < length r.calls → ⊥
  ends_at_bad_line no-x fewer = elim compared [ same e _ ↦ omega (arith, ap length e) | first_goes_on _ more ↦ no_more x no-x more | second_goes_on few _ ↦ omega arith ]

  -- the whole sheet is read once
  one_whole : x ≡ [] → y ≡ [] → s ≡ r
  one_whole no-x no-y = elim compared [ same e _ ↦ same_content e | first_goes_on _ more ↦ absurd (not_empty x no-x more) | second_goes_on _ more ↦ absurd (not_empty y no-y more) ]

  -- what is left behind a whole sheet's calls is nothing
  nothing_left : y ≡ [] → 0 < length x → (NoCall x) ⊎ (length r.calls ≤ length s.calls) → ⊥
  nothing_left no-y some why =
      elim compared [
        | same _ e ↦ omega (arith, ap length (e ∙ no-y))
        | first_goes_on few more ↦ ⊎_elim (λ no-x. no_more x no-x more) (λ many. omega arith) why
        | second_goes_on _ more ↦ not_empty y no-y more
      ]

pub outcome_is_unique : OutcomeIsUnique
outcome_is_unique bs _ _ (too_many_bytes _) (too_many_bytes _) = refl
outcome_is_unique bs _ _ (too_many_bytes long) (no_heading short _) = absurd (omega arith)
outcome_is_unique bs _ _ (too_many_bytes long) (no_call short _ _ _ _ _ _) = absurd (omega arith)
outcome_is_unique bs _ _ (too_many_bytes long) (too_many_calls short _ _ _ _ _) = refl
outcome_is_unique bs _ _ (too_many_bytes long) (whole short _ _ _) = absurd (omega arith)
outcome_is_unique bs _ _ (no_heading short _) (too_many_bytes long) = absurd (omega arith)
outcome_is_unique bs _ _ (no_heading _ _) (no_heading _ _) = refl
outcome_is_unique bs _ _ (no_heading _ none) (no_call _ r y g _ _ _) = absurd (begins_with_heading bs r y g none)
outcome_is_unique bs _ _ (no_heading _ none) (too_many_calls _ r y g _ _) = absurd (begins_with_heading bs r y g none)
outcome_is_unique bs _ _ (no_heading _ none) (whole _ r g _) = absurd (begins_with_heading bs r [] g none)
outcome_is_unique bs _ _ (no_call short _ _ _ _ _ _) (too_many_bytes long) = absurd (omega arith)
outcome_is_unique bs _ _ (no_call _ s x f _ _ _) (no_heading _ none) = absurd (begins_with_heading bs s x f none)
outcome_is_unique bs _ _ (no_call _ s x f _ _ no-x) (no_call _ r y g _ _ no-y) = ap (λ (n : ℕ). declined (UnreadableLine (n + 2))) (one_bad_line bs s r x y f g no-x no-y)
outcome_is_unique bs _ _ (no_call _ s x f few _ no-x) (too_many_calls _ r y g many _) = absurd (ends_at_bad_line bs s r x y f g no-x (omega arith))
outcome_is_unique bs _ _ (no_call _ s x f few some no-x) (whole _ r g _) = absurd (nothing_left bs s r x [] f g refl some (inl no-x))
outcome_is_unique bs _ _ (too_many_calls short _ _ _ _ _) (too_many_bytes long) = refl
outcome_is_unique bs _ _ (too_many_calls _ s x f _ _) (no_heading _ none) = absurd (begins_with_heading bs s x f none)
outcome_is_unique bs _ _ (too_many_calls _ s x f many _) (no_call _ r y g few _ no-y) = absurd (ends_at_bad_line bs r s y x g f no-y (omega arith))
outcome_is_unique bs _ _ (too_many_calls _ _ _ _ _ _) (too_many_calls _ _ _ _ _ _) = refl
outcome_is_unique bs _ _ (too_many_calls _ s x f many some) (whole _ r g few) = absurd (nothing_left bs s r x [] f g refl some (inr (omega arith)))
outcome_is_unique bs _ _ (whole short _ _ _) (too_many_bytes long) = absurd (omega arith)
outcome_is_unique bs _ _ (whole _ s f _) (no_heading _ none) = absurd (begins_with_heading bs s [] f none)
outcome_is_unique bs _ _ (whole _ s f _) (no_call _ r y g few some no-y) = absurd (nothing_left bs r s y [] g f refl some (inl no-y))
outcome_is_unique bs _ _ (whole _ s f few) (too_many_calls _ r y g many some) = absurd (nothing_left bs r s y [] g f refl some (inr (omega arith)))
outcome_is_unique bs _ _ (whole _ s f _) (whole _ r g _) = ap readable (one_whole bs s r [] [] f g refl refl)

pub written_is_read_back : WrittenIsReadBack
written_is_read_back s fits short few = whole short s (record { fits = fits; split = sym (append-nil (sheet_text s)) }) few

pub reading_laws : ReadingLaws
reading_laws = record {
  calls_have_own_texts = calls_have_own_texts;
  headings_have_own_texts = headings_have_own_texts;
  outcome_is_unique = outcome_is_unique;
  written_is_read_back = written_is_read_back;
}
