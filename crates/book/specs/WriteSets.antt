-- What a write set holds, and when it has room.
use Rattle.std.specs.Prelude.{◌≡◌, ℕ, ◌<◌, Bool, not, ◌&&◌, ◌||◌, List, length, true, false, is_some, Some, None, Option, Result, MatchOption, MatchResult, nat_le, nat_lt, slice_index_or, slice_set}
use Rattle.book.specs.declared.write_set.WriteSet.{WriteSet}
use Rattle.book.specs.declared.refusal.Refusal.{Refusal}
use Rattle.book.specs.declared.refusal.Refusal.TheVariants.{WriteSetFull}
use Rattle.book.specs.Sizes.{max_writes}
use Rattle.book.specs.Writes.{with_put, Write, written}

abbrev pub entries : WriteSet → List Write
entries ws = ws.writes.items

-- a cell that was put already, or one cell more
abbrev pub has_room : ℕ → List Write → Bool
has_room cell ws = is_some (written cell ws) || nat_lt (length ws) max_writes

-- a cell that was not put, and no room for one more
abbrev pub lacks_room : ℕ → List Write → Bool
lacks_room cell ws = not (is_some (written cell ws)) && nat_le max_writes (length ws)

-- r is the place of the cell's entry, where a put of the cell goes, or none where the cell was not put
abbrev pub Position : ℕ → List Write → Option ℕ → Type 0
Position cell ws r = MatchOption r (written cell ws ≡ None) (λ i. (i < length ws) × ((d : Write) → written cell ws ≡ Some (slice_index_or ws i d).value) × ((p : Write) → p.cell ≡ cell → slice_set ws i p ≡ with_put p ws))

-- a put joins the entries where there is room for its cell; where there is none, it is declined and they stay
abbrev pub Puts : Write → List Write → List Write → Result (Unit {0}) Refusal → Type 0
Puts p ws ws' r = MatchResult r (λ _. (has_room p.cell ws ≡ true) × (ws' ≡ with_put p ws)) (λ refusal. (refusal ≡ WriteSetFull) × (has_room p.cell ws ≡ false) × (ws' ≡ ws))
