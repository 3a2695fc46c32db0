-- What a contract sees of a list of fixed room.
use Rattle.std.specs.Prelude.{List, ◌++◌, refl}
use Rattle.std.specs.Coded.{code_by, Coded, coded_list, coded×}

-- the elements in order, and what lies in the unused places
pub record Listed (T : Type 0) : Type 0 where
  pub items : List T
  pub spare : List T

-- all of its places, the used ones in front
abbrev pub places : {T : Type 0} → Listed T → List T
places l = l.items ++ l.spare

-- it is stored as the pair of its fields
abbrev pub listed_code : {T : Type 0} → Coded T → Coded (Listed T)
listed_code {T} code =
    code_by (List T × List T) (coded× (coded_list code) (coded_list code)) (λ l. (l.items, l.spare)) (λ p. record { items = p.0; spare = p.1 }) (λ _. refl)
