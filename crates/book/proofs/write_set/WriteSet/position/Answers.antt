use Rattle.std.proofs.Common.{List, sym, ap, ◌∙◌, subst}
use Rattle.lookup.specs.Last.{last_match}
use Rattle.book.specs.Writes.{Write}
use Rattle.book.specs.WriteSets.{entries, Position}
use Rattle.book.proofs.WriteSearch.{finds, test}
use Rattle.book.proofs.write_set.WriteSet.position.Goals as goal

pub returns : goal.returns
returns c =
    let found = c.last_match.ensures.place ∙ ap (λ (l : List Write). last_match (test c.args.cell) l) c.as_slice.ensures in
    subst (Position c.args.cell (entries c.args.self.now)) (sym found) (finds c.args.cell (entries c.args.self.now) c.args.self.now.apart)
