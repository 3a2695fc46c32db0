use Rattle.std.proofs.Common.{length, length-set, refl, ap, ◌∙◌, subst, sym}
use Rattle.fixed_vec.proofs.Places.{items_fit, places_stay}
use Rattle.book.specs.Distinct.{distinct}
use Rattle.book.specs.Sizes.{max_writes}
use Rattle.book.specs.Writes.{Write}
use Rattle.book.specs.WriteSets.{entries, Puts}
use Rattle.book.proofs.WriteSearch.{distinct-put, pushed_apart, pushed_puts, room_found}
use Rattle.book.proofs.write_set.WriteSet.put.Goals as goal

pub invariant_of-self : goal.invariant_of-self
invariant_of-self c =
    let was = c.args.self.now in
    let long = ap (length {A = Write}) c.set.ensures.items ∙ length-set (entries was) c.in-Some.found c.args.write in
    let whole = places_stay was.writes c.set.new.self long c.set.ensures.spare ∙ was.whole in
    record {
      whole = whole;
      few = items_fit c.set.new.self max_writes whole;
      apart = ap distinct (c.set.ensures.items ∙ c.in-Some.ensures.2 c.args.write refl) ∙ distinct-put c.args.write (entries was) was.apart;
    }

pub returns-in-Some : goal.returns-in-Some
returns-in-Some c = (room_found c.args.write.cell (entries c.args.self.now) _ (c.in-Some.ensures.1 c.args.write), c.set.ensures.items ∙ c.in-Some.ensures.2 c.args.write refl)

pub invariant_of-self-2 : goal.invariant_of-self-2
invariant_of-self-2 c = record {
  whole = c.push.ensures.whole;
  few = items_fit c.push.new.self max_writes c.push.ensures.whole;
  apart = pushed_apart c.push.result c.args.self.now.writes c.push.new.self c.args.write c.in_default.ensures c.args.self.now.apart c.push.ensures.added c.push.ensures.unchanged;
}

pub returns : goal.returns
returns c =
    subst (Puts c.args.write (entries c.args.self.now) c.push.new.self.items) (sym c.or.ensures)
    (pushed_puts c.push.result c.args.self.now.writes c.push.new.self c.args.write c.in_default.ensures c.push.ensures.room c.push.ensures.full c.push.ensures.added c.push.ensures.unchanged)
