use Rattle.std.proofs.Common.{refl, rules, ◌∙◌}
use Rattle.std.proofs.lemmas.Iterator.{YieldsList-from_range}
use Rattle.std.proofs.lemmas.Iterator.Search.{all_from_yields_List}
use borrow.Author.Tests.{tests}
use Rattle.book.specs.Engines.{says_free, seat_standing}
use Rattle.book.proofs.FreeSeats.{all_say_free}
use Rattle.book.proofs.runner.all_free.Goals as goal

pub returns : goal.returns
returns g c =
    let m = g.E.Engine.meaning c.args.engine.now in
    all_from_yields_List (λ s. says_free (seat_standing m s)) _ _ _ c.all.ensures.ran (YieldsList-from_range 0 8 8 refl refl) (λ x b q k. search (rules, tests)) ∙ all_say_free m (g.met.E.Engine.sized c.args.engine.now)
