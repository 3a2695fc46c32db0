use Rattle.lookup.proofs.Search.{is_last_only}
use Rattle.lookup.proofs.last_match.Goals as goal

pub returns-clause-place : goal.returns-clause-place
returns-clause-place g c = is_last_only (λ x. g.T.Entry.suits x c.args.question.now) c.args.entries.now c.last_suiting.result c.last_suiting.ensures
