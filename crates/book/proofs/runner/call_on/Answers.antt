use Rattle.std.proofs.Common.{refl, ap}
use Rattle.book.proofs.EngineCalls.{answers_does, asks_does}
use Rattle.book.proofs.runner.call_on.Goals as goal

pub returns-in-Open-clause-does : goal.returns-in-Open-clause-does
returns-in-Open-clause-does g c = asks_does _ _ _ (ap g.E.Engine.meaning) _ _ _ _ c.in-Open.is c.into.ensures refl c.open.ensures

pub returns-in-Get-clause-does : goal.returns-in-Get-clause-does
returns-in-Get-clause-does g c = asks_does _ _ _ (ap g.E.Engine.meaning) _ _ _ _ c.in-Get.is c.into-in-Get.ensures refl c.get.ensures

pub returns-in-Put-clause-does : goal.returns-in-Put-clause-does
returns-in-Put-clause-does g c = asks_does _ _ _ (ap g.E.Engine.meaning) _ _ _ _ c.in-Put.is c.into-in-Put.ensures refl c.put.ensures

pub returns-in-End-clause-does : goal.returns-in-End-clause-does
returns-in-End-clause-does g c = asks_does _ _ _ (ap g.E.Engine.meaning) _ _ _ _ c.in-End.is c.into-in-End.ensures refl c.end.ensures

pub returns-in-Step-clause-does : goal.returns-in-Step-clause-does
returns-in-Step-clause-does g c = answers_does _ _ _ (ap g.E.Engine.meaning) _ _ _ _ c.in-Step.is c.into-in-Step.ensures c.step.ensures
