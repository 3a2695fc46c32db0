use Rattle.std.proofs.Common.{◌≡◌, ◌≤◌, take, count_by}
use Rattle.book.specs.Calls.{will_make}
use Rattle.serial.specs.States.{meaning_of}
use Rattle.serial.proofs.serial.Serial.writers.Given as goal

abbrev pub invariant-loop-seat : goal.invariant-loop-seat
invariant-loop-seat l = (l.n ≤ l.seat) × (l.n ≡ count_by will_make (take l.seat (meaning_of l.self.state).seats))
