use Rattle.std.proofs.Common.{ℕ, ◌+◌, ◌<◌, length, None, count_by, sym, ap, ◌∙◌, arith}
use Rattle.std.proofs.lemmas.List.{take_all}
use Rattle.std.proofs.lemmas.List.Sums.{count_by_more_yes, count_by_more_no}
use Rattle.book.specs.Calls.{will_make}
use Rattle.serial.specs.States.{meaning_of}
use Rattle.serial.proofs.serial.Serial.writers.Goals as goal
use Rattle.serial.proofs.serial.Serial.writers.Goals.{then-seat_will_make, else-seat_will_make}
use Rattle.serial.specs.Laws.{part_is, seats_sized}

pub loop-seat-preserved : goal.loop-seat-preserved
loop-seat-preserved c =
    let e = c.args.self.now in
    let part = part_is e.state e.seats e.within c.loop-seat.seat (omega arith) in
    let within : c.loop-seat.seat < length (meaning_of e.state).seats = omega (arith, seats_sized e.state e.seats) in
    elim c.if-seat_will_make.branch [
      | then-seat_will_make w ↦
          let more = count_by_more_yes will_make (meaning_of e.state).seats c.loop-seat.seat None within (ap will_make part ∙ sym w.if-seat_will_make.ensures) in
          (omega (arith, w.n-is), w.n-is ∙ ap (λ (n : ℕ). n + 1) c.loop-seat.invariant.1 ∙ sym more)
      | else-seat_will_make w ↦
          let same = count_by_more_no will_make (meaning_of e.state).seats c.loop-seat.seat None within (ap will_make part ∙ sym w.if-seat_will_make.ensures) in
          (omega (arith, w.n-is), w.n-is ∙ c.loop-seat.invariant.1 ∙ sym same)
    ]

pub returns : goal.returns
returns c =
    let e = c.args.self.now in
    c.loop-seat.invariant.1 ∙ ap (count_by will_make) (take_all c.loop-seat.seat (meaning_of e.state).seats (omega (arith, seats_sized e.state e.seats)))
