use Rattle.std.proofs.Common.{ℕ, ◌==◌, sym, ap, ◌∙◌}
use Rattle.serial.proofs.Progressing.{waits_now}
use Rattle.serial.proofs.engine.SerialEngine.step.Goals as goal
use Rattle.serial.specs.Laws.{sound_of}

pub returns-in-Some-2 : goal.returns-in-Some-2
returns-in-Some-2 c =
    let e = c.args.self.now in
    let t = c.in-Some.turn in
    let none = sym c.in_ok-seat.ensures.refusal in
    let apart = sym (c.if-eq.ensures ∙ ap (λ (s : ℕ). t.seat == s) c.in_ok-seat.ensures.seat) in
    (none, waits_now e.state (sound_of e) t c.in-Some.is c.args.seat apart none)
