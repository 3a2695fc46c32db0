use Rattle.std.proofs.Common.{sym, ap, ◌∙◌}
use Rattle.serial.specs.Seats.{turn_of}
use Rattle.serial.proofs.Accepting.{put_fits}
use Rattle.serial.proofs.engine.SerialEngine.put.Goals as goal
use Rattle.serial.specs.Laws.{sound_of}

pub ask-requires-clause-room : goal.ask-requires-clause-room
ask-requires-clause-room c =
    let e = c.args.self.now in
    λ t is. put_fits e.state (sound_of e) c.args.seat c.args.cell c.args.value (sym c.in_ok-seat.ensures.refusal) t (ap (turn_of e.state.turn) (sym c.in_ok-seat.ensures.seat) ∙ is)
