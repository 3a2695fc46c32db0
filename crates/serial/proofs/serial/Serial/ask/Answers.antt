use Rattle.std.proofs.Common.{sym, ◌∙◌}
use Rattle.serial.proofs.Accepting.{asks, asks_sound, some_turn}
use Rattle.serial.proofs.serial.Serial.ask.Goals as goal
use Rattle.serial.specs.Laws.{sound_of}

pub invariant_of-self : goal.invariant_of-self
invariant_of-self c =
    let e = c.args.self.now in
    let is = sym c.turn_of.ensures ∙ c.in-Some.is in
    asks_sound e.state (sound_of e) c.args.seat c.args.stage c.requires.idle c.requires.unmade c.in-Some.turn is (c.requires.room c.in-Some.turn is)

pub returns : goal.returns
returns c =
    let e = c.args.self.now in
    asks e.state (sound_of e) c.args.seat c.args.stage c.requires.idle c.requires.unmade c.in-Some.turn (sym c.turn_of.ensures ∙ c.in-Some.is)

pub unreachable-requires : goal.unreachable-requires
unreachable-requires c =
    let e = c.args.self.now in
    some_turn e.state (sound_of e) c.args.seat c.args.stage c.requires.idle c.requires.unmade (sym c.turn_of.ensures ∙ c.in_default.is)
