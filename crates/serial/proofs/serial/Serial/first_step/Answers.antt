use Rattle.std.proofs.Common.{None, get_or, sym, ap, ◌∙◌, subst}
use Rattle.serial.proofs.Stepping.{opens_now, steps_to, taken_sound}
use Rattle.serial.proofs.serial.Serial.first_step.Goals as goal
use Rattle.serial.specs.Laws.{Sound, sound_of}

pub invariant_of-self : goal.invariant_of-self
invariant_of-self c =
    let e = c.args.self.now in
    let here = ap (λ s. get_or e.state.waiting s None) (sym c.index.ensures.number) ∙ c.in-Some.is in
    subst Sound (sym c.take_turn.ensures.after) (taken_sound e.state (sound_of e) c.requires.free c.args.seat c.requires.busy c.in-Some.kind c.empty.result here c.empty.ensures)

pub returns : goal.returns
returns c =
    let e = c.args.self.now in
    let here = ap (λ s. get_or e.state.waiting s None) (sym c.index.ensures.number) ∙ c.in-Some.is in
    let opens = opens_now e.state (sound_of e) c.requires.free c.args.seat c.requires.busy c.in-Some.kind c.empty.result here c.empty.ensures in
    (opens.0, opens.1, steps_to _ _ _ _ _ _ _ c.take_turn.ensures.answer c.take_turn.ensures.after opens.2)
