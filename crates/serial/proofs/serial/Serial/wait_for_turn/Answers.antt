use Rattle.std.proofs.Common.{ℕ, Some, sym, subst}
use Rattle.book.specs.declared.call.Call.TheVariants.{Open}
use Rattle.book.specs.Effects.{Accepts}
use Rattle.serial.specs.Moves.{waiting_at}
use Rattle.serial.specs.States.{meaning_of}
use Rattle.serial.proofs.Accepting.{opening_sound, opening_waits}
use Rattle.serial.proofs.serial.Serial.wait_for_turn.Goals as goal
use Rattle.serial.specs.Laws.{Sound, sound_of}

pub invariant_of-self : goal.invariant_of-self
invariant_of-self c =
    let e = c.args.self.now in
    subst (λ (s : ℕ). Sound (waiting_at e.state s (Some c.args.kind))) (sym c.index.ensures.number) (opening_sound e.state (sound_of e) c.args.kind c.args.seat c.requires)

pub returns : goal.returns
returns c =
    let st = c.args.self.now.state in
    subst (λ (s : ℕ). Accepts 2 (meaning_of st) (Open c.args.kind c.args.seat) (meaning_of (waiting_at st s (Some c.args.kind)))) (sym c.index.ensures.number) (opening_waits st (sound_of c.args.self.now) c.args.kind c.args.seat c.requires)
