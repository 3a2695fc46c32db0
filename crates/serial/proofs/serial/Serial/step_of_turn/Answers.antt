use Rattle.std.proofs.Common.{inl, inr, sym, ap, ◌∙◌, subst, arith}
use Rattle.std.proofs.lemmas.Option.{unwrap_or-slice_get}
use Rattle.std.specs.Option.{unwrap_or}
use Rattle.book.specs.Calls.{has_made}
use Rattle.book.specs.Writes.{written}
use Rattle.book.specs.WriteSets.{entries}
use Rattle.serial.specs.declared.state.Stage.{Stage}
use Rattle.serial.specs.States.{latest, stage_sight}
use Rattle.serial.proofs.Stepping.{answered_sound, ended_sound, ends_now, made_sound, maker_writes, makes_now, number_left, puts_now, steps_to, tells_now}
use Rattle.serial.proofs.serial.Serial.step_of_turn.Goals as goal
use Rattle.serial.specs.Laws.{Sound, sound_of}

pub invariant_of-self : goal.invariant_of-self
invariant_of-self c =
    let e = c.args.self.now in
    subst Sound (sym c.tell.ensures.after) (answered_sound e.state (sound_of e) c.args.turn c.requires.turn c.args.turn.writes (ap (λ (x : Stage). has_made (stage_sight x e.state.number (latest e.state))) c.in-Getting.is))

pub returns-in-Getting : goal.returns-in-Getting
returns-in-Getting c =
    let e = c.args.self.now in
    let value = c.unwrap_or-latest.ensures ∙ ap (λ o. unwrap_or o 0) c.value_at.ensures ∙ unwrap_or-slice_get (latest e.state) c.in-Getting.cell 0 in
    let answer = c.tell.ensures.answer ∙ ap (λ v. (_, unwrap_or (written c.in-Getting.cell (entries c.args.turn.writes)) v)) value in
    steps_to _ _ _ _ _ _ _ answer c.tell.ensures.after (tells_now e.state (sound_of e) c.args.turn c.requires.turn c.in-Getting.cell c.in-Getting.is)

pub invariant_of-self-in-Ok : goal.invariant_of-self-in-Ok
invariant_of-self-in-Ok c =
    let e = c.args.self.now in
    subst Sound (sym c.put-in-Ok.ensures.after) (answered_sound e.state (sound_of e) c.args.turn c.requires.turn c.put.new.self (ap (λ (x : Stage). has_made (stage_sight x e.state.number (latest e.state))) c.in-Putting.is))

pub returns-in-Ok : goal.returns-in-Ok
returns-in-Ok c =
    let e = c.args.self.now in
    steps_to _ _ _ _ _ _ _ c.put-in-Ok.ensures.answer c.put-in-Ok.ensures.after (puts_now e.state (sound_of e) c.args.turn c.requires.turn c.in-Putting.write c.put.new.self c.in-Putting.is c.in-Ok.ensures.1)

pub commit-requires : goal.commit-requires
commit-requires c =
    let e = c.args.self.now in
    omega (arith, number_left e.state (sound_of e) c.args.turn c.requires.turn c.in-Ending.is c.in-Writer.is)

pub invariant_of-self-in-Writer : goal.invariant_of-self-in-Writer
invariant_of-self-in-Writer c =
    let e = c.args.self.now in
    subst Sound (sym c.commit.ensures.after) (made_sound e.state (sound_of e) c.args.turn c.requires.turn c.commit.new.self.cells c.commit.ensures.wrote c.commit.ensures.rest c.in-Ending.is c.in-Writer.is)

pub returns-in-Writer : goal.returns-in-Writer
returns-in-Writer c =
    let e = c.args.self.now in
    steps_to _ _ _ _ _ _ _ c.commit.ensures.answer c.commit.ensures.after (makes_now e.state (sound_of e) c.args.turn c.requires.turn c.commit.new.self.cells c.commit.ensures.wrote c.commit.ensures.rest c.in-Ending.is c.in-Writer.is)

pub invariant_of-self-in-Reader : goal.invariant_of-self-in-Reader
invariant_of-self-in-Reader c =
    let e = c.args.self.now in
    subst Sound (sym c.give_up_turn.ensures.after) (ended_sound e.state (sound_of e) c.args.turn c.requires.turn)

pub returns-in-Reader : goal.returns-in-Reader
returns-in-Reader c =
    let e = c.args.self.now in
    steps_to _ _ _ _ _ _ _ c.give_up_turn.ensures.answer c.give_up_turn.ensures.after (ends_now e.state (sound_of e) c.args.turn c.requires.turn (inr (c.in-Ending.is, c.in-Reader.is)))

pub invariant_of-self-in-Made : goal.invariant_of-self-in-Made
invariant_of-self-in-Made c =
    let e = c.args.self.now in
    subst Sound (sym c.give_up_turn-in-Made.ensures.after) (ended_sound e.state (sound_of e) c.args.turn c.requires.turn)

pub returns-in-Made : goal.returns-in-Made
returns-in-Made c =
    let e = c.args.self.now in
    let kind = maker_writes e.state (sound_of e) c.args.turn c.requires.turn c.in-Made.is in
    steps_to _ _ _ _ _ _ _ c.give_up_turn-in-Made.ensures.answer c.give_up_turn-in-Made.ensures.after (ends_now e.state (sound_of e) c.args.turn c.requires.turn (inl (c.in-Made.is, kind)))
