-- A put that was accepted finds room, and only writers make.
use Rattle.std.specs.Prelude.{Bool, true, Some, None, Option}
use Rattle.book.specs.declared.call.Kind.{Kind}
use Rattle.book.specs.declared.write_set.WriteSet.{WriteSet}
use Rattle.book.specs.Calls.{is_writer}
use Rattle.book.specs.WriteSets.{entries, has_room}
use Rattle.serial.specs.declared.state.Stage.{Stage}
use Rattle.serial.specs.declared.state.Stage.TheVariants.{Ending, Getting, Made, Putting, Ready}
use Rattle.serial.specs.declared.state.Turn.{Turn}

abbrev pub stage_room : Stage → Kind → WriteSet → Bool
stage_room Ready kind writes = true
stage_room (Getting cell) kind writes = true
stage_room (Putting write) kind writes = has_room write.cell (entries writes)
stage_room Ending kind writes = true
stage_room Made kind writes = is_writer kind

abbrev pub turn_room : Option Turn → Bool
turn_room None = true
turn_room (Some t) = stage_room t.stage t.kind t.writes
