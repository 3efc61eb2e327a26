use Rattle.std.proofs.Common.{length}
use Rattle.trac_streams.specs.declared.ending.Ending.TheVariants.{Ended, Budget}
use Rattle.trac_debug.proofs.Answered.{none_of_more, some_of_more}
use Rattle.trac_debug.proofs.Debugged.{halts_at_end, halts_before, halts_late, halts_unread}
use Rattle.trac_debug.proofs.debugging.last_ending.Goals as goal

pub returns-in-Ok-true : goal.returns-in-Ok-true
returns-in-Ok-true g c = λ number output p late.
    halts_before _ _ output _ _ number c.args.lines.now c.has_more.new.self p Budget tt c.in-Ok-true.ensures.read
    (halts_late number c.has_more.new.self p late
    (some_of_more (length c.has_more.new.self.bytes) c.in-Ok-true.field-0 c.in-Ok-true.ensures.more c.in-Ok-true.field-0-test))

pub returns-in-Ok-false : goal.returns-in-Ok-false
returns-in-Ok-false g c = λ number output p late.
    halts_before _ _ output _ _ number c.args.lines.now c.has_more.new.self p Ended tt c.in-Ok-false.ensures.read
    (halts_at_end number c.has_more.new.self p
    (c.in-Ok-false.ensures.ended c.in-Ok-false.field-0-test, none_of_more c.has_more.new.self.bytes c.in-Ok-false.field-0 c.in-Ok-false.ensures.more c.in-Ok-false.field-0-test))

pub returns-in-Err : goal.returns-in-Err
returns-in-Err g c = λ number output p late.
    halts_unread _ _ output _ _ number c.args.lines.now c.has_more.new.self p c.in-Err.ending c.in-Err.ensures.failed
