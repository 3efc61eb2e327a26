use Rattle.std.proofs.Common.{subst, ◌∙◌}
use Rattle.trac_debug.specs.Replies.{Replies}
use Rattle.trac_debug.specs.Views.{command_seen}
use Rattle.trac_debug.proofs.Answered.{not_made, not_written}
use Rattle.trac_debug.proofs.debugging.reply.Goals as goal

pub returns-in-Some-clause-err : goal.returns-in-Some-clause-err
returns-in-Some-clause-err g c =
    not_written (command_seen c.args.command) c.args.session.now c.reply_to_walk.new.session _ c.in-Some.line.items _ _ c.write_reply.result c.as_slice.ensures.value c.in-Some.ensures.replied c.write_reply.ensures.fault c.write_reply.ensures.err

pub returns-in_default-reply_to_other-clause-err : goal.returns-in_default-reply_to_other-clause-err
returns-in_default-reply_to_other-clause-err g c = not_made (command_seen c.args.command) c.args.session.now c.reply_to_other.new.session (g.W.Write.contents c.args.output.now) c.in_default.ensures.other (c.in_default-reply_to_other.ensures.unreplied ∙ c.in_default.ensures.undone)

pub returns-clause-err : goal.returns-clause-err
returns-clause-err g c =
    not_written (command_seen c.args.command) c.args.session.now c.reply_to_other.new.session _ c.in-Ok.reply.items _ _ c.write_reply-2.result c.as_slice-2.ensures.value
    (subst (λ old. Replies (command_seen c.args.command) old c.in-Ok.reply.items c.reply_to_other.new.session) c.in_default.ensures.undone c.in-Ok.ensures.replied) c.write_reply-2.ensures.fault c.write_reply-2.ensures.err
