-- Results of calls as replies.
use Rattle.std.specs.Prelude.{Result, Ok, Err}
use Rattle.trac_rules.specs.declared.refusal.Refusal.{Refusal}
use Rattle.trac_rules.specs.declared.reply.Reply.{Reply}
use Rattle.trac_rules.specs.declared.reply.Reply.TheVariants.{Done, Refused}

abbrev pub reply_of : {T : Type 0} → Result T Refusal → Reply
reply_of (Ok value) = Done
reply_of (Err refusal) = Refused refusal
