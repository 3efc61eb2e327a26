-- Commands as the definitions see them.
use Rattle.trac_rules.specs.Session.{Command, Feed, End, Step, Back, Commit}
use Rattle.trac_session.specs.declared.commands.Command as code

abbrev pub command_of : code.Command → Command
command_of (code.TheVariants.Feed bytes) = Feed bytes.now
command_of code.TheVariants.End = End
command_of code.TheVariants.Step = Step
command_of code.TheVariants.Back = Back
command_of (code.TheVariants.Commit keep) = Commit keep
