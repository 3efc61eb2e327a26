-- Commands as the definitions see them.
use Rattle.trac_debug.specs.declared.command.LineCommand as code
use Rattle.trac_debug.specs.Commands.{LineCommand, Forward, Back, Until, Return, Print, Commit, Quit}

abbrev pub command_seen : code.LineCommand → LineCommand
command_seen (code.TheVariants.Forward n) = Forward n
command_seen (code.TheVariants.Back n) = Back n
command_seen (code.TheVariants.Until name n) = Until name.now n
command_seen (code.TheVariants.Return name) = Return name.now
command_seen code.TheVariants.Print = Print
command_seen (code.TheVariants.Commit keep) = Commit keep
command_seen code.TheVariants.Quit = Quit
