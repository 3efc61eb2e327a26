use Rattle.trac_session.proofs.Released.{is_printed}
use Rattle.trac_moves.proofs.Standing.{numbered}
use Rattle.trac_moves.proofs.window.windows_show_what_steps_print.Goals as goal

pub returns : goal.returns
returns c = record { counted = numbered; printed = λ input text steps forgotten released p w. is_printed input text steps p w.has }
