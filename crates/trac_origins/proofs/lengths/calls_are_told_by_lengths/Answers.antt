use Rattle.trac_origins.proofs.ToldCalls.{call_arguments, call_rest, call_stays}
use Rattle.trac_origins.proofs.ToldForms.{call_forms, call_held}
use Rattle.trac_origins.proofs.lengths.calls_are_told_by_lengths.Goals as goal

pub returns : goal.returns
returns c = record { rest = call_rest; stays = call_stays; forms = call_forms; held = call_held; arguments = call_arguments }
