use Rattle.trac_session.proofs.Released.{answered_released, at_the_end, back_released, is_printed, new_released, stepped_released}
use Rattle.trac_session.proofs.outputs.sessions_release_what_steps_print.Goals as goal

pub returns : goal.returns
returns c = record { start = new_released; each_answer = answered_released; forward = stepped_released; back = back_released; printed = is_printed; ended = at_the_end }
