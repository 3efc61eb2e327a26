use Rattle.trac_rules.proofs.ProperStates.{fetching_of_proper, fits_of_proper, initial_proper, step_proper, proper_of_judged, judged_of_proper}
use Rattle.trac_rules.proofs.laws.states_stay_proper.Goals as goal

pub returns : goal.returns
returns c = record { start = initial_proper; each_step = step_proper; sufficient = proper_of_judged; necessary = judged_of_proper; necessary_of_a_block = fits_of_proper; necessary_of_its_forms = fetching_of_proper }
