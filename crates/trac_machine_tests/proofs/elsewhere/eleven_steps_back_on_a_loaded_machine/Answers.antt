use Rattle.trac_machine_tests.proofs.Walks.{eleven_lead}
use Rattle.trac_machine_tests.proofs.elsewhere.eleven_steps_back_on_a_loaded_machine.Goals as goal

pub expect_back-requires : goal.expect_back-requires
expect_back-requires g c = eleven_lead
