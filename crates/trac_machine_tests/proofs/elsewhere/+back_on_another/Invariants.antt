use Rattle.trac_machine_tests.proofs.elsewhere.+back_on_another.Given as goal

abbrev pub decreases-back_on_another : goal.decreases-back_on_another
decreases-back_on_another g l = l.left
