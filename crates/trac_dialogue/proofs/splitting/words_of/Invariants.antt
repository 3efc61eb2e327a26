use Rattle.std.proofs.Common.{length}
use Rattle.trac_dialogue.proofs.splitting.words_of.Given as goal

abbrev pub decreases-loop-rest : goal.decreases-loop-rest
decreases-loop-rest g l = length l.rest
