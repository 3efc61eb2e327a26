use Rattle.std.proofs.Common.{length, ◌-◌}
use Rattle.trac_dialogue.proofs.splitting.quoted_word.Given as goal

abbrev pub decreases-loop-at : goal.decreases-loop-at
decreases-loop-at g l = length l.text - l.at
