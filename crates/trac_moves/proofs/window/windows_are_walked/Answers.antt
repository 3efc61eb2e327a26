use Rattle.trac_moves.proofs.Kept.{backward, ended, fed, forward}
use Rattle.trac_moves.proofs.window.windows_are_walked.Goals as goal

pub returns : goal.returns
returns c = record { forward = forward; back = backward; fed = fed; end = ended }
