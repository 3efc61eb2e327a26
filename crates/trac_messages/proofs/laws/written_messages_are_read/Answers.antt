use Rattle.trac_messages.proofs.Back.{messages_back}
use Rattle.trac_messages.proofs.laws.written_messages_are_read.Goals as goal

pub returns : goal.returns
returns c = messages_back
