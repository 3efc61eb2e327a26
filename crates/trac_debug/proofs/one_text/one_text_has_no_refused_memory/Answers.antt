use Rattle.trac_debug.proofs.OneText.{text_has_memory_reply, text_is_among, text_is_one, text_is_there, with_or_said}
use Rattle.trac_debug.proofs.one_text.one_text_has_no_refused_memory.Goals as goal

pub returns : goal.returns
returns c = record { there = text_is_there; one = text_is_one; among = text_is_among; else_said = with_or_said; else_has = text_has_memory_reply }
