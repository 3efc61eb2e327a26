use Rattle.std.proofs.Common.{rules}
use Rattle.trac_origins.proofs.ToldEffects.{line_told, silent_told, unshown_told}
use Rattle.trac_origins.proofs.ToldValues.{after_printed, before_printed, mark_after_printed, mark_before_printed, pointer_printed, text_printed}
use Rattle.trac_origins.proofs.lengths.prints_are_told_by_lengths.Goals as goal

pub returns : goal.returns
returns c = search (rules, line_told, silent_told, unshown_told, after_printed, before_printed, mark_after_printed, mark_before_printed, pointer_printed, text_printed)
