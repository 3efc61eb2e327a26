use Rattle.std.proofs.Common.{ap, subst, sym}
use Rattle.trac_forms.specs.Stored.{AreApart}
use Rattle.trac_forms.specs.Table.{named}
use Rattle.trac_forms.proofs.BlockLists.{none_apart}
use Rattle.trac_forms.proofs.block.Block.with_room.Goals as goal

pub invariant_of-result : goal.invariant_of-result
invariant_of-result g c = subst AreApart (sym (ap (named (λ k. k.items)) c.in_ok-with_capacity.ensures.items)) none_apart
