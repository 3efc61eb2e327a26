-- What is left to put, among the forms as they are now.
use Rattle.std.proofs.Common.{◌≡◌, length}
use Rattle.trac_rules.specs.Blocks.{with_all}
use Rattle.trac_forms.specs.Stored.{AreApart}
use Rattle.trac_storage.specs.Changing.{AreAmong, KnowsNamed}
use Rattle.trac_storage.proofs.storage_back.move_out.Given as goal

abbrev pub invariant-loop-name : goal.invariant-loop-name
invariant-loop-name g l = record {
  put : record l.store { forms = with_all l.block.held l.store.forms; recent = l.initial.store.recent } ≡ record l.initial.store { forms = with_all l.initial.block.held l.initial.store.forms };
  apart : AreApart l.block.held;
  recent : AreAmong l.initial.store.recent l.store.recent;
  known : KnowsNamed l.block.held l.store.known;
}

abbrev pub decreases-loop-name : goal.decreases-loop-name
decreases-loop-name g l = length l.block.held
