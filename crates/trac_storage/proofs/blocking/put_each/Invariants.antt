-- What is left to put, among the forms as they are now.
use Rattle.std.proofs.Common.{◌≡◌}
use Rattle.std.specs.Vec.Iter.{into_iter_items}
use Rattle.trac_rules.specs.Blocks.{with_all}
use Rattle.trac_rules.specs.Undone.{names_in}
use Rattle.trac_change.specs.Changed.{named_forms}
use Rattle.trac_storage.specs.Changing.{KnowsNamed, knowing}
use Rattle.trac_storage.proofs.blocking.put_each.Given as goal

abbrev pub invariant-loop-name : goal.invariant-loop-name
invariant-loop-name g l =
    (record l.store { forms = with_all (named_forms (into_iter_items l.name-iterator)) l.store.forms; recent = knowing (names_in (named_forms (into_iter_items l.name-iterator))) l.store.recent }
    ≡ record l.fn.store { forms = with_all (named_forms l.fn.forms.items) l.fn.store.forms; recent = knowing (names_in (named_forms l.fn.forms.items)) l.fn.store.recent })
    × KnowsNamed (named_forms (into_iter_items l.name-iterator)) l.store.known
