-- What is left to put, and what is left to replace, among the forms as they are now.
use Rattle.std.proofs.Common.{◌≡◌, ◌≤◌, ◌+◌, ◌++◌, length}
use Rattle.std.specs.Prelude.{vec_capacity}
use Rattle.std.specs.Vec.Iter.{into_iter_items}
use Rattle.trac_forms.specs.Stored.{AreApart}
use Rattle.trac_rules.specs.Blocks.{moved_out, with_all}
use Rattle.trac_change.specs.Changed.{named_forms}
use Rattle.trac_rules.specs.Undone.{names_in}
use Rattle.trac_storage.specs.Changing.{KnowsNamed, knowing}
use Rattle.trac_storage.proofs.leaving.bring.Given as goal

abbrev pub invariant-loop-name : goal.invariant-loop-name
invariant-loop-name g l =
    (record l.store { forms = with_all (named_forms (into_iter_items l.name-iterator)) l.store.forms; recent = knowing (names_in (named_forms (into_iter_items l.name-iterator))) l.store.recent }
    ≡ record l.initial.store { forms = with_all (named_forms l.fn.forms.items) l.initial.store.forms; recent = knowing (names_in (named_forms l.fn.forms.items)) l.initial.store.recent })
    × KnowsNamed (named_forms (into_iter_items l.name-iterator)) l.store.known
    × AreApart (named_forms (into_iter_items l.name-iterator))
    × (named_forms l.replaced.items ++ moved_out (names_in (named_forms (into_iter_items l.name-iterator))) l.store.forms ≡ moved_out (names_in (named_forms l.fn.forms.items)) l.initial.store.forms)
    × (length l.replaced.items + length (into_iter_items l.name-iterator) ≤ vec_capacity l.replaced)
