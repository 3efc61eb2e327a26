-- What is left to take, from the forms as they are now.
use Rattle.std.proofs.Common.{◌≡◌, ◌≤◌, ◌+◌, ◌++◌, length}
use Rattle.std.specs.Prelude.{vec_capacity}
use Rattle.std.specs.Vec.Iter.{into_iter_items}
use Rattle.trac_rules.specs.Blocks.{moved_out}
use Rattle.trac_rules.specs.Handling.{without}
use Rattle.trac_change.specs.Changed.{named_forms}
use Rattle.trac_text.specs.Framing.{texts_of}
use Rattle.trac_storage.proofs.leaving.delete_each.Given as goal

abbrev pub invariant-loop-name : goal.invariant-loop-name
invariant-loop-name g l =
    (record l.store { forms = without (texts_of (into_iter_items l.name-iterator)) l.store.forms } ≡ record l.fn.store { forms = without (texts_of l.fn.names.items) l.fn.store.forms })
    × (named_forms l.taken.items ++ moved_out (texts_of (into_iter_items l.name-iterator)) l.store.forms ≡ moved_out (texts_of l.fn.names.items) l.fn.store.forms)
    × (length l.taken.items + length (into_iter_items l.name-iterator) ≤ vec_capacity l.taken)
