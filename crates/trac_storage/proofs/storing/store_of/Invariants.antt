-- The store so far, with the forms that are left.
use Rattle.std.proofs.Common.{◌≡◌, drop}
use Rattle.std.specs.FinSet as set
use Rattle.trac_rules.specs.Blocks.{with_all}
use Rattle.trac_rules.specs.Undone.{names_in}
use Rattle.trac_forms.specs.Stored.{nothing_stored}
use Rattle.trac_change.specs.Changed.{named_forms}
use Rattle.trac_storage.specs.Changing.{knowing}
use Rattle.trac_storage.specs.Loading.{forms_of}
use Rattle.trac_storage.proofs.storing.store_of.Given as goal

abbrev pub invariant-loop-name : goal.invariant-loop-name
invariant-loop-name g l =
    record l.store {
      forms = with_all (named_forms (drop l.name-index l.forms)) l.store.forms;
      known = knowing (names_in (named_forms (drop l.name-index l.forms))) l.store.known;
      recent = knowing (names_in (named_forms (drop l.name-index l.forms))) l.store.recent;
    }
    ≡ record nothing_stored {
      forms = forms_of (named_forms l.forms);
      known = knowing (names_in (named_forms l.forms)) set.empty;
      recent = knowing (names_in (named_forms l.forms)) set.empty;
    }
