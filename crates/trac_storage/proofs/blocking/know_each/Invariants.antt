-- The names so far are known, and no form has changed.
use Rattle.std.proofs.Common.{◌≡◌, drop}
use Rattle.trac_rules.specs.Undone.{names_in}
use Rattle.trac_change.specs.Changed.{named_forms}
use Rattle.trac_storage.specs.Changing.{AreAmong, knowing}
use Rattle.trac_storage.proofs.blocking.know_each.Given as goal

abbrev pub invariant-loop-name : goal.invariant-loop-name
invariant-loop-name g l =
    (knowing (names_in (named_forms (drop l.name-index l.forms))) l.store.known ≡ knowing (names_in (named_forms l.forms)) l.fn.store.known)
    × AreAmong l.fn.store.known l.store.known
    × (l.store ≡ record l.fn.store { known = l.store.known; recent = l.store.recent })
    × AreAmong l.fn.store.recent l.store.recent
