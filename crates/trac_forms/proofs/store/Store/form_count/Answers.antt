-- One form for each entry that has one, and those come first.
use Rattle.std.proofs.Common.{sym, ◌∙◌}
use Rattle.trac_forms.proofs.Parted.{parted_count}
use Rattle.trac_forms.proofs.Tables.{counted}
use Rattle.trac_forms.proofs.store.Store.form_count.Goals as goal

pub returns : goal.returns
returns g c =
    sym
    (counted c.self.inside.table.entries _ c.args.self.now c.self.view_is c.len-len.ensures.unique
    ∙ parted_count c.self.inside.table.entries c.self.inside.live c.self.invariant.parted)
