use Rattle.trac_forms.specs.Table.{kept_in}
use Rattle.trac_forms.proofs.Tables.{form_known, form_recent}
use Rattle.trac_forms.proofs.store.Store.knows_its_forms.Goals as goal

pub returns-clause-known : goal.returns-clause-known
returns-clause-known g c = form_known c.self.inside.table.entries _ c.args.self.now c.self.view_is

pub returns-clause-recent : goal.returns-clause-recent
returns-clause-recent g c =
    form_recent c.self.inside.table.entries c.self.inside.live c.self.inside.recent c.self.invariant.parted c.self.invariant.forms_recent c.len-len.ensures.unique
    (kept_in c.self.inside.recent c.self.inside.blocks) c.args.self.now c.self.view_is
