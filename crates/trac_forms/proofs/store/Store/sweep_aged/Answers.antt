-- The entries that are not recent are the last ones, and have no form.
use Rattle.std.proofs.Common.{ap, length, length-take, subst, sym, ◌∙◌, arith}
use Rattle.trac_forms.specs.Table.{IsParted, kept_in, stored}
use Rattle.trac_forms.proofs.Parted.{parted_front}
use Rattle.trac_forms.proofs.Tables.{cut_to}
use Rattle.trac_forms.proofs.store.Store.sweep_aged.Goals as goal

pub invariant_of-self : goal.invariant_of-self
invariant_of-self g c =
    let es = c.self.inside.table.entries in
    let order = c.self.invariant in
    record {
      parted = subst (λ entries. IsParted entries c.self.inside.live) (sym c.truncate.ensures.entries) (parted_front es c.self.inside.live order.parted c.self.inside.recent order.forms_recent);
      forms_recent = omega arith;
      within = omega (arith, ap length c.truncate.ensures.entries, length-take c.self.inside.recent es, order.forms_recent, order.within);
    }

pub returns : goal.returns
returns g c =
    let order = c.self.invariant in
    ap (λ entries. stored entries (kept_in c.self.inside.live c.self.inside.blocks)) c.truncate.ensures.entries
    ∙ cut_to c.self.inside.table.entries c.self.inside.live c.self.inside.recent order.parted order.forms_recent c.len-len.ensures.unique (kept_in c.self.inside.recent c.self.inside.blocks) c.args.self.now
    c.self.view_is
