-- The entries without a form are the last ones.
use Rattle.std.proofs.Common.{ap, length, length-take, subst, sym, ◌∙◌, arith}
use Rattle.trac_forms.specs.Table.{IsParted, kept_in, stored}
use Rattle.trac_forms.proofs.Parted.{parted_cut, parted_within}
use Rattle.trac_forms.proofs.Tables.{cut_to_forms}
use Rattle.trac_forms.proofs.store.Store.sweep.Goals as goal

pub invariant_of-self : goal.invariant_of-self
invariant_of-self g c =
    let es = c.self.inside.table.entries in
    record {
      parted = subst (λ entries. IsParted entries c.self.inside.live) (sym c.truncate.ensures.entries) (parted_cut es c.self.inside.live c.self.invariant.parted);
      forms_recent = omega arith;
      within = omega (arith, ap length c.truncate.ensures.entries, length-take c.self.inside.live es, parted_within es c.self.inside.live c.self.invariant.parted);
    }

pub returns : goal.returns
returns g c =
    let bs = kept_in c.self.inside.recent c.self.inside.blocks in
    ap (λ entries. stored entries (kept_in c.self.inside.live c.self.inside.blocks)) c.truncate.ensures.entries
    ∙ cut_to_forms c.self.inside.table.entries c.self.inside.live c.self.invariant.parted c.len-len.ensures.unique bs c.args.self.now c.self.view_is
