-- A name is known where it has an entry.
use Rattle.std.proofs.Common.{ap, sym, ◌∙◌, arith}
use Rattle.std.proofs.lemmas.Bool.{false≢true}
use Rattle.trac_forms.specs.Stored.{made_known}
use Rattle.trac_forms.specs.Table.{kept_in}
use Rattle.trac_forms.proofs.Tables.{name_found}
use Rattle.trac_forms.proofs.store.Store.know.Goals as goal

pub returns-in_err-know_at-clause-again : goal.returns-in_err-know_at-clause-again
returns-in_err-know_at-clause-again g c = λ there.
    absurd (false≢true (c.in_err-know_at.ensures.again (sym (name_found c.self.inside.table.entries _ c.args.self.now c.self.view_is c.args.name.now) ∙ there)))

pub invariant_of-self-2 : goal.invariant_of-self-2
invariant_of-self-2 g c =
    let order = c.self.invariant in
    record {
      parted = c.know_at.ensures.parted c.self.inside.live order.forms_recent order.parted;
      forms_recent = omega (arith, order.forms_recent, c.know_at.ensures.mark.0);
      within = c.know_at.ensures.mark.1;
    }

pub returns-clause-known : goal.returns-clause-known
returns-clause-known g c = c.in_ok-know_at.ensures.known (kept_in c.self.inside.recent c.self.inside.blocks) ∙ ap (made_known c.args.name.now) c.self.view_is
