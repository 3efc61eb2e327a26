use Rattle.std.proofs.Common.{◌≡◌, sym, ap, ◌∙◌}
use Rattle.std.specs.Prelude.{Some, slice_get}
use Rattle.trac_forms.specs.Stored.{Gathered}
use Rattle.trac_forms.proofs.BlockLists.{entry_at}
use Rattle.trac_forms.proofs.block.Block.get.Goals as goal

pub returns : goal.returns
returns g c =
    let name : c.in_ok-name.field-0.now.0.items ≡ c.as_slice.result.now = sym c.as_slice.ensures.value in
    ap (λ (b : Gathered). slice_get b.held c.args.i) (sym c.self.view_is)
    ∙ entry_at (λ k. k.items) c.self.inside.entries.items c.deref.result.now c.args.i c.in_ok-name.field-0.now c.deref.ensures.value
    c.in_ok-name.ensures.lookup.3.0 c.in_ok-name.ensures.lookup.1
    ∙ ap (λ n. Some (n, c.in_ok-name.field-0.now.1)) name
