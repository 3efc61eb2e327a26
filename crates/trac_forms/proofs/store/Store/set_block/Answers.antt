use Rattle.std.specs.Prelude.{Some}
use Rattle.trac_forms.proofs.BlockLists.{replaced}
use Rattle.trac_forms.proofs.store.Store.set_block.Goals as goal

pub returns : goal.returns
returns g c =
    replaced c.self.inside.table.entries c.self.inside.recent c.self.inside.blocks c.args.self.now c.args.i (Some c.args.block) c.self.view_is
