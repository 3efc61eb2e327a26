use Rattle.std.proofs.Common.{ap, ◌∙◌}
use Rattle.std.specs.Prelude.{Option, option_map, slice_set}
use Rattle.trac_forms.specs.Stored.{Gathered, Stored}
use Rattle.trac_forms.proofs.BlockLists.{replaced}
use Rattle.trac_forms.proofs.store.Store.take_block.Goals as goal

pub returns-clause-erased : goal.returns-clause-erased
returns-clause-erased g c =
    replaced c.self.inside.table.entries c.self.inside.recent c.self.inside.blocks c.args.self.now c.args.i c.take.new.self c.self.view_is
    ∙ ap (λ (block : Option Gathered). let s : Stored = record c.args.self.now { blocks = slice_set c.args.self.now.blocks c.args.i (option_map (λ b. b.held) block) } in s) c.take.ensures.after
