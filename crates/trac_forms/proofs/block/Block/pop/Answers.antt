-- The last entry leaves, and the names of the others are told apart as before.
use Rattle.std.proofs.Common.{ap, arith}
use Rattle.trac_forms.specs.Stored.{Gathered}
use Rattle.trac_forms.proofs.BlockLists.{apart_popped, popped}
use Rattle.trac_forms.proofs.block.Block.pop.Goals as goal

pub invariant_of-self : goal.invariant_of-self
invariant_of-self g c =
    apart_popped (λ k. k.items) c.self.inside.entries c.args.self.now.held (ap (λ (b : Gathered). b.held) c.self.view_is) c.pop.new.self c.pop.result c.pop.ensures.items c.self.invariant

pub returns-clause-last : goal.returns-clause-last
returns-clause-last g c =
    popped (λ k. k.items) c.self.inside.entries c.args.self.now.held (ap (λ (b : Gathered). b.held) c.self.view_is) c.pop.new.self c.pop.result c.pop.ensures.items c.pop.ensures.cases

pub returns-clause-room : goal.returns-clause-room
returns-clause-room g c = omega (arith, ap (λ (b : Gathered). b.room) c.self.view_is, c.pop.ensures.len, c.pop.ensures.capacity)
