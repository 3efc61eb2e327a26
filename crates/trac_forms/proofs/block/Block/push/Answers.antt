-- A new name is told apart from the others.
use Rattle.std.proofs.Common.{◌≡◌, ◌-◌, ap, arith}
use Rattle.trac_forms.specs.Stored.{Gathered}
use Rattle.trac_forms.specs.Table.{places_left}
use Rattle.trac_forms.proofs.BlockLists.{apart_with, pushed}
use Rattle.trac_forms.proofs.block.Block.push.Goals as goal

pub invariant_of-self : goal.invariant_of-self
invariant_of-self g c =
    apart_with (λ k. k.items) c.self.inside.entries c.args.self.now.held (ap (λ (b : Gathered). b.held) c.self.view_is) c.push_reserved.new.self c.args.name c.args.form
    c.push_reserved.ensures.items c.requires.other c.self.invariant

pub push_reserved-requires : goal.push_reserved-requires
push_reserved-requires g c = omega (arith, c.requires.room, ap (λ (b : Gathered). b.room) c.self.view_is)

pub returns : goal.returns
returns g c =
    let held = pushed (λ k. k.items) c.self.inside.entries c.args.self.now.held (ap (λ (b : Gathered). b.held) c.self.view_is) c.push_reserved.new.self c.args.name c.args.form c.push_reserved.ensures.items in
    let room : places_left c.push_reserved.new.self ≡ c.args.self.now.room - 1 =
    omega (arith, c.push_reserved.ensures.len, c.push_reserved.ensures.capacity, ap (λ (b : Gathered). b.room) c.self.view_is) in
    λ i. record { held = held i; room = room i }
