use Rattle.trac_text.proofs.Holding.{placed_now, value_fits}
use Rattle.trac_text.proofs.texts.Texts.put_value.Goals as goal

pub put_value-requires : goal.put_value-requires
put_value-requires g c = value_fits (record { sound = c.self.invariant; view = c.self.view_is }) c.args.kind c.args.forced c.args.value.now c.requires.room c.requires.limit

pub invariant_of-self : goal.invariant_of-self
invariant_of-self g c = (placed_now (record { sound = c.self.invariant; view = c.self.view_is }) c.args.kind c.args.forced c.args.value.now c.requires.room c.requires.limit c.put_value.ensures).sound

pub returns : goal.returns
returns g c = (placed_now (record { sound = c.self.invariant; view = c.self.view_is }) c.args.kind c.args.forced c.args.value.now c.requires.room c.requires.limit c.put_value.ensures).view
