use Rattle.std.proofs.Common.{refl, sym, subst}
use Rattle.trac_gap.specs.Slots.{IsShifted}
use Rattle.trac_gap.proofs.Shifted.{shifted_none, shifted_nowhere, shifted_over}
use Rattle.trac_gap.proofs.slots.Slots.shift.Goals as goal

pub returns-then-count-eq0 : goal.returns-then-count-eq0
returns-then-count-eq0 g c = (refl, shifted_none c.args.self.now.slots c.args.from c.args.to c.args.count c.if-count-eq0.true)

pub returns-then-from-to : goal.returns-then-from-to
returns-then-from-to g c = (refl, shifted_nowhere c.args.self.now.slots c.args.from c.args.to c.args.count c.if-from-to.true)

pub returns-then-to-from : goal.returns-then-to-from
returns-then-to-from g c = (
  c.shift_down.ensures.0,
  subst (IsShifted c.args.self.now.slots c.args.from c.args.to c.args.count) (sym c.shift_down.ensures.1) (shifted_over c.args.self.now.slots c.args.from c.args.to c.args.count c.requires.1 c.requires.2),
)

pub returns-else-to-from : goal.returns-else-to-from
returns-else-to-from g c = (
  c.shift_up.ensures.0,
  subst (IsShifted c.args.self.now.slots c.args.from c.args.to c.args.count) (sym c.shift_up.ensures.1) (shifted_over c.args.self.now.slots c.args.from c.args.to c.args.count c.requires.1 c.requires.2),
)
