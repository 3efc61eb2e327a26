use Rattle.std.proofs.Common.{refl, sym, ap, ◌∙◌, map, Some, take_all, arith}
use Rattle.trac_gap.specs.Slots.{pasted}
use Rattle.trac_gap.proofs.Copying.{free_next, wrote_next}
use Rattle.trac_gap.proofs.Pasted.{pasted_none}
use Rattle.trac_gap.proofs.slots.Slots.copy_in.Goals as goal

pub loop-i-init : goal.loop-i-init
loop-i-init g c = record { at = refl; slots = sym (pasted_none _ _) }

pub put-requires : goal.put-requires
put-requires g c = (
  c.requires.0 ∙ sym c.loop-i.invariant.at,
  free_next _ _ c.loop-i.self.slots c.args.items.now _ _ c.requires.1 c.loop-i-test.true c.loop-i.invariant.slots,
)

pub loop-i-preserved : goal.loop-i-preserved
loop-i-preserved g c = record {
  at = c.put.ensures.0 ∙ c.loop-i.invariant.at;
  slots = wrote_next _ _ _ _ _ _ c.requires.1 c.loop-i-test.true c.loop-i.invariant.slots _ c.index-items-i.is c.put.ensures.1;
}

pub returns : goal.returns
returns g c =
    (c.loop-i.invariant.at, c.loop-i.invariant.slots ∙ ap (λ xs. pasted c.args.self.now.slots c.args.at (map Some xs)) (take_all c.loop-i.i c.args.items.now (omega arith)))
