-- The extent of two lists is the sum of their extents. Wide items are no more than the bytes that they stand for, so
-- there are places for all.
use Rattle.std.proofs.Common.{◌≡◌, ◌+◌, ◌++◌, length, ap, ◌∙◌, arith, length-append}
use Rattle.trac_gap.specs.Ends.{Ends}
use Rattle.trac_rules.specs.declared.item.Item.{Item}
use Rattle.trac_rules.specs.Form.{IsWide, all_items, extent}
use Rattle.trac_rules.proofs.Cutting.{extent-append}
use Rattle.trac_rules.proofs.ProperBlocks.{All-append_right}
use Rattle.trac_forms.proofs.Divided.{count_within, divided_put, held_packed, kept_there}
use Rattle.trac_forms.proofs.form.Form.of.Given.{Over}
use Rattle.trac_forms.proofs.form.Form.of.Goals as goal
use Rattle.trac_forms.proofs.form.Form.of.Goals.{After-new-items}

pub returns-in_default-clause-err : goal.returns-in_default-clause-err
returns-in_default-clause-err g c = omega (arith, c.in_default.ensures, extent-append c.args.before.now c.args.after.now)

pub returns-in_default-extent_within-clause-err : goal.returns-in_default-extent_within-clause-err
returns-in_default-extent_within-clause-err g c =
    omega (arith, c.in-Some.ensures, c.in_default-extent_within.ensures, extent-append c.args.before.now c.args.after.now)

-- the bytes that all items stand for
all_bytes : (g : Over) (c : After-new-items g) → c.in-Some.front + c.in-Some-extent_within.back ≡ extent (c.args.before.now ++ c.args.after.now)
all_bytes g c = omega (arith, c.in-Some.ensures, c.in-Some-extent_within.ensures, extent-append c.args.before.now c.args.after.now)

pub put_items-requires-clause-room : goal.put_items-requires-clause-room
put_items-requires-clause-room g c =
    let bytes = all_bytes g (goal.at.put_items-requires-clause-room g c).After-new-items in
    omega (
      arith,
      count_within c.args.before.now c.args.after.now (c.in-Some.front + c.in-Some-extent_within.back) bytes c.requires,
      c.in_ok-reserve.ensures.ok,
    )

pub put_items-requires-2-clause-room : goal.put_items-requires-2-clause-room
put_items-requires-2-clause-room g c =
    let bytes = all_bytes g (goal.at.put_items-requires-2-clause-room g c).After-new-items in
    omega (
      arith,
      count_within c.args.before.now c.args.after.now (c.in-Some.front + c.in-Some-extent_within.back) bytes c.requires,
      c.in_ok-reserve.ensures.ok,
      ap (λ (e : Ends Item). length e.left) c.put_items.ensures,
      ap (λ (e : Ends Item). length e.right) c.put_items.ensures,
      ap (λ (e : Ends Item). e.capacity) c.put_items.ensures,
      length-append c.reserve.new.self.left c.args.before.now,
    )

pub put_items-requires-2-clause-wide : goal.put_items-requires-2-clause-wide
put_items-requires-2-clause-wide g c = All-append_right IsWide c.args.before.now c.args.after.now c.requires

pub invariant_of-result : goal.invariant_of-result
invariant_of-result g c =
    let bytes = all_bytes g (goal.at.invariant_of-result g c).After-new-items in
    let items = c.shift_right.new.self in
    let whole = divided_put c.reserve.new.self c.put_items.new.items c.put_items-2.new.items items c.args.before.now c.args.after.now
    (c.in_ok-reserve.ensures.left ∙ ap (λ (e : Ends Item). e.left) c.new-items.ensures)
    (c.in_ok-reserve.ensures.right ∙ ap (λ (e : Ends Item). e.right) c.new-items.ensures)
    c.put_items.ensures c.put_items-2.ensures c.shift_right.ensures in
    held_packed c.new-text.result.items items c.new-text.ensures.items
    (kept_there items (c.args.before.now ++ c.args.after.now) (ap all_items whole) (omega (arith, bytes, c.in-Some.ensures, c.in-Some-extent_within.ensures)) c.requires
    (omega (
      arith,
      bytes,
      c.in_ok-reserve.ensures.ok,
      ap (λ (e : Ends Item). e.capacity) c.put_items.ensures,
      ap (λ (e : Ends Item). e.capacity) c.put_items-2.ensures,
      ap (λ (e : Ends Item). e.capacity) c.shift_right.ensures,
    )))

pub returns-clause-fits : goal.returns-clause-fits
returns-clause-fits g c =
    omega (arith, c.in-Some.ensures, c.in-Some-extent_within.ensures, extent-append c.args.before.now c.args.after.now)

pub returns-clause-sound : goal.returns-clause-sound
returns-clause-sound g c = let held = invariant_of-result g c in record { within = held.kept.within; wide = held.kept.wide }
