-- The items between the old place and the new one go to the other list.
use Rattle.std.proofs.Common.{◌≡◌, ◌-◌, length, ap, ◌∙◌, arith}
use Rattle.trac_rules.specs.Form.{Form, all_items, pointed_at}
use Rattle.trac_forms.specs.Layout.{divided}
use Rattle.trac_forms.proofs.Divided.{divided_packed, held_packed, kept_back, kept_packed, pointed_back, pointed_on, room_held}
use Rattle.trac_forms.proofs.form.Form.set_pointer.Goals as goal

pub pack-requires : goal.pack-requires
pack-requires g c = room_held c.self.inside.text.items c.self.inside.items c.self.invariant

pub invariant_of-self : goal.invariant_of-self
invariant_of-self g c =
    let view : divided c.pack.new.items ≡ c.args.self.now = ap divided c.pack.ensures.packed ∙ c.self.view_is in
    let before = ap (λ (form : Form). length form.before) view in
    held_packed c.pack.new.text.items c.shift_right.new.self c.pack.ensures.none
    (kept_back c.pack.new.items c.shift_right.new.self c.args.place (c.pointer-old.result - c.args.place) (omega (arith, before, c.pointer-old.ensures)) (omega (arith, before, c.pointer-old.ensures))
    c.shift_right.ensures (kept_packed c.self.inside.text.items c.self.inside.items c.pack.new.items c.self.invariant c.pack.ensures.packed))

pub returns-else-place-old-clause-moved : goal.returns-else-place-old-clause-moved
returns-else-place-old-clause-moved g c =
    let view : divided c.pack.new.items ≡ c.args.self.now = ap divided c.pack.ensures.packed ∙ c.self.view_is in
    let before = ap (λ (form : Form). length form.before) view in
    divided_packed c.pack.new.text.items c.shift_left.new.self c.pack.ensures.none
    ∙ pointed_on c.pack.new.items c.shift_left.new.self c.args.place (c.args.place - c.pointer-old.result) (omega (arith, before, c.pointer-old.ensures)) c.shift_left.ensures
    ∙ ap (λ (form : Form). pointed_at c.args.place (all_items form)) view

pub returns-then-place-old-clause-moved : goal.returns-then-place-old-clause-moved
returns-then-place-old-clause-moved g c =
    let view : divided c.pack.new.items ≡ c.args.self.now = ap divided c.pack.ensures.packed ∙ c.self.view_is in
    let before = ap (λ (form : Form). length form.before) view in
    divided_packed c.pack.new.text.items c.shift_right.new.self c.pack.ensures.none
    ∙ pointed_back c.pack.new.items c.shift_right.new.self c.args.place (c.pointer-old.result - c.args.place) (omega (arith, before, c.pointer-old.ensures)) (omega (arith, before, c.pointer-old.ensures))
    c.shift_right.ensures
    ∙ ap (λ (form : Form). pointed_at c.args.place (all_items form)) view
