use Rattle.std.proofs.Common.{◌≡◌, ◌-◌, arith, false, length, sym, true, ◌∙◌}
use Rattle.std.specs.Prelude.{decimal, is_some}
use Rattle.std.specs.FinMap as finite
use Rattle.std.proofs.lemmas.List.{length-map}
use Rattle.trac_rules.specs.Form.{defined}
use Rattle.trac_rules.specs.Handling.{without}
use Rattle.trac_text.specs.Framing.{texts_of}
use Rattle.trac_prims.proofs.BlockPlans.{count_left, gone_under, none_under, number_sound, stays_under}
use Rattle.trac_prims.proofs.Putting.{not_under_long, put_again, put_new, there_behind}
use Rattle.trac_prims.proofs.blocks.may_stand.Goals as goal
use Rattle.trac_prims.proofs.blocks.may_stand.Goals.{else-is_some-via-then-is_some+else-not-stands_among, else-is_some-via-else-is_some}

pub returns-then-name-gt-NAME_LIMIT : goal.returns-then-name-gt-NAME_LIMIT
returns-then-name-gt-NAME_LIMIT g c = λ names number small is.
    not_under_long c.args.name.now (defined (decimal number)) (without names c.args.store.now.forms) c.if-name-gt-NAME_LIMIT.true

pub returns-then-not-stands_among : goal.returns-then-not-stands_among
returns-then-not-stands_among g c = λ names number small is.
    let forms = c.args.store.now.forms in
    let held = texts_of c.args.held.now in
    let count = c.form_count.result in
    let gone = length c.args.held.now in
    let there : is_some (finite.get forms c.args.name.now) ≡ true = sym (there_behind c.get.result _ c.get.ensures.value) ∙ sym c.is_some.ensures ∙ c.if-is_some.true in
    put_again c.args.name.now (defined (decimal number)) (without names forms) (count - gone) (omega (arith, c.if-name-gt-NAME_LIMIT.false)) (number_sound number small)
    (count_left names held forms is count gone (count - gone) c.form_count.ensures (sym (length-map c.args.held.now (λ text. text.items)))
    (omega (arith, c.requires, c.form_count.ensures)) (omega (arith, c.requires, c.form_count.ensures)))
    (stays_under names held forms is c.args.name.now there (sym c.if-not-stands_among.ensures))

pub returns-else-is_some : goal.returns-else-is_some
returns-else-is_some g c = λ names number small is.
    let forms = c.args.store.now.forms in
    let held = texts_of c.args.held.now in
    let count = c.form_count.result in
    let gone = length c.args.held.now in
    let none : is_some (finite.get (without names forms) c.args.name.now) ≡ false = elim c.else-is_some.branch [
      | else-is_some-via-then-is_some+else-not-stands_among w ↦ gone_under names held forms is c.args.name.now (sym w.if-not-stands_among.ensures)
      | else-is_some-via-else-is_some w ↦
          none_under names held forms is c.args.name.now (sym (there_behind c.get.result _ c.get.ensures.value) ∙ sym c.is_some.ensures ∙ w.if-is_some.false)
    ] in
    put_new c.args.name.now (defined (decimal number)) (without names forms) (count - gone) (omega (arith, c.if-name-gt-NAME_LIMIT.false)) (number_sound number small)
    (count_left names held forms is count gone (count - gone) c.form_count.ensures (sym (length-map c.args.held.now (λ text. text.items)))
    (omega (arith, c.requires, c.form_count.ensures)) (omega (arith, c.requires, c.form_count.ensures)))
    none
