use Rattle.std.proofs.Common.{◌≡◌, ◌<◌, ap, arith, false, length, not, sym, true, ◌∙◌}
use Rattle.std.proofs.lemmas.List.{take_all}
use Rattle.trac_rules.specs.State.{Held}
use Rattle.trac_prims.specs.Blocks.{count_further}
use Rattle.trac_prims.proofs.ComingBack.{fit_together, further_more, too_many_already}
use Rattle.trac_prims.proofs.Putting.{there_behind}
use Rattle.trac_prims.proofs.blocks.may_come_back.Goals as goal
use Rattle.trac_prims.proofs.blocks.may_come_back.Goals.{in-Some+then-is_none, in-Some+else-is_none, in_default}

pub loop-i-preserved : goal.loop-i-preserved
loop-i-preserved g c =
    let held = c.args.block.now.held in
    let forms = c.args.store.now.forms in
    let within : c.loop-i.i < length held = omega (arith, c.loop-i-test.true, c.len-i-end.ensures.len) in
    elim c.match-get.branch [
      | in-Some+then-is_none w ↦
          further_more held forms c.loop-i.i c.loop-i.more c.match-get.more w.in-Some.name.now _ false within w.in-Some.ensures
          (sym (there_behind w.get-in-Some.result _ w.get-in-Some.ensures.value) ∙ w.is_none.ensures ∙ ap not w.if-is_none.true) c.loop-i.invariant.0 c.loop-i.invariant.1
          (omega (arith, w.more-is))
      | in-Some+else-is_none w ↦
          further_more held forms c.loop-i.i c.loop-i.more c.match-get.more w.in-Some.name.now _ true within w.in-Some.ensures
          (sym (there_behind w.get-in-Some.result _ w.get-in-Some.ensures.value) ∙ w.is_none.ensures ∙ ap not w.if-is_none.false) c.loop-i.invariant.0 c.loop-i.invariant.1
          (omega (arith, w.more-is))
      | in_default w ↦ absurd (omega (arith, within, w.in_default.ensures))
    ]

pub returns-then-count-le-FORM_COUNT_LIMIT : goal.returns-then-count-le-FORM_COUNT_LIMIT
returns-then-count-le-FORM_COUNT_LIMIT g c =
    let held = c.args.block.now.held in
    let forms = c.args.store.now.forms in
    let all : c.loop-i.more ≡ count_further held forms =
    c.loop-i.invariant.0 ∙ ap (λ (hs : Held). count_further hs forms) (take_all c.loop-i.i held (omega (arith, c.loop-i-test.false, c.len-i-end.ensures.len))) in
    fit_together held forms c.form_count-count.result c.loop-i.more c.len-i-end.ensures.distinct c.form_count-count.ensures all c.if-count-le-FORM_COUNT_LIMIT.true

pub returns-else-count-le-FORM_COUNT_LIMIT : goal.returns-else-count-le-FORM_COUNT_LIMIT
returns-else-count-le-FORM_COUNT_LIMIT g c =
    let held = c.args.block.now.held in
    let forms = c.args.store.now.forms in
    let all : c.loop-i.more ≡ count_further held forms =
    c.loop-i.invariant.0 ∙ ap (λ (hs : Held). count_further hs forms) (take_all c.loop-i.i held (omega (arith, c.loop-i-test.false, c.len-i-end.ensures.len))) in
    too_many_already held forms c.form_count-count.result c.loop-i.more c.len-i-end.ensures.distinct c.form_count-count.ensures all c.if-count-le-FORM_COUNT_LIMIT.false
