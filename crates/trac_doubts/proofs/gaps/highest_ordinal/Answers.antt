use Rattle.std.proofs.Common.{◌≡◌, arith, max, ap, ◌∙◌}
use Rattle.std.specs.Option.{option_map_or}
use Rattle.trac_rules.specs.Form.{all_items}
use Rattle.trac_rules.proofs.Cutting.{count_within_extent}
use Rattle.trac_rules.specs.Doubts.{ordinal_of}
use Rattle.trac_doubts.proofs.Ordinals.{all_passed, gap_passed, greater, run_within}
use Rattle.trac_doubts.proofs.gaps.highest_ordinal.Goals as goal

pub returns : goal.returns
returns g c =
    all_passed (all_items c.args.form.now) c.loop-place.place c.loop-place.highest (omega (arith, c.loop-place-test.false, c.len-len.ensures.len)) c.loop-place.invariant.highest

pub overflow_add-gap : goal.overflow_add-gap
overflow_add-gap g c =
    let within = run_within (all_items c.args.form.now) c.loop-place.place c.run_len.result c.len-len.result c.len-len.ensures.len (omega (arith, c.loop-place-test.true)) c.run_len.ensures in
    omega (arith, within, c.len-len.type_inv)

pub overflow_add-place : goal.overflow_add-place
overflow_add-place g c =
    let within = run_within (all_items c.args.form.now) c.loop-place.place c.run_len.result c.len-len.result c.len-len.ensures.len (omega (arith, c.loop-place-test.true)) c.run_len.ensures in
    omega (arith, within, c.len-len.ensures.len, c.len-len.ensures.within, count_within_extent (all_items c.args.form.now) c.len-len.ensures.wide)

pub loop-place-preserved : goal.loop-place-preserved
loop-place-preserved g c =
    let items = all_items c.args.form.now in
    let within = run_within items c.loop-place.place c.run_len.result c.len-len.result c.len-len.ensures.len (omega (arith, c.loop-place-test.true)) c.run_len.ensures in
    record {
      within = omega (arith, within);
      highest =
          let most : c.max-highest.result ≡ max c.loop-place.highest c.ordinal_of.result = c.max-highest.ensures ∙ greater c.loop-place.highest c.ordinal_of.result in
          most
          ∙ gap_passed items c.loop-place.place c.run_len.result c.len-len.result c.len-len.ensures.len (omega (arith, c.loop-place-test.true)) c.run_len.ensures c.loop-place.highest
          c.ordinal_of.result c.loop-place.invariant.highest (c.ordinal_of.ensures ∙ ap (λ o. option_map_or ordinal_of o 0) c.item.ensures);
    }
