-- Each run between two gaps is cut by itself.
use Rattle.std.proofs.Common.{List, ℕ, ◌+◌, ◌∙◌, drop, get_or, refl, subst, ap, arith}
use Rattle.std.proofs.lemmas.List.{drop_all, drop-drop, drop_more}
use Rattle.trac_items.specs.RunGaps.{IsCutOut, spanned}
use Rattle.trac_items.proofs.RunGaps.{first_within, mixed_ends, mixed_goes_on, mixed_old, mixed_starts, mixed_within, no_gap}
use Rattle.trac_items.proofs.run_gaps.gaps_into.Goals as goal

pub loop-gap-preserved : goal.loop-gap-preserved
loop-gap-preserved g c =
    let i = c.loop-gap.gap-index in
    let gaps = c.args.gaps.now in
    let rest = c.loop-gap.rest.now in
    let gap = get_or gaps i no_gap in
    let is = drop_more gaps i no_gap c.loop-gap-test.true in
    let cut =
    subst (λ (r : List ℕ). IsCutOut c.args.number c.args.text.now r c.loop-gap.out.items c.new_gaps_into.new.gaps.items c.in_ok-passed.passed) c.split_at.ensures.front c.in_ok-passed.ensures.cut in
    mixed_goes_on c.args.number c.args.text.now c.args.run.now gaps c.loop-gap.out.items rest (drop i gaps) c.loop-gap.invariant
    gap.passed (first_within rest (drop i gaps) gap (drop (i + 1) gaps) is c.loop-gap.invariant.ahead) c.new_gaps_into.new.gaps.items c.in_ok-passed.passed cut
    gap (drop (i + 1) gaps) c.push.new.self.items c.split_at-in-loop-gap.result.1.now is refl c.in_ok-push.ensures.items
    (c.split_at-in-loop-gap.ensures.back ∙ ap (drop gap.taken) c.split_at.ensures.back ∙ drop-drop gap.taken gap.passed rest)

pub returns-clause-cut : goal.returns-clause-cut
returns-clause-cut g c =
    mixed_ends c.args.number c.args.text.now c.args.run.now c.args.gaps.now c.loop-gap.out.items c.loop-gap.rest.now _ c.loop-gap.invariant
    (drop_all c.loop-gap.gap-index c.args.gaps.now (omega (arith, c.loop-gap-test.false))) c.new_gaps_into-2.new.gaps.items _ c.in_ok-new_gaps_into.ensures.cut

pub returns-clause-within : goal.returns-clause-within
returns-clause-within g c =
    mixed_within c.args.number c.args.text.now c.args.run.now c.args.gaps.now c.loop-gap.out.items c.loop-gap.rest.now _ c.loop-gap.invariant
    (drop_all c.loop-gap.gap-index c.args.gaps.now (omega (arith, c.loop-gap-test.false))) c.new_gaps_into-2.new.gaps.items _ c.in_ok-new_gaps_into.ensures.cut

pub returns-clause-old : goal.returns-clause-old
returns-clause-old g c =
    mixed_old c.args.number c.args.text.now c.args.run.now c.args.gaps.now c.loop-gap.out.items c.loop-gap.rest.now _ c.loop-gap.invariant
    (drop_all c.loop-gap.gap-index c.args.gaps.now (omega (arith, c.loop-gap-test.false))) c.new_gaps_into-2.new.gaps.items _ c.in_ok-new_gaps_into.ensures.cut

pub loop-gap-init : goal.loop-gap-init
loop-gap-init g c = mixed_starts c.args.number c.args.text.now c.args.run.now c.args.gaps.now c.args.out.now.items c.requires.empty c.requires.within

pub split_at-requires : goal.split_at-requires
split_at-requires g c =
    let i = c.loop-gap.gap-index in
    let gaps = c.args.gaps.now in
    first_within c.loop-gap.rest.now (drop i gaps) (get_or gaps i no_gap) (drop (i + 1) gaps) (drop_more gaps i no_gap c.loop-gap-test.true) c.loop-gap.invariant.ahead

pub new_gaps_into-requires-clause-fits : goal.new_gaps_into-requires-clause-fits
new_gaps_into-requires-clause-fits g c =
    omega (arith, c.split_at.ensures.front_len, c.split_at.ensures.back_len, c.loop-gap.invariant.counted, c.requires.fits)

pub overflow_cast-moved : goal.overflow_cast-moved
overflow_cast-moved g c =
    omega (arith, c.in_ok-passed.ensures.cut.counted, c.split_at.ensures.front_len, c.split_at.ensures.back_len, c.loop-gap.invariant.counted, c.requires.fits)

pub split_at-requires-in-loop-gap : goal.split_at-requires-in-loop-gap
split_at-requires-in-loop-gap g c =
    let i = c.loop-gap.gap-index in
    let gaps = c.args.gaps.now in
    omega (arith, c.loop-gap.invariant.ahead.span, ap spanned (drop_more gaps i no_gap c.loop-gap-test.true), c.split_at.ensures.back_len)

pub new_gaps_into-requires-2-clause-fits : goal.new_gaps_into-requires-2-clause-fits
new_gaps_into-requires-2-clause-fits g c = omega (arith, c.loop-gap.invariant.counted, c.requires.fits)
