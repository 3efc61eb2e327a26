use Rattle.std.proofs.Common.{◌≡◌, true, List, ℕ, All, refl, sym, subst, ◌∙◌, arith}
use Rattle.std.specs.Prelude.{Option, Vec}
use Rattle.std.proofs.lemmas.List.{take_all}
use Rattle.std.proofs.lemmas.List.Elements.{All-more}
use Rattle.trac_rules.specs.Form.{Form}
use Rattle.trac_storage.specs.Loading.{IsProperList, block_entries_fit}
use Rattle.trac_storage.proofs.Entries.{all_blocks_within, all_next, block_fails_within, blocks_over}
use Rattle.trac_storage.proofs.parts.blocks_within.Goals as goal

pub returns-then-blocks-gt-BLOCK_LIMIT-clause-fits : goal.returns-then-blocks-gt-BLOCK_LIMIT-clause-fits
returns-then-blocks-gt-BLOCK_LIMIT-clause-fits g c = blocks_over c.args.blocks.now c.if-blocks-gt-BLOCK_LIMIT.true

pub returns-then-not-entries_within-clause-fits : goal.returns-then-not-entries_within-clause-fits
returns-then-not-entries_within-clause-fits g c =
    block_fails_within c.args.blocks.now c.loop-block.block-index c.block-item.result (omega (arith, c.loop-block-test.true)) c.block-item.is
    (rw (c.in-Some.is, ← c.as_slice.ensures.value) (sym c.entries_within.ensures.fits ∙ c.if-not-entries_within.true))

pub loop-block-preserved-in_default : goal.loop-block-preserved-in_default
loop-block-preserved-in_default g c =
    let at = c.loop-block in
    let block = c.block-item.result in
    record {
      fits = all_next block_entries_fit c.args.blocks.now at.block-index block (omega (arith, c.loop-block-test.true)) c.block-item.is at.invariant.fits (rw c.in_default.is refl);
      proper = All-more IsProperList c.args.blocks.now at.block-index block (omega (arith, c.loop-block-test.true)) at.invariant.proper
          (subst IsProperList c.block-item.is (rw c.in_default.is tt));
    }

pub loop-block-preserved : goal.loop-block-preserved
loop-block-preserved g c =
    let at = c.loop-block in
    let block = c.block-item.result in
    let fits : block_entries_fit block ≡ true = rw (c.in-Some.is, ← c.as_slice.ensures.value) (sym c.entries_within.ensures.fits ∙ c.if-not-entries_within.false) in
    let proper : IsProperList block = rw (c.in-Some.is, ← c.as_slice.ensures.value) (c.entries_within.ensures.proper c.if-not-entries_within.false) in
    record {
      fits = all_next block_entries_fit c.args.blocks.now at.block-index block (omega (arith, c.loop-block-test.true)) c.block-item.is at.invariant.fits fits;
      proper = All-more IsProperList c.args.blocks.now at.block-index block (omega (arith, c.loop-block-test.true)) at.invariant.proper (subst IsProperList c.block-item.is proper);
    }

pub returns-clause-fits : goal.returns-clause-fits
returns-clause-fits g c = all_blocks_within c.args.blocks.now c.loop-block.block-index c.if-blocks-gt-BLOCK_LIMIT.false c.loop-block-test.false c.loop-block.invariant.fits

pub returns-clause-proper : goal.returns-clause-proper
returns-clause-proper g c = λ _.
    subst (λ (blocks : List (Option (Vec (Vec ℕ g.row.A.Denot × Form) g.row.A.Denot))). All IsProperList blocks) (take_all c.loop-block.block-index c.args.blocks.now c.loop-block-test.false)
    c.loop-block.invariant.proper
