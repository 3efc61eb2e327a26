-- What is counted decides. Where all is within the limits, the forms and blocks are proper.
use Rattle.std.proofs.Common.{◌≡◌, length, refl, ◌∙◌, arith}
use Rattle.trac_storage.proofs.Entries.{last_two}
use Rattle.trac_storage.proofs.Judged.{texts_judged}
use Rattle.trac_storage.proofs.parts.lengths_within.Goals as goal

pub returns-clause-fits : goal.returns-clause-fits
returns-clause-fits g c =
    let parts = c.args.parts.now in
    let text = rw (c.as_slice.ensures.value, c.as_slice-2.ensures.value, c.as_slice-3.ensures.value) at c.text_len.ensures in
    let count = rw c.as_slice-4.ensures.value at c.mark_count.ensures in
    let output : c.len.result ≡ length parts.output.items = omega (arith, c.len.ensures, parts.output.ok.0) in
    rw (
      rw output at c.are_within-texts.ensures ∙ texts_judged parts c.text_len.result c.mark_count.result c.requires text count,
      c.are_within-rooms.ensures,
      c.names_within-names.ensures,
      c.entries_within-forms.ensures.fits,
      c.blocks_within-blocks.ensures.fits,
      c.as_slice-5.ensures.value,
      c.as_slice-6.ensures.value,
      c.as_slice-7.ensures.value,
    ) refl

pub returns-clause-forms : goal.returns-clause-forms
returns-clause-forms g c = rw (← c.as_slice-6.ensures.value) (λ all. c.entries_within-forms.ensures.proper
    (last_two c.are_within-texts.result c.are_within-rooms.result c.names_within-names.result c.entries_within-forms.result c.blocks_within-blocks.result all).0)

pub returns-clause-blocks : goal.returns-clause-blocks
returns-clause-blocks g c = rw (← c.as_slice-7.ensures.value) (λ all. c.blocks_within-blocks.ensures.proper
    (last_two c.are_within-texts.result c.are_within-rooms.result c.names_within-names.result c.entries_within-forms.result c.blocks_within-blocks.result all).1)
