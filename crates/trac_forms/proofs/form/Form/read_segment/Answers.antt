use Rattle.std.proofs.Common.{refl, sym, ◌∙◌}
use Rattle.std.proofs.lemmas.Bool.{eq-eqb, true≢false}
use Rattle.trac_forms.proofs.Passing.{reads_segment, there_on}
use Rattle.trac_forms.proofs.form.Form.read_segment.Goals as goal

pub returns-clause-read : goal.returns-clause-read
returns-clause-read g c =
    reads_segment c.args.self.now (record { len = c.segment-reached.result.bytes; pointer = c.ahead.result }) c.after-after.result c.after-after.ensures c.segment-reached.result.items c.segment-reached.result.bytes
    c.segment-reached.ensures.within c.segment-reached.ensures.bytes refl c.ahead.ensures (λ none. true≢false (sym (eq-eqb _ 0 none) ∙ sym c.if-is_empty.ensures)) c.segment-reached.ensures.items

pub returns-clause-there : goal.returns-clause-there
returns-clause-there g c =
    there_on c.args.self.now (record { len = c.segment-reached.result.bytes; pointer = c.ahead.result }) c.after-after.result c.after-after.ensures c.segment-reached.result.items c.segment-reached.result.bytes
    c.segment-reached.ensures.within c.segment-reached.ensures.bytes refl c.ahead.ensures
