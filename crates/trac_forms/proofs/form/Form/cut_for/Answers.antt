-- A text that is kept as one is within the limit, as the form is.
use Rattle.std.proofs.Common.{length, ap, arith}
use Rattle.trac_forms.proofs.Divided.{text_fits}
use Rattle.trac_forms.proofs.form.Form.cut_for.Goals as goal

pub cut_run-requires-clause-fits : goal.cut_run-requires-clause-fits
cut_run-requires-clause-fits g c = omega (arith, text_fits c.self.inside.text.items c.self.inside.items c.self.invariant, ap length c.as_slice.ensures.value)
