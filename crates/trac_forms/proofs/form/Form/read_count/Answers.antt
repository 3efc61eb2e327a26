-- The greatest length is as good as a number that is greater.
use Rattle.std.proofs.Common.{◌≡◌, arith, rules, ◌∙◌}
use Rattle.std.proofs.lemmas.List.{length-append}
use Rattle.trac_rules.specs.Pieces.{count_read, last_bytes, next_bytes}
use Rattle.trac_forms.proofs.Passing.{at_most_clamped, last_bytes_same, next_bytes_same}
use Rattle.trac_forms.proofs.form.Form.read_count.Goals as goal

pub returns-then-n-lt0-clause-read : goal.returns-then-n-lt0-clause-read
returns-then-n-lt0-clause-read g c =
    let form = c.args.self.now in
    let n = c.unsigned_abs.result in
    let same : last_bytes c.min-count.result form ≡ last_bytes n form =
    last_bytes_same c.min-count.result n form
    (at_most_clamped c.min-count.result n 18446744073709551615 form.before c.min-count.ensures (omega (arith, c.len-items.ensures.len, c.len-items.type_inv, length-append form.before form.after))) in
    let read : last_bytes n form ≡ count_read c.args.n form = search rules in
    c.read_last.ensures.read ∙ same ∙ read

pub returns-clause-read : goal.returns-clause-read
returns-clause-read g c =
    let form = c.args.self.now in
    let n = c.unsigned_abs.result in
    let same : next_bytes c.min-count.result form ≡ next_bytes n form =
    next_bytes_same c.min-count.result n form
    (at_most_clamped c.min-count.result n 18446744073709551615 form.after c.min-count.ensures (omega (arith, c.len-items.ensures.len, c.len-items.type_inv, length-append form.before form.after))) in
    let read : next_bytes n form ≡ count_read c.args.n form = search rules in
    c.read_next.ensures.read ∙ same ∙ read
