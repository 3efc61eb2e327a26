use Rattle.trac_forms.proofs.Passing.{reads_until, there_until}
use Rattle.trac_forms.proofs.form.Form.read_until.Goals as goal

pub returns-clause-read : goal.returns-clause-read
returns-clause-read g c =
    reads_until c.args.self.now (record { len = c.in-Some.at.bytes; pointer = c.ahead.result }) c.after.result c.after.ensures c.in-Some.at.items c.args.text.now
    (rw c.in-Some.is at c.in_ok-at.ensures.within) (rw c.in-Some.is at c.in_ok-at.ensures.bytes) c.ahead.ensures (rw c.in-Some.is at c.in_ok-at.ensures.place)

pub returns-clause-there : goal.returns-clause-there
returns-clause-there g c =
    there_until c.args.self.now (record { len = c.in-Some.at.bytes; pointer = c.ahead.result }) c.after.result c.after.ensures c.in-Some.at.items c.args.text.now
    (rw c.in-Some.is at c.in_ok-at.ensures.within) (rw c.in-Some.is at c.in_ok-at.ensures.bytes) c.ahead.ensures
