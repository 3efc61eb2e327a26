use Rattle.std.proofs.Common.{refl}
use Rattle.trac_forms.proofs.Passing.{reads_next, there_on}
use Rattle.trac_forms.proofs.form.Form.read_next.Goals as goal

pub returns-clause-read : goal.returns-clause-read
returns-clause-read g c =
    reads_next c.args.self.now (record { len = c.reach-reached.result.bytes; pointer = c.ahead.result }) c.after.result c.after.ensures c.reach-reached.result.items c.reach-reached.result.bytes
    c.reach-reached.ensures.within c.reach-reached.ensures.passed refl c.ahead.ensures c.args.n c.requires c.if-reached-eq0.false c.reach-reached.ensures.bytes c.reach-reached.ensures.place

pub returns-clause-there : goal.returns-clause-there
returns-clause-there g c =
    there_on c.args.self.now (record { len = c.reach-reached.result.bytes; pointer = c.ahead.result }) c.after.result c.after.ensures c.reach-reached.result.items c.reach-reached.result.bytes
    c.reach-reached.ensures.within c.reach-reached.ensures.passed refl c.ahead.ensures
