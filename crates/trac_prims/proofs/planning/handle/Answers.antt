use Rattle.std.proofs.Common.{refl}
use Rattle.trac_forms.specs.Stored.{storage_in}
use Rattle.trac_rules.specs.declared.primitive.FormAction.TheVariants as action
use Rattle.trac_rules.specs.declared.primitive.Primitive.TheVariants.{Handle}
use Rattle.trac_prims.proofs.Kept.{keeps_so}
use Rattle.trac_prims.proofs.planning.handle.Goals as goal

pub returns-in-Read : goal.returns-in-Read
returns-in-Read g c = rw c.in-Read.is c.read.ensures

pub returns-in-Call-clause-outcome : goal.returns-in-Call-clause-outcome
returns-in-Call-clause-outcome g c = rw (c.in-Call.is, c.requires.keeps) (c.call.ensures c.args.width)

pub returns-in-Call-clause-change : goal.returns-in-Call-clause-change
returns-in-Call-clause-change g c = rw c.in-Call.is (keeps_so (Handle action.Call) c.args.args.now (storage_in c.args.store.now) c.args.change.now c.call.result refl c.requires.keeps)

pub returns-in-ListNames-clause-outcome : goal.returns-in-ListNames-clause-outcome
returns-in-ListNames-clause-outcome g c = rw (c.in-ListNames.is, c.requires.keeps) (c.list_names.ensures c.args.width)

pub returns-in-ListNames-clause-change : goal.returns-in-ListNames-clause-change
returns-in-ListNames-clause-change g c = rw c.in-ListNames.is (keeps_so (Handle action.ListNames) c.args.args.now (storage_in c.args.store.now) c.args.change.now c.list_names.result refl c.requires.keeps)

pub returns-in-PrintForm-clause-outcome : goal.returns-in-PrintForm-clause-outcome
returns-in-PrintForm-clause-outcome g c = rw (c.in-PrintForm.is, c.requires.keeps) (c.print_form.ensures c.args.width)

pub returns-in-PrintForm-clause-change : goal.returns-in-PrintForm-clause-change
returns-in-PrintForm-clause-change g c = rw c.in-PrintForm.is (keeps_so (Handle action.PrintForm) c.args.args.now (storage_in c.args.store.now) c.args.change.now c.print_form.result refl c.requires.keeps)

pub returns-in-Define : goal.returns-in-Define
returns-in-Define g c = rw c.in-Define.is (record { outcome = c.define.ensures.outcome c.args.width c.args.made.now; change = c.define.ensures.change })

pub returns-in-Delete : goal.returns-in-Delete
returns-in-Delete g c = rw c.in-Delete.is (record { outcome = c.delete.ensures.outcome (storage_in c.args.store.now) c.args.width c.args.made.now; change = c.delete.ensures.change (storage_in c.args.store.now) })

pub returns-in-Segment : goal.returns-in-Segment
returns-in-Segment g c = rw c.in-Segment.is (record { outcome = c.segment.ensures.outcome c.args.width c.args.made.now; change = c.segment.ensures.change })

pub returns-in-Restore : goal.returns-in-Restore
returns-in-Restore g c = rw c.in-Restore.is (record { outcome = c.restore.ensures.outcome c.args.width c.args.made.now; change = c.restore.ensures.change })
