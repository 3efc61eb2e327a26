use Rattle.std.proofs.Common.{ap, sym, ◌∙◌}
use Rattle.trac_text.specs.Holding.{ShownTexts}
use Rattle.trac_text.proofs.Ruled.{argument_scans, begin_scans, delete_scans, gather_scans, protect_scans}
use Rattle.trac_text.proofs.texts.Texts.carry_out.Goals as goal

pub returns-in-Protect-clause-scanned : goal.returns-in-Protect-clause-scanned
returns-in-Protect-clause-scanned g c =
    protect_scans c.args.self.now.texts (sym c.in-Protect.is ∙ c.requires.next) c.protect-inner.new.self.texts (ap (λ (m : ShownTexts). m.texts) c.protect-inner.ensures.protected)

pub returns-in-Delete-clause-scanned : goal.returns-in-Delete-clause-scanned
returns-in-Delete-clause-scanned g c =
    delete_scans c.args.self.now.texts (sym c.in-Delete.is ∙ c.requires.next) c.delete-byte.new.self.texts (ap (λ (m : ShownTexts). m.texts) c.delete-byte.ensures.deleted)

pub returns-in_ok-begin-in-Begin-clause-scanned : goal.returns-in_ok-begin-in-Begin-clause-scanned
returns-in_ok-begin-in-Begin-clause-scanned g c =
    begin_scans c.args.self.now.texts c.in-Begin.kind (sym c.in-Begin.is ∙ c.requires.next) c.begin.new.self.texts c.in_ok-begin-in-Begin.ensures.begun

pub returns-in_ok-next_argument-in-NextArgument-clause-scanned : goal.returns-in_ok-next_argument-in-NextArgument-clause-scanned
returns-in_ok-next_argument-in-NextArgument-clause-scanned g c =
    argument_scans c.args.self.now.texts (sym c.in-NextArgument.is ∙ c.requires.next) c.next_argument.new.self.texts c.in_ok-next_argument-in-NextArgument.ensures.begun

pub returns-in-Gather-clause-scanned : goal.returns-in-Gather-clause-scanned
returns-in-Gather-clause-scanned g c =
    gather_scans c.args.self.now.texts (sym c.in-Gather.is ∙ c.requires.next) c.gather.new.self.texts (ap (λ (m : ShownTexts). m.texts) c.gather.ensures)
