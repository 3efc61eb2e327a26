use Rattle.std.proofs.Common.{sym, ap, ◌∙◌}
use Rattle.std.specs.Prelude.{Some}
use Rattle.trac_step.proofs.NextCalls.{first_named, none_named}
use Rattle.trac_step.proofs.engine.Core.at_call.Goals as goal

pub returns-in_err-_kind : goal.returns-in_err-_kind
returns-in_err-_kind g c = rw c.from_residual.ensures (none_named c.args.self.now.state c.in_err-_kind.ensures)

pub returns : goal.returns
returns g c = first_named c.args.self.now.state _ _ c.in_ok-_kind.ensures ∙ ap Some (sym c.get.ensures)
