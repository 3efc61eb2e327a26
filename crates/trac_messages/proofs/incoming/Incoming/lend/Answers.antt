use Rattle.std.proofs.Common.{◌+◌, ◌∙◌, ap, drop, sym, take}
use Rattle.std.proofs.lemmas.List.{drop-drop, drop-take}
use Rattle.trac_messages.specs.Incoming.{Pending}
use Rattle.trac_messages.proofs.incoming.Incoming.lend.Goals as goal

pub returns-clause-message : goal.returns-clause-message
returns-clause-message g c =
    drop-take (c.self.inside.taken + c.args.size) c.args.len c.self.inside.bytes.items
    ∙ ap (take c.args.len) (sym (drop-drop c.args.size c.self.inside.taken c.self.inside.bytes.items))
    ∙ ap (λ (p : Pending). take c.args.len (drop c.args.size p.bytes)) c.self.view_is
