use Rattle.std.proofs.Common.{List, ◌∷◌, sym, ap, arith}
use Rattle.std.proofs.lemmas.List.{nil_from_length}
use Rattle.trac_rules.specs.Records.{Record}
use Rattle.trac_step.specs.Record.{kept_in, recorded_by}
use Rattle.trac_step.proofs.one.One.put.Goals as goal

pub returns : goal.returns
returns g c = ap (λ (records : List Record). recorded_by c.args.taken ∷ records) (sym (nil_from_length (kept_in c.args.self.now.taken) (omega (arith, c.requires))))
