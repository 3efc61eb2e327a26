-- Each clause is computed from the definitions.
use Rattle.std.proofs.Common.{◌++◌, codes, map, rules, ap}
use Rattle.std.specs.List.{flat_map}
use Rattle.trac_rules.specs.Rows.{Named, named}
use Rattle.trac_rules.proofs.FormCalls.{entries-held}
use Rattle.trac_rules.proofs.Opened.{cut_out, digits, part}
use Rattle.trac_rules.proofs.rows.worked_forms.Goals as goal

pub returns : goal.returns
unfolding part cut_out digits
returns c =
    let names = ap (λ (es : Named). flat_map (λ name. codes "," ++ name) (map (λ e. e.0) es)) (entries-held (named "a" "2" ++ named "b" "1")) in
    search (rules, names)
