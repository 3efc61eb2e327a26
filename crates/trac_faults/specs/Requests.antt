-- What one request for memory meets and leaves after.
use Rattle.std.specs.Prelude.{◌-◌, ◌==◌, Bool, true, false, if◌then◌else◌}
use Rattle.trac_faults.specs.Schedule.{counted}
use Rattle.trac_faults.specs.declared.requests.Requests.{Requests}
use Rattle.trac_faults.specs.declared.requests.Rule.{Rule}
use Rattle.trac_faults.specs.declared.requests.Rule.TheVariants.{AcceptAll, RefuseNth, RefuseAll}

-- whether the next request is refused
abbrev pub refuses_next : Rule → Bool
refuses_next AcceptAll = false
refuses_next (RefuseNth n) = n == 1
refuses_next RefuseAll = true

-- the rule for the requests after the next one
abbrev pub rule_after : Rule → Rule
rule_after AcceptAll = AcceptAll
rule_after (RefuseNth n) = RefuseNth (n - 1)
rule_after RefuseAll = RefuseAll

-- the rule and the counts after one request
abbrev pub after_request : Requests → Requests
after_request r = record {
  rule = rule_after r.rule;
  made = counted r.made;
  refused = if refuses_next r.rule then counted r.refused else r.refused;
}

-- the same counts under another rule
abbrev pub under_rule : Requests → Rule → Requests
under_rule r rule = record r { rule = rule }
