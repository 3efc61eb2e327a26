-- Going back over a call: the names of the forms before, and the recent names.
use Rattle.std.specs.Prelude.{ℕ, List, Option, None, Some, IsSomeAnd}
use Rattle.std.specs.FinSet as set
use Rattle.trac_rules.specs.Form.{Form}
use Rattle.trac_forms.specs.Stored.{KnowsAll, Names}
use Rattle.trac_rules.specs.State.{Storage}

-- the recent names once a form is put under a name again, or none is left there
abbrev pub recent_back : List ℕ → Option Form → Names → Names
recent_back name None recent = recent
recent_back name (Some form) recent = set.insert recent name

-- there are forms and blocks before, and the name of each of these forms is known
abbrev pub KnowsBefore : Names → Option Storage → Type 0
KnowsBefore known before = IsSomeAnd before (λ storage. KnowsAll known storage.forms)
