-- The doubts of what the next step is judged by.
use Rattle.std.specs.Prelude.{List, ◌++◌}
use Rattle.trac_rules.specs.declared.doubt.Doubt.{Doubt}
use Rattle.trac_rules.specs.Doubts.{doubts_of_call, doubts_of_scanning}
use Rattle.trac_rules.specs.Scanning.{front_of}
use Rattle.trac_forms.specs.Stored.{storage_in}
use Rattle.trac_doubts.specs.declared.ahead.Ahead.{Ahead}

-- the doubts of a state with this active text, this depth and this storage, at which this call is performed, if one is
abbrev pub doubts_ahead : {A : Type 0} → Ahead A → List Doubt
doubts_ahead ahead =
    doubts_of_call ahead.width ahead.call (storage_in ahead.store.now)
    ++ doubts_of_scanning (front_of ahead.active.now) ahead.active.now ahead.depth
