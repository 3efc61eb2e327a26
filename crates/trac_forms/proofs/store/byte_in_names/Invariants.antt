use Rattle.std.proofs.Common.{◌≡◌, ◌+◌, map, take}
use Rattle.trac_forms.specs.Listed.{listed_len}
use Rattle.trac_forms.proofs.store.byte_in_names.Given as goal

-- the names before this one, and what is left
abbrev pub invariant-loop-name : goal.invariant-loop-name
invariant-loop-name l = listed_len l.text (take l.name-index (map (λ name. name.now) l.names)) + l.left ≡ l.i
