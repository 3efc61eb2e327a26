-- What a change of forms and blocks does beside them: the names that are known after it, the places that are spare for
-- blocks, and whether it takes memory.
use Rattle.std.specs.Prelude.{◌≡◌, ◌≤◌, ◌+◌, ℕ, List, [], ◌∷◌, IsTrue}
use Rattle.std.specs.FinSet as set
use Rattle.trac_change.specs.declared.change.UnnamedChange as code
use Rattle.trac_change.specs.declared.change.UnnamedChange.TheVariants.{Keep, Put, Cut, Point, MoveIn, Bring, Erase}
use Rattle.trac_change.specs.Changed.{named_forms}
use Rattle.trac_forms.specs.Stored.{Names}
use Rattle.trac_rules.specs.Effect.{argument}
use Rattle.trac_rules.specs.State.{Held}
use Rattle.trac_rules.specs.Undone.{names_in}

-- each name of the first set is in the second
abbrev pub AreAmong : Names → Names → Type 0
AreAmong names others = (name : List ℕ) → IsTrue (set.contains names name) → IsTrue (set.contains others name)

-- the names of these forms are known
abbrev pub KnowsNamed : Held → Names → Type 0
KnowsNamed [] known = Unit {0}
KnowsNamed (entry ∷ held) known = IsTrue (set.contains known entry.0) × KnowsNamed held known

-- the names that are known once these are too
abbrev pub knowing : List (List ℕ) → Names → Names
knowing [] known = known
knowing (name ∷ names) known = knowing names (set.insert known name)

-- all names that were known are, and others of these alone
abbrev pub KnowsSome : List (List ℕ) → Names → Names → Type 0
KnowsSome names before after = AreAmong before after × AreAmong after (knowing names before)

-- the names under which a change by a call of these arguments puts forms
abbrev pub names_put : {A : Type 0} → List (List ℕ) → code.UnnamedChange A → List (List ℕ)
names_put arguments (Put form) = argument 1 arguments ∷ []
names_put arguments (MoveIn held address) = argument 1 arguments ∷ []
names_put arguments (Bring number forms) = names_in (named_forms forms.items)
names_put arguments change = []

-- the places for blocks that are spare before a change and after it: just as many, unless it puts a block, which takes
-- one
abbrev pub HasPlaces : {A : Type 0} → code.UnnamedChange A → ℕ → ℕ → Type 0
HasPlaces (MoveIn held address) before after = before ≤ after + 1
HasPlaces change before after = after ≡ before

-- a change by a call of these arguments takes no memory if these names are known: it changes what is there, or puts a
-- form under one of them
abbrev pub TakesNone : {A : Type 0} → List (List ℕ) → Names → code.UnnamedChange A → Type 0
TakesNone arguments known Keep = Unit {0}
TakesNone arguments known (Put form) = IsTrue (set.contains known (argument 1 arguments))
TakesNone arguments known (Cut cut) = Unit {0}
TakesNone arguments known (Point place) = Unit {0}
TakesNone arguments known (Erase number) = Unit {0}
TakesNone arguments known change = ⊥

-- a change that neither puts one form nor sets a pointer
abbrev pub IsOther : {A : Type 0} → code.UnnamedChange A → Type 0
IsOther (Put form) = ⊥
IsOther (Point place) = ⊥
IsOther change = Unit {0}
