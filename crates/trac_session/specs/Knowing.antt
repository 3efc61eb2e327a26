-- Which names the machine of a session knows.
use Rattle.std.specs.Prelude.{◌≡◌, ◌-◌, ◌≤◌, ℕ, List, [], ◌∷◌, length, take}
use Rattle.std.specs.FinSet as set
use Rattle.std.specs.List.{All}
use Rattle.trac_forms.specs.Stored.{KnowsAll, Names}
use Rattle.trac_rules.specs.Listing.{names_of}
use Rattle.trac_rules.specs.Records.{Record}
use Rattle.trac_rules.specs.State.{State}
use Rattle.trac_step.specs.Layout.{Shown}

-- the names of a state's forms
abbrev pub names_in : State → Names
names_in s = set.from_list (names_of s.forms)

-- without a step to go back over, a machine knows the names of its forms, and no others
abbrev pub KnowsItsOwn : List Record → Shown → Type 0
KnowsItsOwn [] machine = (machine.known ≡ names_in machine.state) × (machine.recent ≡ names_in machine.state)
KnowsItsOwn (r ∷ records) machine = Unit {0}

-- without a step to go back over, a machine has forgotten all other names; and nothing else has changed
abbrev pub HasForgotten : List Record → Shown → Shown → Type 0
HasForgotten [] old new = new ≡ record old { known = names_in old.state; recent = names_in old.state }
HasForgotten (r ∷ records) old new = new ≡ old

-- these are states, the newest first, so many of them old. Of all others the names of the forms are recent
abbrev pub AreRecent : ℕ → Names → List State → Type 0
AreRecent mark recent states =
    (mark ≤ length states) × All (λ s. KnowsAll recent s.forms) (take (length states - mark) states)

-- a machine has forgotten the names that were not recent, and those of its forms alone are recent then. So many steps
-- are left, all from before that
pub record HasSwept (kept mark : ℕ) (old new : Shown) : Type 0 where
  pub machine : new ≡ record old { known = old.recent; recent = names_in old.state }
  pub mark_is : mark ≡ kept
