-- Where a walker stands, and where its moves lead.
use Rattle.std.specs.Prelude.{◌≡◌, ℕ, ◌+◌, ◌^◌, ◌<◌, ◌≤◌, max, Option, None, Some}
use Rattle.trac_rules.specs.declared.refusal.Refusal.{Refusal}
use Rattle.trac_rules.specs.declared.refusal.Refusal.TheVariants.{NotMet}
use Rattle.trac_rules.specs.declared.width.Width.{Width}
use Rattle.trac_rules.specs.State.{Tape}
use Rattle.trac_follow_step.specs.declared.place.Place.{Place}
use Rattle.trac_follow_step.specs.declared.place.Place.TheVariants.{Argument}
use Rattle.trac_session.specs.declared.walk.Return as returns
use Rattle.trac_session.specs.declared.walk.Return.{Return}
use Rattle.trac_moves.specs.declared.searching.Search.{Search}
use Rattle.trac_moves.specs.declared.searching.Search.TheVariants.{Met, Unmet}
use Rattle.trac_moves.specs.declared.walker.Walker.{Walker}
use Rattle.trac_moves.specs.Windows.{IsOver}

-- so many steps over this input led to where a walker stands. It is all that the walker was given so far
pub record Stands {A : Type 0} (input : Tape) (width : Width) (steps : ℕ) (w : Walker A) : Type 0 where
  pub over : IsOver input width steps w.window
  pub given : w.input.items ≡ input.bytes
  pub closed : w.has_ended ≡ input.ended

-- wherever a walker stands, it stands over the same input after a move. `Leads` says after how many steps, by how many
-- there were before
abbrev pub Moves : {A : Type 0} → (ℕ → ℕ → Type 0) → Walker A → Walker A → Type 0
Moves Leads old new = (input : Tape) (width : Width) (steps : ℕ) → Stands input width steps old →
    (after : ℕ) × Leads steps after × Stands input width after new

-- ---- after how many steps

-- so many more at most, and all of them if none is refused
abbrev pub IsForward : ℕ → Option Refusal → ℕ → ℕ → Type 0
IsForward most why steps after = (steps ≤ after) × (after ≤ steps + most) × (why ≡ None → after ≡ steps + most)

-- so many more at most
abbrev pub IsTowards : ℕ → ℕ → ℕ → Type 0
IsTowards most steps after = (steps ≤ after) × (after ≤ steps + most)

-- so many less at most, and no fewer if none is refused
abbrev pub IsBackward : ℕ → Option Refusal → ℕ → ℕ → Type 0
IsBackward most why steps after = (after ≤ steps) × (steps ≤ after + most) × (why ≡ None → after + most ≡ steps)

-- so many, if no step is refused, as far as 64 bits count
abbrev pub IsTo : ℕ → Option Refusal → ℕ → ℕ → Type 0
IsTo step why steps after = steps < 2 ^ 64 → why ≡ None → after ≡ step

-- why a walk back did not meet its goal
abbrev pub refusal_said : Return → Option Refusal
refusal_said (returns.TheVariants.Met steps) = None
refusal_said returns.TheVariants.NotMet = Some NotMet
refusal_said (returns.TheVariants.Stopped left why) = Some why

-- no more, and as many if a goal is not met
abbrev pub IsReturned : Option Refusal → ℕ → ℕ → Type 0
IsReturned why steps after = (after ≤ steps) × (why ≡ Some NotMet → after ≡ steps)

-- so many more at least, and at most the greater of two numbers, as far as 64 bits count
abbrev pub IsBeyond : ℕ → ℕ → ℕ → ℕ → Type 0
IsBeyond done most steps after =
    steps + max done most < 2 ^ 64 → (steps + done ≤ after) × (after ≤ steps + max done most)

-- so it is after a search by so many steps at most that met its goal, if so many met nothing before. After another
-- search there are as many as before
abbrev pub IsSearched : Search → ℕ → ℕ → ℕ → ℕ → Type 0
IsSearched Met done most steps after = IsBeyond done most steps after
IsSearched (Unmet why further) done most steps after = after ≡ steps

-- ---- at what place

-- at the place of an argument it stands as it stood
abbrev pub StaysAt : {X : Type 0} → Place → X → X → Type 0
StaysAt (Argument function argument byte) old new = new ≡ old
StaysAt place old new = Unit {0}
