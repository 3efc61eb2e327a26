-- Which rule of scanning comes next, and what it leaves for the way back.
use Rattle.std.specs.Prelude.{ℕ, List, [], ◌∷◌, Bool, true, false}
use Rattle.trac_rules.specs.declared.kind.Kind.TheVariants.{Active, Neutral}
use Rattle.trac_rules.specs.declared.scan.Front.{Front}
use Rattle.trac_rules.specs.declared.scan.Front.TheVariants as front
use Rattle.trac_rules.specs.Records.{Record, Moved, Comma, Begun, Quoted, Deleted, Texts}
use Rattle.trac_rules.specs.Scanning.{front_of}
use Rattle.trac_rules.specs.State.{Frame}
use Rattle.trac_text.specs.declared.scanning.Rule.{Rule}
use Rattle.trac_text.specs.declared.scanning.Rule.TheVariants.{Restart, Protect, Delete, Begin, NextArgument, Gather}
use Rattle.trac_text.specs.declared.scanning.Rule.TheVariants.{Perform}
use Rattle.trac_text.specs.declared.scanning.Short.{Short}
use Rattle.trac_text.specs.declared.scanning.Short.TheVariants as short

-- the rule for what the active text begins with, in a function or outside any
abbrev pub rule_at : Front → Bool → Rule
rule_at front.Nothing inside = Restart
rule_at front.Opening inside = Protect
rule_at front.Layout inside = Delete
rule_at front.Comma true = NextArgument
rule_at front.Comma false = Delete
rule_at front.ActiveCall inside = Begin Active
rule_at front.NeutralCall inside = Begin Neutral
rule_at front.Sharp inside = Gather
rule_at front.Closing true = Perform
rule_at front.Closing false = Delete
rule_at front.Plain inside = Gather

-- a function is begun
abbrev pub is_inside : List Frame → Bool
is_inside [] = false
is_inside (f ∷ fs) = true

-- the rule that comes next
abbrev pub rule_of : Texts → Rule
rule_of t = rule_at (front_of t.active) (is_inside t.frames)

-- it makes a mark
abbrev pub makes_mark : Rule → Bool
makes_mark (Begin kind) = true
makes_mark NextArgument = true
makes_mark rule = false

-- what it destroys is short
abbrev pub IsShort : Rule → Type 0
IsShort Restart = ⊥
IsShort Perform = ⊥
IsShort rule = Unit {0}

-- what was destroyed, read as a record of the rules
abbrev pub said_by : Short → Record
said_by short.Moved = Moved
said_by short.Comma = Comma
said_by short.Begun = Begun
said_by (short.Quoted inner closed) = Quoted inner closed
said_by (short.Deleted b) = Deleted b
