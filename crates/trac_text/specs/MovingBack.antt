-- What going back makes of the texts: the neutral text on the left, and the active text on the right.
use Rattle.std.specs.Prelude.{ℕ, ◌-◌, ◌≤◌, ◌++◌, List, [], ◌∷◌, length, take, drop, Bool, true, false, Option, None}
use Rattle.std.specs.Prelude.{Some, codes}
use Rattle.std.specs.List.{concat}
use Rattle.trac_gap.specs.Ends.{Ends}
use Rattle.trac_rules.specs.declared.kind.Kind.{Kind}
use Rattle.trac_rules.specs.Performing.{beginning_of}
use Rattle.trac_rules.specs.Records.{ending_of}
use Rattle.trac_text.specs.declared.mark.Mark.{Mark}

-- ---- over a step of scanning

-- the texts with the last n bytes on the left before those on the right
abbrev pub with_last_before : ℕ → Ends ℕ → Ends ℕ
with_last_before n e =
    record e { left = take (length e.left - n) e.left; right = drop (length e.left - n) e.left ++ e.right }

-- the texts with a protected text of this length, which is at the end of the one on the left, before the one on the
-- right, with its `(` and, if it had one, its match
abbrev pub without_protected : ℕ → Bool → Ends ℕ → Ends ℕ
without_protected inner closed e =
    let moved = with_last_before inner (record e { right = ending_of closed ++ e.right }) in
    record moved { right = codes "(" ++ moved.right }

-- the kind of the function that the last mark begins; none if it ends an argument, or if there is no mark; the marks
-- are given from the last one on
abbrev pub last_begun : List Mark → Option Kind
last_begun [] = None
last_begun (m ∷ marks) = m.frame

-- how a function of this kind begins; empty if none is named
abbrev pub beginning_by : Option Kind → List ℕ
beginning_by None = []
beginning_by (Some kind) = beginning_of kind

-- ---- over a call

-- so many bytes of a value are there, where it went: on the right, if it was to be scanned, or else on the left
abbrev pub HasValue : Bool → ℕ → Ends ℕ → Type 0
HasValue true n e = n ≤ length e.right
HasValue false n e = n ≤ length e.left

-- the texts without them
abbrev pub without_value : Bool → ℕ → Ends ℕ → Ends ℕ
without_value true n e = record e { right = drop n e.right }
without_value false n e = record e { left = take (length e.left - n) e.left }

-- the texts without a value, with the arguments of a call at the end of the one on the left, and its
-- `)` before the one on the right
abbrev pub before_call : Bool → ℕ → List (List ℕ) → Ends ℕ → Ends ℕ
before_call scanned n arguments e =
    let taken = without_value scanned n e in
    record taken { left = taken.left ++ concat arguments; right = codes ")" ++ taken.right }
