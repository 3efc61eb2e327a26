-- Gaps in a run of bytes, each said by how many bytes stand between it and the gap before it, and by how many it takes.
use Rattle.std.specs.Prelude.{◌≡◌, ◌⊎◌, ◌==◌, ℕ, ◌+◌, ◌≤◌, List, [], ◌∷◌, ◌++◌, length, take, drop, if◌then◌else◌}
use Rattle.std.specs.List.{All}
use Rattle.trac_rules.specs.declared.item.CutGap.{CutGap}
use Rattle.trac_rules.specs.declared.item.Item.{Item}
use Rattle.trac_rules.specs.declared.item.Item.TheVariants.{Gap}
use Rattle.trac_rules.specs.Form.{as_items}
use Rattle.trac_rules.specs.Segmenting.{part}
use Rattle.trac_items.specs.declared.run_gaps.RunGap.{RunGap}

-- the items that a run is with these gaps
abbrev pub gapped : List ℕ → List RunGap → List Item
gapped run [] = as_items run
gapped run (gap ∷ gaps) =
    as_items (take gap.passed run) ++ Gap gap.ordinal gap.width ∷ gapped (drop (gap.passed + gap.taken) run) gaps

-- how many bytes there are up to the end of the last gap
abbrev pub spanned : List RunGap → ℕ
spanned [] = 0
spanned (gap ∷ gaps) = gap.passed + gap.taken + spanned gaps

-- a gap is at least one byte wide: one that was there before takes no byte of the run, and one that is made takes as
-- many as it is wide
abbrev pub IsOld : RunGap → Type 0
IsOld gap = (1 ≤ gap.width) × (gap.taken ≡ 0)

abbrev pub IsMade : RunGap → Type 0
IsMade gap = (1 ≤ gap.width) × (gap.taken ≡ gap.width)

-- gaps within so many bytes
pub record AreWithin (bytes : ℕ) (gaps : List RunGap) : Type 0 where
  pub span : spanned gaps ≤ bytes
  pub each : All (λ gap. IsOld gap ⊎ IsMade gap) gaps

-- what the text of number k makes in a run follows the old gaps, and so many bytes are left after it
pub record IsCutOut (k : ℕ) (text run : List ℕ) (old new : List RunGap) (left : ℕ) : Type 0 where
  pub made : List RunGap
  pub all : new ≡ old ++ made
  pub items : gapped run made ≡ part k text run
  pub fresh : All IsMade made
  pub counted : spanned made + left ≡ length run

-- the gaps that were there before, the first of them after so many bytes more
abbrev pub earlier : ℕ → List RunGap → List RunGap
earlier more [] = []
earlier more (gap ∷ gaps) = if gap.taken == 0
    then record gap { passed = more + gap.passed } ∷ earlier 0 gaps
    else earlier (more + gap.passed + gap.taken) gaps

-- a gap with its place, if it is made
abbrev pub placed : ℕ → RunGap → List CutGap
placed place gap = if gap.taken == 0 then [] else record { place = place; ordinal = gap.ordinal } ∷ []

-- those that are made, with their places among the items, the first item having the place that is given
abbrev pub gaps_from : ℕ → List RunGap → List CutGap
gaps_from place [] = []
gaps_from place (gap ∷ gaps) = placed (place + gap.passed) gap ++ gaps_from (place + gap.passed + 1) gaps
