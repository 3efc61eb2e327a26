-- Which `)` matches a protecting `(`. Every `(` and `)` is counted, and nothing else. What a `(` without a match
-- protects is this project's profile.
use Rattle.std.specs.Prelude.{◌≡◌, ℕ, ◌+◌, ◌≤◌, ◌==◌, ◌&&◌, List, [], length, take, drop, slice_index, Bool, Option}
use Rattle.std.specs.Prelude.{None, Some}
use Rattle.trac_rules.specs.declared.byte.TheConstants.{OPENING, CLOSING}
use Rattle.trac_rules.specs.Bytes.{count_of, first_place}

-- at this place stands a `)`, and before it there are as many `(` as `)`
abbrev pub closes_at : List ℕ → ℕ → Bool
closes_at text k = (slice_index text k == CLOSING) && (count_of OPENING (take k text) == count_of CLOSING (take k text))

-- the place of the match, in the text after the protecting `(`
unfoldable pub match_of : List ℕ → Option ℕ
match_of text = first_place (closes_at text) (length text)

-- what a `(` protects, and what stands after its match
pub record Protected : Type 0 where
  pub inner : List ℕ
  pub rest : List ℕ

-- without a match the whole rest is protected
abbrev pub protected_up_to : Option ℕ → List ℕ → Protected
protected_up_to None text = record { inner = text; rest = [] }
protected_up_to (Some k) text = record { inner = take k text; rest = drop (k + 1) text }

-- what the `(` before this text protects
abbrev pub protected : List ℕ → Protected
protected text = protected_up_to (match_of text) text

-- ---- the same in the words of balanced texts

-- as many `(` as `)`, and no front with more `)` than `(`
pub record IsBalanced (text : List ℕ) : Type 0 where
  pub even : count_of OPENING text ≡ count_of CLOSING text
  pub fronts : (n : ℕ) → count_of CLOSING (take n text) ≤ count_of OPENING (take n text)
