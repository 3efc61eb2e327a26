-- The rule that comes next: what scanning makes of a state by it, what it destroys, and what it needs.
use Rattle.std.proofs.Common.{◌≡◌, ℕ, ◌<◌, ◌≤◌, Bool, true, false, List, [], ◌∷◌, ◌++◌, length, take, drop, get_or, refl, sym, ap, ◌∙◌, subst, arith}
use Rattle.std.specs.Prelude.{codes, is_some, nat_lt}
use Rattle.std.proofs.lemmas.Bool.{le-leb}
use Rattle.trac_rules.specs.declared.kind.Kind.{Kind}
use Rattle.trac_rules.specs.declared.kind.Kind.TheVariants.{Active, Neutral}
use Rattle.trac_rules.specs.declared.scan.Front.{Front}
use Rattle.trac_rules.specs.declared.scan.Front.TheVariants as front
use Rattle.trac_rules.specs.Bytes.{idle_program}
use Rattle.trac_rules.specs.Matching.{match_of, protected}
use Rattle.trac_rules.specs.Performing.{beginning_of}
use Rattle.trac_rules.specs.Records.{Record, Moved, Comma, Begun, Quoted, Idle, Texts, comma_recorded, deletion, recorded, recorded_at, texts_in}
use Rattle.trac_rules.specs.PlainRuns.{moved_on}
use Rattle.trac_rules.specs.Scanning.{Scanned, Moves, begun, closing_in, comma_in, deleted, front_of, gather_first, protect, scan, scan_at}
use Rattle.trac_rules.specs.State.{Frame, State}
use Rattle.trac_rules.proofs.Restored.{BeginsSo, begins_so}
use Rattle.trac_text.specs.declared.scanning.Rule.{Rule}
use Rattle.trac_text.specs.declared.scanning.Rule.TheVariants.{Restart, Protect, Delete, Begin, NextArgument, Gather, Perform}
use Rattle.trac_text.specs.Ruled.{is_inside, rule_at, rule_of}
use Rattle.trac_text.specs.Holding.{alone, texts_by}
use Rattle.trac_text.proofs.ScanningBack.{gathered_alone}

-- what scanning makes of a state by a rule
abbrev pub scanned_by : Rule → State → Scanned
scanned_by Restart s = Moves (record s { active = idle_program; base = []; frames = [] })
scanned_by Protect s = Moves (protect (protected (drop 1 s.active)) s)
scanned_by Delete s = Moves (deleted 1 s)
scanned_by (Begin kind) s = Moves (begun kind (deleted (length (beginning_of kind)) s))
scanned_by NextArgument s = Moves (comma_in s.frames (deleted 1 s))
scanned_by Gather s = Moves (gather_first s)
scanned_by Perform s = closing_in s.frames (deleted 1 s)

-- and what that destroys, if it moves on
abbrev pub destroyed_by : Rule → State → Record
destroyed_by Restart s = Idle s.base s.frames
destroyed_by Protect s = Quoted (length (protected (drop 1 s.active)).inner) (is_some (match_of (drop 1 s.active)))
destroyed_by Delete s = deletion s
destroyed_by (Begin kind) s = Begun
destroyed_by NextArgument s = Comma
destroyed_by Gather s = Moved
destroyed_by Perform s = deletion s

-- what the texts begin with by a rule, and whether a function is begun
abbrev pub BeginsBy : Rule → Texts → Type 0
BeginsBy Restart t = t.active ≡ []
BeginsBy Protect t = 0 < length t.active
BeginsBy Delete t = 0 < length t.active
BeginsBy (Begin kind) t = length (beginning_of kind) ≤ length t.active
BeginsBy NextArgument t = (0 < length t.active) × (0 < length t.frames)
BeginsBy Gather t = 0 < length t.active
BeginsBy Perform t = (front_of t.active ≡ front.Closing) × (0 < length t.frames)

-- of the rule that comes next
module _ (s : State) where
  scan_at_rule : (at : Front) (fs : List Frame) → s.frames ≡ fs → scan_at at s ≡ scanned_by (rule_at at (is_inside fs)) s
  scan_at_rule front.Nothing fs is = refl
  scan_at_rule front.Opening fs is = refl
  scan_at_rule front.Layout fs is = refl
  scan_at_rule front.Comma [] is = ap (λ (fs : List Frame). Moves (comma_in fs (deleted 1 s))) is
  scan_at_rule front.Comma (f ∷ fs) is = refl
  scan_at_rule front.ActiveCall fs is = refl
  scan_at_rule front.NeutralCall fs is = refl
  scan_at_rule front.Sharp fs is = refl
  scan_at_rule front.Closing [] is = ap (λ (fs : List Frame). closing_in fs (deleted 1 s)) is
  scan_at_rule front.Closing (f ∷ fs) is = refl
  scan_at_rule front.Plain fs is = refl

  recorded_at_rule : (at : Front) (fs : List Frame) → s.frames ≡ fs → recorded_at at s ≡ destroyed_by (rule_at at (is_inside fs)) s
  recorded_at_rule front.Nothing fs is = refl
  recorded_at_rule front.Opening fs is = refl
  recorded_at_rule front.Layout fs is = refl
  recorded_at_rule front.Comma [] is = ap (λ (fs : List Frame). comma_recorded fs s) is
  recorded_at_rule front.Comma (f ∷ fs) is = ap (λ (fs : List Frame). comma_recorded fs s) is
  recorded_at_rule front.ActiveCall fs is = refl
  recorded_at_rule front.NeutralCall fs is = refl
  recorded_at_rule front.Sharp fs is = refl
  recorded_at_rule front.Closing [] is = refl
  recorded_at_rule front.Closing (f ∷ fs) is = refl
  recorded_at_rule front.Plain fs is = refl

  pub scan_rule : (rule : Rule) → rule ≡ rule_of (texts_in s) → scan s ≡ scanned_by rule s
  unfolding scan
  scan_rule rule next = scan_at_rule (front_of s.active) s.frames refl ∙ ap (λ (r : Rule). scanned_by r s) (sym next)

  pub recorded_rule : (rule : Rule) → rule ≡ rule_of (texts_in s) → recorded s ≡ destroyed_by rule s
  recorded_rule rule next = recorded_at_rule (front_of s.active) s.frames refl ∙ ap (λ (r : Rule). destroyed_by r s) (sym next)

pub begins_by : (t : Texts) (rule : Rule) → rule ≡ rule_of t → BeginsBy rule t
begins_by t rule next = subst (λ (r : Rule). BeginsBy r t) (sym next) (by_front (front_of t.active) t.frames refl refl (begins_so t.active))
  where
    by_front : (at : Front) (fs : List Frame) → front_of t.active ≡ at → t.frames ≡ fs → BeginsSo at t.active → BeginsBy (rule_at at (is_inside fs)) t
    by_front front.Nothing fs is same so = so
    by_front front.Opening fs is same so = omega (arith, ap (λ (xs : List ℕ). length xs) so)
    by_front front.Layout fs is same so = omega (arith, ap (λ (xs : List ℕ). length xs) so)
    by_front front.Comma [] is same so = omega (arith, ap (λ (xs : List ℕ). length xs) so)
    by_front front.Comma (f ∷ fs) is same so = (omega (arith, ap (λ (xs : List ℕ). length xs) so), omega (arith, ap (λ (gs : List Frame). length gs) same))
    by_front front.ActiveCall fs is same so = omega (arith, ap (λ (xs : List ℕ). length xs) so)
    by_front front.NeutralCall fs is same so = omega (arith, ap (λ (xs : List ℕ). length xs) so)
    by_front front.Sharp fs is same so = omega (arith, ap (λ (xs : List ℕ). length xs) so)
    by_front front.Closing [] is same so = omega (arith, ap (λ (xs : List ℕ). length xs) so)
    by_front front.Closing (f ∷ fs) is same so = (is, omega (arith, ap (λ (gs : List Frame). length gs) same))
    by_front front.Plain fs is same so = omega (arith, ap (λ (xs : List ℕ). length xs) so)

-- a function is begun where there is one
pub inside_counted : (fs : List Frame) → nat_lt 0 (length fs) ≡ is_inside fs
inside_counted [] = refl
inside_counted (f ∷ fs) = le-leb 1 (length (f ∷ fs)) (omega arith)

-- ---- texts after a rule

-- what a rule makes of texts alone is what scanning moves on to
module _ (t : Texts) where
  scans : (rule : Rule) → rule ≡ rule_of t → (made : State → State) → scanned_by rule (alone t) ≡ Moves (made (alone t)) → alone (texts_by made t) ≡ made (alone t) →
      (u : Texts) → u ≡ texts_by made t → scan (alone t) ≡ Moves (alone u)
  scans rule next made moves kept u is = scan_rule (alone t) rule next ∙ moves ∙ ap Moves (sym kept) ∙ ap (λ (v : Texts). Moves (alone v)) (sym is)

  pub protect_scans : Protect ≡ rule_of t → (u : Texts) → u ≡ texts_by (protect (protected (drop 1 t.active))) t → scan (alone t) ≡ Moves (alone u)
  protect_scans next u is =
      let p = protected (drop 1 t.active) in
      scans Protect next (protect p) refl (gathered_alone p.inner t.frames (record t { active = p.rest })) u is

  pub delete_scans : Delete ≡ rule_of t → (u : Texts) → u ≡ texts_by (deleted 1) t → scan (alone t) ≡ Moves (alone u)
  delete_scans next u is = scans Delete next (deleted 1) refl refl u is

  pub begin_scans : (kind : Kind) → Begin kind ≡ rule_of t → (u : Texts) → u ≡ texts_by (λ s. begun kind (deleted (length (beginning_of kind)) s)) t → scan (alone t) ≡ Moves (alone u)
  begin_scans kind next u is = scans (Begin kind) next (λ s. begun kind (deleted (length (beginning_of kind)) s)) refl refl u is

  pub argument_scans : NextArgument ≡ rule_of t → (u : Texts) → u ≡ texts_by (λ s. comma_in s.frames (deleted 1 s)) t → scan (alone t) ≡ Moves (alone u)
  argument_scans next u is = scans NextArgument next (λ s. comma_in s.frames (deleted 1 s)) refl (by_frames t.frames) u is
    where
      by_frames : (fs : List Frame) → alone (texts_in (comma_in fs (deleted 1 (alone t)))) ≡ comma_in fs (deleted 1 (alone t))
      by_frames [] = refl
      by_frames (f ∷ fs) = refl

  pub gather_scans : Gather ≡ rule_of t → (u : Texts) → u ≡ texts_by (moved_on 1) t → scan (alone t) ≡ Moves (alone u)
  gather_scans next u is = scans Gather next (moved_on 1) refl (gathered_alone (take 1 t.active) t.frames (record t { active = drop 1 t.active })) u is
