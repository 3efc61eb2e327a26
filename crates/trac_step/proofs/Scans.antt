-- What scanning says of a state, from what its active text begins with.
use Rattle.std.proofs.Common.{◌≡◌, [], refl, sym, ap, subst}
use Rattle.std.specs.Prelude.{None}
use Rattle.trac_rules.specs.declared.scan.Front.{Front}
use Rattle.trac_rules.specs.declared.scan.Front.TheVariants.{Nothing, Opening, Layout, Comma, ActiveCall, NeutralCall, Sharp, Closing, Plain}
use Rattle.trac_rules.specs.Goals.{call_asked, next_call}
use Rattle.trac_rules.specs.Records.{texts_in}
use Rattle.trac_rules.specs.State.{State}
use Rattle.trac_rules.specs.Scanning.{Scanned, Moves, Calls, front_of, scan, scan_at, closing_in, deleted}
use Rattle.trac_text.specs.Ruled.{IsShort, rule_of}
use Rattle.trac_text.specs.declared.scanning.Rule.{Rule}
use Rattle.trac_text.specs.declared.scanning.Rule.TheVariants.{Restart, Protect, Delete, Begin, NextArgument, Gather, Perform}
use Rattle.trac_text.proofs.Ruled.{scan_rule, scanned_by}
use Rattle.trac_step.specs.Calling.{IsMove}

pub scan_front : (s : State) (front : _) → front_of s.active ≡ front → scan s ≡ scan_at front s
unfolding scan
scan_front s front e = ap (λ f. scan_at f s) e

pub moves_of : (scanned : Scanned) → IsMove scanned → (t : State) × (scanned ≡ Moves t)
moves_of (Moves t) h = (t, refl)
moves_of (Calls call) h = absurd h

pub is_move : (s : State) (front : Front) → front ≡ front_of s.active → (front ≡ Closing → s.frames ≡ []) → IsMove (scan s)
is_move s front at none = subst IsMove (sym (scan_front s front (sym at))) (move_at front none)
  where
    move_at : (front : Front) → (front ≡ Closing → s.frames ≡ []) → IsMove (scan_at front s)
    move_at Closing none = subst (λ fs. IsMove (closing_in fs (deleted 1 s))) (sym (none refl)) tt
    move_at Nothing none = tt
    move_at Opening none = tt
    move_at Layout none = tt
    move_at Comma none = tt
    move_at ActiveCall none = tt
    move_at NeutralCall none = tt
    move_at Sharp none = tt
    move_at Plain none = tt

-- and where the rule that comes next performs no function
pub is_move_by : (s : State) (rule : Rule) → rule ≡ rule_of (texts_in s) → (rule ≡ Perform → ⊥) → IsMove (scan s)
is_move_by s rule next other = subst IsMove (sym (scan_rule s rule next)) (move_by rule other)
  where
    move_by : (rule : Rule) → (rule ≡ Perform → ⊥) → IsMove (scanned_by rule s)
    move_by Restart other = tt
    move_by Protect other = tt
    move_by Delete other = tt
    move_by (Begin kind) other = tt
    move_by NextArgument other = tt
    move_by Gather other = tt
    move_by Perform other = absurd (other refl)

-- and what it destroys is short, where it does not empty the texts
pub short_unless : (rule : Rule) → (rule ≡ Restart → ⊥) → (rule ≡ Perform → ⊥) → IsShort rule
short_unless Restart first other = first refl
short_unless Protect first other = tt
short_unless Delete first other = tt
short_unless (Begin kind) first other = tt
short_unless NextArgument first other = tt
short_unless Gather first other = tt
short_unless Perform first other = other refl

-- ---- the call that the next step would perform

-- where scanning moves on, there is none
no_call : (x : Scanned) → IsMove x → call_asked x ≡ None
no_call (Moves t) h = refl
no_call (Calls call) h = absurd h

-- so where the active text does not begin with `)`
pub no_call_before : (s : State) (front : Front) → front ≡ front_of s.active → (front ≡ Closing → ⊥) → next_call s ≡ None
no_call_before s front at other = no_call (scan s) (is_move s front at (λ is. absurd (other is)))

-- and outside any function
pub no_call_outside : (s : State) → front_of s.active ≡ Closing → s.frames ≡ [] → next_call s ≡ None
no_call_outside s at none = no_call (scan s) (is_move s Closing (sym at) (λ _. none))
