-- The call that the next step would perform, where the state stands at one.
use Rattle.std.proofs.Common.{◌≡◌, ℕ, Bool, true, false, not, List, ◌∷◌, refl, ap, subst, sym, rules}
use denote.Enum.Bare.{sameb, same_true}
use Rattle.std.specs.Prelude.{Option, None, Some}
use Rattle.trac_rules.specs.contracts.scan.Front.{the_type}
use Rattle.trac_rules.specs.declared.kind.Kind.{Kind}
use Rattle.trac_rules.specs.declared.scan.Front.{Front}
use Rattle.trac_rules.specs.declared.scan.Front.TheVariants.{Closing}
use Rattle.trac_rules.specs.Effect.{argument}
use Rattle.trac_rules.specs.Goals.{IsCall, call_asked, next_call}
use Rattle.trac_rules.specs.Scanning.{Call, Scanned, Moves, Calls, front_of, scan}
use Rattle.trac_rules.specs.State.{Frame, State}
use Rattle.trac_rules.specs.Stepping.{call_at, name_called}
use Rattle.trac_text.specs.Frames.{all_arguments}
use Rattle.trac_step.proofs.Calls.{scan_call}

-- a front that is no other one is a `)`
pub closing_unless_other : (front : Front) → not (sameb the_type front Closing) ≡ false → front ≡ Closing
closing_unless_other front h = same_true the_type (search rules) front Closing (not_false (sameb the_type front Closing) h)
  where
    not_false : (b : Bool) → not b ≡ false → b ≡ true
    not_false true h = refl
    not_false false h = sym h

-- where there is no call, no name is called
pub none_named : (s : State) → next_call s ≡ None → call_at s ≡ None
none_named s h = by_scanned (scan s) h
  where
    by_scanned : (x : Scanned) → call_asked x ≡ None → name_called x ≡ None
    by_scanned (Moves t) h = refl
    by_scanned (Calls call) h = absurd (cc)

-- and the name that is called is the first argument of the call
pub first_named : (s : State) (kind : Kind) (arguments : List (List ℕ)) → IsCall (next_call s) kind arguments → call_at s ≡ Some (argument 0 arguments)
first_named s kind arguments is = by_scanned (scan s) is
  where
    by_scanned : (x : Scanned) → IsCall (call_asked x) kind arguments → name_called x ≡ Some (argument 0 arguments)
    by_scanned (Moves t) is = absurd is
    by_scanned (Calls call) is = ap (λ (texts : List (List ℕ)). Some (argument 0 texts)) is.1

-- at a `)` the innermost function is called, with all its arguments
pub innermost_ahead : (s : State) (f : Frame) (fs : List Frame) → front_of s.active ≡ Closing → s.frames ≡ f ∷ fs → IsCall (next_call s) f.kind (all_arguments f)
innermost_ahead s f fs front is =
    subst (λ (asked : Option Call). IsCall asked f.kind (all_arguments f)) (sym (ap call_asked (scan_call s f fs front is))) (refl, refl)
