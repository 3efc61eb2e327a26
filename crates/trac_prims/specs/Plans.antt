-- What the plan of a call is: the effect that the definitions say, if the state after it is within the limits.
use Rattle.std.specs.Prelude.{◌≡◌, ◌+◌, ◌≤◌, ℕ, List, length, Bool}
use Rattle.trac_forms.specs.Stored.{Stored, storage_in}
use Rattle.trac_rules.specs.declared.kind.Kind.{Kind}
use Rattle.trac_rules.specs.declared.limit.TheConstants.{MARK_LIMIT, OUTPUT_LIMIT, TEXT_LIMIT}
use Rattle.trac_rules.specs.Effect.{Effect}
use Rattle.trac_rules.specs.Limits.{marks, text_bytes, texts_fit}
use Rattle.trac_rules.specs.Performing.{after_call}
use Rattle.trac_rules.specs.Scanning as scanning
use Rattle.trac_rules.specs.State.{State, storage_of}
use Rattle.trac_prims.specs.declared.effect.Now.{Now}

-- the state is the one that a store and `Now` speak of, the call's arguments and its `)` being gone
pub record IsNow (s : State) (stored : Stored) (now : Now) : Type 0 where
  pub storage_is : storage_of s ≡ storage_in stored
  pub meta_is : s.meta ≡ now.meta
  pub trace_is : s.trace ≡ now.trace
  pub position_is : s.position ≡ now.position
  pub output_is : length s.output ≡ now.output
  pub text_is : text_bytes s ≡ now.text
  pub marks_fit : marks s.frames ≤ MARK_LIMIT

-- the call is the one that is planned
pub record IsGiven
    (call : scanning.Call) (kind : Kind) (arguments : List (List ℕ)) (stored : Stored) (now : Now) : Type 0 where
  pub kind_is : call.kind ≡ kind
  pub arguments_are : call.arguments ≡ arguments
  pub state_is : IsNow call.state stored now

-- whether the state after a call with this effect is within the limits
abbrev pub fits_after : scanning.Call → Effect → Bool
fits_after call e = texts_fit (after_call call e)

-- there is place within the limits for a value and a printed text
pub record HasPlace (now : Now) (value printed : List ℕ) : Type 0 where
  pub text : now.text + length value ≤ TEXT_LIMIT
  pub output : now.output + length printed ≤ OUTPUT_LIMIT
