-- The doubts of a state, by its parts.
use Rattle.std.proofs.Common.{◌≡◌, ℕ, List, ◌++◌, length, ap, sym}
use Rattle.std.specs.Prelude.{None, Option, Some, option_map}
use Rattle.trac_rules.specs.declared.kind.Kind.{Kind}
use Rattle.trac_rules.specs.declared.width.Width.{Width}
use Rattle.trac_rules.specs.Doubts.{doubts, doubts_of_call, doubts_of_scanning}
use Rattle.trac_rules.specs.Goals.{IsCall, next_call}
use Rattle.trac_rules.specs.Scanning.{Call, front_of}
use Rattle.trac_rules.specs.State.{State, Storage, storage_of}

-- the arguments of a call that is there
pub called : (o : Option Call) (kind : Kind) (arguments : List (List ℕ)) → IsCall o kind arguments → Some arguments ≡ option_map (λ call. call.arguments) o
called None kind arguments is = absurd is
called (Some call) kind arguments is = ap Some (sym is.1)

pub judged : (width : Width) (s : State) (call : Option (List (List ℕ))) (active : List ℕ) (depth : ℕ) (storage : Storage) → call ≡ option_map (λ call. call.arguments) (next_call s) →
    active ≡ s.active → depth ≡ length s.frames → storage ≡ storage_of s →
    doubts_of_call width call storage ++ doubts_of_scanning (front_of active) active depth ≡ doubts width s
unfolding doubts
judged width s call active depth storage calls rest begun held =
    λ i. doubts_of_call width (calls i) (held i) ++ doubts_of_scanning (front_of (rest i)) (rest i) (begun i)
