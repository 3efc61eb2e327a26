-- How many bytes of the tape a call reads.
use Rattle.std.proofs.Common.{◌≡◌, ℕ, List, ◌+◌, ◌≤◌, ap, arith}
use Rattle.std.specs.Prelude.{Result, Ok, Err, IfOk}
use Rattle.trac_rules.specs.declared.refusal.Refusal.{Refusal}
use Rattle.trac_rules.specs.Effect.{Effect}
use Rattle.trac_rules.specs.State.{Storage}
use Rattle.trac_rules.proofs.Steps.{ReadsWithin}
use Rattle.trac_change.specs.declared.change.UnnamedChange.{UnnamedChange}
use Rattle.trac_prims.specs.declared.effect.Deed.{Deed}
use Rattle.trac_prims.specs.declared.effect.Made.{Made}
use Rattle.trac_prims.specs.Effects.{IsDone, added_to, done_on}

-- where nothing is read, the place stays within the tape
pub done_unread : {A : Type 0} (arguments : List (List ℕ)) (place end : ℕ) (storage : Storage) (outcome : Result Effect Refusal) (old new : Made A) (change : UnnamedChange A) (result : Result Deed Refusal) →
    IsDone arguments storage outcome old new change result → ReadsWithin 0 outcome → place ≤ end → IfOk result (λ d. place + d.read ≤ end)
done_unread arguments place end storage (Ok e) old new change (Ok d) is none l =
    let one : added_to old e ≡ done_on arguments storage new change d = cc in
    let same : e.read ≡ d.read = ap (λ (x : Effect). x.read) one in
    omega (arith, none, same, l)
done_unread arguments place end storage (Err why) old new change (Ok d) is none l = absurd (cc)
done_unread arguments place end storage outcome old new change (Err refusal) is none l = tt
