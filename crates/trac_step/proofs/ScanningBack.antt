-- The state before a step that was gone back over, and the state that its record restores.
use Rattle.std.proofs.Common.{◌≡◌, refl, sym, ◌∙◌, subst}
use Rattle.std.specs.Prelude.{Option, Some, None, IsSomeAnd}
use Rattle.trac_rules.specs.Proper.{IsProper}
use Rattle.trac_rules.specs.Records.{Record, restored, state_before}
use Rattle.trac_rules.specs.State.{State}
use Rattle.trac_rules.proofs.Restored.{restored_of_before}
use Rattle.trac_step.specs.Layout.{Shown}
use Rattle.trac_step.specs.Room.{HasRoom}
use Rattle.trac_step.specs.Undoing.{CanShow}

-- ---- the state before, and the state that is restored

module _ (r : Record) (m : Shown) (t : State) where
  by_before : (P : Type 0) → ((s : State) → state_before r t ≡ Some s → HasRoom m s → P) → IsSomeAnd (state_before r t) (λ s. HasRoom m s) → P
  by_before P with_it h = by_state (state_before r t) refl h
    where
      by_state : (o : Option State) → state_before r t ≡ o → IsSomeAnd o (λ s. HasRoom m s) → P
      by_state None e room = absurd room
      by_state (Some s) e room = with_it s e room

  -- where there is room for the state before, that is restored and can be shown
  pub can_show_before : IsSomeAnd (state_before r t) (λ s. HasRoom m s) → CanShow m (restored r t)
  can_show_before = by_before (CanShow m (restored r t)) (λ s e room.
      let both : (restored r t ≡ Some s) × IsProper s = restored_of_before r s t e in
      subst (CanShow m) (sym both.0) (room, both.1))

  -- and what is restored is the state before
  pub before_is_restored : (s : State) → IsSomeAnd (state_before r t) (λ s. HasRoom m s) → restored r t ≡ Some s → state_before r t ≡ Some s
  before_is_restored s h back = by_before (state_before r t ≡ Some s) (λ u e room. e ∙ sym (restored_of_before r u t e).0 ∙ back) h
