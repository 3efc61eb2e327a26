-- The machine can go back over the newest record that is kept.
use Rattle.std.proofs.Common.{◌≡◌, Bool, true, false, List, [], ◌∷◌, refl, sym, ap, ◌∙◌, subst}
use Rattle.std.specs.Prelude.{Some, IsSomeAnd, IsTrue}
use Rattle.trac_rules.specs.Proper.{IsProper}
use Rattle.trac_rules.specs.Records.{Called, CallRecord, Record, restored, restored_call, state_before}
use Rattle.trac_rules.specs.State.{State}
use Rattle.trac_rules.specs.Undone.{Nothing, Undone}
use Rattle.trac_journal.specs.declared.called.Called as code
use Rattle.trac_text.specs.Pieces.{Arguments, all_texts}
use Rattle.trac_journal.specs.Told.{record_with, HasCallFirst, HasCallOut}
use Rattle.trac_step.specs.Kept.{CanGoBack, HasGoneBack}
use Rattle.trac_step.specs.Layout.{Shown}
use Rattle.trac_step.specs.Room.{HasRoom}
use Rattle.trac_step.specs.Undoing.{CanRestore, CanShow, IsBegunAgain, IsRestored}
use Rattle.trac_step.proofs.CallsUndone.{all_back, can_begin, can_restore}
use Rattle.trac_step.proofs.ScanningBack.{before_is_restored, can_show_before}

-- ---- a record of a call is taken out

-- with it is taken out what it says
same_undone : (records older new : List Record) (call : CallRecord) (undone : Undone) → records ≡ Called call ∷ older → HasCallOut undone records new →
    (undone ≡ call.undone) × (records ≡ Called call ∷ new)
same_undone records older new call undone is out =
    let both : Called call ∷ older ≡ Called out.call ∷ new = sym is ∙ out.taken in
    let same : out.call ≡ call = cc in
    (out.destroyed ∙ ap (λ (c : CallRecord). c.undone) same, out.taken ∙ ap (λ (c : CallRecord). Called c ∷ new) same)

-- ---- there is room for the state before it

module _ (m : Shown) (records older : List Record) (known : Record) (is : records ≡ known ∷ older) (can : CanGoBack m records) where
  pub room_before : IsSomeAnd (state_before known m.state) (λ s. HasRoom m s)
  room_before = subst (CanGoBack m) is can

  pub can_show : CanShow m (restored known m.state)
  can_show = can_show_before known m m.state room_before

  pub gone_back : (s : State) (new : List Record) → restored known m.state ≡ Some s → records ≡ known ∷ new → HasGoneBack m.state s records new
  gone_back s new back taken = record { newest = known; leads_back = before_is_restored known m m.state s room_before back; taken = taken }

-- ---- it is the record of a call

module _ (m : Shown) (records : List Record) (called : code.Called) (a : Arguments) (told : HasCallFirst called (all_texts a) records) (can : CanGoBack m records)
    (proper : IsProper m.state) (room : HasRoom m m.state) where
  there : CanShow m (restored (Called (record_with called (all_texts a) told.undone)) m.state)
  there = can_show m records told.older _ told.first can

  pub call_begins : CanShow m (restored_call (record_with called (all_texts a) Nothing) m.state)
  call_begins = can_begin called (all_texts a) told.undone m proper room there

  module _ (begun : Shown) (again : IsBegunAgain called (all_texts a) m begun) (undone : Undone) (new : List Record) (out : HasCallOut undone records new) where
    destroyed : (undone ≡ told.undone) × (records ≡ Called (record_with called (all_texts a) told.undone) ∷ new)
    destroyed = same_undone records told.older new _ undone told.first out

    pub call_restores : CanRestore undone begun
    call_restores = subst (λ x. CanRestore x begun) (sym destroyed.0) (can_restore called (all_texts a) told.undone m proper room there begun again)

    module _ (k : Shown) (is : IsRestored undone begun k) where
      is_restored : IsRestored told.undone begun k
      is_restored = subst (λ x. IsRestored x begun k) destroyed.0 is

      pub call_gone_back : HasGoneBack m.state k.state records new
      call_gone_back = gone_back m records told.older _ told.first can k.state new (all_back called (all_texts a) told.undone m proper room there begun again k is_restored) destroyed.1

-- ---- it is the only record

-- so this is the one that was gone back over
pub gone_back_over : {P : Type 0} (r : Record) (m k : Shown) (new : List Record) (gone : Bool) → (IsTrue gone → HasGoneBack m.state k.state (r ∷ []) new) → (gone ≡ false → (r ∷ [] ≡ []) × P) →
    state_before r m.state ≡ Some k.state
gone_back_over r m k new true back none =
    let over = back refl in
    let both : r ∷ [] ≡ over.newest ∷ new = over.taken in
    let same : over.newest ≡ r = cc in
    subst (λ (x : Record). state_before x m.state ≡ Some k.state) same over.leads_back
gone_back_over r m k new false back none = let all : r ∷ [] ≡ [] = (none refl).0 in absurd (cc)
