-- Machines of which forms and blocks alone are changed, and the call at which they stand.
use Rattle.std.proofs.Common.{◌≡◌, ℕ, List, [], ◌∷◌, refl, sym, ap, ◌∙◌, subst, arith, Bool}
use Rattle.std.specs.Prelude.{Option, None, Some, IsSomeAnd}
use Rattle.trac_gap.specs.Window.{Window}
use Rattle.trac_rules.specs.declared.scan.Front.TheVariants.{Closing}
use Rattle.trac_rules.specs.declared.width.Width.{Width}
use Rattle.trac_rules.specs.Performing.{changed_by}
use Rattle.trac_rules.specs.Proper.{IsProper, IsProperStorage}
use Rattle.trac_rules.specs.Scanning.{Scanned, closing_in, deleted, front_of, scan}
use Rattle.trac_rules.specs.State.{Frame, State, Storage, storage_of}
use Rattle.trac_rules.proofs.ProperStates.{storage-placed}
use Rattle.trac_forms.specs.Stored.{KnowsAll, Names, Stored, storage_in}
use Rattle.trac_change.specs.declared.change.UnnamedChange.{UnnamedChange}
use Rattle.trac_prims.specs.declared.effect.Made.{Made}
use Rattle.trac_change.specs.Changed.{changed}
use Rattle.trac_text.specs.declared.calls.Beginning.{Beginning}
use Rattle.trac_prims.specs.declared.effect.Deed.{Deed}
use Rattle.trac_text.specs.Holding.{BeginsFirst, ShownTexts}
use Rattle.trac_storage.specs.Changing.{AreAmong}
use Rattle.trac_step.specs.Calling.{BeginsInnermost, arguments_in, effect_with, state_after, state_ended, with_storage}
use Rattle.trac_step.specs.Layout.{Shown, shown_by}
use Rattle.trac_step.specs.Room.{IsNoLess}
use Rattle.trac_storage.specs.Returning.{KnowsBefore}
use Rattle.trac_step.proofs.Scans.{scan_front}

-- ---- what is seen of a machine

module _ {texts : ShownTexts} {store : Stored} {meta : ℕ} {trace : Bool} {position : ℕ} {output : Window ℕ} {width : Width} {m : Shown} (view : shown_by texts store meta trace position output width ≡ m) (after : Stored) where
  -- the same but for forms and blocks, and what can be put without more memory
  pub changed_shows : shown_by texts after meta trace position output width ≡ record m { state = with_storage (storage_in after) m.state; known = after.known; recent = after.recent; spare = after.spare }
  changed_shows = ap (λ (n : Shown). let other : Shown = record n { state = with_storage (storage_in after) n.state; known = after.known; recent = after.recent; spare = after.spare } in other) view

  -- the same names are known
  pub stored_shows : after.known ≡ store.known → shown_by texts after meta trace position output width ≡ record m { state = with_storage (storage_in after) m.state; recent = after.recent; spare = after.spare }
  stored_shows known =
      (λ i. record (shown_by texts after meta trace position output width) { known = known i })
      ∙ ap (λ (n : Shown). let other : Shown = record n { state = with_storage (storage_in after) n.state; recent = after.recent; spare = after.spare } in other) view

  pub no_less_store : AreAmong store.known after.known → AreAmong store.recent after.recent → IsNoLess m (shown_by texts after meta trace position output width)
  no_less_store names recent = subst (λ (n : Shown). IsNoLess n (shown_by texts after meta trace position output width)) view
      (record { width = refl; text = omega arith; marks = omega arith; output = omega arith; names = names; recent = recent })

-- ---- forms and blocks before

-- their names are known
pub known_before : (known : Names) (o before : Option Storage) → o ≡ before → IsSomeAnd before (λ storage. KnowsAll known storage.forms × IsProperStorage storage) → KnowsBefore known o
known_before known o before is h = subst (KnowsBefore known) (sym is) (by_option before h)
  where
    by_option : (before : Option Storage) → IsSomeAnd before (λ storage. KnowsAll known storage.forms × IsProperStorage storage) → KnowsBefore known before
    by_option None h = h
    by_option (Some storage) h = h.0

-- and they are proper
pub proper_before : (known : Names) (before : Option Storage) (storage : Storage) → before ≡ Some storage →
    IsSomeAnd before (λ storage. KnowsAll known storage.forms × IsProperStorage storage) → IsProperStorage storage
proper_before known before storage is h = (subst (λ (o : Option Storage). IsSomeAnd o (λ storage. KnowsAll known storage.forms × IsProperStorage storage)) is h).1

-- ---- the call at which they stand

module _ (s : State) (front : front_of s.active ≡ Closing) where
  scanned : scan s ≡ closing_in s.frames (deleted 1 s)
  scanned = scan_front s Closing front

  -- its arguments are the same
  pub arguments_stay : (storage : Storage) → arguments_in (scan (with_storage storage s)) ≡ arguments_in (scan s)
  arguments_stay storage = ap arguments_in (scan_front (with_storage storage s) Closing front) ∙ by_frames s.frames ∙ ap arguments_in (sym scanned)
    where
      by_frames : (fs : List Frame) → arguments_in (closing_in fs (deleted 1 (with_storage storage s))) ≡ arguments_in (closing_in fs (deleted 1 s))
      by_frames [] = refl
      by_frames (f ∷ fs) = refl

  module _ (b : Beginning) (begins : BeginsInnermost s b) {A : Type 0} (deed : Deed) (made : Made A) (change : UnnamedChange A) where
    -- forms and blocks are those after it
    storage_after : storage_of (state_after deed made change (scan s)) ≡ changed (arguments_in (scan s)) change (storage_of s)
    storage_after =
        ap (λ (x : Scanned). storage_of (state_after deed made change x)) scanned ∙ by_frames s.frames begins
        ∙ ap (λ (x : Scanned). changed (arguments_in x) change (storage_of s)) (sym scanned)
      where
        by_frames : (fs : List Frame) → BeginsFirst fs s.base b →
            storage_of (state_after deed made change (closing_in fs (deleted 1 s))) ≡ changed (arguments_in (closing_in fs (deleted 1 s))) change (storage_of s)
        by_frames [] h = absurd h
        by_frames (f ∷ fs) h =
            let e = effect_with deed made (changed (arguments_in (closing_in (f ∷ fs) (deleted 1 s))) change (storage_of s)) in
            storage-placed f.kind e.forced e.value (changed_by e (record (deleted 1 s) { frames = fs }))

    pub storage_proper : IsProper (state_after deed made change (scan s)) → IsProperStorage (changed (arguments_in (scan s)) change (storage_of s))
    storage_proper proper = subst IsProperStorage storage_after proper.storage

    -- and the rest of it leads to the state after it
    pub ended_is : state_ended deed made (scan (with_storage (changed (arguments_in (scan s)) change (storage_of s)) s)) ≡ state_after deed made change (scan s)
    ended_is =
        ap (λ (x : Scanned). state_ended deed made (scan (with_storage (changed (arguments_in x) change (storage_of s)) s))) scanned
        ∙ ap (state_ended deed made) (scan_front (with_storage (changed (arguments_in (closing_in s.frames (deleted 1 s))) change (storage_of s)) s) Closing front)
        ∙ by_frames s.frames begins
        ∙ ap (state_after deed made change) (sym scanned)
      where
        by_frames : (fs : List Frame) → BeginsFirst fs s.base b →
            state_ended deed made (closing_in fs (deleted 1 (with_storage (changed (arguments_in (closing_in fs (deleted 1 s))) change (storage_of s)) s)))
            ≡ state_after deed made change (closing_in fs (deleted 1 s))
        by_frames [] h = absurd h
        by_frames (f ∷ fs) h = refl
