-- Going back over the idle step: a machine may hold the base text and the functions that come back.
use Rattle.std.proofs.Common.{◌≡◌, ℕ, List, [], refl, sym, ap, ◌∙◌, subst, arith}
use Rattle.std.specs.Bool.{then_some}
use Rattle.std.specs.Prelude.{Bool, true, false, IsSomeAnd, Some}
use Rattle.trac_rules.specs.Proper.{IsProper}
use Rattle.trac_rules.specs.Records.{Idle, is_idle, restored}
use Rattle.trac_rules.specs.State.{Frame, State}
use Rattle.trac_gap.specs.Window.{Window}
use Rattle.trac_rules.specs.declared.width.Width.{Width}
use Rattle.trac_rules.specs.Records.{Texts}
use Rattle.trac_forms.specs.Stored.{Stored}
use Rattle.trac_text.specs.Holding.{CanHold, ShownTexts}
use Rattle.trac_storage.proofs.Judged.{limits_kept}
use Rattle.trac_step.specs.Layout.{Shown, shown_by}
use Rattle.trac_step.specs.Room.{HasRoom, IsNoLess}
use Rattle.trac_step.proofs.Rooms.{no_less_state}

-- a state with no active text, this base text and these frames
abbrev pub before_idle : List ℕ → List Frame → State → State
before_idle base frames s = record s { active = []; base = base; frames = frames }

-- where the state before the idle step can be shown, it is this one
pub record CanLeave (base : List ℕ) (frames : List Frame) (m : Shown) : Type 0 where
  pub state : restored (Idle base frames) m.state ≡ Some (before_idle base frames m.state)
  pub room : HasRoom m (before_idle base frames m.state)
  pub proper : IsProper (before_idle base frames m.state)

pub can_leave : (base : List ℕ) (frames : List Frame) (m : Shown) → IsSomeAnd (restored (Idle base frames) m.state) (λ s. HasRoom m s × IsProper s) → CanLeave base frames m
can_leave base frames m h = by_test (is_idle m.state) refl
  where
    before : State
    before = before_idle base frames m.state

    by_test : (b : Bool) → is_idle m.state ≡ b → CanLeave base frames m
    by_test true is =
        let there : HasRoom m before × IsProper before = subst (λ (b : Bool). IsSomeAnd (then_some b before) (λ s. HasRoom m s × IsProper s)) is h in
        record { state = ap (λ (b : Bool). then_some b before) is; room = there.0; proper = there.1 }
    by_test false is = absurd (subst (λ (b : Bool). IsSomeAnd (then_some b before) (λ s. HasRoom m s × IsProper s)) is h)

module _ {texts : ShownTexts} {store : Stored} {meta : ℕ} {trace : Bool} {position : ℕ} {output : Window ℕ} {width : Width} {m : Shown} (view : shown_by texts store meta trace position output width ≡ m)
    {base : List ℕ} {frames : List Frame} (leave : CanLeave base frames m) where
  abbrev there : Texts
  there = record { active = []; base = base; frames = frames }

  pub can_hold_idle : CanHold texts there
  can_hold_idle =
      let kept = limits_kept (before_idle base frames m.state) leave.proper.texts in
      record {
        text_room = omega (arith, leave.room.text, ap (λ (n : Shown). n.text_room) view);
        mark_room = omega (arith, leave.room.marks, ap (λ (n : Shown). n.mark_room) view);
        text_limit = kept.text;
        mark_limit = kept.marked;
      }

  -- the state before is shown again, in the same room
  pub goes_back_idle : (new : ShownTexts) → new ≡ record texts { texts = there } →
      (restored (Idle base frames) m.state ≡ Some (shown_by new store meta trace position output width).state) × IsNoLess m (shown_by new store meta trace position output width)
  goes_back_idle new is =
      let shown : shown_by new store meta trace position output width ≡ record m { state = before_idle base frames m.state } =
      ap (λ (x : ShownTexts). shown_by x store meta trace position output width) is ∙ ap (λ (n : Shown). record n { state = before_idle base frames n.state }) view in (
        leave.state ∙ ap (λ (n : Shown). Some n.state) (sym shown),
        subst (λ (n : Shown). IsNoLess m n) (sym shown) (no_less_state m (before_idle base frames m.state)),
      )
