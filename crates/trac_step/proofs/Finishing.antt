-- The call that is performed is the one that scanning asks for: its arguments are those of the innermost function of a machine.
use Rattle.std.proofs.Common.{◌≡◌, ℕ, Bool, List, [], ◌∷◌, refl, sym, ap, ◌∙◌, subst}
use Rattle.trac_gap.specs.Window.{Window}
use Rattle.trac_rules.specs.declared.kind.Kind.{Kind}
use Rattle.trac_rules.specs.declared.scan.Front.TheVariants.{Closing}
use Rattle.trac_rules.specs.declared.width.Width.{Width}
use Rattle.trac_rules.specs.Scanning.{closing_in, deleted, front_of, scan}
use Rattle.trac_rules.specs.State.{Frame, State, storage_of}
use Rattle.trac_rules.specs.Undone.{Undone, storage_before}
use Rattle.trac_forms.specs.Stored.{Stored, storage_in}
use Rattle.trac_text.specs.Frames.{IsInnermost}
use Rattle.trac_text.specs.Holding.{BeginsFirst, ShownTexts, innermost_arguments}
use Rattle.trac_text.specs.Neutral.{MarkedText, Neutral, neutral_of}
use Rattle.trac_text.specs.declared.calls.Beginning.{Beginning}
use Rattle.trac_step.specs.Calling.{BeginsInnermost, arguments_in}
use Rattle.trac_step.specs.Layout.{Shown, shown_by}
use Rattle.trac_step.proofs.CallsPlanned.{arguments_found}
use Rattle.trac_step.proofs.Scans.{scan_front}

-- at a `)` they are the arguments of the call
given_at : (s : State) → front_of s.active ≡ Closing → innermost_arguments s.frames ≡ arguments_in (scan s)
given_at s front = by_frames s.frames ∙ ap arguments_in (sym (scan_front s Closing front))
  where
    by_frames : (fs : List Frame) → innermost_arguments fs ≡ arguments_in (closing_in fs (deleted 1 s))
    by_frames [] = refl
    by_frames (f ∷ fs) = refl

module _ {texts : ShownTexts} {store : Stored} {meta : ℕ} {trace : Bool} {position : ℕ} {output : Window ℕ} {width : Width} {m : Shown} (view : shown_by texts store meta trace position output width ≡ m) where
  pub begins_here : (b : Beginning) → BeginsInnermost m.state b → BeginsFirst texts.texts.frames texts.texts.base b
  begins_here b begins = subst (λ (n : Shown). BeginsInnermost n.state b) (sym view) begins

  pub given_here : front_of m.state.active ≡ Closing → innermost_arguments texts.texts.frames ≡ arguments_in (scan m.state)
  given_here front = ap (λ (n : Shown). innermost_arguments n.state.frames) view ∙ given_at m.state front

  -- the neutral text that a machine lends
  pub read_there : (lent : MarkedText) → neutral_of lent ≡ record { base = texts.texts.base; frames = texts.texts.frames } → neutral_of lent ≡ record { base = m.state.base; frames = m.state.frames }
  read_there lent same = same ∙ ap (λ (n : Shown). let neutral : Neutral = record { base = n.state.base; frames = n.state.frames } in neutral) view

  -- what stood before the arguments of its innermost function stood before those of the call
  pub before_there : (lent : MarkedText) → neutral_of lent ≡ record { base = texts.texts.base; frames = texts.texts.frames } → (number place : ℕ) (kind : Kind) (given : List (List ℕ)) (undone : Undone) →
      front_of m.state.active ≡ Closing → IsInnermost lent number place kind given → storage_before given undone (storage_in store) ≡ storage_before (arguments_in (scan m.state)) undone (storage_of m.state)
  before_there lent same number place kind given undone front inner =
      let found = arguments_found m.state lent number place kind given front (read_there lent same) inner in
      λ i. storage_before (found i) undone (storage_of (view i).state)
