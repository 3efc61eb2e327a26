-- Limits on a state, and what is true of every machine, from one another.
use Rattle.std.proofs.Common.{◌≡◌, ℕ, ◌<◌, ◌≤◌, Bool, length, refl, sym, arith, true, false}
use Rattle.std.proofs.lemmas.Bool.{false_from_ne_true, le-leb}
use Rattle.std.proofs.lemmas.List.{length-drop}
use Rattle.trac_gap.specs.Window.{Window}
use Rattle.trac_rules.specs.declared.limit.TheConstants.{TEXT_LIMIT, MARK_LIMIT, OUTPUT_LIMIT}
use Rattle.trac_rules.specs.State.{State}
use Rattle.trac_rules.specs.Limits.{text_bytes, marks, texts_fit}
use Rattle.trac_rules.specs.Proper.{IsProper}
use Rattle.trac_rules.specs.Records.{state_of}
use Rattle.trac_rules.specs.Scanning.{deleted}
use Rattle.trac_forms.specs.Stored.{Stored, storage_in}
use Rattle.trac_text.specs.Holding.{CanHold, ShownTexts}
use Rattle.trac_storage.proofs.Judged.{limits_kept}
use Rattle.trac_step.specs.Layout.{IsMachine, rest_in}

-- one more mark than there may be
pub beyond_limits_of_marks : (s : State) → MARK_LIMIT < marks s.frames → texts_fit s ≡ false
beyond_limits_of_marks s h = false_from_ne_true (texts_fit s) (λ e. let kept = limits_kept s e in absurd (omega (arith, kept.marked)))

pub within_limits : (s : State) → text_bytes s ≤ TEXT_LIMIT → marks s.frames ≤ MARK_LIMIT → length s.output ≤ OUTPUT_LIMIT → texts_fit s ≡ true
unfolding texts_fit
within_limits s t m o = rw (le-leb _ _ t, le-leb _ _ m, le-leb _ _ o) refl

-- a proper state without the first byte of its active text is
pub fits_deleted : (s : State) → IsProper s → true ≡ texts_fit (deleted 1 s)
fits_deleted s proper =
    let kept = limits_kept s proper.texts in
    sym (within_limits (deleted 1 s) (omega (arith, kept.text, length-drop 1 s.active)) kept.marked kept.output)

-- the state that a machine shows is proper
pub proper_state : (texts : ShownTexts) (store : Stored) (meta : ℕ) (trace : Bool) (position : ℕ) (output : Window ℕ) → CanHold texts texts.texts → IsMachine (storage_in store) output.items →
    IsProper (state_of texts.texts (storage_in store) (rest_in meta trace position output))
proper_state texts store meta trace position output can machine = record { texts = within_limits _ can.text_limit can.mark_limit machine.output_limit; storage = machine.storage_is }
