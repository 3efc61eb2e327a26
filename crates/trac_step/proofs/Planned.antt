-- What has to be known of a call before it is planned.
use Rattle.std.proofs.Common.{◌≡◌, ℕ, ◌+◌, ◌-◌, ◌≤◌, List, [], ◌∷◌, length, sym, ap, ◌∙◌, subst, arith, Bool}
use Rattle.std.proofs.lemmas.List.{length-append, length-drop}
use Rattle.trac_gap.specs.Window.{Window}
use Rattle.trac_rules.specs.declared.kind.Kind.{Kind}
use Rattle.trac_rules.specs.declared.limit.TheConstants.{MARK_LIMIT, TEXT_LIMIT}
use Rattle.trac_rules.specs.declared.width.Width.{Width}
use Rattle.trac_rules.specs.Limits.{argument_bytes, marks, text_bytes}
use Rattle.trac_rules.specs.Proper.{IsProper}
use Rattle.trac_rules.specs.State.{Frame, State, storage_of}
use Rattle.trac_forms.specs.Stored.{Stored, storage_in}
use Rattle.trac_prims.specs.declared.effect.Now.{Now}
use Rattle.trac_prims.specs.Plans.{IsGiven}
use Rattle.trac_text.specs.Frames.{IsInnermost, all_arguments}
use Rattle.trac_text.specs.Neutral.{MarkedText, Neutral, cut_back, neutral_of}
use Rattle.trac_text.specs.Holding.{ShownTexts}
use Rattle.trac_text.proofs.Beginnings.{bytes_before}
use Rattle.trac_step.specs.Layout.{Shown, shown_by}
use Rattle.trac_step.proofs.Calls.{call_of}
use Rattle.trac_storage.proofs.Judged.{limits_kept}

module _ (s : State) (m : MarkedText) (number place : ℕ) (kind : Kind) (texts : List (List ℕ)) (proper : IsProper s) (same : neutral_of m ≡ record { base = s.base; frames = s.frames })
    (inner : IsInnermost m number place kind texts) where
  -- the functions around it
  abbrev pub outer : List Frame
  outer = (neutral_of (cut_back number place m)).frames

  pub frames_of : s.frames ≡ inner.frame ∷ outer
  frames_of = ap (λ (n : Neutral). n.frames) (sym same) ∙ inner.frames_are

  -- the texts without the call
  pub text_without : text_bytes (call_of s inner.frame outer).state ≡ length s.active - 1 + place
  text_without = omega (arith, bytes_before m number place kind texts inner, ap (λ (n : Neutral). length n.base) same, length-drop 1 s.active)

  all_bytes : argument_bytes outer ≤ argument_bytes s.frames
  all_bytes = subst (λ (fs : List Frame). argument_bytes outer ≤ argument_bytes fs) (sym frames_of) (omega arith)

  all_marks : marks outer + length (all_arguments inner.frame) ≤ marks s.frames
  all_marks = subst (λ (fs : List Frame). marks outer + length (all_arguments inner.frame) ≤ marks fs) (sym frames_of)
      (omega (arith, length-append inner.frame.arguments (inner.frame.gathered ∷ [])))

  pub text_within : length s.active - 1 + place ≤ TEXT_LIMIT
  text_within = let kept = limits_kept s proper.texts in omega (arith, kept.text, all_bytes, text_without, length-drop 1 s.active)

  pub marks_within : marks outer ≤ MARK_LIMIT
  marks_within = let kept = limits_kept s proper.texts in omega (arith, kept.marked, all_marks)

  pub count_within : length texts ≤ MARK_LIMIT
  count_within = let kept = limits_kept s proper.texts in omega (arith, kept.marked, all_marks, ap (λ (ts : List (List ℕ)). length ts) inner.arguments_are)

  -- the call that scanning asks for is the one that is planned
  pub given_call : (store : Stored) (now : Now) → storage_of s ≡ storage_in store → s.meta ≡ now.meta → s.trace ≡ now.trace → s.position ≡ now.position → length s.output ≡ now.output →
      length s.active - 1 + place ≡ now.text → IsGiven (call_of s inner.frame outer) kind texts store now
  given_call store now storage_is meta_is trace_is position_is output_is text_is = record {
    kind_is = inner.kind_is;
    arguments_are = inner.arguments_are;
    state_is = record {
      storage_is = storage_is;
      meta_is = meta_is;
      trace_is = trace_is;
      position_is = position_is;
      output_is = output_is;
      text_is = text_without ∙ text_is;
      marks_fit = marks_within;
    };
  }

  -- from what is seen of a machine, the length of its output and its active text
  pub given_here : {given : ShownTexts} {store : Stored} {meta : ℕ} {trace : Bool} {position : ℕ} {printed : Window ℕ} {width : Width} {shown : Shown} → shown_by given store meta trace position printed width ≡ shown →
      shown.state ≡ s → (output : ℕ) (active : List ℕ) → output ≡ length printed.items → active ≡ given.texts.active →
      IsGiven (call_of s inner.frame outer) kind texts store (record { meta = meta; trace = trace; position = position; output = output; text = length active - 1 + place; width = width })
  given_here view state_is output active output_is active_is =
      let there = ap (λ (n : Shown). n.state) view ∙ state_is in
      given_call _ _
      (ap (λ (t : State). storage_of t) (sym there)) (ap (λ (t : State). t.meta) (sym there)) (ap (λ (t : State). t.trace) (sym there)) (ap (λ (t : State). t.position) (sym there))
      (ap (λ (t : State). length t.output) (sym there) ∙ sym output_is)
      (ap (λ (t : State). length t.active - 1 + place) (sym there) ∙ ap (λ (xs : List ℕ). length xs - 1 + place) (sym active_is))
