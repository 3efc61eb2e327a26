-- Where scanning moves on: what the state after it is, and whether it is within the limits.
use Rattle.std.proofs.Common.{◌≡◌, ℕ, suc, ◌+◌, ◌<◌, ◌≤◌, List, [], ◌∷◌, length, take, drop, refl, sym, ap, ◌∙◌, subst, arith, true, false, Bool, inl, inr}
use Rattle.std.specs.Prelude.{Option, Some, None, nat_lt}
use Rattle.std.proofs.lemmas.Option.{none-some}
use Rattle.std.proofs.lemmas.Bool.Decides.{leb_tells}
use Rattle.std.proofs.lemmas.List.{length-append, length-take, length-drop}
use Rattle.trac_rules.specs.declared.kind.Kind.{Kind}
use Rattle.trac_rules.specs.declared.kind.Kind.TheVariants.{Active, Neutral}
use Rattle.trac_rules.specs.declared.limit.TheConstants.{MARK_LIMIT, OUTPUT_LIMIT, TEXT_LIMIT}
use Rattle.trac_rules.specs.State.{Frame, State}
use Rattle.trac_rules.specs.Matching.{protected}
use Rattle.trac_rules.specs.Performing.{beginning_of, placed}
use Rattle.trac_rules.specs.Records.{texts_in}
use Rattle.trac_rules.specs.Scanning.{Moves, scan, deleted, comma_in, closing_in, gather, gathered_in}
use Rattle.trac_rules.specs.Limits.{argument_bytes, texts_fit, marks, text_bytes}
use Rattle.trac_rules.specs.Proper.{IsProper}
use Rattle.trac_rules.proofs.Bounded.{total_length-append}
use Rattle.trac_step.specs.Calling.{IfMoves, with_mark}
use Rattle.trac_text.specs.Ruled.{makes_mark, rule_of}
use Rattle.trac_text.specs.declared.scanning.Rule.{Rule}
use Rattle.trac_text.specs.declared.scanning.Rule.TheVariants.{Restart, Protect, Delete, Begin, NextArgument, Gather, Perform}
use Rattle.trac_text.proofs.Protected.{protected_length}
use Rattle.trac_text.proofs.Ruled.{begins_by, scan_rule, scanned_by}
use Rattle.trac_storage.proofs.Judged.{limits_kept}
use Rattle.trac_step.proofs.Limited.{beyond_limits_of_marks, fits_deleted, within_limits}
use Rattle.trac_step.proofs.Recorded.{argument_marks}

-- ---- sizes

-- a state with a longer current text
pub record IsLonger (more : List ℕ) (s t : State) : Type 0 where
  pub bytes : text_bytes t ≡ text_bytes s + length more
  pub marks_are : marks t.frames ≡ marks s.frames
  pub output : length t.output ≡ length s.output

gathered_longer : (fs : List Frame) (more : List ℕ) (s : State) → s.frames ≡ fs → IsLonger more s (gathered_in fs more s)
gathered_longer [] more s is = record { bytes = omega (arith, length-append s.base more); marks_are = refl; output = refl }
gathered_longer (f ∷ fs) more s is = record {
  bytes = omega (arith, length-append f.gathered more, ap argument_bytes is);
  marks_are = sym (ap marks is);
  output = refl;
}

pub placed_longer : (kind : Kind) (forced : Bool) (value : List ℕ) (s : State) → IsLonger value s (placed kind forced value s)
placed_longer Active forced value s = record { bytes = omega (arith, length-append value s.active); marks_are = refl; output = refl }
placed_longer Neutral true value s = record { bytes = omega (arith, length-append value s.active); marks_are = refl; output = refl }
placed_longer Neutral false value s = gathered_longer s.frames value s refl

-- a further mark is one more
pub one_mark_more : (frame : Option Kind) (n : ℕ) (s : State) → (frame ≡ None → 0 < length s.frames) → marks (with_mark frame (deleted n s)).frames ≡ marks s.frames + 1
one_mark_more (Some kind) n s inside = omega arith
one_mark_more None n s inside = argument_marks s.frames (deleted n s) (inside refl)

-- what a rule that makes a mark does: so many bytes are deleted, and the mark is of this function or, if none is named, of a further argument
pub record MakesMark (s : State) : Type 0 where
  pub frame : Option Kind
  pub bytes : ℕ
  pub inside : frame ≡ None → 0 < length s.frames
  pub moves : scan s ≡ Moves (with_mark frame (deleted bytes s))

pub mark_of : (s : State) (rule : Rule) → rule ≡ rule_of (texts_in s) → makes_mark rule ≡ true → MakesMark s
mark_of s (Begin kind) next e = record { frame = Some kind; bytes = length (beginning_of kind); inside = (λ h. absurd (none-some _ (sym h))); moves = scan_rule s (Begin kind) next }
mark_of s NextArgument next e = record { frame = None; bytes = 1; inside = (λ h. (begins_by (texts_in s) NextArgument next).1); moves = scan_rule s NextArgument next }
mark_of s Restart next e = absurd (let unset : false ≡ true = e in cc)
mark_of s Protect next e = absurd (let unset : false ≡ true = e in cc)
mark_of s Delete next e = absurd (let unset : false ≡ true = e in cc)
mark_of s Gather next e = absurd (let unset : false ≡ true = e in cc)
mark_of s Perform next e = absurd (let unset : false ≡ true = e in cc)

-- ---- whether the state that scanning moves on to is within the limits

module _ (s : State) (proper : IsProper s) where
  gathered_limited : (active more : List ℕ) → length active + length more ≤ length s.active → true ≡ texts_fit (gather more (record s { active = active }))
  gathered_limited active more less =
      let kept = limits_kept s proper.texts in
      let size = gathered_longer s.frames more (record s { active = active }) refl in
      sym (within_limits (gather more (record s { active = active })) (omega (arith, kept.text, size.bytes)) (omega (arith, kept.marked, size.marks_are)) (omega (arith, kept.output, size.output)))

  first_limited : true ≡ texts_fit (gather (take 1 s.active) (deleted 1 s))
  first_limited = gathered_limited (drop 1 s.active) (take 1 s.active) (omega (arith, length-take 1 s.active, length-drop 1 s.active))

  marked_limited : (frame : Option Kind) (n : ℕ) → (frame ≡ None → 0 < length s.frames) → nat_lt (marks s.frames) MARK_LIMIT ≡ texts_fit (with_mark frame (deleted n s))
  marked_limited frame n inside = elim (leb_tells (suc (marks s.frames)) MARK_LIMIT) as (λ _. nat_lt (marks s.frames) MARK_LIMIT ≡ texts_fit (with_mark frame (deleted n s))) [
    | inl room ↦ room.0 ∙ sym (within_limits (with_mark frame (deleted n s)) (bytes frame inside) (omega (arith, room.1, one_mark_more frame n s inside)) (printed frame inside))
    | inr full ↦ full.0 ∙ sym (beyond_limits_of_marks (with_mark frame (deleted n s)) (omega (arith, full.1, one_mark_more frame n s inside)))
  ]
    where
      ended : (fs : List Frame) → s.frames ≡ fs → text_bytes (comma_in fs (deleted n s)) ≤ text_bytes s
      ended [] is = omega (arith, length-drop n s.active)
      ended (f ∷ fs) is = omega (arith, length-drop n s.active, total_length-append f.arguments f.gathered, ap argument_bytes is)

      bytes : (frame : Option Kind) → (frame ≡ None → 0 < length s.frames) → text_bytes (with_mark frame (deleted n s)) ≤ TEXT_LIMIT
      bytes (Some kind) inside = omega (arith, (limits_kept s proper.texts).text, length-drop n s.active)
      bytes None inside = omega (arith, (limits_kept s proper.texts).text, ended s.frames refl)

      printed : (frame : Option Kind) → (frame ≡ None → 0 < length s.frames) → length (with_mark frame (deleted n s)).output ≤ OUTPUT_LIMIT
      printed (Some kind) inside = (limits_kept s proper.texts).output
      printed None inside = by_frames s.frames
        where
          by_frames : (fs : List Frame) → length (comma_in fs (deleted n s)).output ≤ OUTPUT_LIMIT
          by_frames [] = (limits_kept s proper.texts).output
          by_frames (f ∷ fs) = (limits_kept s proper.texts).output

  -- where the rule makes no mark, it is
  limited_by : (rule : Rule) → makes_mark rule ≡ false → IfMoves (scanned_by rule s) (λ t. true ≡ texts_fit t)
  limited_by Restart e = let kept = limits_kept s proper.texts in sym (within_limits _ (omega arith) (omega arith) kept.output)
  limited_by Protect e = gathered_limited (protected (drop 1 s.active)).rest (protected (drop 1 s.active)).inner (omega (arith, protected_length (drop 1 s.active), length-drop 1 s.active))
  limited_by Delete e = fits_deleted s proper
  limited_by (Begin kind) e = absurd (let unset : true ≡ false = e in cc)
  limited_by NextArgument e = absurd (let unset : true ≡ false = e in cc)
  limited_by Gather e = first_limited
  limited_by Perform e = by_frames s.frames
    where
      by_frames : (fs : List Frame) → IfMoves (closing_in fs (deleted 1 s)) (λ u. true ≡ texts_fit u)
      by_frames [] = fits_deleted s proper
      by_frames (f ∷ fs) = tt

  module _ (rule : Rule) (next : rule ≡ rule_of (texts_in s)) where
    pub move_without_mark : makes_mark rule ≡ false → IfMoves (scan s) (λ t. true ≡ texts_fit t)
    move_without_mark e = subst (λ x. IfMoves x (λ t. true ≡ texts_fit t)) (sym (scan_rule s rule next)) (limited_by rule e)

    pub move_with_mark : makes_mark rule ≡ true → IfMoves (scan s) (λ t. nat_lt (marks s.frames) MARK_LIMIT ≡ texts_fit t)
    move_with_mark e =
        let mark = mark_of s rule next e in
        subst (λ x. IfMoves x (λ t. nat_lt (marks s.frames) MARK_LIMIT ≡ texts_fit t)) (sym mark.moves) (marked_limited mark.frame mark.bytes mark.inside)

-- ---- what the outcome says of the state before

-- scanning moves on to this state, so a fact of it holds
pub of_moves : (s t : State) (P : State → Type 0) → scan s ≡ Moves t → IfMoves (scan s) P → P t
of_moves s t P e h = subst (λ x. IfMoves x P) e h
