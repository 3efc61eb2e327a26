-- Whether the texts of parts are within the limits, by what is counted.
use Rattle.std.proofs.Common.{◌≡◌, ℕ, ◌+◌, ◌-◌, ◌^◌, ◌<◌, ◌≤◌, ◌&&◌, true, false, length, refl, sym, ◌∙◌, arith, ⊎_elim}
use Rattle.std.specs.Prelude.{min, nat_le}
use Rattle.std.proofs.lemmas.Bool.{and_parts, cases_Bool, false_from_ne_true, le-leb, leb-true}
use Rattle.trac_rules.specs.declared.limit.TheConstants.{MARK_LIMIT, OUTPUT_LIMIT, TEXT_LIMIT}
use Rattle.trac_rules.specs.Limits.{marks, text_bytes, texts_fit}
use Rattle.trac_rules.specs.State.{State}
use Rattle.trac_text.specs.Framing.{EachGathers, argument_count, function_bytes, functions_of}
use Rattle.trac_text.proofs.Framed.{bytes_of_frames, marks_of_frames}
use Rattle.trac_storage.specs.Loading.{state_in}
use Rattle.trac_storage.specs.declared.parts.Parts as code

-- ---- the three limits on texts

pub record IsLimited (s : State) : Type 0 where
  pub text : text_bytes s ≤ TEXT_LIMIT
  pub marked : marks s.frames ≤ MARK_LIMIT
  pub output : length s.output ≤ OUTPUT_LIMIT

pub limits_kept : (s : State) → texts_fit s ≡ true → IsLimited s
unfolding texts_fit
limits_kept s e =
    let parts = and_parts (nat_le (text_bytes s) TEXT_LIMIT && nat_le (marks s.frames) MARK_LIMIT) (nat_le (length s.output) OUTPUT_LIMIT) e in
    let texts = and_parts (nat_le (text_bytes s) TEXT_LIMIT) (nat_le (marks s.frames) MARK_LIMIT) parts.0 in
    record { text = leb-true _ _ texts.0; marked = leb-true _ _ texts.1; output = leb-true _ _ parts.1 }

-- ---- those of parts

module _ {A : Type 0} (parts : code.Parts A) where
  -- how many bytes their texts hold
  pub text_bytes-parts : text_bytes (state_in parts) ≡ length parts.active.items + length parts.base.items + function_bytes (functions_of parts.frames.items)
  text_bytes-parts = omega (arith, bytes_of_frames (functions_of parts.frames.items))

  -- so text and marks are within the limits where they fit
  pub text_within : texts_fit (state_in parts) ≡ true → length parts.active.items + length parts.base.items + function_bytes (functions_of parts.frames.items) ≤ TEXT_LIMIT
  text_within fits = let kept = limits_kept (state_in parts) fits in omega (arith, kept.text, text_bytes-parts)

  pub marks_within : EachGathers parts.frames.items → texts_fit (state_in parts) ≡ true → argument_count (functions_of parts.frames.items) ≤ MARK_LIMIT
  marks_within each fits = let kept = limits_kept (state_in parts) fits in omega (arith, kept.marked, marks_of_frames parts.frames.items each)

-- a number that was counted up to a greatest one is within a lower limit where the number is
within_min : (n most limit : ℕ) → limit < most → nat_le (min n most) limit ≡ nat_le n limit
within_min n most limit h =
    ⊎_elim
    (λ (t : nat_le n limit ≡ true). le-leb (min n most) limit (let le : n ≤ limit = leb-true n limit t in omega (arith, le)) ∙ sym t)
    (λ (t : nat_le n limit ≡ false).
    false_from_ne_true (nat_le (min n most) limit) (λ e.
    absurd (let le : min n most ≤ limit = leb-true (min n most) limit e in
    let both : true ≡ false = sym (le-leb n limit (omega (arith, le, h))) ∙ t in cc)) ∙ sym t)
    (cases_Bool (nat_le n limit))

-- so texts, marks and output of parts are judged by what is counted
pub texts_judged : {A : Type 0} (parts : code.Parts A) (text count : ℕ) → EachGathers parts.frames.items →
    text ≡ min (length parts.active.items + length parts.base.items + function_bytes (functions_of parts.frames.items)) (2 ^ 64 - 1) →
    count ≡ min (argument_count (functions_of parts.frames.items)) (2 ^ 64 - 1) →
    (nat_le text TEXT_LIMIT && nat_le count MARK_LIMIT && nat_le (length parts.output.items) OUTPUT_LIMIT) ≡ texts_fit (state_in parts)
unfolding texts_fit
texts_judged parts text count each text_is count_is =
    rw (
      text_bytes-parts parts,
      marks_of_frames parts.frames.items each,
      text_is,
      count_is,
      within_min (length parts.active.items + length parts.base.items + function_bytes (functions_of parts.frames.items)) (2 ^ 64 - 1) TEXT_LIMIT (omega arith),
      within_min (argument_count (functions_of parts.frames.items)) (2 ^ 64 - 1) MARK_LIMIT (omega arith),
    ) refl
