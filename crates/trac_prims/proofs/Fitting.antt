-- Whether the state after a call is within the limits: the lengths of the value and of what is printed tell.
use Rattle.std.proofs.Common.{◌≡◌, ℕ, ◌+◌, ◌≤◌, List, [], ◌∷◌, length, refl, ap, ◌∙◌, arith, Bool, true, false}
use Rattle.std.specs.Prelude.{nat_le, ◌&&◌}
use Rattle.std.proofs.lemmas.Bool.{and_from, and_parts, le-leb, leb-true}
use Rattle.std.proofs.lemmas.List.{length-append}
use Rattle.trac_rules.specs.declared.kind.Kind.{Kind}
use Rattle.trac_rules.specs.declared.kind.Kind.TheVariants.{Active, Neutral}
use Rattle.trac_rules.specs.declared.limit.TheConstants.{TEXT_LIMIT, MARK_LIMIT, OUTPUT_LIMIT}
use Rattle.trac_rules.specs.Effect.{Effect}
use Rattle.trac_rules.specs.Limits.{argument_bytes, marks, text_bytes, texts_fit}
use Rattle.trac_rules.specs.Performing.{after_call, changed_by, placed}
use Rattle.trac_rules.specs.Scanning.{Call, gathered_in}
use Rattle.trac_rules.specs.State.{Frame, State}

-- ---- sizes of the state in which a value is placed

pub record AddsText (s t : State) (n : ℕ) : Type 0 where
  pub text : text_bytes t ≡ text_bytes s + n
  pub marked : marks t.frames ≡ marks s.frames
  pub output : t.output ≡ s.output

gathers : (frames : List Frame) (text : List ℕ) (s : State) → frames ≡ s.frames → AddsText s (gathered_in frames text s) (length text)
gathers [] text s e = record { text = omega (arith, length-append s.base text); marked = refl; output = refl }
gathers (f ∷ fs) text s e =
    let same : argument_bytes (f ∷ fs) ≡ argument_bytes s.frames = ap argument_bytes e in
    record { text = omega (arith, length-append f.gathered text); marked = ap marks e; output = refl }

places : (kind : Kind) (forced : Bool) (value : List ℕ) (s : State) → AddsText s (placed kind forced value s) (length value)
places Active forced value s = record { text = omega (arith, length-append value s.active); marked = refl; output = refl }
places Neutral true value s = record { text = omega (arith, length-append value s.active); marked = refl; output = refl }
places Neutral false value s = gathers s.frames value s refl

-- ---- the limits on the state after a call

pub record FitsAfter (call : Call) (e : Effect) : Type 0 where
  pub text : text_bytes call.state + length e.value ≤ TEXT_LIMIT
  pub marked : marks call.state.frames ≤ MARK_LIMIT
  pub output : length call.state.output + length e.printed ≤ OUTPUT_LIMIT

module _ (call : Call) (e : Effect) where
  after : AddsText (changed_by e call.state) (after_call call e) (length e.value)
  after = places call.kind e.forced e.value (changed_by e call.state)

  output_after : length (after_call call e).output ≡ length call.state.output + length e.printed
  output_after = ap length after.output ∙ length-append call.state.output e.printed

  pub fits_then : texts_fit (after_call call e) ≡ true → FitsAfter call e
  unfolding texts_fit
  fits_then h =
      let t = after_call call e in
      let outer = and_parts (nat_le (text_bytes t) TEXT_LIMIT && nat_le (marks t.frames) MARK_LIMIT) (nat_le (length t.output) OUTPUT_LIMIT) h in
      let inner = and_parts (nat_le (text_bytes t) TEXT_LIMIT) (nat_le (marks t.frames) MARK_LIMIT) outer.0 in
      record {
        text = omega (arith, after.text, leb-true (text_bytes t) TEXT_LIMIT inner.0);
        marked = omega (arith, after.marked, leb-true (marks t.frames) MARK_LIMIT inner.1);
        output = omega (arith, output_after, leb-true (length t.output) OUTPUT_LIMIT outer.1);
      }

  pub fits_by : FitsAfter call e → texts_fit (after_call call e) ≡ true
  unfolding texts_fit
  fits_by fits =
      let t = after_call call e in
      and_from (nat_le (text_bytes t) TEXT_LIMIT && nat_le (marks t.frames) MARK_LIMIT) (nat_le (length t.output) OUTPUT_LIMIT)
      (and_from (nat_le (text_bytes t) TEXT_LIMIT) (nat_le (marks t.frames) MARK_LIMIT)
      (le-leb (text_bytes t) TEXT_LIMIT (omega (arith, after.text, fits.text))) (le-leb (marks t.frames) MARK_LIMIT (omega (arith, after.marked, fits.marked))))
      (le-leb (length t.output) OUTPUT_LIMIT (omega (arith, output_after, fits.output)))
