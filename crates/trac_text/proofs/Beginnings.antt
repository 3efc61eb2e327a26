-- Where the innermost function begins, by the state and by the marks.
use Rattle.std.proofs.Common.{◌≡◌, ℕ, suc, ◌+◌, ◌<◌, List, [], ◌∷◌, length, take, drop, get_or, reverse, refl, sym, ap, ◌∙◌, subst, arith, inl, inr}
use Rattle.std.specs.Prelude.{Option, Some, None, ◌⊎◌}
use Rattle.std.proofs.lemmas.List.{length-take-le, length-reverse}
use Rattle.trac_rules.specs.declared.kind.Kind.{Kind}
use Rattle.trac_rules.specs.State.{Frame}
use Rattle.trac_rules.specs.Limits.{argument_bytes, marks}
use Rattle.trac_text.specs.declared.mark.Mark.{Mark}
use Rattle.trac_text.specs.Cuts.{AreArguments, BeginsFunction, cut, no_mark}
use Rattle.trac_text.specs.Frames.{IsInnermost}
use Rattle.trac_text.specs.Neutral.{MarkedText, IsOrdered, cut_back, neutral_of}
use Rattle.trac_text.proofs.Ending.{cuts_after, is_innermost, no_function}
use Rattle.trac_text.proofs.Neutral.{bytes-neutral, marks-neutral}
use Rattle.trac_text.specs.declared.calls.Beginning.{Beginning}
use Rattle.trac_text.specs.Holding.{BeginsFirst, IsBegun}

-- ---- from the marks

module _ (m : MarkedText) (number place : ℕ) (kind : Kind) (texts : List (List ℕ)) (inner : IsInnermost m number place kind texts) where
  abbrev rest : List Frame
  rest = (neutral_of (cut_back number place m)).frames

  -- so many marks stand before it
  pub marks_before : marks rest ≡ number
  marks_before =
      marks-neutral (take place m.text) (reverse (take number m.marks)) (length (take place m.text)) inner.ordered
      ∙ length-reverse (take number m.marks) ∙ length-take-le number m.marks (omega (arith, inner.within))

  -- and so many bytes
  pub bytes_before : length (neutral_of m).base + argument_bytes rest ≡ place
  bytes_before = omega (
    arith,
    ap (λ (text : List ℕ). length text) inner.base_is,
    bytes-neutral (take place m.text) (reverse (take number m.marks)) inner.ordered,
    length-take-le place m.text inner.place_within,
  )

  pub begins_first : BeginsFirst (neutral_of m).frames (neutral_of m).base (record { number = number; place = place; kind = kind })
  begins_first = subst (λ (fs : List Frame). BeginsFirst fs (neutral_of m).base (record { number = number; place = place; kind = kind })) (sym inner.frames_are)
      (sym inner.kind_is, sym marks_before, sym bytes_before)

-- ---- from the state

-- two places where the same function begins are one
one_beginning : (fs : List Frame) (base : List ℕ) (b c : Beginning) → BeginsFirst fs base b → BeginsFirst fs base c → b ≡ c
one_beginning [] base b c h k = absurd h
one_beginning (f ∷ fs) base b c h k =
    let number = h.1 ∙ sym k.1 in
    let place = h.2 ∙ sym k.2 in
    let kind = h.0 ∙ sym k.0 in
    λ i. record { number = number i; place = place i; kind = kind i }

-- the last mark that begins a function, if there is one
last_begun : (ms : List Mark) → AreArguments ms ⊎ ((k : ℕ) × (kind : Kind) × BeginsFunction ms k kind)
last_begun [] = inl tt
last_begun (m ∷ ms) = begun_in m.frame refl (last_begun ms)
  where
    begun_in : (o : Option Kind) → m.frame ≡ o → AreArguments ms ⊎ ((k : ℕ) × (kind : Kind) × BeginsFunction ms k kind) →
        AreArguments (m ∷ ms) ⊎ ((k : ℕ) × (kind : Kind) × BeginsFunction (m ∷ ms) k kind)
    begun_in None is (inl all) = inl (is, all)
    begun_in (Some kind) is (inl all) = inr (0, kind, record { within = omega arith; begins = is; after = all })
    begun_in o is (inr (k, kind, b)) = inr (
      suc k,
      kind,
      record {
        within = omega (arith, b.within);
        begins = b.begins;
        after = (let next : suc k + 1 ≡ suc (k + 1) = omega arith in subst (λ (n : ℕ). AreArguments (drop n (m ∷ ms))) (sym next) b.after);
      },
    )

-- where some function is begun, one of the marks begins the innermost
begun_last : (m : MarkedText) → IsOrdered m → 0 < length (neutral_of m).frames → (k : ℕ) × (kind : Kind) × BeginsFunction m.marks k kind
begun_last m ordered inside = begun_by (last_begun m.marks)
  where
    begun_by : AreArguments m.marks ⊎ ((k : ℕ) × (kind : Kind) × BeginsFunction m.marks k kind) → (k : ℕ) × (kind : Kind) × BeginsFunction m.marks k kind
    begun_by (inl all) = absurd (omega (arith, ap (λ (fs : List Frame). length fs) (no_function m ordered all), inside))
    begun_by (inr b) = b

-- some function is begun
pub some_frame : (fs : List Frame) (base : List ℕ) (b : Beginning) → BeginsFirst fs base b → 0 < length fs
some_frame [] base b h = absurd h
some_frame (f ∷ fs) base b h = omega arith

-- where the innermost function of the state begins, that of the marks does
pub is_begun : (m : MarkedText) (b : Beginning) → IsOrdered m → BeginsFirst (neutral_of m).frames (neutral_of m).base b → IsBegun m b
is_begun m b ordered begins =
    let last = begun_last m ordered (some_frame (neutral_of m).frames (neutral_of m).base b begins) in
    let k = last.0 in
    let kind = last.1 in
    let at : ℕ = (get_or m.marks k no_mark).place in
    let texts : List (List ℕ) = cut at (drop (k + 1) m.marks) m.text in
    let found = is_innermost m k kind ordered last.2 at texts refl refl in
    let same : record { number = k; place = at; kind = kind } ≡ b =
    one_beginning (neutral_of m).frames (neutral_of m).base (record { number = k; place = at; kind = kind }) b (begins_first m k at kind texts found) begins in
    subst (IsBegun m) same (record { cuts = cuts_after m k kind ordered last.2; innermost = found })
