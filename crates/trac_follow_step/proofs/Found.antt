-- What stands at a place of a state.
use Rattle.std.proofs.Common.{◌≡◌, ℕ, zero, suc, ◌+◌, ◌-◌, ◌<◌, ◌≤◌, true, false, List, [], ◌∷◌, length, drop, reverse, get_or, refl, sym, ap, ◌∙◌, arith, Option, None, Some, ◌==◌, option_and_then, option_map, slice_get}
use Rattle.std.proofs.lemmas.Bool.{cond-true, cond-false, eq-eqb, ne_eqb}
use Rattle.std.proofs.lemmas.List.{drop_more, get_or-reverse, get_or_at, length-drop, length-reverse}
use Rattle.std.proofs.lemmas.Option.{get_or_from_slice_get, slice_get-get_or, slice_get_within}
use Rattle.trac_rules.specs.declared.item.Item.{Item}
use Rattle.trac_rules.specs.declared.item.Item.TheVariants.{Byte}
use Rattle.trac_rules.specs.declared.kind.Kind.{Kind}
use Rattle.trac_rules.specs.Effect.{argument}
use Rattle.trac_rules.specs.State.{Frame, State}
use Rattle.trac_origins.specs.Lengths.{current_text, in_current}
use Rattle.trac_origins.specs.Places.{InArgument, arguments_of, byte_at, numbered}
use Rattle.trac_origins.proofs.Told.{is_in}
use Rattle.trac_origins.proofs.Zips.{number_within}
use Rattle.trac_follow_step.specs.Places.{IsBare, Stands}
use Rattle.trac_text.specs.Frames.{IsFrame, all_arguments}

pub byte_there : (i : ℕ) (text : List ℕ) → i < length text → (item : Item) × (byte_at i text ≡ Some item)
byte_there i text l = (Byte (get_or text i 0), ap (option_map Byte) (slice_get-get_or text i 0 l))

-- ---- functions by their numbers, counted from the innermost and from the outermost

module _ {A : Type 0} where
  -- the one of a number, with those around it
  pub around : (xs : List A) (n : ℕ) (x : A) → slice_get (reverse xs) n ≡ Some x →
      (rest : List A) × (drop (length xs - (n + 1)) xs ≡ x ∷ rest) × (length rest ≡ n)
  around xs n x e =
      let within : n < length xs = omega (arith, slice_get_within (reverse xs) n x e, length-reverse xs) in
      let k = length xs - (n + 1) in
      let place : length xs - 1 - n ≡ k = omega arith in
      let at : get_or xs k x ≡ x = ap (λ j. get_or xs j x) (sym place) ∙ sym (get_or-reverse xs n x within) ∙ get_or_from_slice_get (reverse xs) n x x e in
      (drop (k + 1) xs, drop_more xs k x (omega (arith, within)) ∙ ap (λ y. y ∷ drop (k + 1) xs) at, length-drop (k + 1) xs ∙ omega (arith, within))

  -- what is told of it, where that is told of those around each other one
  pub at_number : {X : Type 0} (n : ℕ) (of : List A → X) (this : A → List A → X) → ((x : A) (xs : List A) → (n == length xs) ≡ true → of (x ∷ xs) ≡ this x xs) →
      ((x : A) (xs : List A) → (n == length xs) ≡ false → of (x ∷ xs) ≡ of xs) →
      (xs : List A) (m : ℕ) (x : A) (rest : List A) → drop m xs ≡ x ∷ rest → length rest ≡ n → of xs ≡ this x rest
  at_number n of this first later [] zero x rest is number = absurd (cc)
  at_number n of this first later [] (suc m) x rest is number = absurd (cc)
  at_number n of this first later (y ∷ ys) zero x rest is number = ap of is ∙ first x rest (eq-eqb n (length rest) (sym number))
  at_number n of this first later (y ∷ ys) (suc m) x rest is number =
      let longer : n < length ys = omega (arith, number, ap (λ (zs : List A). length zs) is, length-drop m ys) in
      later y ys (ne_eqb n (length ys) (λ same. absurd (omega (arith, same, longer)))) ∙ at_number n of this first later ys m x rest is number

  pub numbered_there : (xs : List A) (n : ℕ) (x : A) → slice_get (reverse xs) n ≡ Some x → numbered n xs ≡ Some x
  numbered_there xs n x e =
      let at = around xs n x e in
      at_number n (λ ys. numbered n ys) (λ y ys. Some y) (λ y ys. cond-true (n == length ys) (Some y) (numbered n ys)) (λ y ys. cond-false (n == length ys) (Some y) (numbered n ys))
      xs (length xs - (n + 1)) x at.0 at.1 at.2

-- the frame that a reader gives
pub given_frame : (found : Option Frame) (kind : Kind) (arguments : List (List ℕ)) → IsFrame found kind arguments → (f : Frame) × (found ≡ Some f) × (all_arguments f ≡ arguments)
given_frame None kind arguments is = absurd is
given_frame (Some f) kind arguments is = (f, refl, is.1)

-- ---- what stands

pub argument_stands : (s : State) (n k i : ℕ) (kind : Kind) (arguments : List (List ℕ)) → IsFrame (slice_get (reverse s.frames) n) kind arguments → i < length (get_or arguments k []) →
    Stands s (InArgument n k i)
argument_stands s n k i kind arguments is l =
    let f = given_frame (slice_get (reverse s.frames) n) kind arguments is in
    let byte = byte_there i (get_or arguments k []) l in
    let there : numbered n s.frames ≡ Some f.0 = numbered_there s.frames n f.0 f.1 in (
      byte.0,
      ap (option_and_then (λ (g : Frame). byte_at i (argument k (arguments_of g)))) there
          ∙ ap (λ (texts : List (List ℕ)). byte_at i (get_or texts k [])) f.2 ∙ byte.1,
    )

-- ---- what does not stand

pub argument_bare : (s : State) (n k i : ℕ) (kind : Kind) (arguments : List (List ℕ)) → IsFrame (slice_get (reverse s.frames) n) kind arguments → length (get_or arguments k []) ≤ i →
    IsBare s (InArgument n k i)
argument_bare s n k i kind arguments is past item stands =
    let f = given_frame (slice_get (reverse s.frames) n) kind arguments is in
    let there = is_in s n k i item stands in
    let first : numbered n s.frames ≡ Some f.0 = numbered_there s.frames n f.0 f.1 in
    let second : numbered n s.frames ≡ Some there.frame = there.there in
    let same : there.frame ≡ f.0 = cc in
    absurd (omega (
      arith,
      past,
      there.within,
      ap (λ (g : Frame). length (argument k (arguments_of g))) same,
      ap (λ (texts : List (List ℕ)). length (get_or texts k [])) f.2,
    ))

pub function_bare : (s : State) (n k i : ℕ) → length s.frames ≤ n → IsBare s (InArgument n k i)
function_bare s n k i past item stands =
    let there = is_in s n k i item stands in
    absurd (omega (arith, past, number_within n s.frames there.frame there.there))

-- ---- past the current text

-- the functions of which the current text is that of this one
current_frame : (s : State) (function argument byte depth n : ℕ) (fs : List Frame) → drop (length s.frames - depth) s.frames ≡ fs →
    InArgument function argument byte ≡ in_current fs (length (current_text fs s) + n) → (f : Frame) × (rest : List Frame) × (fs ≡ f ∷ rest) × (function ≡ length rest) × (argument ≡ length f.arguments)
    × (byte ≡ length f.gathered + n)
current_frame s function argument byte depth n [] is at = absurd (cc)
current_frame s function argument byte depth n (f ∷ rest) is at =
    let number : function ≡ length rest = cc in
    let last : argument ≡ length f.arguments = cc in
    let place : byte ≡ length f.gathered + n = cc in
    (f, rest, refl, number, last, place)

pub past_none : (s : State) (function argument byte depth n : ℕ) → length s.frames ≤ function →
    let fs = drop (length s.frames - depth) s.frames in
    InArgument function argument byte ≡ in_current fs (length (current_text fs s) + n) → byte ≡ n
past_none s function argument byte depth n past at =
    let k = length s.frames - depth in
    let frame = current_frame s function argument byte depth n (drop k s.frames) refl at in
    absurd (omega (arith, past, frame.3, ap (λ (gs : List Frame). length gs) frame.2, length-drop k s.frames))

pub past_some : (s : State) (function argument byte depth n : ℕ) (kind : Kind) (arguments : List (List ℕ)) → IsFrame (slice_get (reverse s.frames) function) kind arguments →
    let fs = drop (length s.frames - depth) s.frames in
    InArgument function argument byte ≡ in_current fs (length (current_text fs s) + n) → byte - length (get_or arguments argument []) ≡ n
past_some s function argument byte depth n kind arguments is at =
    let k = length s.frames - depth in
    let frame = current_frame s function argument byte depth n (drop k s.frames) refl at in
    let given = given_frame (slice_get (reverse s.frames) function) kind arguments is in
    let split = around s.frames function given.0 given.1 in
    let place : k ≡ length s.frames - (function + 1) =
    omega (arith, frame.3, ap (λ (gs : List Frame). length gs) frame.2, length-drop k s.frames) in
    let both : given.0 ∷ split.0 ≡ frame.0 ∷ frame.1 = sym split.1 ∙ ap (λ j. drop j s.frames) (sym place) ∙ frame.2 in
    let same : given.0 ≡ frame.0 = cc in
    let f : Frame = given.0 in
    let number : argument ≡ length f.arguments = frame.4 ∙ ap (λ (g : Frame). length g.arguments) (sym same) in
    let text : get_or arguments argument [] ≡ f.gathered =
    ap (λ (texts : List (List ℕ)). get_or texts argument []) (sym given.2) ∙ get_or_at f.arguments f.gathered [] [] argument (sym number) in
    omega (arith, frame.5, ap (λ (bytes : List ℕ). length bytes) text, ap (λ (g : Frame). length g.gathered) same)
