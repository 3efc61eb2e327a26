-- Bytes of values, and of what `ps` prints, as the code tells them.
use Rattle.std.proofs.Common.{◌≡◌, ℕ, ◌+◌, ◌-◌, ◌<◌, ◌≤◌, Bool, true, false, List, [], ◌∷◌, ◌++◌, length, take, refl, sym, ap, ap₂, subst, ◌∙◌, ℤ, not, ⊎_elim, arith, Option, None, Some, Ok, ◌⊎◌, is_none, is_some, flat_map, length-append}
use Rattle.trac_rules.specs.declared.primitive.Computation.{Computation}
use Rattle.trac_rules.specs.declared.primitive.Computation.TheVariants.{Equal, Greater, Calculate}
use Rattle.trac_rules.specs.declared.primitive.FormAction.{FormAction}
use Rattle.trac_rules.specs.declared.primitive.FormAction.TheVariants.{PrintForm, ListNames}
use Rattle.trac_rules.specs.declared.primitive.Operation.{Operation}
use Rattle.trac_rules.specs.declared.primitive.Primitive.{Primitive}
use Rattle.trac_rules.specs.declared.primitive.Primitive.TheVariants.{PrintString, ReadString, ReadByte, Compute, Handle}
use Rattle.trac_rules.specs.declared.width.Width.{Width}
use Rattle.trac_rules.specs.Computing.{computed, number_argument, result_of}
use Rattle.trac_rules.specs.Effect.{Effect, argument, gives_or_forces}
use Rattle.trac_rules.specs.Listing.{names_of}
use Rattle.trac_rules.specs.Number.{after_prefix, calculated, on_both, prefix_of}
use Rattle.trac_rules.specs.Performing.{after_call, primitive_of, trace_line}
use Rattle.trac_rules.specs.Scanning.{Call, Calls, scan}
use Rattle.trac_rules.specs.State.{Environment, Forms, State, Storage, storage_of}
use Rattle.trac_rules.specs.Stepping.{step}
use Rattle.trac_forms.specs.Listed.{IsListed, listed_len}
use Rattle.trac_origins.specs.Accounts.{Accounts}
use Rattle.trac_origins.specs.Lengths.{IsCallOf, gives_bits, is_silent, number_chosen, of_argument, value_at}
use Rattle.trac_origins.specs.Places.{InArgument, InOutput, Carried, Read, Made}
use Rattle.trac_origins.specs.Stepping.{origin}
use Rattle.trac_origins.proofs.Accounted.{accounted}
use Rattle.trac_origins.proofs.ToldCalls.{ended}
use Rattle.trac_origins.proofs.ToldEffects.{length_argument, length_printed, line_told, silent_told}
use Rattle.trac_origins.proofs.ToldValues.{bits_told, byte_told, default_told, digits_told, listed_told, name_told, prefix_told, string_told, text_printed}
use Rattle.trac_follow_step.specs.declared.place.Origin as code_origin
use Rattle.trac_follow_step.specs.declared.place.Place as code_place
use Rattle.trac_follow_step.specs.Formed.{ToldAsListed}
use Rattle.trac_follow_step.specs.Places.{IsCalling, Tells, TellsComputed, TellsValue, ToldAsPrinted, ToldAsRead}
use Rattle.trac_follow_step.proofs.CallsTold.{call_does, call_is, number_is, output_is, output_past, output_then, position_is}
use Rattle.trac_follow_step.proofs.Giving.{does_so, names_given, others_give_none}

module _ (s : State) (width : Width) (seen : Option ℕ) (i : ℕ) (arguments : List (List ℕ)) (is : IsCalling s arguments) (primitive : Primitive) (named : primitive_of (argument 0 arguments) ≡ primitive) where
  -- ---- the input

  pub read_told : (told : code_origin.Origin) → (primitive ≡ ReadString) ⊎ (primitive ≡ ReadByte) → ToldAsRead s.position i told → TellsValue s width seen i told
  read_told told which tells environment t call e item wide h readable scans does is_seen stands l = go told tells
    where
      is_read : origin environment s (value_at call.kind e.forced call.state i) ≡ Read (s.position + i)
      is_read =
          let of = (call_is environment s call e arguments primitive is named scans does).1 in
          let place : call.state.position + i ≡ s.position + i = ap (λ m. m + i) (position_is s call scans) in
          ⊎_elim
          (λ (string : primitive ≡ ReadString). string_told environment s call e (subst (λ p. IsCallOf environment s call p e) string of) i l ∙ ap Read place)
          (λ (byte : primitive ≡ ReadByte). byte_told environment s call e (subst (λ p. IsCallOf environment s call p e) byte of) i l ∙ ap Read place)
          which

      go : (o : code_origin.Origin) → ToldAsRead s.position i o → Tells s o (origin environment s (value_at call.kind e.forced call.state i))
      go (code_origin.TheVariants.Read n) at = is_read ∙ ap Read (sym at)
      go code_origin.TheVariants.Nothing at =
          let within = subst (λ o. Accounts environment s t o item) is_read (accounted environment s t h (value_at call.kind e.forced call.state i) item stands) in
          absurd (omega (arith, at, within.1, readable))
      go other at = absurd at

  -- ---- primitives without a value

  pub nothing_told : (primitive ≡ ReadString → ⊥) → (primitive ≡ ReadByte → ⊥) → ((computation : Computation) → primitive ≡ Compute computation → ⊥) →
      ((a : FormAction) → primitive ≡ Handle a → ⊥) → TellsValue s width seen i code_origin.TheVariants.Nothing
  nothing_told string byte computes handles environment t call e item wide h readable scans does is_seen stands l =
      others_give_none environment s call e primitive string byte computes handles (call_is environment s call e arguments primitive is named scans does).1 i l

-- ---- computations

-- from what a computation tells
pub computed_told : (s : State) (width : Width) (seen : Option ℕ) (i : ℕ) (arguments : List (List ℕ)) → IsCalling s arguments → (computation : Computation) → primitive_of (argument 0 arguments) ≡ Compute computation →
    (function : ℕ) (told : code_origin.Origin) → function + 1 ≡ length s.frames → TellsComputed computation arguments function width i told → TellsValue s width seen i told
computed_told s width seen i arguments is computation named function told number tells environment t call e item wide h readable scans does is_seen stands l =
    let of = call_is environment s call e arguments (Compute computation) is named scans does in
    tells environment s call e wide of.1 of.0 (number_is s call scans function number) l

module _ (arguments : List (List ℕ)) (function : ℕ) (width : Width) (i : ℕ) where
  abbrev given : ℕ → code_origin.Origin
  given k = code_origin.TheVariants.Carried (code_place.TheVariants.Argument function k i)

  -- an argument of the call, whatever texts it has
  as_given : (environment : Environment) (s : State) (call : Call) (e : Effect) (k n : ℕ) → length call.state.frames ≡ function → k ≡ n →
      origin environment s (value_at call.kind e.forced call.state i) ≡ of_argument call k i → Tells s (given n) (origin environment s (value_at call.kind e.forced call.state i))
  as_given environment s call e k n number same h = h ∙ ap₂ (λ m j. Carried (InArgument m j i)) number same

  -- the one that a decision gives
  pub decision_is : (computation : Computation) (decides : List (List ℕ) → Bool) → ((environment : Environment) (s : State) (call : Call) (e : Effect) → IsCallOf environment s call (Compute computation) e → (j : ℕ) →
      j < length e.value → origin environment s (value_at call.kind e.forced call.state j) ≡ of_argument call (number_chosen (decides call.arguments)) j) →
      (first : Bool) → first ≡ decides arguments → (k : ℕ) → k ≡ number_chosen first → TellsComputed computation arguments function width i (given k)
  decision_is computation decides told first test k chosen environment s call e wide is same number l =
      as_given environment s call e (number_chosen (decides call.arguments)) k number
      (ap (λ (texts : List (List ℕ)). number_chosen (decides texts)) same ∙ ap number_chosen (sym test) ∙ sym chosen) (told environment s call e is i l)

  pub rest_bits : (computation : Computation) → (computation ≡ Equal → ⊥) → (computation ≡ Greater → ⊥) → ((operation : Operation) → computation ≡ Calculate operation → ⊥) → gives_bits computation ≡ true
  rest_bits Equal equal greater calculate = absurd (equal refl)
  rest_bits Greater equal greater calculate = absurd (greater refl)
  rest_bits (Calculate operation) equal greater calculate = absurd (calculate operation refl)
  rest_bits computation equal greater calculate = refl

  pub bits_are : (computation : Computation) → gives_bits computation ≡ true → TellsComputed computation arguments function width i code_origin.TheVariants.Made
  bits_are computation bits environment s call e wide is same number l = bits_told environment s call e computation bits is i l

  -- ---- results

  abbrev result : Operation → Width → List (List ℕ) → Option ℤ
  result operation w texts = on_both (result_of operation w) (number_argument w 1 texts) (number_argument w 2 texts)

  forced_is : (found : Option ℤ) (prefix other : List ℕ) (storage : Storage) → (gives_or_forces (after_prefix prefix found) other storage).forced ≡ is_none found
  forced_is None prefix other storage = refl
  forced_is (Some n) prefix other storage = refl

  calculated_is : (operation : Operation) (w : Width) (texts : List (List ℕ)) (storage : Storage) →
      (computed (Calculate operation) w texts storage).forced ≡ is_none (result operation w texts)
  unfolding calculated
  calculated_is operation w texts storage = forced_is (result operation w texts) (prefix_of (argument 1 texts)) (argument 3 texts) storage

  forced_by : (environment : Environment) (s : State) (call : Call) (e : Effect) (operation : Operation) → IsCallOf environment s call (Compute (Calculate operation)) e →
      environment.width ≡ width → call.arguments ≡ arguments → e.forced ≡ is_none (result operation width arguments)
  forced_by environment s call e operation is wide same =
      ap (λ (f : Effect). f.forced) (sym (does_so environment s call e (Compute (Calculate operation)) (computed (Calculate operation) environment.width call.arguments (storage_of call.state)) is refl))
      ∙ calculated_is operation environment.width call.arguments (storage_of call.state)
      ∙ ap₂ (λ w (texts : List (List ℕ)). is_none (result operation w texts)) wide same

  pub default_is : (operation : Operation) → is_none (result operation width arguments) ≡ true → TellsComputed (Calculate operation) arguments function width i (given 3)
  default_is operation none environment s call e wide is same number l =
      as_given environment s call e 3 3 number refl (default_told environment s call e operation is (forced_by environment s call e operation is wide same ∙ none) i l)

  pub prefix_is : (operation : Operation) → is_none (result operation width arguments) ≡ false → i < length (prefix_of (argument 1 arguments)) →
      TellsComputed (Calculate operation) arguments function width i (given 1)
  prefix_is operation some within environment s call e wide is same number l =
      as_given environment s call e 1 1 number refl
      (prefix_told environment s call e operation is (forced_by environment s call e operation is wide same ∙ some) i l
      (subst (λ (texts : List (List ℕ)). i < length (prefix_of (argument 1 texts))) (sym same) within))

  pub digits_are : (operation : Operation) → is_none (result operation width arguments) ≡ false → length (prefix_of (argument 1 arguments)) ≤ i →
      TellsComputed (Calculate operation) arguments function width i code_origin.TheVariants.Made
  digits_are operation some past environment s call e wide is same number l =
      digits_told environment s call e operation is (forced_by environment s call e operation is wide same ∙ some) i l
      (subst (λ (texts : List (List ℕ)). length (prefix_of (argument 1 texts)) ≤ i) (sym same) past)

-- a test for a result
pub is_none_by : (found : Option ℤ) (none : Bool) → is_some found ≡ not none → is_none found ≡ none
is_none_by None true e = refl
is_none_by (Some n) false e = refl
is_none_by found none e = absurd (cc)

-- ---- names

-- how long names are with the text before each
length-listed : (text : List ℕ) (names : List (List ℕ)) → length (flat_map (λ name. text ++ name) names) ≡ listed_len (length text) names
length-listed text [] = refl
length-listed text (name ∷ names) =
    length-append (text ++ name) (flat_map (λ q. text ++ q) names) ∙ ap₂ (λ m n. m + n) (length-append text name) (length-listed text names)

pub listed_tells : (s : State) (width : Width) (seen : Option ℕ) (i : ℕ) (arguments : List (List ℕ)) → IsCalling s arguments → primitive_of (argument 0 arguments) ≡ Handle ListNames →
    (function text : ℕ) (o : code_origin.Origin) → function + 1 ≡ length s.frames → text ≡ length (argument 1 arguments) → ToldAsListed s.forms text function i o → TellsValue s width seen i o
listed_tells s width seen i arguments is named function text o number long tells environment t call e item wide h readable scans does is_seen stands l = go o tells
  where
    of : (call.arguments ≡ arguments) × IsCallOf environment s call (Handle ListNames) e
    of = call_is environment s call e arguments (Handle ListNames) is named scans does

    forms_are : s.forms ≡ call.state.forms
    forms_are = sym (ap (λ (u : State). u.forms) (ended s call scans).2.state)

    text_is : text ≡ length (argument 1 call.arguments)
    text_is = long ∙ ap (λ (texts : List (List ℕ)). length (argument 1 texts)) (sym of.0)

    before_is : (n : ℕ) → length (flat_map (λ q. argument 1 call.arguments ++ q) (take n (names_of call.state.forms))) ≡ listed_len text (take n (names_of call.state.forms))
    before_is n = length-listed (argument 1 call.arguments) (take n (names_of call.state.forms)) ∙ ap (λ m. listed_len m (take n (names_of call.state.forms))) (sym text_is)

    there : (j : ℕ) → IsListed (names_of s.forms) text i j → IsListed (names_of call.state.forms) text i j
    there j = subst (λ (forms : Forms). IsListed (names_of forms) text i j) forms_are

    go : (told : code_origin.Origin) → ToldAsListed s.forms text function i told → Tells s told (origin environment s (value_at call.kind e.forced call.state i))
    go (code_origin.TheVariants.Carried (code_place.TheVariants.Argument n k j)) at =
        let listed = there j at.3 in
        ap (λ m. origin environment s (value_at call.kind e.forced call.state m)) (sym (ap (λ m. m + j) (before_is listed.number) ∙ listed.place))
        ∙ listed_told environment s call e of.1 listed.number listed.name listed.there j (omega (arith, at.2, text_is))
        ∙ ap₂ (λ f m. Carried (InArgument f m j)) (number_is s call scans function number ∙ sym at.0) (sym at.1)
    go code_origin.TheVariants.Made at =
        let j : ℕ = at.0 in
        let listed = there j at.2 in
        let rest : length (argument 1 call.arguments) + (j - length (argument 1 call.arguments)) ≡ j = omega (arith, at.1, text_is) in
        ap (λ m. origin environment s (value_at call.kind e.forced call.state m))
        (sym (ap₂ (λ m n. m + n) (before_is listed.number) rest ∙ listed.place))
        ∙ name_told environment s call e of.1 listed.number listed.name listed.there (j - length (argument 1 call.arguments)) (omega (arith, at.1, text_is, listed.within))
    go code_origin.TheVariants.Nothing at =
        absurd (omega (
          arith,
          l,
          at,
          ap (λ (bytes : List ℕ). length bytes) (names_given environment s call e of.1),
          length-listed (argument 1 call.arguments) (names_of call.state.forms),
          ap (λ m. listed_len m (names_of call.state.forms)) text_is,
          ap (λ (forms : Forms). listed_len text (names_of forms)) forms_are,
        ))
    go other at = absurd at

-- ---- what is printed

-- what prints and is not `ps` is `pf`
pub prints_form : (p : Primitive) → is_silent p ≡ false → (p ≡ PrintString → ⊥) → p ≡ Handle PrintForm
prints_form PrintString loud other = absurd (other refl)
prints_form (Handle PrintForm) loud other = refl
prints_form p loud other = absurd (cc)

-- a name that is given
pub named_by : (s : State) (arguments : List (List ℕ)) (is : IsCalling s arguments) (primitive : Primitive) (name : List ℕ) → name ≡ argument 0 arguments → primitive ≡ primitive_of name →
    primitive_of (argument 0 is.0.arguments) ≡ primitive
named_by s arguments is primitive name given named =
    ap (λ (texts : List (List ℕ)). primitive_of (argument 0 texts)) is.2 ∙ ap primitive_of (sym given) ∙ sym named

module _ (environment : Environment) (s t : State) (call : Call) (h : step environment s ≡ Ok t) (scans : scan s ≡ Calls call) where
  pub silent_made : (primitive : Primitive) → primitive_of (argument 0 call.arguments) ≡ primitive → is_silent primitive ≡ true → (i : ℕ) → length s.output ≤ i → origin environment s (InOutput i) ≡ Made
  silent_made primitive named silent i past =
      let done = call_does environment s t call h scans primitive named in
      ap (λ n. origin environment s (InOutput n)) (output_past s call scans i past) ∙ silent_told environment s call primitive done.0 done.1 silent (i - length s.output)

  pub printed_tells : primitive_of (argument 0 call.arguments) ≡ PrintString → (text function end i : ℕ) (told : code_origin.Origin) → text ≡ length (argument 1 call.arguments) →
      length call.state.frames ≡ function → end ≡ length t.output → length s.output ≤ i → i < length t.output → ToldAsPrinted text function end i told → Tells s told (origin environment s (InOutput i))
  printed_tells named text function end i told long number ends past stands tells = go told tells
    where
      done : (e : Effect) × IsCallOf environment s call PrintString e × (t ≡ after_call call e)
      done = call_does environment s t call h scans PrintString named

      line : ℕ
      line = length (trace_line call.state.trace call.kind call.arguments)

      -- how long the output is then
      whole : end ≡ length s.output + (line + text)
      whole =
          omega (
            arith,
            ends,
            output_then s t call done.0 scans done.2,
            length_printed environment s call PrintString done.0 done.1,
            length_argument environment s call PrintString done.0 done.1 1,
            long,
          )

      go : (o : code_origin.Origin) → ToldAsPrinted text function end i o → Tells s o (origin environment s (InOutput i))
      go (code_origin.TheVariants.Carried (code_place.TheVariants.Argument n k j)) at =
          let index : i ≡ length call.state.output + (line + j) = omega (arith, at.2, whole, ap (λ (bytes : List ℕ). length bytes) (output_is s call scans)) in
          ap (λ m. origin environment s (InOutput m)) index
          ∙ text_printed environment s call done.0 done.1 j (omega (arith, at.3, long))
          ∙ ap₂ (λ m a. Carried (InArgument m a j)) (number ∙ sym at.0) (sym at.1)
      go code_origin.TheVariants.Nothing at =
          ⊎_elim (λ (l : end < text). absurd (omega (arith, l, whole))) (λ (l : end ≤ i). absurd (omega (arith, l, ends, stands))) at
      go code_origin.TheVariants.Made at =
          ap (λ m. origin environment s (InOutput m)) (output_past s call scans i past)
          ∙ line_told environment s call PrintString done.0 done.1 (i - length s.output) (omega (arith, at, whole, past))
      go other at = absurd at
