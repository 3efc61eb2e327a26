-- A call reads no more of the tape than it gives, and a meta character.
use Rattle.std.proofs.Common.{◌≡◌, ℕ, ◌+◌, ◌<◌, ◌≤◌, Bool, true, false, List, [], ◌∷◌, length, refl, sym, subst, arith}
use Rattle.std.specs.Prelude.{Option, None, Some, Result, Ok, Err, option_map, position, ◌==◌}
use Rattle.std.specs.Result.{result_ok}
use Rattle.std.proofs.lemmas.List.{length-take}
use Rattle.std.proofs.lemmas.List.Quantifiers.{position-Some}
use Rattle.trac_rules.specs.declared.primitive.Computation.{Computation}
use Rattle.trac_rules.specs.declared.primitive.Computation.TheVariants.{Calculate}
use Rattle.trac_rules.specs.declared.primitive.Primitive.{Primitive}
use Rattle.trac_rules.specs.declared.primitive.Primitive.TheVariants.{PrintString, ReadString, ReadByte, Halt, SetMeta, SetTrace, Compute, Handle, HandleBlock, Unknown}
use Rattle.trac_rules.specs.declared.refusal.Refusal.{Refusal}
use Rattle.trac_rules.specs.declared.scan.Front.TheVariants.{Closing}
use Rattle.trac_rules.specs.declared.width.Width.{Width}
use Rattle.trac_rules.specs.Blocks.{block_handled}
use Rattle.trac_rules.specs.Computing.{computed}
use Rattle.trac_rules.specs.Effect.{Effect, argument, gives_or_forces}
use Rattle.trac_rules.specs.Handling.{handled}
use Rattle.trac_rules.specs.Outcomes.{seen_as}
use Rattle.trac_rules.specs.Performing.{effect_of, meta_set, performed, primitive_of, printed_after, trace_line}
use Rattle.trac_rules.specs.Reading.{byte_read, read_up_to, rest_read, unread}
use Rattle.trac_rules.specs.Records.{CallRecord, Called, call_recorded, record_in, record_of}
use Rattle.trac_rules.specs.Scanning.{Call, Calls, Moves, Scanned, closing_in, deleted, front_of, scan}
use Rattle.trac_rules.specs.State.{Environment, Frame, State, Storage, storage_of}
use Rattle.trac_rules.proofs.Steps.{LooksAtForms, block_handled_looks, handled_looks}
use Rattle.trac_step.specs.Calling.{IsMove}
use Rattle.trac_step.proofs.Scans.{scan_front}

-- what is read is given, but for one byte
abbrev ReadsAsGiven : Result Effect Refusal → Type 0
ReadsAsGiven (Ok e) = e.read ≤ length e.value + 1
ReadsAsGiven (Err refusal) = Unit {0}

rest_given : (rest : List ℕ) (ended : Bool) (storage : Storage) → ReadsAsGiven (rest_read rest ended storage)
rest_given rest false storage = tt
rest_given [] true storage = tt
rest_given (b ∷ rest) true storage = omega arith

up_to_given : (at : Option ℕ) (text : List ℕ) (ended : Bool) (storage : Storage) → ((k : ℕ) → at ≡ Some k → k < length text) → ReadsAsGiven (read_up_to at text ended storage)
up_to_given (Some k) text ended storage inside = omega (arith, inside k refl, length-take k text)
up_to_given None text ended storage inside = rest_given text ended storage

byte_given : (text : List ℕ) (ended : Bool) (storage : Storage) → ReadsAsGiven (byte_read text ended storage)
byte_given [] ended storage = rest_given [] ended storage
byte_given (b ∷ rest) ended storage = omega arith

looks_given : (outcome : Result Effect Refusal) → LooksAtForms outcome → ReadsAsGiven outcome
looks_given (Ok e) looks = omega (arith, looks)
looks_given (Err refusal) looks = tt

meta_given : (text : List ℕ) (storage : Storage) → ReadsAsGiven (Ok (meta_set text storage))
meta_given [] storage = omega arith
meta_given (b ∷ bytes) storage = omega arith

value_given : (value : Option (List ℕ)) (other : List ℕ) (storage : Storage) → ReadsAsGiven (Ok (gives_or_forces value other storage))
value_given None other storage = omega arith
value_given (Some value) other storage = omega arith

computed_given : (computation : Computation) (width : Width) (arguments : List (List ℕ)) (storage : Storage) → ReadsAsGiven (Ok (computed computation width arguments storage))
computed_given (Calculate operation) width arguments storage = value_given _ (argument 3 arguments) storage
computed_given computation width arguments storage = omega arith

effect_given : (primitive : Primitive) (e : Environment) (arguments : List (List ℕ)) (s : State) → ReadsAsGiven (effect_of primitive e arguments s)
effect_given PrintString e arguments s = omega arith
effect_given ReadString e arguments s =
    up_to_given (position (λ b. b == s.meta) (unread e.tape s)) (unread e.tape s) e.tape.ended (storage_of s)
    (λ k at. (position-Some (λ b. b == s.meta) (unread e.tape s) k 0 at).0)
effect_given ReadByte e arguments s = byte_given (unread e.tape s) e.tape.ended (storage_of s)
effect_given Halt e arguments s = tt
effect_given SetMeta e arguments s = meta_given (argument 1 arguments) (storage_of s)
effect_given (SetTrace trace) e arguments s = omega arith
effect_given (Compute computation) e arguments s = computed_given computation e.width arguments (storage_of s)
effect_given (Handle action) e arguments s = looks_given (handled action e.width arguments (storage_of s)) (handled_looks action e.width arguments (storage_of s))
effect_given (HandleBlock action) e arguments s = looks_given (block_handled action arguments (storage_of s)) (block_handled_looks action arguments (storage_of s))
effect_given Unknown e arguments s = omega arith

traced_given : (line : List ℕ) (outcome : Result Effect Refusal) → ReadsAsGiven outcome → ReadsAsGiven (seen_as (printed_after line) outcome)
traced_given line (Ok e) given = given
traced_given line (Err refusal) given = tt

performed_given : (e : Environment) (call : Call) → ReadsAsGiven (performed e call)
unfolding performed
performed_given e call =
    traced_given (trace_line call.state.trace call.kind call.arguments) (effect_of (primitive_of (argument 0 call.arguments)) e call.arguments call.state)
    (effect_given (primitive_of (argument 0 call.arguments)) e call.arguments call.state)

-- so the record of a call says, at which a state stands
pub read_of_call : (e : Environment) (s : State) (c : CallRecord) → front_of s.active ≡ Closing → 0 < length s.frames → record_of e s ≡ Some (Called c) → c.read ≤ c.value + 1
read_of_call e s c front inside is = by_scanned (scan s) (subst (λ x. IsMove x → ⊥) (sym (scan_front s Closing front)) (by_frames s.frames inside)) is
  where
    by_frames : (fs : List Frame) → 0 < length fs → IsMove (closing_in fs (deleted 1 s)) → ⊥
    by_frames [] h moves = absurd (omega (arith, h))
    by_frames (f ∷ fs) h moves = moves

    by_outcome : (call : Call) (outcome : Result Effect Refusal) → ReadsAsGiven outcome → option_map Called (option_map (call_recorded call) (result_ok outcome)) ≡ Some (Called c) → c.read ≤ c.value + 1
    by_outcome call (Ok effect) given h =
        let same : call_recorded call effect ≡ c = cc in
        subst (λ (k : CallRecord). k.read ≤ k.value + 1) same given
    by_outcome call (Err refusal) given h = absurd (cc)

    by_scanned : (x : Scanned) → (IsMove x → ⊥) → record_in e s x ≡ Some (Called c) → c.read ≤ c.value + 1
    by_scanned (Moves t) other h = absurd (other tt)
    by_scanned (Calls call) other h = by_outcome call (performed e call) (performed_given e call) h
