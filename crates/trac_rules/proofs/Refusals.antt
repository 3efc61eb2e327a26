-- Why a step is refused, and when waiting for input is hopeless.
use Rattle.std.proofs.Common.{◌≡◌, ℕ, ◌<◌, ◌≤◌, Bool, true, false, List, [], ◌∷◌, ◌++◌, length, drop, refl, sym, ap, ◌∙◌, arith, inl, inr, ⊎_elim}
use Rattle.std.specs.Prelude.{Option, None, Some, Result, Ok, Err, position, nat_le, ◌==◌, ◌⊎◌, ◌&&◌}
use Rattle.std.proofs.lemmas.List.{length-append, length-take-le}
use Rattle.std.proofs.lemmas.Bool.{and_parts, leb-true, false_from_ne_true}
use Rattle.trac_rules.specs.declared.limit.TheConstants.{TEXT_LIMIT, MARK_LIMIT, OUTPUT_LIMIT}
use Rattle.trac_rules.specs.declared.kind.Kind.{Kind}
use Rattle.trac_rules.specs.declared.kind.Kind.TheVariants.{Active, Neutral}
use Rattle.trac_rules.specs.declared.primitive.Primitive.{Primitive}
use Rattle.trac_rules.specs.declared.primitive.Primitive.TheVariants.{ReadString, ReadByte, Halt, Handle, HandleBlock}
use Rattle.trac_rules.specs.declared.refusal.Refusal.{Refusal}
use Rattle.trac_rules.specs.declared.refusal.Refusal.TheVariants.{TooLong, NeedInput, Ended}
use Rattle.trac_rules.specs.State.{Environment, Frame, State, Storage, Tape, storage_of}
use Rattle.trac_rules.specs.Scanning.{Call, Scanned, Moves, Calls, gathered_in, scan}
use Rattle.trac_rules.specs.Limits.{texts_fit, text_bytes, marks}
use Rattle.trac_rules.specs.Effect.{Effect, argument}
use Rattle.trac_rules.specs.Blocks.{block_handled}
use Rattle.trac_rules.specs.Handling.{handled}
use Rattle.trac_rules.specs.Outcomes.{limited, seen_as}
use Rattle.trac_rules.specs.Reading.{byte_read, read_up_to, rest_read, unread}
use Rattle.trac_rules.specs.Performing.{effect_of, primitive_of, trace_line, printed_after, performed, placed, changed_by, after_call}
use Rattle.trac_rules.specs.Stepping.{carried_out, step}
use Rattle.trac_rules.specs.Running.{silent}
use Rattle.trac_rules.proofs.Outcomes.{limited_beyond, limited_Err, seen_as-Err}
use Rattle.trac_rules.proofs.Positions.{position-append_None}
use Rattle.trac_rules.proofs.Scans.{ScanShows, place_of, scan_keeps_place}
use Rattle.trac_rules.proofs.LongerTapes.{lengthened, unread-whole}
use Rattle.trac_rules.proofs.Steps.{LooksAtForms, block_handled_looks, handled_looks, step-silent_Err}

-- ---- what is refused

-- a primitive wants input of a tape that has not ended, or finds the end
abbrev pub MayWant : Tape → Refusal → Type 0
MayWant tape refusal = ((refusal ≡ NeedInput) × (tape.ended ≡ false)) ⊎ (refusal ≡ Ended)

-- why the rest of the input is not read
rest_refusals : (tape : Tape) (rest : List ℕ) (ended : Bool) (storage : Storage) → tape.ended ≡ ended → (refusal : Refusal) →
    rest_read rest ended storage ≡ Err refusal → MayWant tape refusal
rest_refusals tape rest false storage e r h = inl (let same : NeedInput ≡ r = cc in (sym same, e))
rest_refusals tape [] true storage e r h = inr (cc)
rest_refusals tape (b ∷ rest) true storage e r h = absurd (cc)

-- why a text of the input is not read
up_to_refusals : (tape : Tape) (at : Option ℕ) (text : List ℕ) (storage : Storage) (refusal : Refusal) →
    read_up_to at text tape.ended storage ≡ Err refusal → MayWant tape refusal
up_to_refusals tape (Some k) text storage r h = absurd (cc)
up_to_refusals tape None text storage r h = rest_refusals tape text tape.ended storage refl r h

-- why a byte of the input is not read
byte_refusals : (tape : Tape) (text : List ℕ) (storage : Storage) (refusal : Refusal) → byte_read text tape.ended storage ≡ Err refusal → MayWant tape refusal
byte_refusals tape [] storage r h = rest_refusals tape [] tape.ended storage refl r h
byte_refusals tape (b ∷ rest) storage r h = absurd (cc)

looks_refusals : (outcome : Result Effect Refusal) (refusal : Refusal) → LooksAtForms outcome → outcome ≡ Err refusal → refusal ≡ TooLong
looks_refusals (Ok e) r looks h = absurd (cc)
looks_refusals (Err why) r looks h = let same : why ≡ r = cc in sym same ∙ looks

-- a primitive would pass a limit, or wants input, or finds its end
abbrev pub MayStop : Tape → Refusal → Type 0
MayStop tape refusal = (refusal ≡ TooLong) ⊎ MayWant tape refusal

-- why a primitive is refused
effect_refusals : (primitive : Primitive) (e : Environment) (arguments : List (List ℕ)) (s : State) (refusal : Refusal) →
    effect_of primitive e arguments s ≡ Err refusal → MayStop e.tape refusal
effect_refusals ReadString e arguments s r h =
    inr (up_to_refusals e.tape (position (λ b. b == s.meta) (unread e.tape s)) (unread e.tape s) (storage_of s) r h)
effect_refusals ReadByte e arguments s r h = inr (byte_refusals e.tape (unread e.tape s) (storage_of s) r h)
effect_refusals Halt e arguments s r h = inr (inr (let end : r ≡ Ended = cc in end))
effect_refusals (Handle action) e arguments s r h =
    inl (looks_refusals (handled action e.width arguments (storage_of s)) r (handled_looks action e.width arguments (storage_of s)) h)
effect_refusals (HandleBlock action) e arguments s r h =
    inl (looks_refusals (block_handled action arguments (storage_of s)) r (block_handled_looks action arguments (storage_of s)) h)
effect_refusals other e arguments s r h = absurd (cc)

-- why a call is refused
performed_refusals : (e : Environment) (call : Call) (refusal : Refusal) → performed e call ≡ Err refusal → MayStop e.tape refusal
unfolding performed
performed_refusals e call r h =
    effect_refusals (primitive_of (argument 0 call.arguments)) e call.arguments call.state r
    (seen_as-Err (printed_after (trace_line call.state.trace call.kind call.arguments))
    (effect_of (primitive_of (argument 0 call.arguments)) e call.arguments call.state) r h)

-- why what scanning gives is refused
carried_out_refusals : (e : Environment) (x : Scanned) (refusal : Refusal) → carried_out e x ≡ Err refusal → MayStop e.tape refusal
carried_out_refusals e (Moves t) r h = absurd (cc)
carried_out_refusals e (Calls call) r h = performed_refusals e call r (seen_as-Err (after_call call) (performed e call) r h)

pub step_refusals : (e : Environment) (s : State) (refusal : Refusal) → step e s ≡ Err refusal → MayStop e.tape refusal
unfolding step
step_refusals e s r h =
    ⊎_elim
    (λ (long : r ≡ TooLong). inl long)
    (λ (out : carried_out e (scan s) ≡ Err r). carried_out_refusals e (scan s) r out)
    (limited_Err texts_fit (carried_out e (scan s)) r h)

pub wants_input_of_open : (e : Environment) (s : State) → step e s ≡ Err NeedInput → e.tape.ended ≡ false
wants_input_of_open e s h =
    ⊎_elim
    (λ (long : NeedInput ≡ TooLong). absurd (cc))
    (λ (wants : MayWant e.tape NeedInput). ⊎_elim
    (λ (input : (NeedInput ≡ NeedInput) × (e.tape.ended ≡ false)). input.1)
    (λ (end : NeedInput ≡ Ended). absurd (cc))
    wants)
    (step_refusals e s NeedInput h)

-- a step is refused for nothing else
pub step_refused_otherwise : (e : Environment) (s : State) (refusal : Refusal) → (refusal ≡ TooLong → ⊥) → (refusal ≡ NeedInput → ⊥) → (refusal ≡ Ended → ⊥) →
    step e s ≡ Err refusal → ⊥
step_refused_otherwise e s r not_long not_input not_end h =
    ⊎_elim not_long (λ (wants : MayWant e.tape r). ⊎_elim (λ (input : (r ≡ NeedInput) × (e.tape.ended ≡ false)). not_input input.0) not_end wants) (step_refusals e s r h)

-- ---- a hopeless wait

-- something comes of it, and its value is at least so long
abbrev pub IsLong : ℕ → Result Effect Refusal → Type 0
IsLong n (Ok e) = n ≤ length e.value
IsLong n (Err refusal) = ⊥

-- the whole rest is read where it is not null
rest_long : (n : ℕ) (rest : List ℕ) (storage : Storage) → 0 < n → n ≤ length rest → IsLong n (rest_read rest true storage)
rest_long n [] storage some l = absurd (omega arith)
rest_long n (b ∷ rest) storage some l = l

-- of a text without a meta character in its front, at least that front is read
up_to_long : (front more : List ℕ) (at : Option ℕ) (storage : Storage) → 0 < length front →
    ((k : ℕ) → at ≡ Some k → (length front ≤ k) × (k < length (front ++ more))) →
    IsLong (length front) (read_up_to at (front ++ more) true storage)
up_to_long front more (Some k) storage some inside =
    let here = inside k refl in
    omega (arith, here.0, here.1, length-take-le k (front ++ more) (omega (arith, here.1)))
up_to_long front more None storage some inside =
    rest_long (length front) (front ++ more) storage some (omega (arith, length-append front more))

pub wants_none : (text : List ℕ) (at : Option ℕ) (ended : Bool) (storage : Storage) → read_up_to at text ended storage ≡ Err NeedInput → at ≡ None
wants_none text (Some k) ended storage h = absurd (cc)
wants_none text None ended storage h = refl

-- a byte that is there is not waited for
pub byte_there : (text : List ℕ) (ended : Bool) (storage : Storage) → 0 < length text → byte_read text ended storage ≡ Err NeedInput → ⊥
byte_there [] ended storage some h = omega arith
byte_there (b ∷ rest) ended storage some h = cc

-- a primitive that wants input reads on a whole tape at least what was unread
effect_long : (primitive : Primitive) (e : Environment) (more : List ℕ) (arguments : List (List ℕ)) (s : State) → s.position ≤ length e.tape.bytes →
    0 < length (unread e.tape s) → effect_of primitive e arguments s ≡ Err NeedInput →
    IsLong (length (unread e.tape s)) (effect_of primitive (lengthened more e) arguments s)
effect_long ReadString e more arguments s l some h =
    let text = unread e.tape s in
    let none : position (λ b. b == s.meta) text ≡ None = wants_none text (position (λ b. b == s.meta) text) e.tape.ended (storage_of s) h in
    rw (unread-whole e.tape more s l) (up_to_long text more (position (λ b. b == s.meta) (text ++ more)) (storage_of s) some
    (λ k at. position-append_None (λ b. b == s.meta) text more k none at))
effect_long ReadByte e more arguments s l some h = absurd (byte_there (unread e.tape s) e.tape.ended (storage_of s) some h)
effect_long (Handle action) e more arguments s l some h =
    let long : NeedInput ≡ TooLong = looks_refusals (handled action e.width arguments (storage_of s)) NeedInput (handled_looks action e.width arguments (storage_of s)) h in
    absurd (cc)
effect_long (HandleBlock action) e more arguments s l some h =
    let long : NeedInput ≡ TooLong = looks_refusals (block_handled action arguments (storage_of s)) NeedInput (block_handled_looks action arguments (storage_of s)) h in
    absurd (cc)
effect_long other e more arguments s l some h = absurd (cc)

traced_long : (n : ℕ) (line : List ℕ) (outcome : Result Effect Refusal) → IsLong n outcome → IsLong n (seen_as (printed_after line) outcome)
traced_long n line (Ok e) long = long
traced_long n line (Err refusal) long = absurd long

performed_long : (e : Environment) (more : List ℕ) (call : Call) → performed e call ≡ Err NeedInput → call.state.position ≤ length e.tape.bytes →
    0 < length (unread e.tape call.state) → IsLong (length (unread e.tape call.state)) (performed (lengthened more e) call)
unfolding performed
performed_long e more call h l some =
    let line = trace_line call.state.trace call.kind call.arguments in
    traced_long (length (unread e.tape call.state)) line (effect_of (primitive_of (argument 0 call.arguments)) (lengthened more e) call.arguments call.state)
    (effect_long (primitive_of (argument 0 call.arguments)) e more call.arguments call.state l some
    (seen_as-Err (printed_after line) (effect_of (primitive_of (argument 0 call.arguments)) e call.arguments call.state) NeedInput h))

pub text_bytes-gathered_in : (frames : List Frame) (text : List ℕ) (s : State) → frames ≡ s.frames → length text ≤ text_bytes (gathered_in frames text s)
text_bytes-gathered_in [] text s e = omega (arith, length-append s.base text)
text_bytes-gathered_in (x ∷ xs) text s e = omega (arith, length-append x.gathered text)

pub text_bytes-placed : (kind : Kind) (forced : Bool) (value : List ℕ) (s : State) → length value ≤ text_bytes (placed kind forced value s)
text_bytes-placed Active forced value s = omega (arith, length-append value s.active)
text_bytes-placed Neutral true value s = omega (arith, length-append value s.active)
text_bytes-placed Neutral false value s = text_bytes-gathered_in s.frames value s refl

pub text_bytes-after_call : (call : Call) (e : Effect) → length e.value ≤ text_bytes (after_call call e)
text_bytes-after_call call e = text_bytes-placed call.kind e.forced e.value (changed_by e call.state)

pub beyond_limits_of_text : (t : State) → TEXT_LIMIT < text_bytes t → texts_fit t ≡ false
unfolding texts_fit
beyond_limits_of_text t l = false_from_ne_true (texts_fit t) (λ h.
    let outer = and_parts (nat_le (text_bytes t) TEXT_LIMIT && nat_le (marks t.frames) MARK_LIMIT) (nat_le (length t.output) OUTPUT_LIMIT) h in
    let inner = and_parts (nat_le (text_bytes t) TEXT_LIMIT) (nat_le (marks t.frames) MARK_LIMIT) outer.0 in
    absurd (omega (arith, leb-true (text_bytes t) TEXT_LIMIT inner.0)))

-- a call with a value that is too long is refused
placed_long : (call : Call) (n : ℕ) (outcome : Result Effect Refusal) → TEXT_LIMIT < n → IsLong n outcome → limited texts_fit (seen_as (after_call call) outcome) ≡ Err TooLong
placed_long call n (Ok e) l long =
    limited_beyond texts_fit (after_call call e) (beyond_limits_of_text (after_call call e) (omega (arith, text_bytes-after_call call e)))
placed_long call n (Err refusal) l long = absurd long

-- what scanning gives and wants input is refused for a limit on a whole tape, where too much is unread
carried_out_hopeless : (e : Environment) (more : List ℕ) (s : State) (x : Scanned) → ScanShows place_of s x → carried_out e x ≡ Err NeedInput → s.position ≤ length e.tape.bytes →
    TEXT_LIMIT < length (unread e.tape s) → limited texts_fit (carried_out (lengthened more e) x) ≡ Err TooLong
carried_out_hopeless e more s (Moves t) kept h l long = absurd (cc)
carried_out_hopeless e more s (Calls call) kept h l long =
    let same : unread e.tape call.state ≡ unread e.tape s = ap (λ p. drop p e.tape.bytes) kept in
    let far : TEXT_LIMIT < length (unread e.tape call.state) = rw same long in
    placed_long call (length (unread e.tape call.state)) (performed (lengthened more e) call) far
    (performed_long e more call (seen_as-Err (after_call call) (performed e call) NeedInput h) (omega (arith, kept)) (omega (arith, far)))

-- a step that wants input is refused for a limit however the input goes on, where too much is unread
pub step_hopeless : (e : Environment) (more : List ℕ) (s : State) → step e s ≡ Err NeedInput → s.position ≤ length e.tape.bytes →
    TEXT_LIMIT < length (unread e.tape s) → step (lengthened more e) s ≡ Err TooLong
unfolding step
step_hopeless e more s h l long =
    ⊎_elim
    (λ (no : NeedInput ≡ TooLong). absurd (cc))
    (λ (out : carried_out e (scan s) ≡ Err NeedInput). carried_out_hopeless e more s (scan s) (scan_keeps_place s) out l long)
    (limited_Err texts_fit (carried_out e (scan s)) NeedInput h)

-- the step of the silent state is refused for a limit too
pub step_hopeless-silent : (e : Environment) (more : List ℕ) (s : State) → step e s ≡ Err NeedInput → s.position ≤ length e.tape.bytes →
    TEXT_LIMIT < length (unread e.tape s) → step (lengthened more e) (silent s) ≡ Err TooLong
step_hopeless-silent e more s h l long = step_hopeless e more (silent s) (step-silent_Err e s NeedInput h (λ no. cc)) l long
