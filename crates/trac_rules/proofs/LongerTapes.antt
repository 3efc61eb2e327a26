-- A step that does not wait for input is the same once a tape that has not ended is lengthened, or ended, or both.
use Rattle.std.proofs.Common.{◌≡◌, ℕ, ◌<◌, ◌≤◌, Bool, true, false, List, [], ◌∷◌, ◌++◌, length, take, drop, refl, sym, ap, ◌∙◌, arith, ⊎_elim}
use Rattle.std.specs.Prelude.{Option, None, Some, Err, position, ◌==◌}
use Rattle.std.proofs.lemmas.List.{append-nil, length-drop, drop-append-le, take-append-le}
use Rattle.std.proofs.lemmas.Bool.{cases_Bool}
use Rattle.std.proofs.lemmas.List.Quantifiers.{position-Some}
use Rattle.trac_rules.specs.declared.primitive.Primitive.{Primitive}
use Rattle.trac_rules.specs.declared.primitive.Primitive.TheVariants.{ReadString, ReadByte}
use Rattle.trac_rules.specs.declared.refusal.Refusal.TheVariants.{NeedInput}
use Rattle.trac_rules.specs.declared.width.Width.{Width}
use Rattle.trac_rules.specs.State.{Environment, State, Storage, Tape, storage_of}
use Rattle.trac_rules.specs.Scanning.{Call, Scanned, Moves, Calls, scan}
use Rattle.trac_rules.specs.Limits.{texts_fit}
use Rattle.trac_rules.specs.Effect.{argument}
use Rattle.trac_rules.specs.Outcomes.{limited, seen_as}
use Rattle.trac_rules.specs.Reading.{byte_read, read_up_to, string_read, unread}
use Rattle.trac_rules.specs.Performing.{after_call, effect_of, performed, primitive_of, printed_after, trace_line}
use Rattle.trac_rules.specs.Stepping.{carried_out, step}
use Rattle.trac_rules.specs.Session.{over}
use Rattle.trac_rules.specs.GoingOn.{whole}
use Rattle.trac_rules.proofs.Positions.{position-append_Some}

pub whole_of_ended : (tape : Tape) (more : List ℕ) → tape.ended ≡ true → more ≡ [] → whole tape more ≡ tape
whole_of_ended tape more ended none =
    let bytes : tape.bytes ++ more ≡ tape.bytes = ap (λ m. tape.bytes ++ m) none ∙ append-nil tape.bytes in
    let end : true ≡ tape.ended = sym ended in
    λ i. record { bytes = bytes i; ended = end i }

-- what is unread of a whole tape
pub unread-whole : (tape : Tape) (more : List ℕ) (s : State) → s.position ≤ length tape.bytes → unread (whole tape more) s ≡ unread tape s ++ more
unread-whole tape more s l = drop-append-le s.position tape.bytes more l

-- the same environment over a tape with so much more, which has ended after it or not
abbrev grown : List ℕ → Bool → Environment → Environment
grown more ended e = record e { tape = record { bytes = e.tape.bytes ++ more; ended = ended } }

-- the same environment over a tape with so much more, and the end
abbrev pub lengthened : List ℕ → Environment → Environment
lengthened more e = record e { tape = whole e.tape more }

unread_some : (tape : Tape) (more : List ℕ) (s : State) → 0 < length (unread tape s) → drop s.position (tape.bytes ++ more) ≡ unread tape s ++ more
unread_some tape more s some = drop-append-le s.position tape.bytes more (omega (arith, some, length-drop s.position tape.bytes))

-- a text that was found stays found
up_to-more : (more text : List ℕ) (ended : Bool) (at after : Option ℕ) (storage : Storage) →
    ((k : ℕ) → at ≡ Some k → (after ≡ Some k) × (k < length text)) →
    (read_up_to at text false storage ≡ Err NeedInput → ⊥) → read_up_to after (text ++ more) ended storage ≡ read_up_to at text false storage
up_to-more more text ended (Some k) after storage found wanted =
    let here = found k refl in
    let same : take k (text ++ more) ≡ take k text = take-append-le k text more (omega (arith, here.1)) in
    rw (here.0, same) refl
up_to-more more text ended None after storage found wanted = absurd (wanted refl)

-- what is read without more input is read with more
string_read-more : (more text : List ℕ) (ended : Bool) (meta : ℕ) (storage : Storage) → (string_read text false meta storage ≡ Err NeedInput → ⊥) →
    string_read (text ++ more) ended meta storage ≡ string_read text false meta storage
string_read-more more text ended meta storage wanted =
    up_to-more more text ended (position (λ b. b == meta) text) (position (λ b. b == meta) (text ++ more)) storage
    (λ k e. (position-append_Some (λ b. b == meta) text more k e, (position-Some (λ b. b == meta) text k 0 e).0))
    wanted

string_some : (text : List ℕ) (meta : ℕ) (storage : Storage) → (string_read text false meta storage ≡ Err NeedInput → ⊥) → 0 < length text
string_some [] meta storage wanted = absurd (wanted refl)
string_some (b ∷ text) meta storage wanted = omega arith

-- a byte that is there is read, however the input goes on
byte_read-more : (more text : List ℕ) (ended : Bool) (storage : Storage) → (byte_read text false storage ≡ Err NeedInput → ⊥) →
    byte_read (text ++ more) ended storage ≡ byte_read text false storage
byte_read-more more [] ended storage wanted = absurd (wanted refl)
byte_read-more more (b ∷ rest) ended storage wanted = refl

byte_some : (text : List ℕ) (storage : Storage) → (byte_read text false storage ≡ Err NeedInput → ⊥) → 0 < length text
byte_some [] storage wanted = absurd (wanted refl)
byte_some (b ∷ text) storage wanted = omega arith

-- what a primitive does without more input it does with more
effect_of-more : (primitive : Primitive) (e : Environment) (more : List ℕ) (ended : Bool) (arguments : List (List ℕ)) (s : State) → e.tape.ended ≡ false →
    (effect_of primitive e arguments s ≡ Err NeedInput → ⊥) → effect_of primitive (grown more ended e) arguments s ≡ effect_of primitive e arguments s
effect_of-more ReadString e more ended arguments s unended wanted =
    let text : List ℕ = unread e.tape s in
    let open_tape : string_read text e.tape.ended s.meta (storage_of s) ≡ string_read text false s.meta (storage_of s) =
    ap (λ (over : Bool). string_read text over s.meta (storage_of s)) unended in
    ap (λ (all : List ℕ). string_read all ended s.meta (storage_of s))
    (unread_some e.tape more s (string_some text s.meta (storage_of s) (λ none. wanted (open_tape ∙ none))))
    ∙ string_read-more more text ended s.meta (storage_of s) (λ none. wanted (open_tape ∙ none))
    ∙ sym open_tape
effect_of-more ReadByte e more ended arguments s unended wanted =
    let text : List ℕ = unread e.tape s in
    let open_tape : byte_read text e.tape.ended (storage_of s) ≡ byte_read text false (storage_of s) =
    ap (λ (over : Bool). byte_read text over (storage_of s)) unended in
    ap (λ (all : List ℕ). byte_read all ended (storage_of s)) (unread_some e.tape more s (byte_some text (storage_of s) (λ none. wanted (open_tape ∙ none))))
    ∙ byte_read-more more text ended (storage_of s) (λ none. wanted (open_tape ∙ none))
    ∙ sym open_tape
effect_of-more other e more ended arguments s unended wanted = refl

-- and so does a call
performed-more : (e : Environment) (more : List ℕ) (ended : Bool) (call : Call) → e.tape.ended ≡ false → (performed e call ≡ Err NeedInput → ⊥) →
    performed (grown more ended e) call ≡ performed e call
unfolding performed
performed-more e more ended call unended wanted =
    let line = trace_line call.state.trace call.kind call.arguments in
    ap (seen_as (printed_after line)) (effect_of-more (primitive_of (argument 0 call.arguments)) e more ended call.arguments call.state unended
    (λ none. wanted (ap (seen_as (printed_after line)) none)))

-- and what scanning gives
carried_out-more : (e : Environment) (more : List ℕ) (ended : Bool) (x : Scanned) → e.tape.ended ≡ false → (carried_out e x ≡ Err NeedInput → ⊥) →
    carried_out (grown more ended e) x ≡ carried_out e x
carried_out-more e more ended (Moves t) unended wanted = refl
carried_out-more e more ended (Calls call) unended wanted =
    ap (seen_as (after_call call)) (performed-more e more ended call unended (λ none. wanted (ap (seen_as (after_call call)) none)))

step-more : (e : Environment) (more : List ℕ) (ended : Bool) (s : State) → e.tape.ended ≡ false → (step e s ≡ Err NeedInput → ⊥) → step (grown more ended e) s ≡ step e s
unfolding step
step-more e more ended s unended wanted =
    ap (limited texts_fit) (carried_out-more e more ended (scan s) unended (λ short. wanted (ap (limited texts_fit) short)))

pub step-whole : (e : Environment) (more : List ℕ) (s : State) → (e.tape.ended ≡ true → more ≡ []) → (step e s ≡ Err NeedInput → ⊥) → step (lengthened more e) s ≡ step e s
step-whole e more s none wanted =
    ⊎_elim
    (λ (ended : e.tape.ended ≡ true). ap (λ (t : Tape). step (record e { tape = t }) s) (whole_of_ended e.tape more ended (none ended)))
    (λ (unended : e.tape.ended ≡ false). step-more e more true s unended wanted)
    (cases_Bool e.tape.ended)

-- ---- the laws

pub step-lengthened : (width : Width) (tape : Tape) (s : State) (more : List ℕ) → tape.ended ≡ false → (step (over width tape) s ≡ Err NeedInput → ⊥) →
    step (over width (record tape { bytes = tape.bytes ++ more })) s ≡ step (over width tape) s
step-lengthened width tape s more unended wanted =
    ap (λ (ended : Bool). step (over width (record { bytes = tape.bytes ++ more; ended = ended })) s) unended
    ∙ step-more (over width tape) more false s unended wanted

pub step-ended : (width : Width) (tape : Tape) (s : State) → tape.ended ≡ false → (step (over width tape) s ≡ Err NeedInput → ⊥) →
    step (over width (record tape { ended = true })) s ≡ step (over width tape) s
step-ended width tape s unended wanted =
    ap (λ (bytes : List ℕ). step (over width (record { bytes = bytes; ended = true })) s) (sym (append-nil tape.bytes))
    ∙ step-more (over width tape) [] true s unended wanted

pub step-both : (width : Width) (tape : Tape) (s : State) (more : List ℕ) → tape.ended ≡ false → (step (over width tape) s ≡ Err NeedInput → ⊥) →
    step (over width (whole tape more)) s ≡ step (over width tape) s
step-both width tape s more unended wanted = step-more (over width tape) more true s unended wanted
