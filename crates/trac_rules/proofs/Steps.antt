-- What a step keeps, and how it depends on the tape and on the output.
use Rattle.std.proofs.Common.{◌≡◌, ℕ, zero, suc, ◌+◌, ◌-◌, ◌<◌, ◌≤◌, Bool, true, false, List, [], ◌∷◌, ◌++◌, length, drop, refl, sym, ap, ◌∙◌, arith, ⊎_elim}
use Rattle.std.specs.Prelude.{Option, None, Some, Result, Ok, Err, decimal, nat_le, position, ◌==◌, if◌then◌else◌}
use Rattle.std.specs.FinMap as map
use Rattle.std.proofs.lemmas.List.{append-nil, append_assoc, length-drop, drop-drop}
use Rattle.std.proofs.lemmas.List.Quantifiers.{position-Some}
use Rattle.trac_rules.specs.declared.kind.Kind.{Kind}
use Rattle.trac_rules.specs.declared.kind.Kind.TheVariants.{Active, Neutral}
use Rattle.trac_rules.specs.declared.limit.TheConstants.{FORM_COUNT_LIMIT}
use Rattle.trac_rules.specs.declared.primitive.BlockAction.{BlockAction}
use Rattle.trac_rules.specs.declared.primitive.BlockAction.TheVariants.{StoreBlock, FetchBlock, EraseBlock}
use Rattle.trac_rules.specs.declared.primitive.Computation.{Computation}
use Rattle.trac_rules.specs.declared.primitive.Computation.TheVariants.{Calculate}
use Rattle.trac_rules.specs.declared.primitive.FormAction.{FormAction}
use Rattle.trac_rules.specs.declared.primitive.FormAction.TheVariants.{Define, Delete, DeleteAll, Segment, Restore, Read, ListNames, PrintForm, Call as CallForm}
use Rattle.trac_rules.specs.declared.primitive.Primitive.{Primitive}
use Rattle.trac_rules.specs.declared.primitive.Primitive.TheVariants.{PrintString, ReadString, ReadByte, Halt, SetMeta, SetTrace, Compute, Handle, HandleBlock, Unknown}
use Rattle.trac_rules.specs.declared.refusal.Refusal.{Refusal}
use Rattle.trac_rules.specs.declared.refusal.Refusal.TheVariants.{TooLong}
use Rattle.trac_rules.specs.declared.width.Width.{Width}
use Rattle.trac_rules.specs.State.{Environment, State, Storage, Tape, storage_of}
use Rattle.trac_rules.specs.Scanning.{Call, Scanned, Moves, Calls, scan}
use Rattle.trac_rules.specs.Limits.{may_be_put, texts_fit}
use Rattle.trac_rules.specs.Effect.{Effect, argument, gives, gives_or_forces, leaves, prints}
use Rattle.trac_rules.specs.Form.{Form, defined}
use Rattle.trac_rules.specs.Filling.{called}
use Rattle.trac_rules.specs.Segmenting.{segmented}
use Rattle.trac_rules.specs.Showing.{shown}
use Rattle.trac_rules.specs.Blocks.{block_fits, block_handled, erased, fetched, fetching, moved_out, named_block_number, on_block, put_aside}
use Rattle.trac_rules.specs.Computing.{computed}
use Rattle.trac_rules.specs.Handling.{default_argument, form_read, gives_piece, handled, keeping, named_form, on_form, piece_read, pointing, putting}
use Rattle.trac_rules.specs.Pieces.{Piece}
use Rattle.trac_rules.specs.Outcomes.{limited, seen_as}
use Rattle.trac_rules.specs.Reading.{byte_read, read_up_to, rest_read, unread}
use Rattle.trac_rules.specs.Performing.{after_call, changed_by, effect_of, meta_set, performed, placed, primitive_of, printed_after, trace_line}
use Rattle.trac_rules.specs.Stepping.{carried_out, step}
use Rattle.trac_rules.specs.Running.{Output, silent, going_on, output_from}
use Rattle.trac_rules.proofs.Outcomes.{limited_within, limited_Ok, limited_Err, seen_as-Ok, seen_as-Err}
use Rattle.trac_rules.proofs.Scans.{ScanShows, gathered_in_shows, place_of, scan_keeps_place}
use Rattle.trac_rules.proofs.Changed.{changed, GoesUnnoticed, scanned_out-changed, texts_fit_of_more, limited-moved}

-- ---- the position

-- one state stands further on a tape than another, or as far, and still on the tape
pub record IsFurther (tape : Tape) (s t : State) : Type 0 where
  pub onward : s.position ≤ t.position
  pub within : s.position ≤ length tape.bytes → t.position ≤ length tape.bytes

pub is_as_far : (tape : Tape) (s t : State) → t.position ≡ s.position → IsFurther tape s t
is_as_far tape s t e = record { onward = omega arith; within = λ l. omega arith }

pub is_further_at : (tape : Tape) (s t u : State) → t.position ≡ s.position → IsFurther tape t u → IsFurther tape s u
is_further_at tape s t u e further = record { onward = omega (arith, further.onward); within = λ l. further.within (omega arith) }

-- what was carried out leaves the state further on
abbrev pub StepGoes : Tape → State → Result State Refusal → Type 0
StepGoes tape s (Ok t) = IsFurther tape s t
StepGoes tape s (Err refusal) = Unit {0}

-- a primitive reads no more than so many bytes
abbrev pub ReadsWithin : ℕ → Result Effect Refusal → Type 0
ReadsWithin n (Ok e) = e.read ≤ n
ReadsWithin n (Err refusal) = Unit {0}

rest_within : (rest : List ℕ) (ended : Bool) (storage : Storage) → ReadsWithin (length rest) (rest_read rest ended storage)
rest_within rest false storage = tt
rest_within [] true storage = tt
rest_within (b ∷ rest) true storage = omega arith

-- a text and its meta character can be read
up_to_within : (at : Option ℕ) (text : List ℕ) (ended : Bool) (storage : Storage) → ((k : ℕ) → at ≡ Some k → k < length text) →
    ReadsWithin (length text) (read_up_to at text ended storage)
up_to_within (Some k) text ended storage inside = omega (arith, inside k refl)
up_to_within None text ended storage inside = rest_within text ended storage

-- a call on forms reads nothing, and is refused for a limit alone
abbrev pub LooksAtForms : Result Effect Refusal → Type 0
LooksAtForms (Ok e) = e.read ≡ 0
LooksAtForms (Err refusal) = refusal ≡ TooLong

putting_looks : (name : List ℕ) (form : Form) (storage : Storage) → LooksAtForms (putting name form storage)
putting_looks name form storage = by_fit (may_be_put name form storage.forms) (keeping (map.insert storage.forms name form) storage)
  where
    by_fit : (fits : Bool) (after : Storage) → LooksAtForms (if fits then Ok (leaves after) else Err TooLong)
    by_fit true after = refl
    by_fit false after = refl

on_form_looks : (form : Option Form) (act : Form → Result Effect Refusal) (storage : Storage) → ((f : Form) → LooksAtForms (act f)) →
    LooksAtForms (on_form form act storage)
on_form_looks None act storage looks = refl
on_form_looks (Some f) act storage looks = looks f

piece_looks : (piece : Option Piece) (other name : List ℕ) (form : Form) (storage : Storage) → LooksAtForms (Ok (gives_piece piece other name form storage))
piece_looks None other name form storage = refl
piece_looks (Some piece) other name form storage = refl

pub handled_looks : (action : FormAction) (width : Width) (arguments : List (List ℕ)) (storage : Storage) → LooksAtForms (handled action width arguments storage)
handled_looks Define width arguments storage = putting_looks (argument 1 arguments) (defined (argument 2 arguments)) storage
handled_looks Delete width arguments storage = refl
handled_looks DeleteAll width arguments storage = refl
handled_looks Segment width arguments storage =
    on_form_looks (named_form arguments storage) (λ form. putting (argument 1 arguments) (segmented (drop 2 arguments) form) storage) storage
    (λ form. putting_looks (argument 1 arguments) (segmented (drop 2 arguments) form) storage)
handled_looks Restore width arguments storage =
    on_form_looks (named_form arguments storage) (λ form. Ok (leaves (pointing (argument 1 arguments) 0 form storage))) storage (λ form. refl)
handled_looks CallForm width arguments storage =
    on_form_looks (named_form arguments storage) (λ form. Ok (gives (called (drop 2 arguments) form) storage)) storage (λ form. refl)
handled_looks (Read reading) width arguments storage =
    on_form_looks (named_form arguments storage) (λ form. Ok (form_read reading width arguments form storage)) storage
    (λ form. piece_looks (piece_read reading width arguments form) (default_argument reading arguments) (argument 1 arguments) form storage)
handled_looks ListNames width arguments storage = refl
handled_looks PrintForm width arguments storage =
    on_form_looks (named_form arguments storage) (λ form. Ok (prints (shown form) storage)) storage (λ form. refl)

fitting_looks : (fits : Bool) (outcome : Result Effect Refusal) → LooksAtForms outcome → LooksAtForms (if fits then outcome else Err TooLong)
fitting_looks true outcome looks = looks
fitting_looks false outcome looks = refl

on_block_looks : (number : Option ℕ) (act : ℕ → Result Effect Refusal) (storage : Storage) → ((k : ℕ) → LooksAtForms (act k)) →
    LooksAtForms (on_block number act storage)
on_block_looks None act storage looks = refl
on_block_looks (Some number) act storage looks = looks number

pub block_handled_looks : (action : BlockAction) (arguments : List (List ℕ)) (storage : Storage) → LooksAtForms (block_handled action arguments storage)
block_handled_looks StoreBlock arguments storage =
    fitting_looks (block_fits (moved_out (drop 2 arguments) storage.forms) storage.blocks)
    (putting (argument 1 arguments) (defined (decimal (length storage.blocks))) (put_aside (drop 2 arguments) storage))
    (putting_looks (argument 1 arguments) (defined (decimal (length storage.blocks))) (put_aside (drop 2 arguments) storage))
block_handled_looks FetchBlock arguments storage =
    on_block_looks (named_block_number arguments storage) (λ number. fetching number storage) storage
    (λ number. fitting_looks (nat_le (map.len (fetched number storage)) FORM_COUNT_LIMIT) (Ok (leaves (keeping (fetched number storage) storage))) refl)
block_handled_looks EraseBlock arguments storage =
    on_block_looks (named_block_number arguments storage) (λ number. Ok (leaves (erased number (argument 1 arguments) storage))) storage (λ number. refl)

looks_within : (n : ℕ) (outcome : Result Effect Refusal) → LooksAtForms outcome → ReadsWithin n outcome
looks_within n (Ok e) looks = omega (arith, looks)
looks_within n (Err refusal) looks = tt

value_within : (n : ℕ) (value : Option (List ℕ)) (other : List ℕ) (storage : Storage) → (gives_or_forces value other storage).read ≤ n
value_within n None other storage = omega arith
value_within n (Some value) other storage = omega arith

computed_within : (n : ℕ) (computation : Computation) (width : Width) (arguments : List (List ℕ)) (storage : Storage) → (computed computation width arguments storage).read ≤ n
computed_within n (Calculate operation) width arguments storage = value_within n _ (argument 3 arguments) storage
computed_within n computation width arguments storage = omega arith

byte_within : (text : List ℕ) (ended : Bool) (storage : Storage) → ReadsWithin (length text) (byte_read text ended storage)
byte_within [] ended storage = rest_within [] ended storage
byte_within (b ∷ rest) ended storage = omega arith

meta_within : (n : ℕ) (text : List ℕ) (storage : Storage) → (meta_set text storage).read ≤ n
meta_within n [] storage = omega arith
meta_within n (b ∷ bytes) storage = omega arith

-- each primitive reads no more than what is unread
pub effect_within : (primitive : Primitive) (e : Environment) (arguments : List (List ℕ)) (s : State) →
    ReadsWithin (length (unread e.tape s)) (effect_of primitive e arguments s)
effect_within PrintString e arguments s = omega arith
effect_within ReadString e arguments s =
    up_to_within (position (λ b. b == s.meta) (unread e.tape s)) (unread e.tape s) e.tape.ended (storage_of s)
    (λ k at. (position-Some (λ b. b == s.meta) (unread e.tape s) k 0 at).0)
effect_within ReadByte e arguments s = byte_within (unread e.tape s) e.tape.ended (storage_of s)
effect_within Halt e arguments s = tt
effect_within SetMeta e arguments s = meta_within (length (unread e.tape s)) (argument 1 arguments) (storage_of s)
effect_within (SetTrace trace) e arguments s = omega arith
effect_within (Compute computation) e arguments s = computed_within (length (unread e.tape s)) computation e.width arguments (storage_of s)
effect_within (Handle action) e arguments s = looks_within (length (unread e.tape s)) (handled action e.width arguments (storage_of s)) (handled_looks action e.width arguments (storage_of s))
effect_within (HandleBlock action) e arguments s =
    looks_within (length (unread e.tape s)) (block_handled action arguments (storage_of s)) (block_handled_looks action arguments (storage_of s))
effect_within Unknown e arguments s = omega arith

traced_within : (n : ℕ) (line : List ℕ) (outcome : Result Effect Refusal) → ReadsWithin n outcome → ReadsWithin n (seen_as (printed_after line) outcome)
traced_within n line (Ok e) within = within
traced_within n line (Err refusal) within = tt

pub performed_within : (e : Environment) (call : Call) → ReadsWithin (length (unread e.tape call.state)) (performed e call)
unfolding performed
performed_within e call =
    traced_within (length (unread e.tape call.state)) (trace_line call.state.trace call.kind call.arguments)
    (effect_of (primitive_of (argument 0 call.arguments)) e call.arguments call.state)
    (effect_within (primitive_of (argument 0 call.arguments)) e call.arguments call.state)

pub position-placed : (kind : Kind) (forced : Bool) (value : List ℕ) (s : State) → (placed kind forced value s).position ≡ s.position
position-placed Active forced value s = refl
position-placed Neutral true value s = refl
position-placed Neutral false value s = gathered_in_shows place_of (λ t active base frames. refl) s.frames value s

pub position-after_call : (call : Call) (e : Effect) → (after_call call e).position ≡ call.state.position + e.read
position-after_call call e = position-placed call.kind e.forced e.value (changed_by e call.state)

-- a call leaves the state further on
placed_further : (tape : Tape) (call : Call) (outcome : Result Effect Refusal) → ReadsWithin (length (unread tape call.state)) outcome →
    StepGoes tape call.state (seen_as (after_call call) outcome)
placed_further tape call (Ok e) within = record {
  onward = omega (arith, position-after_call call e);
  within = λ l. omega (arith, within, length-drop call.state.position tape.bytes, position-after_call call e);
}
placed_further tape call (Err refusal) within = tt

pub StepGoes_at : (tape : Tape) (s t : State) → t.position ≡ s.position → (x : Result State Refusal) → StepGoes tape t x → StepGoes tape s x
StepGoes_at tape s t e (Ok u) goes = is_further_at tape s t u e goes
StepGoes_at tape s t e (Err refusal) goes = tt

carried_out_further : (e : Environment) (s : State) (x : Scanned) → ScanShows place_of s x → StepGoes e.tape s (carried_out e x)
carried_out_further e s (Moves t) kept = is_as_far e.tape s t kept
carried_out_further e s (Calls call) kept =
    StepGoes_at e.tape s call.state kept (carried_out e (Calls call)) (placed_further e.tape call (performed e call) (performed_within e call))

pub StepGoes-Ok : (tape : Tape) (s t : State) (x : Result State Refusal) → x ≡ Ok t → StepGoes tape s x → IsFurther tape s t
StepGoes-Ok tape s t (Ok u) e goes = let same : u ≡ t = cc in rw (← same) goes
StepGoes-Ok tape s t (Err refusal) e goes = absurd (cc)

pub step_further : (e : Environment) (s t : State) → step e s ≡ Ok t → IsFurther e.tape s t
unfolding step
step_further e s t h =
    StepGoes-Ok e.tape s t (carried_out e (scan s)) (limited_Ok texts_fit (carried_out e (scan s)) t h).0 (carried_out_further e s (scan s) (scan_keeps_place s))

pub step_within : (e : Environment) (s t : State) → step e s ≡ Ok t → s.position ≤ length e.tape.bytes → t.position ≤ length e.tape.bytes
step_within e s t h l = (step_further e s t h).within l

pub step_onward : (e : Environment) (s t : State) → step e s ≡ Ok t → s.position ≤ t.position
step_onward e s t h = (step_further e s t h).onward

-- ---- the output

pub output_unnoticed : (texts : List ℕ → List ℕ) (e : Environment) (s : State) → ((x y : List ℕ) → texts (x ++ y) ≡ texts x ++ y) → GoesUnnoticed (λ p. p) texts e e s
output_unnoticed texts e s printed = record { unread = refl; ended = refl; width = refl; moved = λ n. refl; printed = printed }

pub silent-changed : (s : State) → changed (λ p. p) (λ o. s.output ++ o) (silent s) ≡ s
silent-changed s = ap (λ (o : List ℕ). record s { output = o }) (append-nil s.output)

pub silent_of_none : (s : State) → s.output ≡ [] → silent s ≡ s
silent_of_none s none = ap (λ (o : List ℕ). record s { output = o }) (sym none)

pub carried_out-silent : (e : Environment) (s : State) → carried_out e (scan s) ≡ seen_as (changed (λ p. p) (λ o. s.output ++ o)) (carried_out e (scan (silent s)))
carried_out-silent e s =
    ap (λ u. carried_out e (scan u)) (sym (silent-changed s))
    ∙ scanned_out-changed (λ p. p) (λ o. s.output ++ o) e e (silent s) (output_unnoticed (λ o. s.output ++ o) e (silent s) (λ x y. sym (append_assoc s.output x y)))

pub step-silent_Ok : (e : Environment) (s t : State) → step e s ≡ Ok t → (u : State) × (step e (silent s) ≡ Ok u) × (t ≡ record u { output = s.output ++ u.output })
unfolding step
step-silent_Ok e s t h =
    let out = limited_Ok texts_fit (carried_out e (scan s)) t h in
    let at = seen_as-Ok (changed (λ p. p) (λ o. s.output ++ o)) (carried_out e (scan (silent s))) t (sym (carried_out-silent e s) ∙ out.0) in
    let fits : texts_fit (changed (λ p. p) (λ o. s.output ++ o) at.0) ≡ true = rw (← at.2) out.1 in
    (at.0, ap (limited texts_fit) at.1 ∙ limited_within texts_fit at.0 (texts_fit_of_more s.output at.0 fits), at.2)

pub step-silent_Err : (e : Environment) (s : State) (refusal : Refusal) → step e s ≡ Err refusal → (refusal ≡ TooLong → ⊥) → step e (silent s) ≡ Err refusal
unfolding step
step-silent_Err e s r h other =
    ⊎_elim
    (λ (long : r ≡ TooLong). absurd (other long))
    (λ (out : carried_out e (scan s) ≡ Err r).
    ap (limited texts_fit) (seen_as-Err (changed (λ p. p) (λ o. s.output ++ o)) (carried_out e (scan (silent s))) r (sym (carried_out-silent e s) ∙ out)))
    (limited_Err texts_fit (carried_out e (scan s)) r h)

-- ---- the rest of a run

-- it is the same whatever the pending output
pub output_from-output : (n : ℕ) (e : Environment) (s : State) (text : List ℕ) → output_from n e (record s { output = text }) ≡ output_from n e s
unfolding output_from
output_from-output zero e s text = refl
output_from-output (suc n) e s text = refl

-- the same environment over a tape without what was read before
abbrev pub cut : ℕ → Environment → Environment
cut k e = record e { tape = record e.tape { bytes = drop k e.tape.bytes } }

-- a state at a position of a cut tape
abbrev pub moved_back : ℕ → State → State
moved_back k s = record s { position = s.position - k }

pub cut_unnoticed : (k : ℕ) (e : Environment) (s : State) → k ≤ s.position → GoesUnnoticed (λ p. p - k) (λ o. o) e (cut k e) s
cut_unnoticed k e s l = record {
  unread = (let back : k + (s.position - k) ≡ s.position = omega arith in drop-drop (s.position - k) k e.tape.bytes ∙ ap (λ p. drop p e.tape.bytes) back);
  ended = refl;
  width = refl;
  moved = λ n. omega arith;
  printed = λ x y. refl;
}

pub step-cut : (k : ℕ) (e : Environment) (s : State) → k ≤ s.position → step (cut k e) (moved_back k s) ≡ seen_as (moved_back k) (step e s)
unfolding step
step-cut k e s l =
    ap (limited texts_fit) (scanned_out-changed (λ p. p - k) (λ o. o) e (cut k e) s (cut_unnoticed k e s l))
    ∙ limited-moved (λ p. p - k) (carried_out e (scan s))

pub output_from-cut : (n k : ℕ) (e : Environment) (s : State) → k ≤ s.position → output_from n (cut k e) (moved_back k s) ≡ output_from n e s
unfolding output_from
output_from-cut zero k e s l = refl
output_from-cut (suc n) k e s l =
    ap (λ x. going_on x (λ t. output_from n (cut k e) t)) (step-cut k e (silent s) l)
    ∙ go (step e (silent s)) (λ t taken. output_from-cut n k e t (omega (arith, step_onward e (silent s) t taken)))
  where
    go : (x : Result State Refusal) → ((t : State) → x ≡ Ok t → output_from n (cut k e) (moved_back k t) ≡ output_from n e t) →
        going_on (seen_as (moved_back k) x) (λ t. output_from n (cut k e) t) ≡ going_on x (λ t. output_from n e t)
    go (Ok t) same = ap (λ (o : Output). record { bytes = t.output ++ o.bytes; stop = o.stop }) (same t refl)
    go (Err refusal) same = refl
