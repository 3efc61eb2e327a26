-- A step that waits for the meta character goes on waiting until it comes.
use Rattle.std.proofs.Common.{◌≡◌, ℕ, ◌-◌, ◌<◌, ◌≤◌, Bool, false, List, [], ◌++◌, length, drop, refl, sym, ap, ◌∙◌, arith, ⊎_elim}
use Rattle.std.specs.Prelude.{None, Err, position, ◌==◌}
use Rattle.std.proofs.lemmas.List.{drop-append-le, drop_all, length-drop}
use Rattle.trac_rules.specs.declared.primitive.Primitive.{Primitive}
use Rattle.trac_rules.specs.declared.primitive.Primitive.TheVariants.{ReadString, ReadByte}
use Rattle.trac_rules.specs.declared.refusal.Refusal.TheVariants.{TooLong, NeedInput, JournalFull}
use Rattle.trac_rules.specs.State.{Environment, State, storage_of}
use Rattle.trac_rules.specs.Scanning.{Call, Scanned, Moves, Calls, scan}
use Rattle.trac_rules.specs.Limits.{texts_fit}
use Rattle.trac_rules.specs.Effect.{argument}
use Rattle.trac_rules.specs.Outcomes.{limited, seen_as}
use Rattle.trac_rules.specs.Reading.{read_up_to, rest_read, string_read, unread}
use Rattle.trac_rules.specs.Performing.{after_call, effect_of, performed, primitive_of, printed_after, trace_line}
use Rattle.trac_rules.specs.Stepping.{carried_out, step}
use Rattle.trac_rules.specs.Running.{silent}
use Rattle.trac_rules.specs.Session.{PlainSession, Step, Feed, Commit, done, refused, settled, committed, answer, over}
use Rattle.trac_rules.proofs.Outcomes.{limited_Err, seen_as-Err}
use Rattle.trac_rules.proofs.Positions.{position-append_neither}
use Rattle.trac_rules.proofs.Scans.{ScanShows, place_of, scan_keeps_place, scan_shows}
use Rattle.trac_rules.proofs.Steps.{moved_back, step-cut, step-silent_Err}
use Rattle.trac_rules.proofs.Refusals.{byte_there, wants_input_of_open, wants_none}
use Rattle.trac_rules.proofs.Replies.{with_more, answer_Step_Err, Step_refused, Step_refused_NeedInput, Feed_done, Commit_done}

-- the byte that ends a text of the input
abbrev pub meta_of : State → ℕ
meta_of s = s.meta

-- no meta character of a state stands in a text
abbrev pub IsWithoutMeta : State → List ℕ → Type 0
IsWithoutMeta s text = position (λ b. b == s.meta) text ≡ None

-- the same environment over a tape with so much more, which has not ended after it
abbrev pub fed_more : List ℕ → Environment → Environment
fed_more more e = record e { tape = record e.tape { bytes = e.tape.bytes ++ more } }

-- a text without a meta character is waited for, however long it is
string_waits : (text more : List ℕ) (ended : Bool) (s : State) → ended ≡ false → position (λ b. b == s.meta) text ≡ None → IsWithoutMeta s more →
    string_read (text ++ more) ended s.meta (storage_of s) ≡ Err NeedInput
string_waits text more ended s unended none_yet none =
    ap (λ at. read_up_to at (text ++ more) ended (storage_of s)) (position-append_neither (λ b. b == s.meta) text more none_yet none)
    ∙ ap (λ b. rest_read (text ++ more) b (storage_of s)) unended

-- a primitive that waits though a byte is unread waits for the meta character
effect_waits : (primitive : Primitive) (e : Environment) (more : List ℕ) (arguments : List (List ℕ)) (s : State) → e.tape.ended ≡ false → s.position < length e.tape.bytes → IsWithoutMeta s more →
    effect_of primitive e arguments s ≡ Err NeedInput → effect_of primitive (fed_more more e) arguments s ≡ Err NeedInput
effect_waits ReadString e more arguments s unended l none h =
    let text = unread e.tape s in
    ap (λ (t : List ℕ). string_read t e.tape.ended s.meta (storage_of s)) (drop-append-le s.position e.tape.bytes more (omega (arith, l)))
    ∙ string_waits text more e.tape.ended s unended (wants_none text (position (λ b. b == s.meta) text) e.tape.ended (storage_of s) h) none
effect_waits ReadByte e more arguments s unended l none h =
    absurd (byte_there (unread e.tape s) e.tape.ended (storage_of s) (omega (arith, l, length-drop s.position e.tape.bytes)) h)
effect_waits other e more arguments s unended l none h = h

-- and so does a call
performed_waits : (e : Environment) (more : List ℕ) (call : Call) → e.tape.ended ≡ false → call.state.position < length e.tape.bytes → IsWithoutMeta call.state more →
    performed e call ≡ Err NeedInput → performed (fed_more more e) call ≡ Err NeedInput
unfolding performed
performed_waits e more call unended l none h =
    let line = trace_line call.state.trace call.kind call.arguments in
    ap (seen_as (printed_after line))
    (effect_waits (primitive_of (argument 0 call.arguments)) e more call.arguments call.state unended l none
    (seen_as-Err (printed_after line) (effect_of (primitive_of (argument 0 call.arguments)) e call.arguments call.state) NeedInput h))

-- and what scanning gives
carried_out_waits : (e : Environment) (more : List ℕ) (s : State) (x : Scanned) → ScanShows place_of s x → ScanShows meta_of s x → e.tape.ended ≡ false → s.position < length e.tape.bytes → IsWithoutMeta s more →
    carried_out e x ≡ Err NeedInput → carried_out (fed_more more e) x ≡ Err NeedInput
carried_out_waits e more s (Moves t) place meta unended l none h = h
carried_out_waits e more s (Calls call) place meta unended l none h =
    ap (seen_as (after_call call))
    (performed_waits e more call unended (omega (arith, l, place)) (ap (λ m. position (λ b. b == m) more) meta ∙ none)
    (seen_as-Err (after_call call) (performed e call) NeedInput h))

-- a step that waits for input though a byte is unread waits for the meta character: so it goes on waiting where more came without it
pub step_waits : (e : Environment) (more : List ℕ) (s : State) → s.position < length e.tape.bytes → IsWithoutMeta s more →
    step e s ≡ Err NeedInput → step (fed_more more e) s ≡ Err NeedInput
unfolding step
step_waits e more s l none h =
    ⊎_elim
    (λ (no : NeedInput ≡ TooLong). absurd (cc))
    (λ (out : carried_out e (scan s) ≡ Err NeedInput).
    ap (limited texts_fit)
    (carried_out_waits e more s (scan s) (scan_keeps_place s) (scan_shows meta_of (λ t active base frames. refl) s) (wants_input_of_open e s h) l none out))
    (limited_Err texts_fit (carried_out e (scan s)) NeedInput h)

-- ---- sessions

room_of_wanted : (p : PlainSession) → answer Step p ≡ refused NeedInput p → length p.earlier < p.limit
room_of_wanted p h =
    ⊎_elim
    (λ (full : (NeedInput ≡ JournalFull) × (p.limit ≤ length p.earlier)). absurd (let no : NeedInput ≡ JournalFull = full.0 in cc))
    (λ (stepped : (length p.earlier < p.limit) × (step (over p.width p.tape) p.last ≡ Err NeedInput)). stepped.0)
    (Step_refused p p NeedInput h).1

-- a step of a session that waits though a byte is unread goes on waiting where bytes without the meta character are fed
pub Feed_waits : (p q : PlainSession) (bytes : List ℕ) → 0 < length (unread p.tape p.last) → IsWithoutMeta p.last bytes → answer Step p ≡ refused NeedInput p → answer (Feed bytes) p ≡ done q →
    answer Step q ≡ refused NeedInput q
Feed_waits p q bytes some none h fed =
    let inside : p.last.position < length p.tape.bytes = omega (arith, some, length-drop p.last.position p.tape.bytes) in
    let fed_step : step (over (with_more p bytes).width (with_more p bytes).tape) p.last ≡ Err NeedInput = step_waits (over p.width p.tape) bytes p.last inside none (Step_refused_NeedInput p p h) in
    let still : answer Step (with_more p bytes) ≡ refused NeedInput (with_more p bytes) = answer_Step_Err (with_more p bytes) NeedInput (room_of_wanted p h) fed_step in
    rw (Feed_done bytes p q fed).0 still

pub Commit_waits : (p q : PlainSession) → 1 ≤ p.limit → answer Step p ≡ refused NeedInput p → answer (Commit 0) p ≡ done q → answer Step q ≡ refused NeedInput q
Commit_waits p q some h committing =
    let k = p.last.position in
    let silently : step (over p.width p.tape) (silent p.last) ≡ Err NeedInput = step-silent_Err (over p.width p.tape) p.last NeedInput (Step_refused_NeedInput p p h) (λ no. cc) in
    let none_left : [] ≡ drop (length p.last.output) p.last.output = sym (drop_all (length p.last.output) p.last.output (omega arith)) in
    let settled_step : step (over (committed 0 p).width (committed 0 p).tape) (settled p.last) ≡ Err NeedInput =
    ap (λ (o : List ℕ). step (over (committed 0 p).width (committed 0 p).tape) (record p.last { output = o; position = p.last.position - k })) (sym none_left)
    ∙ step-cut k (over p.width p.tape) (silent p.last) (omega arith)
    ∙ ap (seen_as (moved_back k)) silently in
    let still : answer Step (committed 0 p) ≡ refused NeedInput (committed 0 p) = answer_Step_Err (committed 0 p) NeedInput (omega (arith, some)) settled_step in
    rw (Commit_done 0 p q committing) still
