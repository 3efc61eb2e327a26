-- A state whose position and output are changed is scanned, performed and limited alike.
use Rattle.std.proofs.Common.{◌≡◌, ℕ, ◌+◌, Bool, true, false, ◌&&◌, List, [], ◌∷◌, ◌++◌, length, take, drop, refl, sym, ap, ◌∙◌, arith}
use Rattle.std.specs.Prelude.{Result, Ok, Err, nat_le}
use Rattle.std.proofs.lemmas.List.{length-append}
use Rattle.std.proofs.lemmas.Bool.{and_parts, and_from, leb-true, le-leb}
use Rattle.trac_rules.specs.declared.limit.TheConstants.{TEXT_LIMIT, MARK_LIMIT, OUTPUT_LIMIT}
use Rattle.trac_rules.specs.declared.kind.Kind.{Kind}
use Rattle.trac_rules.specs.declared.kind.Kind.TheVariants.{Active, Neutral}
use Rattle.trac_rules.specs.declared.primitive.Primitive.{Primitive}
use Rattle.trac_rules.specs.declared.primitive.Primitive.TheVariants.{ReadString, ReadByte, Compute, Handle}
use Rattle.trac_rules.specs.declared.refusal.Refusal.{Refusal}
use Rattle.trac_rules.specs.declared.scan.Front.{Front}
use Rattle.trac_rules.specs.declared.scan.Front.TheVariants.{Opening, Comma, Sharp, Closing, Plain}
use Rattle.trac_rules.specs.declared.width.Width.{Width}
use Rattle.trac_rules.specs.Computing.{computed}
use Rattle.trac_rules.specs.Handling.{handled}
use Rattle.trac_rules.specs.State.{Environment, Frame, State, storage_of}
use Rattle.trac_rules.specs.Matching.{protected}
use Rattle.trac_rules.specs.Scanning.{Call, Scanned, Moves, Calls, gathered_in, deleted, comma_in, closing_in, front_of, scan_at, scan}
use Rattle.trac_rules.specs.Limits.{texts_fit, text_bytes, marks}
use Rattle.trac_rules.specs.Effect.{Effect, argument}
use Rattle.trac_rules.specs.Outcomes.{limited, seen_as}
use Rattle.trac_rules.specs.Reading.{byte_read, string_read, unread}
use Rattle.trac_rules.specs.Performing.{effect_of, primitive_of, trace_line, printed_after, performed, placed, changed_by, after_call}
use Rattle.trac_rules.specs.Stepping.{carried_out}
use Rattle.trac_rules.proofs.Outcomes.{limited-seen_as}
use Rattle.trac_rules.proofs.Scans.{ScanShows, place_of, scan_keeps_place}

-- a state with its position and its output changed
abbrev pub changed : (ℕ → ℕ) → (List ℕ → List ℕ) → State → State
changed places texts s = record s { position = places s.position; output = texts s.output }

-- the same change of what scanning gives
abbrev pub scanned_as : (State → State) → Scanned → Scanned
scanned_as change (Moves t) = Moves (change t)
scanned_as change (Calls call) = Calls (record call { state = change call.state })

-- ---- scanning

-- a text is gathered alike
pub gathered_in-changed : (places : ℕ → ℕ) (texts : List ℕ → List ℕ) (frames : List Frame) (text : List ℕ) (s : State) →
    gathered_in frames text (changed places texts s) ≡ changed places texts (gathered_in frames text s)
gathered_in-changed f g [] text s = refl
gathered_in-changed f g (x ∷ xs) text s = refl

-- a comma is scanned alike
pub comma_in-changed : (places : ℕ → ℕ) (texts : List ℕ → List ℕ) (frames : List Frame) (s : State) →
    comma_in frames (changed places texts s) ≡ changed places texts (comma_in frames s)
comma_in-changed f g [] s = refl
comma_in-changed f g (x ∷ xs) s = refl

-- an end of a function is scanned alike
pub closing_in-changed : (places : ℕ → ℕ) (texts : List ℕ → List ℕ) (frames : List Frame) (s : State) →
    closing_in frames (changed places texts s) ≡ scanned_as (changed places texts) (closing_in frames s)
closing_in-changed f g [] s = refl
closing_in-changed f g (x ∷ xs) s = refl

-- each front is scanned alike
pub scan_at-changed : (places : ℕ → ℕ) (texts : List ℕ → List ℕ) (front : Front) (s : State) →
    scan_at front (changed places texts s) ≡ scanned_as (changed places texts) (scan_at front s)
scan_at-changed f g Opening s =
    ap Moves (gathered_in-changed f g s.frames (protected (drop 1 s.active)).inner (record s { active = (protected (drop 1 s.active)).rest }))
scan_at-changed f g Comma s = ap Moves (comma_in-changed f g s.frames (deleted 1 s))
scan_at-changed f g Sharp s = ap Moves (gathered_in-changed f g s.frames (take 1 s.active) (deleted 1 s))
scan_at-changed f g Closing s = closing_in-changed f g s.frames (deleted 1 s)
scan_at-changed f g Plain s = ap Moves (gathered_in-changed f g s.frames (take 1 s.active) (deleted 1 s))
scan_at-changed f g other s = refl

pub scan-changed : (places : ℕ → ℕ) (texts : List ℕ → List ℕ) (s : State) → scan (changed places texts s) ≡ scanned_as (changed places texts) (scan s)
unfolding scan
scan-changed f g s = scan_at-changed f g (front_of s.active) s

-- ---- performing

-- a change of a state, and of its tape, that performing does not notice
pub record GoesUnnoticed (places : ℕ → ℕ) (texts : List ℕ → List ℕ) (old new : Environment) (s : State) : Type 0 where
  pub unread : unread new.tape (changed places texts s) ≡ unread old.tape s
  pub ended : new.tape.ended ≡ old.tape.ended
  pub width : new.width ≡ old.width
  pub moved : (n : ℕ) → places (s.position + n) ≡ places s.position + n
  pub printed : (x y : List ℕ) → texts (x ++ y) ≡ texts x ++ y

-- each primitive acts alike
pub effect_of-changed : (places : ℕ → ℕ) (texts : List ℕ → List ℕ) (old new : Environment) (s : State) → GoesUnnoticed places texts old new s →
    (primitive : Primitive) (arguments : List (List ℕ)) → effect_of primitive new arguments (changed places texts s) ≡ effect_of primitive old arguments s
effect_of-changed f g old new s same ReadString arguments =
    ap (λ (text : List ℕ). string_read text new.tape.ended s.meta (storage_of s)) same.unread
    ∙ ap (λ (ended : Bool). string_read (unread old.tape s) ended s.meta (storage_of s)) same.ended
effect_of-changed f g old new s same ReadByte arguments =
    ap (λ (text : List ℕ). byte_read text new.tape.ended (storage_of s)) same.unread
    ∙ ap (λ (ended : Bool). byte_read (unread old.tape s) ended (storage_of s)) same.ended
effect_of-changed f g old new s same (Compute computation) arguments = ap (λ (width : Width). Ok (computed computation width arguments (storage_of s))) same.width
effect_of-changed f g old new s same (Handle action) arguments = ap (λ (width : Width). handled action width arguments (storage_of s)) same.width
effect_of-changed f g old new s same other arguments = refl

-- a call does the same
pub performed-changed : (places : ℕ → ℕ) (texts : List ℕ → List ℕ) (old new : Environment) (call : Call) → GoesUnnoticed places texts old new call.state →
    performed new (record call { state = changed places texts call.state }) ≡ performed old call
unfolding performed
performed-changed f g old new call same =
    ap (seen_as (printed_after (trace_line call.state.trace call.kind call.arguments)))
    (effect_of-changed f g old new call.state same (primitive_of (argument 0 call.arguments)) call.arguments)

-- a value goes to the same place
pub placed-changed : (places : ℕ → ℕ) (texts : List ℕ → List ℕ) (kind : Kind) (forced : Bool) (value : List ℕ) (s : State) →
    placed kind forced value (changed places texts s) ≡ changed places texts (placed kind forced value s)
placed-changed f g Active forced value s = refl
placed-changed f g Neutral true value s = refl
placed-changed f g Neutral false value s = gathered_in-changed f g s.frames value s

-- the state after a call is the same, but for the change
pub after_call-changed : (places : ℕ → ℕ) (texts : List ℕ → List ℕ) (call : Call) → ((n : ℕ) → places (call.state.position + n) ≡ places call.state.position + n) →
    ((x y : List ℕ) → texts (x ++ y) ≡ texts x ++ y) → (e : Effect) →
    after_call (record call { state = changed places texts call.state }) e ≡ changed places texts (after_call call e)
after_call-changed f g call moved printed e =
    let place = sym (moved e.read) in
    let output = sym (printed call.state.output e.printed) in
    (λ i. placed call.kind e.forced e.value (record (changed_by e call.state) { position = place i; output = output i }))
    ∙ placed-changed f g call.kind e.forced e.value (changed_by e call.state)

-- what was done leads to the same state, but for the change
pub placed_as-changed : (places : ℕ → ℕ) (texts : List ℕ → List ℕ) (call : Call) → ((n : ℕ) → places (call.state.position + n) ≡ places call.state.position + n) →
    ((x y : List ℕ) → texts (x ++ y) ≡ texts x ++ y) → (outcome : Result Effect Refusal) →
    seen_as (after_call (record call { state = changed places texts call.state })) outcome ≡ seen_as (changed places texts) (seen_as (after_call call) outcome)
placed_as-changed f g call moved printed (Ok e) = ap Ok (after_call-changed f g call moved printed e)
placed_as-changed f g call moved printed (Err refusal) = refl

-- ---- a step, before limits are looked at

-- what is not noticed at a state is not noticed at one of its position
pub GoesUnnoticed_at : (places : ℕ → ℕ) (texts : List ℕ → List ℕ) (old new : Environment) (s t : State) → t.position ≡ s.position → GoesUnnoticed places texts old new s → GoesUnnoticed places texts old new t
GoesUnnoticed_at f g old new s t e same = record {
  unread = ap (λ (p : ℕ). drop (f p) new.tape.bytes) e ∙ same.unread ∙ ap (λ (p : ℕ). drop p old.tape.bytes) (sym e);
  ended = same.ended;
  width = same.width;
  moved = λ n. ap (λ (p : ℕ). f (p + n)) e ∙ same.moved n ∙ ap (λ (p : ℕ). f p + n) (sym e);
  printed = same.printed;
}

-- a call is carried out alike
pub call-changed : (places : ℕ → ℕ) (texts : List ℕ → List ℕ) (old new : Environment) (call : Call) → GoesUnnoticed places texts old new call.state →
    carried_out new (Calls (record call { state = changed places texts call.state })) ≡ seen_as (changed places texts) (carried_out old (Calls call))
call-changed f g old new call same =
    ap (seen_as (after_call (record call { state = changed f g call.state }))) (performed-changed f g old new call same)
    ∙ placed_as-changed f g call same.moved same.printed (performed old call)

-- what scanning gives is carried out alike
pub carried_out-changed : (places : ℕ → ℕ) (texts : List ℕ → List ℕ) (old new : Environment) (s : State) → GoesUnnoticed places texts old new s → (x : Scanned) → ScanShows place_of s x →
    carried_out new (scanned_as (changed places texts) x) ≡ seen_as (changed places texts) (carried_out old x)
carried_out-changed f g old new s same (Moves t) kept = refl
carried_out-changed f g old new s same (Calls call) kept =
    call-changed f g old new call (GoesUnnoticed_at f g old new s call.state kept same)

-- a step is carried out alike
pub scanned_out-changed : (places : ℕ → ℕ) (texts : List ℕ → List ℕ) (old new : Environment) (s : State) → GoesUnnoticed places texts old new s →
    carried_out new (scan (changed places texts s)) ≡ seen_as (changed places texts) (carried_out old (scan s))
scanned_out-changed f g old new s same =
    ap (λ (x : Scanned). carried_out new x) (scan-changed f g s) ∙ carried_out-changed f g old new s same (scan s) (scan_keeps_place s)

-- ---- limits

pub texts_fit-moved : (places : ℕ → ℕ) (s : State) → texts_fit (changed places (λ o. o) s) ≡ texts_fit s
unfolding texts_fit
texts_fit-moved f s = refl

pub texts_fit_of_more : (text : List ℕ) (s : State) → texts_fit (changed (λ p. p) (λ o. text ++ o) s) ≡ true → texts_fit s ≡ true
unfolding texts_fit
texts_fit_of_more text s h =
    let parts = and_parts (nat_le (text_bytes s) TEXT_LIMIT && nat_le (marks s.frames) MARK_LIMIT) (nat_le (length (text ++ s.output)) OUTPUT_LIMIT) h in
    and_from (nat_le (text_bytes s) TEXT_LIMIT && nat_le (marks s.frames) MARK_LIMIT) (nat_le (length s.output) OUTPUT_LIMIT) parts.0
    (le-leb (length s.output) OUTPUT_LIMIT (omega (arith, leb-true (length (text ++ s.output)) OUTPUT_LIMIT parts.1, length-append text s.output)))

-- a moved position makes no difference to the limits
pub limited-moved : (places : ℕ → ℕ) (x : Result State Refusal) →
    limited texts_fit (seen_as (changed places (λ o. o)) x) ≡ seen_as (changed places (λ o. o)) (limited texts_fit x)
limited-moved f x = limited-seen_as texts_fit texts_fit (changed f (λ o. o)) (texts_fit-moved f) x
