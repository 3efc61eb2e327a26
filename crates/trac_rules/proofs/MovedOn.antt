-- Plain bytes move on one after another, and back.
use Rattle.std.proofs.Common.{◌≡◌, ℕ, zero, suc, ◌+◌, ◌<◌, ◌≤◌, Bool, true, false, not, ◌&&◌, List, [], ◌∷◌, ◌++◌, length, take, drop, get_or, replicate, refl, sym, ap, subst, ◌∙◌, arith}
use Rattle.std.specs.Prelude.{Some, Result, Ok, nat_le, nat_lt, if◌then◌else◌, option_and_then, ◌==◌}
use Rattle.std.proofs.lemmas.Bool.{lt-ltb}
use Rattle.std.proofs.lemmas.List.{append-nil, append_assoc, drop_more, length-append, take-append-drop}
use Rattle.trac_rules.specs.declared.byte.TheConstants.{OPENING, CLOSING, COMMA, SHARP}
use Rattle.trac_rules.specs.declared.limit.TheConstants.{TEXT_LIMIT, MARK_LIMIT, OUTPUT_LIMIT}
use Rattle.trac_rules.specs.declared.refusal.Refusal.{Refusal}
use Rattle.trac_rules.specs.declared.refusal.Refusal.TheVariants.{JournalFull}
use Rattle.trac_rules.specs.declared.scan.Front.{Front}
use Rattle.trac_rules.specs.declared.scan.Front.TheVariants as front
use Rattle.trac_rules.specs.Limits.{marks, text_bytes, texts_fit}
use Rattle.trac_rules.specs.Outcomes.{limited}
use Rattle.trac_rules.specs.PlainRuns.{BeginsPlain, is_plain, moved_on, on_the_way}
use Rattle.trac_rules.specs.Proper.{IsProper, IsProperStorage}
use Rattle.trac_rules.specs.Records.{Moved, led_back, recorded_at, state_before}
use Rattle.trac_rules.specs.Scanning.{deleted, front_of, gather_first, gathered_in, is_layout, scan, scan_at, sharp_before}
use Rattle.trac_rules.specs.Session.{PlainSession, Step, accepted_by, answer, over, refused, repeated, stepped_to}
use Rattle.trac_rules.specs.State.{Environment, Frame, State, storage_of}
use Rattle.trac_rules.specs.Stepping.{carried_out, step}
use Rattle.trac_rules.specs.Weights.{step_weight, step_weight_in, weight}
use Rattle.trac_rules.proofs.Outcomes.{limited_within}
use Rattle.trac_rules.proofs.Restored.{before_of_restored, first_goes_back}
use Rattle.trac_rules.proofs.Scans.{gathered_in_shows}

-- ---- one byte more

take_next : (k : ℕ) (text : List ℕ) → take k text ++ take 1 (drop k text) ≡ take (suc k) text
take_next zero text = refl
take_next (suc k) [] = refl
take_next (suc k) (b ∷ text) = ap (λ (rest : List ℕ). b ∷ rest) (take_next k text)

drop_next : (k : ℕ) (text : List ℕ) → drop 1 (drop k text) ≡ drop (suc k) text
drop_next zero text = refl
drop_next (suc k) [] = refl
drop_next (suc k) (b ∷ text) = drop_next k text

-- no byte moved on
moved_none : (frames : List Frame) (s : State) → gathered_in frames [] (record s { frames = frames }) ≡ record s { frames = frames }
moved_none [] s = ap (λ (text : List ℕ). record s { base = text; frames = [] }) (append-nil s.base)
moved_none (f ∷ fs) s = ap (λ (text : List ℕ). record s { frames = record f { gathered = text } ∷ fs }) (append-nil f.gathered)

pub moved_on-zero : (s : State) → moved_on 0 s ≡ s
moved_on-zero s = moved_none s.frames s

-- and one more than k
gathers_next : (frames : List Frame) (k : ℕ) (s : State) →
    gathered_in frames (take (suc k) s.active) (record s { active = drop (suc k) s.active; frames = frames })
    ≡ gather_first (gathered_in frames (take k s.active) (record s { active = drop k s.active; frames = frames }))
gathers_next [] k s =
    let rest : drop (suc k) s.active ≡ drop 1 (drop k s.active) = sym (drop_next k s.active) in
    let text : s.base ++ take (suc k) s.active ≡ (s.base ++ take k s.active) ++ take 1 (drop k s.active) =
    ap (λ (more : List ℕ). s.base ++ more) (sym (take_next k s.active)) ∙ sym (append_assoc s.base (take k s.active) (take 1 (drop k s.active))) in
    λ i. record s { active = rest i; base = text i; frames = [] }
gathers_next (f ∷ fs) k s =
    let rest : drop (suc k) s.active ≡ drop 1 (drop k s.active) = sym (drop_next k s.active) in
    let text : f.gathered ++ take (suc k) s.active ≡ (f.gathered ++ take k s.active) ++ take 1 (drop k s.active) =
    ap (λ (more : List ℕ). f.gathered ++ more) (sym (take_next k s.active)) ∙ sym (append_assoc f.gathered (take k s.active) (take 1 (drop k s.active))) in
    λ i. record s { active = rest i; frames = record f { gathered = text i } ∷ fs }

pub moved_on-suc : (k : ℕ) (s : State) → moved_on (suc k) s ≡ gather_first (moved_on k s)
moved_on-suc k s = gathers_next s.frames k s

pub active-gathered : (frames : List Frame) (text : List ℕ) (s : State) → (gathered_in frames text s).active ≡ s.active
active-gathered [] text s = refl
active-gathered (f ∷ fs) text s = refl

moved_on-active : (k : ℕ) (s : State) → k < length s.active → (moved_on k s).active ≡ get_or s.active k 0 ∷ drop (k + 1) s.active
moved_on-active k s within = active-gathered s.frames (take k s.active) (deleted k s) ∙ drop_more s.active k 0 within

-- ---- the state stays proper

first_fits_in : (frames : List Frame) (s : State) →
    texts_fit (gathered_in frames (take 1 s.active) (record s { active = drop 1 s.active; frames = frames })) ≡ texts_fit (record s { frames = frames })
unfolding texts_fit
first_fits_in [] s =
    let parts : length (take 1 s.active) + length (drop 1 s.active) ≡ length s.active =
    sym (length-append (take 1 s.active) (drop 1 s.active)) ∙ ap (λ (text : List ℕ). length text) (take-append-drop 1 s.active) in
    let bytes : text_bytes (record s { active = drop 1 s.active; base = s.base ++ take 1 s.active; frames = [] }) ≡ text_bytes (record s { frames = [] }) =
    omega (arith, length-append s.base (take 1 s.active)) in
    ap (λ (n : ℕ). nat_le n TEXT_LIMIT && nat_le (marks []) MARK_LIMIT && nat_le (length s.output) OUTPUT_LIMIT) bytes
first_fits_in (f ∷ fs) s =
    let parts : length (take 1 s.active) + length (drop 1 s.active) ≡ length s.active =
    sym (length-append (take 1 s.active) (drop 1 s.active)) ∙ ap (λ (text : List ℕ). length text) (take-append-drop 1 s.active) in
    let bytes : text_bytes (record s { active = drop 1 s.active; frames = record f { gathered = f.gathered ++ take 1 s.active } ∷ fs }) ≡ text_bytes (record s { frames = f ∷ fs }) =
    omega (arith, length-append f.gathered (take 1 s.active)) in
    ap (λ (n : ℕ). nat_le n TEXT_LIMIT && nat_le (marks (f ∷ fs)) MARK_LIMIT && nat_le (length s.output) OUTPUT_LIMIT) bytes

first_fits : (s : State) → IsProper s → texts_fit (gather_first s) ≡ true
first_fits s proper = first_fits_in s.frames s ∙ proper.texts

first_proper : (s : State) → IsProper s → IsProper (gather_first s)
first_proper s proper = record {
  texts = first_fits s proper;
  storage = subst IsProperStorage (sym (gathered_in_shows storage_of (λ t active base frames. refl) s.frames (take 1 s.active) (deleted 1 s))) proper.storage;
}

pub moved_proper : (n : ℕ) (s : State) → IsProper s → IsProper (moved_on n s)
moved_proper zero s proper = subst IsProper (sym (moved_on-zero s)) proper
moved_proper (suc n) s proper = subst IsProper (sym (moved_on-suc n s)) (first_proper (moved_on n s) (moved_proper n s proper))

-- ---- there

plain_front : (b : ℕ) (rest : List ℕ) → is_plain b ≡ true → front_of (b ∷ rest) ≡ front.Plain
plain_front b rest plain = by_tests (b == OPENING) (b == CLOSING) (b == COMMA) (b == SHARP) (is_layout b) plain
  where
    by_tests : (opening closing comma sharp layout : Bool) →
        (not opening && not closing && not comma && not sharp && not layout) ≡ true →
        (if opening then front.Opening else
        if closing then front.Closing else
        if comma then front.Comma else
        if sharp then sharp_before rest else
        if layout then front.Layout else
        front.Plain) ≡ front.Plain
    by_tests true c m s l h = absurd (cc)
    by_tests false true m s l h = absurd (cc)
    by_tests false false true s l h = absurd (cc)
    by_tests false false false true l h = absurd (cc)
    by_tests false false false false true h = absurd (cc)
    by_tests false false false false false h = refl

plain_step : (e : Environment) (s : State) (b : ℕ) (rest : List ℕ) → IsProper s → s.active ≡ b ∷ rest → is_plain b ≡ true → step e s ≡ Ok (gather_first s)
unfolding step scan
plain_step e s b rest proper begins plain =
    ap (λ (at : Front). limited texts_fit (carried_out e (scan_at at s))) (ap front_of begins ∙ plain_front b rest plain)
    ∙ limited_within texts_fit (gather_first s) (first_fits s proper)

pub length-on_the_way : (n : ℕ) (s : State) → length (on_the_way n s) ≡ n
length-on_the_way zero s = refl
length-on_the_way (suc n) s = omega (arith, length-on_the_way n s)

-- the session when n bytes have moved on
abbrev further : ℕ → PlainSession → PlainSession
further n p = record p { earlier = on_the_way n p.last ++ p.earlier; last = moved_on n p.last }

one_further : (n : ℕ) (p : PlainSession) → step (over p.width p.tape) (moved_on n p.last) ≡ Ok (moved_on (suc n) p.last) → length p.earlier + suc n ≤ p.limit →
    accepted_by (answer Step (further n p)) ≡ Some (further (suc n) p)
unfolding answer
one_further n p stepped fits =
    let room : nat_lt (length (on_the_way n p.last ++ p.earlier)) p.limit ≡ true =
    lt-ltb (length (on_the_way n p.last ++ p.earlier)) p.limit (omega (arith, length-append (on_the_way n p.last) p.earlier, length-on_the_way n p.last)) in
    ap (λ (b : Bool). accepted_by (if b then stepped_to (step (over p.width p.tape) (moved_on n p.last)) (further n p) else refused JournalFull (further n p))) room
    ∙ ap (λ (x : Result State Refusal). accepted_by (stepped_to x (further n p))) stepped

pub plain_bytes_there : (n : ℕ) (p : PlainSession) → IsProper p.last → BeginsPlain n p.last → length p.earlier + n ≤ p.limit →
    repeated Step n p ≡ Some (further n p)
plain_bytes_there zero p proper plain fits = ap (λ (s : State). Some (record p { last = s })) (sym (moved_on-zero p.last))
plain_bytes_there (suc n) p proper plain fits =
    let earlier : BeginsPlain n p.last = record { within = omega (arith, plain.within); each = λ k less. plain.each k (omega arith) } in
    let inside : n < length p.last.active = omega (arith, plain.within) in
    let stepped : step (over p.width p.tape) (moved_on n p.last) ≡ Ok (gather_first (moved_on n p.last)) =
    plain_step (over p.width p.tape) (moved_on n p.last) (get_or p.last.active n 0) (drop (n + 1) p.last.active) (moved_proper n p.last proper)
    (moved_on-active n p.last inside) (plain.each n (omega arith)) in
    ap (option_and_then (λ (q : PlainSession). accepted_by (answer Step q))) (plain_bytes_there n p proper earlier (omega arith))
    ∙ one_further n p (stepped ∙ ap Ok (sym (moved_on-suc n p.last))) fits

-- ---- and back

pub moved_byte_back : (n : ℕ) (s : State) → IsProper s → n + 1 ≤ length s.active → state_before Moved (moved_on (suc n) s) ≡ Some (moved_on n s)
moved_byte_back n s proper within =
    let u : State = moved_on n s in
    let begins : u.active ≡ get_or s.active n 0 ∷ drop (n + 1) s.active = moved_on-active n s (omega arith) in
    let shape : u.active ≡ get_or u.active 0 0 ∷ drop 1 u.active =
    begins ∙ sym (ap (λ (text : List ℕ). get_or text 0 0 ∷ drop 1 text) begins) in
    ap (state_before Moved) (moved_on-suc n s) ∙ before_of_restored Moved u (gather_first u) (moved_proper n s proper) (first_goes_back u shape)

pub moved_bytes_back : (n : ℕ) (s : State) → IsProper s → n ≤ length s.active → led_back (replicate n Moved) (moved_on n s) ≡ Some s
moved_bytes_back zero s proper within = ap Some (moved_on-zero s)
moved_bytes_back (suc n) s proper within =
    ap (option_and_then (led_back (replicate n Moved))) (moved_byte_back n s proper (omega arith))
    ∙ moved_bytes_back n s proper (omega arith)

pub moved_byte_weighs : (n : ℕ) (s : State) → n < length s.active → is_plain (get_or s.active n 0) ≡ true → step_weight (moved_on n s) ≡ 0
unfolding scan
moved_byte_weighs n s within plain =
    let u : State = moved_on n s in
    let at_plain : front_of u.active ≡ front.Plain = ap front_of (moved_on-active n s within) ∙ plain_front (get_or s.active n 0) (drop (n + 1) s.active) plain in
    ap (λ (at : Front). step_weight_in u (scan_at at u)) at_plain ∙ ap (λ (at : Front). weight (recorded_at at u)) at_plain
