-- The state before a step is got back from its record and the state after it.
use Rattle.std.proofs.Common.{◌≡◌, ℕ, ◌+◌, ◌-◌, ◌<◌, Bool, true, false, List, [], ◌∷◌, ◌++◌, length, take, drop, get_or, refl, sym, ap, subst, ◌∙◌, arith, ⊎_elim}
use Rattle.std.specs.Prelude.{Option, None, Some, Ok, nat_le, nat_eq, codes, is_some, if◌then◌else◌, option_map, option_and_then, ◌==◌, ◌&&◌}
use Rattle.std.specs.Bool.{then_some}
use Rattle.std.specs.List.{starts_with}
use Rattle.std.proofs.lemmas.Bool.{eqb-true, le-leb}
use Rattle.std.proofs.lemmas.Bool.Decides.{Decides-eqb}
use Rattle.std.proofs.lemmas.List.{append-nil, drop_at, length-append, reverse-append, reverse-reverse, take-append-drop, take_at}
use Rattle.std.proofs.lemmas.Option.{option_and_then_some}
use Rattle.std.proofs.lemmas.Slice.Eq.{starts_is}
use Rattle.trac_rules.specs.declared.byte.TheConstants.{OPENING, CLOSING, COMMA, SHARP}
use Rattle.trac_rules.specs.declared.kind.Kind.TheVariants.{Active, Neutral}
use Rattle.trac_rules.specs.declared.scan.Front.{Front}
use Rattle.trac_rules.specs.declared.scan.Front.TheVariants as front
use Rattle.trac_rules.specs.Limits.{texts_fit}
use Rattle.trac_rules.specs.Matching.{closes_at, match_of, protected, protected_up_to}
use Rattle.trac_rules.specs.Performing.{beginning_of}
use Rattle.trac_rules.specs.Proper.{IsProper, is_proper}
use Rattle.trac_rules.specs.Records.{Record, Moved, Comma, Begun, Quoted, Deleted, Idle, Called, IsOfScanning, all_before_last, comma_recorded, deletion, ending_of, frame_of, gathered_again_in, is_idle, last_of, moved_back, moved_back_in, not_begun_in, put_before, recorded, recorded_at, restored, state_before}
use Rattle.trac_rules.specs.Scanning.{Scanned, Moves, Calls, closing_in, comma_in, deleted, front_of, gather, gather_first, is_layout, scan, scan_at, sharp_before}
use Rattle.trac_rules.specs.State.{Environment, Frame, State}
use Rattle.trac_rules.specs.Stepping.{carried_out, step}
use Rattle.trac_rules.proofs.Balanced.{first_place_cases, match_at, match_none, split_at_closing}
use Rattle.trac_rules.proofs.Outcomes.{limited_Ok}
use Rattle.trac_rules.proofs.ProperDecided.{proper_decided}

-- ---- what the active text begins with

-- a text begins as its front says
abbrev pub BeginsSo : Front → List ℕ → Type 0
BeginsSo front.Nothing text = text ≡ []
BeginsSo front.Opening text = text ≡ codes "(" ++ drop 1 text
BeginsSo front.Comma text = text ≡ codes "," ++ drop 1 text
BeginsSo front.Closing text = text ≡ codes ")" ++ drop 1 text
BeginsSo front.ActiveCall text = text ≡ beginning_of Active ++ drop 2 text
BeginsSo front.NeutralCall text = text ≡ beginning_of Neutral ++ drop 3 text
BeginsSo front text = text ≡ get_or text 0 0 ∷ drop 1 text

-- a `#` before a text
sharp_begins : (rest : List ℕ) (b : ℕ) → b ≡ SHARP → BeginsSo (sharp_before rest) (b ∷ rest)
sharp_begins rest b sharp =
    by_tests (starts_with nat_eq rest (codes "(")) (starts_with nat_eq rest (codes "#("))
    (starts_is Decides-eqb rest (codes "(") (starts_with nat_eq rest (codes "(")) refl).0
    (starts_is Decides-eqb rest (codes "#(") (starts_with nat_eq rest (codes "#(")) refl).0
  where
    by_tests : (one two : Bool) → (one ≡ true → rest ≡ codes "(" ++ drop 1 rest) → (two ≡ true → rest ≡ codes "#(" ++ drop 2 rest) →
        BeginsSo (if one then front.ActiveCall else if two then front.NeutralCall else front.Sharp) (b ∷ rest)
    by_tests true two first second = let e : rest ≡ codes "(" ++ drop 1 rest = first refl in λ i. sharp i ∷ e i
    by_tests false true first second = let e : rest ≡ codes "#(" ++ drop 2 rest = second refl in λ i. sharp i ∷ e i
    by_tests false false first second = refl

pub begins_so : (text : List ℕ) → BeginsSo (front_of text) text
begins_so [] = refl
begins_so (b ∷ rest) =
    by_tests (b == OPENING) (b == CLOSING) (b == COMMA) (b == SHARP) (is_layout b)
    (eqb-true b OPENING) (eqb-true b CLOSING) (eqb-true b COMMA) (eqb-true b SHARP)
  where
    by_tests : (opening closing comma sharp layout : Bool) → (opening ≡ true → b ≡ OPENING) → (closing ≡ true → b ≡ CLOSING) →
        (comma ≡ true → b ≡ COMMA) → (sharp ≡ true → b ≡ SHARP) →
        BeginsSo (
        if opening then front.Opening else
        if closing then front.Closing else
        if comma then front.Comma else
        if sharp then sharp_before rest else
        if layout then front.Layout else
        front.Plain
        ) (b ∷ rest)
    by_tests true c m s l is_opening is_closing is_comma is_sharp = ap (λ x. x ∷ rest) (is_opening refl)
    by_tests false true m s l is_opening is_closing is_comma is_sharp = ap (λ x. x ∷ rest) (is_closing refl)
    by_tests false false true s l is_opening is_closing is_comma is_sharp = ap (λ x. x ∷ rest) (is_comma refl)
    by_tests false false false true l is_opening is_closing is_comma is_sharp = sharp_begins rest b (is_sharp refl)
    by_tests false false false false true is_opening is_closing is_comma is_sharp = refl
    by_tests false false false false false is_opening is_closing is_comma is_sharp = refl

-- ---- the end of a text

last_of-append : (text more : List ℕ) → last_of (length more) (text ++ more) ≡ more
last_of-append text more = drop_at text more (length (text ++ more) - length more) (omega (arith, length-append text more))

pub all_before_last-append : (text more : List ℕ) → all_before_last (length more) (text ++ more) ≡ text
all_before_last-append text more = take_at text more (length (text ++ more) - length more) (omega (arith, length-append text more))

pub fits-append : (text more : List ℕ) → nat_le (length more) (length (text ++ more)) ≡ true
fits-append text more = le-leb (length more) (length (text ++ more)) (omega (arith, length-append text more))

-- what was gathered goes back, also where a text was put before the active text since
pub moved_back-gather : (frames : List Frame) (text more : List ℕ) (s : State) →
    moved_back (length text) (put_before more (gather text (record s { frames = frames }))) ≡ Some (put_before text (put_before more (record s { frames = frames })))
moved_back-gather [] text more s = rw (fits-append s.base text, last_of-append s.base text, all_before_last-append s.base text) refl
moved_back-gather (f ∷ fs) text more s = rw (fits-append f.gathered text, last_of-append f.gathered text, all_before_last-append f.gathered text) refl

pub frame_of-last : (f : Frame) → frame_of f.kind (f.arguments ++ f.gathered ∷ []) ≡ Some f
frame_of-last f = rw (reverse-append f.arguments (f.gathered ∷ []), reverse-reverse f.arguments) refl

-- ---- what is protected

match_splits : (text : List ℕ) (k : ℕ) → match_of text ≡ Some k → text ≡ take k text ++ CLOSING ∷ drop (k + 1) text
match_splits text k found =
    ⊎_elim
    (λ (none : (j : ℕ) → j < length text → closes_at text j ≡ false). absurd (let missing : match_of text ≡ None = match_none text none in cc))
    (λ (some : (j : ℕ) × (j < length text) × (closes_at text j ≡ true) × ((i : ℕ) → i < j → closes_at text i ≡ false)).
    let there : match_of text ≡ Some some.0 = match_at text some.0 some.2 some.3 some.1 in
    let same : some.0 ≡ k = cc in
    subst (λ (j : ℕ). text ≡ take j text ++ CLOSING ∷ drop (j + 1) text) same (split_at_closing text some.0 some.2 some.1))
    (first_place_cases (closes_at text) (length text))

protected_parts : (text : List ℕ) → text ≡ (protected text).inner ++ (ending_of (is_some (match_of text)) ++ (protected text).rest)
protected_parts text = by_match (match_of text) refl
  where
    by_match : (m : Option ℕ) → match_of text ≡ m → text ≡ (protected_up_to m text).inner ++ (ending_of (is_some m) ++ (protected_up_to m text).rest)
    by_match None found = sym (append-nil text)
    by_match (Some k) found = match_splits text k found

-- ---- scanning

-- what scanning leads to is led back by a record, where it moves on
abbrev GoesBack : State → Record → Scanned → Type 0
GoesBack s r (Moves t) = restored r t ≡ Some s
GoesBack s r (Calls call) = Unit {0}

pub first_goes_back : (s : State) → s.active ≡ get_or s.active 0 0 ∷ drop 1 s.active → restored Moved (gather_first s) ≡ Some s
first_goes_back s e =
    let one : length (take 1 s.active) ≡ 1 = ap (λ (text : List ℕ). length (take 1 text)) e in
    ap (λ (n : ℕ). moved_back n (gather_first s)) (sym one)
    ∙ moved_back-gather s.frames (take 1 s.active) [] (deleted 1 s)
    ∙ ap (λ (text : List ℕ). Some (record s { active = text })) (take-append-drop 1 s.active)

protected_goes_back : (s : State) → s.active ≡ codes "(" ++ drop 1 s.active → GoesBack s (recorded_at front.Opening s) (scan_at front.Opening s)
protected_goes_back s e =
    let text : List ℕ = drop 1 s.active in
    let end : List ℕ = ending_of (is_some (match_of text)) in
    ap (option_map (put_before (codes "("))) (moved_back-gather s.frames (protected text).inner end (record s { active = (protected text).rest }))
    ∙ ap (λ (all : List ℕ). Some (record s { active = codes "(" ++ all })) (sym (protected_parts text))
    ∙ ap (λ (all : List ℕ). Some (record s { active = all })) (sym e)

-- a comma goes back to the active text
comma_goes_back : (frames : List Frame) (s : State) → s.active ≡ codes "," ++ drop 1 s.active →
    GoesBack (record s { frames = frames }) (comma_recorded frames s) (Moves (comma_in frames (deleted 1 (record s { frames = frames }))))
comma_goes_back [] s e =
    let first : get_or s.active 0 0 ≡ COMMA = ap (λ (text : List ℕ). get_or text 0 0) e in
    let whole : get_or s.active 0 0 ∷ drop 1 s.active ≡ s.active = ap (λ (b : ℕ). b ∷ drop 1 s.active) first ∙ sym e in
    ap (λ (text : List ℕ). Some (record s { active = text; frames = [] })) whole
comma_goes_back (f ∷ fs) s e =
    ap (option_map (λ (g : Frame). put_before (codes ",") (record s { active = drop 1 s.active; frames = g ∷ fs }))) (frame_of-last f)
    ∙ ap (λ (text : List ℕ). Some (record s { active = text; frames = f ∷ fs })) (sym e)

-- and so does a `)` outside any function
closing_goes_back : (frames : List Frame) (s : State) → s.active ≡ codes ")" ++ drop 1 s.active →
    GoesBack (record s { frames = frames }) (deletion (record s { frames = frames })) (closing_in frames (deleted 1 (record s { frames = frames })))
closing_goes_back [] s e =
    let first : get_or s.active 0 0 ≡ CLOSING = ap (λ (text : List ℕ). get_or text 0 0) e in
    let whole : get_or s.active 0 0 ∷ drop 1 s.active ≡ s.active = ap (λ (b : ℕ). b ∷ drop 1 s.active) first ∙ sym e in
    ap (λ (text : List ℕ). Some (record s { active = text; frames = [] })) whole
closing_goes_back (f ∷ fs) s e = tt

goes_back_at : (at : Front) (s : State) → BeginsSo at s.active → GoesBack s (recorded_at at s) (scan_at at s)
goes_back_at front.Opening s e = protected_goes_back s e
goes_back_at front.Comma s e = comma_goes_back s.frames s e
goes_back_at front.Sharp s e = first_goes_back s e
goes_back_at front.Closing s e = closing_goes_back s.frames s e
goes_back_at front.Plain s e = first_goes_back s e
goes_back_at other s e = ap (λ (text : List ℕ). Some (record s { active = text })) (sym e)

scan_goes_back : (s : State) → GoesBack s (recorded s) (scan s)
unfolding scan
scan_goes_back s = goes_back_at (front_of s.active) s (begins_so s.active)

-- ---- a step

pub moved_goes_back : (e : Environment) (s t u : State) → scan s ≡ Moves u → step e s ≡ Ok t → restored (recorded s) t ≡ Some s
unfolding step
moved_goes_back e s t u scanned h =
    let back : restored (recorded s) u ≡ Some s = subst (GoesBack s (recorded s)) scanned (scan_goes_back s) in
    let after : carried_out e (scan s) ≡ Ok t = (limited_Ok texts_fit (carried_out e (scan s)) t h).0 in
    let done : carried_out e (Moves u) ≡ Ok t = ap (carried_out e) (sym scanned) ∙ after in
    let same : u ≡ t = cc in
    subst (λ (v : State). restored (recorded s) v ≡ Some s) same back

pub before_of_restored : (r : Record) (s t : State) → IsProper s → restored r t ≡ Some s → state_before r t ≡ Some s
unfolding state_before
before_of_restored r s t proper back =
    ap (option_and_then (λ (u : State). then_some (is_proper u) u)) back ∙ ap (λ (b : Bool). then_some b s) ((proper_decided s).1 proper)

pub restored_of_before : (r : Record) (s t : State) → state_before r t ≡ Some s → (restored r t ≡ Some s) × IsProper s
unfolding state_before
restored_of_before r s t h =
    option_and_then_some (λ (u : State). then_some (is_proper u) u) (restored r t) s h (λ u back. by_test u (is_proper u) refl back)
  where
    by_test : (u : State) (b : Bool) → is_proper u ≡ b → restored r t ≡ Some u → then_some b u ≡ Some s → (restored r t ≡ Some s) × IsProper s
    by_test u true is back same = let one : u ≡ s = cc in subst (λ (v : State). (restored r t ≡ Some v) × IsProper v) one (back, (proper_decided u).0 is)
    by_test u false is back same = absurd (cc)

pub before_proper : (r : Record) (s t : State) → state_before r t ≡ Some s → IsProper s
before_proper r s t h = (restored_of_before r s t h).1

-- ---- records name no place of tape or output

-- a state at another place of a tape, and with another output
abbrev pub elsewhere : ℕ → List ℕ → State → State
elsewhere position output s = record s { position = position; output = output }

then_some-map : (f : State → State) (b : Bool) (s : State) → then_some b (f s) ≡ option_map f (then_some b s)
then_some-map f true s = refl
then_some-map f false s = refl

moved_back-elsewhere : (p : ℕ) (o : List ℕ) (frames : List Frame) (n : ℕ) (t : State) →
    moved_back_in frames n (elsewhere p o t) ≡ option_map (elsewhere p o) (moved_back_in frames n t)
moved_back-elsewhere p o [] n t =
    then_some-map (elsewhere p o) (nat_le n (length t.base)) (put_before (last_of n t.base) (record t { base = all_before_last n t.base }))
moved_back-elsewhere p o (f ∷ fs) n t =
    then_some-map (elsewhere p o) (nat_le n (length f.gathered))
    (put_before (last_of n f.gathered) (record t { frames = record f { gathered = all_before_last n f.gathered } ∷ fs }))

gathered_again-elsewhere : (p : ℕ) (o : List ℕ) (frames : List Frame) (t : State) →
    gathered_again_in frames (elsewhere p o t) ≡ option_map (elsewhere p o) (gathered_again_in frames t)
gathered_again-elsewhere p o [] t = refl
gathered_again-elsewhere p o (f ∷ fs) t = by_parts (length f.gathered == 0) (frame_of f.kind f.arguments)
  where
    by_parts : (b : Bool) (g : Option Frame) →
        (if b then option_map (λ (h : Frame). put_before (codes ",") (record (elsewhere p o t) { frames = h ∷ fs })) g else None)
        ≡ option_map (elsewhere p o) (if b then option_map (λ (h : Frame). put_before (codes ",") (record t { frames = h ∷ fs })) g else None)
    by_parts true None = refl
    by_parts true (Some g) = refl
    by_parts false g = refl

not_begun-elsewhere : (p : ℕ) (o : List ℕ) (frames : List Frame) (t : State) →
    not_begun_in frames (elsewhere p o t) ≡ option_map (elsewhere p o) (not_begun_in frames t)
not_begun-elsewhere p o [] t = refl
not_begun-elsewhere p o (f ∷ fs) t =
    then_some-map (elsewhere p o) (length f.arguments == 0 && length f.gathered == 0) (put_before (beginning_of f.kind) (record t { frames = fs }))

before-elsewhere : (p : ℕ) (o text : List ℕ) (x : Option State) →
    option_map (put_before text) (option_map (elsewhere p o) x) ≡ option_map (elsewhere p o) (option_map (put_before text) x)
before-elsewhere p o text None = refl
before-elsewhere p o text (Some s) = refl

-- what a record of scanning restores stands at the place of the state after, and has its output
pub restored-elsewhere : (r : Record) (t : State) (p : ℕ) (o : List ℕ) → IsOfScanning r →
    restored r (elsewhere p o t) ≡ option_map (elsewhere p o) (restored r t)
restored-elsewhere Moved t p o of = moved_back-elsewhere p o t.frames 1 t
restored-elsewhere Comma t p o of = gathered_again-elsewhere p o t.frames t
restored-elsewhere Begun t p o of = not_begun-elsewhere p o t.frames t
restored-elsewhere (Quoted inner closed) t p o of =
    ap (option_map (put_before (codes "("))) (moved_back-elsewhere p o t.frames inner (put_before (ending_of closed) t))
    ∙ before-elsewhere p o (codes "(") (moved_back inner (put_before (ending_of closed) t))
restored-elsewhere (Deleted b) t p o of = refl
restored-elsewhere (Idle base frames) t p o of =
    then_some-map (elsewhere p o) (is_idle t) (record t { active = []; base = base; frames = frames })
restored-elsewhere (Called call) t p o of = absurd of
