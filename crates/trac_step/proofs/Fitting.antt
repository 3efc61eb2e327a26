-- What fits the entries of a journal, and what a step keeps.
use Rattle.std.proofs.Common.{◌≡◌, ℕ, ◌+◌, ◌<◌, ◌≤◌, ◌^◌, Bool, true, false, List, [], ◌∷◌, length, drop, refl, sym, ap, subst, arith}
use Rattle.std.specs.Prelude.{Option, Some, None, Result, Ok, Err, OnOk, nat_le, ◌&&◌, option_and_then}
use Rattle.std.specs.List.{concat}
use Rattle.std.proofs.lemmas.Bool.{and_parts, leb-true}
use Rattle.std.proofs.lemmas.List.{length-append, length-take}
use Rattle.trac_rules.specs.declared.refusal.Refusal.{Refusal}
use Rattle.trac_rules.specs.declared.scan.Front.{Front}
use Rattle.trac_rules.specs.declared.scan.Front.TheVariants as front
use Rattle.trac_rules.specs.declared.limit.TheConstants.{MARK_LIMIT, TEXT_LIMIT}
use Rattle.trac_rules.specs.declared.width.Width.TheVariants.{W128}
use Rattle.trac_rules.specs.Limits.{argument_bytes, marks, text_bytes}
use Rattle.trac_rules.specs.Matching.{match_of, protected, protected_up_to}
use Rattle.trac_rules.specs.Proper.{IsProper}
use Rattle.trac_rules.specs.Records.{Called, CallRecord, Idle, Quoted, Record, Texts, begun_again, comma_recorded, end_taken_in, record_of, recorded, recorded_at, rest_of, texts_before, texts_in, value_taken}
use Rattle.trac_rules.specs.Scanning.{Scanned, closing_in, deleted, front_of, scan}
use Rattle.trac_rules.specs.State.{Environment, Frame, State}
use Rattle.trac_rules.specs.Stepping.{step}
use Rattle.trac_rules.specs.Undone.{Undone}
use Rattle.trac_rules.proofs.Bounded.{loss_bounded}
use Rattle.trac_rules.proofs.CallsBack.{record_leads_back}
use Rattle.trac_rules.proofs.CallsWeighed.{record_within}
use Rattle.trac_text.specs.Frames.{all_arguments}
use Rattle.trac_journal.specs.declared.called.Called as code
use Rattle.trac_journal.specs.Journaled.{IsLight}
use Rattle.trac_journal.specs.Told.{FitsEntry, record_with}
use Rattle.trac_text.specs.Ruled.{said_by}
use Rattle.trac_text.specs.declared.scanning.Short.{Short}
use Rattle.trac_text.specs.declared.scanning.Short.TheVariants as short
use Rattle.trac_step.specs.Calling.{IsMove, arguments_in}
use Rattle.trac_step.specs.Kept.{FitsJournal, IsAdded, IsKept}
use Rattle.trac_text.proofs.ScanningBack.{then_is}
use Rattle.trac_text.proofs.TakenOut.{sizes_of}
use Rattle.trac_storage.proofs.Judged.{limits_kept}
use Rattle.trac_step.proofs.Reading.{read_of_call}
use Rattle.trac_step.proofs.Recorded.{call_parts, move_recorded, recorded_front}
use Rattle.trac_step.proofs.Scans.{scan_front}

-- ---- short records

-- what is protected is within the text
protected_within : (text : List ℕ) → length (protected text).inner ≤ length text
protected_within text = by_match (match_of text)
  where
    by_match : (o : Option ℕ) → length (protected_up_to o text).inner ≤ length text
    by_match None = omega arith
    by_match (Some k) = omega (arith, length-take k text)

-- so its length fits an entry
quoted_fits : (s : State) (inner : ℕ) (closed : Bool) → IsProper s → Quoted inner closed ≡ recorded s → inner < 2 ^ 32
quoted_fits s inner closed proper is = by_front (front_of s.active) is
  where
    by_frames : (fs : List Frame) → Quoted inner closed ≡ comma_recorded fs s → inner < 2 ^ 32
    by_frames [] h = absurd (cc)
    by_frames (f ∷ fs) h = absurd (cc)

    by_front : (at : Front) → Quoted inner closed ≡ recorded_at at s → inner < 2 ^ 32
    by_front front.Opening h =
        let same : inner ≡ length (protected (drop 1 s.active)).inner = cc in
        let kept = limits_kept s proper.texts in
        omega (arith, same, protected_within (drop 1 s.active), length-take 1 s.active, dropped_within s.active, kept.text)
      where
        dropped_within : (xs : List ℕ) → length (drop 1 xs) ≤ length xs
        dropped_within [] = omega arith
        dropped_within (x ∷ xs) = omega arith
    by_front front.Nothing h = absurd (cc)
    by_front front.Layout h = absurd (cc)
    by_front front.Comma h = by_frames s.frames h
    by_front front.ActiveCall h = absurd (cc)
    by_front front.NeutralCall h = absurd (cc)
    by_front front.Sharp h = absurd (cc)
    by_front front.Closing h = absurd (cc)
    by_front front.Plain h = absurd (cc)

pub short_fits : (r : Short) (s : State) → IsProper s → said_by r ≡ recorded s → FitsEntry r
short_fits short.Moved s proper is = tt
short_fits short.Comma s proper is = tt
short_fits short.Begun s proper is = tt
short_fits (short.Quoted inner closed) s proper is = quoted_fits s inner closed proper is
short_fits (short.Deleted b) s proper is = tt

-- ---- what a step keeps is light

light_record : (e : Environment) (s : State) (r : Record) → IsProper s → record_of e s ≡ Some r → IsLight r
light_record e s r proper is = omega (arith, record_within e s r is, loss_bounded s proper)

-- all texts, where they are emptied
pub idle_light : (s : State) → IsProper s → front_of s.active ≡ front.Nothing → IsLight (Idle s.base s.frames)
idle_light s proper is =
    let e : Environment = record { tape = record { bytes = []; ended = false }; width = W128 } in
    let moves : IsMove (scan s) = subst IsMove (sym (scan_front s front.Nothing is)) tt in
    subst IsLight (recorded_front s front.Nothing is) (light_record e s (recorded s) proper (move_recorded e s moves))

-- ---- the numbers of a call

-- the arguments of the call at which a state stands
pub record AreWithin (s : State) (arguments : List (List ℕ)) : Type 0 where
  pub count : length arguments ≤ MARK_LIMIT
  pub bytes : length (concat arguments) ≤ TEXT_LIMIT

pub arguments_within : (s : State) → front_of s.active ≡ front.Closing → 0 < length s.frames → IsProper s → AreWithin s (arguments_in (scan s))
arguments_within s is inside proper =
    subst (λ (x : Scanned). AreWithin s (arguments_in x)) (sym (scan_front s front.Closing is)) (by_frames s.frames refl inside)
  where
    by_frames : (fs : List Frame) → s.frames ≡ fs → 0 < length fs → AreWithin s (arguments_in (closing_in fs (deleted 1 s)))
    by_frames [] same h = absurd (omega (arith, h))
    by_frames (f ∷ fs) same h =
        let kept = limits_kept s proper.texts in
        let sizes = sizes_of f (all_arguments f) refl in
        record {
          count = omega (arith, kept.marked, ap marks same, all_count f);
          bytes = omega (arith, kept.text, ap argument_bytes same, sizes.1);
        }
      where
        all_count : (f : Frame) → length (all_arguments f) ≡ length f.arguments + 1
        all_count f = length-append f.arguments (f.gathered ∷ [])

-- a value that is there is within the texts
value_within : (scanned : Bool) (n : ℕ) (t : State) (texts : Texts) → value_taken scanned n (texts_in t) ≡ Some texts → n ≤ text_bytes t
value_within true n t texts h =
    let within = leb-true n (length t.active) (then_is (nat_le n (length t.active)) _ texts h).0 in
    omega (arith, within)
value_within false n t texts h = by_frames t.frames refl h
  where
    by_frames : (fs : List Frame) → t.frames ≡ fs → end_taken_in fs n (texts_in t) ≡ Some texts → n ≤ text_bytes t
    by_frames [] same h =
        let within = leb-true n (length t.base) (then_is (nat_le n (length t.base)) _ texts h).0 in
        omega (arith, within)
    by_frames (f ∷ fs) same h =
        let within = leb-true n (length f.gathered) (then_is (nat_le n (length f.gathered)) _ texts h).0 in
        omega (arith, within, ap argument_bytes same)

value_of_call : (call : CallRecord) (s t : State) → texts_before call (texts_in t) ≡ Some (texts_in s) → call.value ≤ text_bytes t
value_of_call call s t h = by_taken (value_taken call.scanned call.value (texts_in t)) refl h
  where
    by_taken : (o : Option Texts) → value_taken call.scanned call.value (texts_in t) ≡ o → option_and_then (begun_again call.kind call.arguments) o ≡ Some (texts_in s) → call.value ≤ text_bytes t
    by_taken None is h = absurd (let none : None ≡ Some (texts_in s) = h in cc)
    by_taken (Some texts) is h = value_within call.scanned call.value t texts is

-- the record of a call that is taken fits
pub call_fits : (e : Environment) (s t : State) (called : code.Called) (undone : Undone) → IsProper s → IsProper t → front_of s.active ≡ front.Closing → 0 < length s.frames → step e s ≡ Ok t →
    record_of e s ≡ Some (Called (record_with called (arguments_in (scan s)) undone)) → FitsJournal called (arguments_in (scan s)) undone
call_fits e s t called undone proper after is inside taken kept =
    let call = record_with called (arguments_in (scan s)) undone in
    let back = call_parts e s t (Called call) call taken kept refl in
    let within = arguments_within s is inside proper in
    let rest = then_is (nat_le call.read t.position && nat_le call.printed (length t.output)) _ (rest_of s) back.2 in
    let both = and_parts (nat_le call.read t.position) (nat_le call.printed (length t.output)) rest.0 in
    let limits = limits_kept t after.texts in
    let value = value_of_call call s t back.0 in
    record {
      small = record {
        value = omega (arith, value, limits.text);
        printed = omega (arith, leb-true call.printed (length t.output) both.1, limits.output);
        read = omega (arith, value, limits.text, read_of_call e s call is inside kept);
        bytes = omega (arith, within.bytes);
        arguments = omega (arith, within.count);
      };
      light = light_record e s (Called call) proper kept;
    }

-- ---- a record is kept

-- the record that is added is that of the step, and leads back
pub kept_by : {R : Type 0} (r : Result R Refusal) (e : Environment) (s t : State) (old new : List Record) → IsProper s → OnOk r (step e s ≡ Ok t) →
    OnOk r (IsAdded (record_of e s) old new) → OnOk r (IsKept e s t old new)
kept_by (Err refusal) e s t old new proper taken added = tt
kept_by (Ok x) e s t old new proper taken added = by_record (record_of e s) refl added
  where
    by_record : (o : Option Record) → record_of e s ≡ o → IsAdded o old new → IsKept e s t old new
    by_record None is h = absurd h
    by_record (Some r) is h = record {
      newest = r;
      of_step = is;
      leads_back = record_leads_back e s t r proper taken is;
      weighs = record_within e s r is;
      added = h;
    }

-- where the record is known, it is added
pub added_as : {R : Type 0} (r : Result R Refusal) (wanted : Option Record) (kept : Record) (old new : List Record) → wanted ≡ Some kept → OnOk r (new ≡ kept ∷ old) →
    OnOk r (IsAdded wanted old new)
added_as (Ok x) wanted kept old new is h = subst (λ (o : Option Record). IsAdded o old new) (sym is) h
added_as (Err refusal) wanted kept old new is h = tt
