-- A record names no place of tape or output: where the state after stands further on, so does the state before.
use Rattle.std.proofs.Common.{◌≡◌, ℕ, ◌+◌, ◌-◌, ◌≤◌, Bool, true, false, List, ◌++◌, length, take, sym, ap, ◌∙◌, arith, ⊎_elim}
use Rattle.std.specs.Prelude.{Option, None, Some, nat_le, ◌&&◌, option_map}
use Rattle.std.specs.Bool.{then_some}
use Rattle.std.specs.Option.{unwrap_or}
use Rattle.std.proofs.Math.Seq.{take-append-add}
use Rattle.std.proofs.lemmas.Bool.{and_from, and_parts, cases_Bool, le-leb, leb-true}
use Rattle.std.proofs.lemmas.List.{length-append}
use Rattle.trac_rules.specs.Records.{CallRecord, Record, Called, IsOfScanning, Rest, Texts, all_before_last, further_on, put_together, rest_before, rest_of, restored, state_of, texts_before, texts_in}
use Rattle.trac_rules.specs.State.{State, Storage, storage_of}
use Rattle.trac_rules.specs.Undone.{storage_before}
use Rattle.trac_rules.proofs.Restored.{elsewhere, restored-elsewhere}

-- ---- records of scanning

pub stands_there : (r : Record) (s t : State) → IsOfScanning r → restored r t ≡ Some s → (s.position ≡ t.position) × (s.output ≡ t.output)
stands_there r s t of back =
    let there : Some s ≡ Some (elsewhere t.position t.output s) =
    sym back ∙ restored-elsewhere r t t.position t.output of ∙ ap (option_map (elsewhere t.position t.output)) back in
    let same : s ≡ elsewhere t.position t.output s = cc in
    (ap (λ (u : State). u.position) same, ap (λ (u : State). u.output) same)

scanning_further_on : (k : ℕ) (o : List ℕ) (r : Record) (s t : State) → IsOfScanning r → restored r t ≡ Some s → restored r (further_on k o t) ≡ Some (further_on k o s)
scanning_further_on k o r s t of back =
    let same = stands_there r s t of back in
    restored-elsewhere r t (k + t.position) (o ++ t.output) of
    ∙ ap (option_map (elsewhere (k + t.position) (o ++ t.output))) back
    ∙ (λ i. Some (record s { position = k + sym same.0 i; output = o ++ sym same.1 i }))

-- ---- a call

-- all but the last n bytes of a text with another before it
pub all_before_last-further : (o text : List ℕ) (n : ℕ) → n ≤ length text → all_before_last n (o ++ text) ≡ o ++ all_before_last n text
all_before_last-further o text n fits =
    let count : length (o ++ text) - n ≡ length o + (length text - n) = omega (arith, length-append o text, fits) in
    ap (λ (m : ℕ). take m (o ++ text)) count ∙ take-append-add o text (length text - n)

-- the rest before a call, of which the record says this
abbrev pub rest_said : CallRecord → Rest → Rest
rest_said call r = record {
  meta = unwrap_or call.meta r.meta;
  trace = call.trace;
  position = r.position - call.read;
  output = all_before_last call.printed r.output;
}

-- the rest of a state that stands further on
abbrev rest_further : ℕ → List ℕ → Rest → Rest
rest_further k o rest = record rest { position = k + rest.position; output = o ++ rest.output }

rest_further_on : (k : ℕ) (o : List ℕ) (call : CallRecord) (rest before : Rest) → rest_before call rest ≡ Some before →
    rest_before call (rest_further k o rest) ≡ Some (rest_further k o before)
rest_further_on k o call rest before back =
    ⊎_elim
    (λ (t : nat_le call.read rest.position && nat_le call.printed (length rest.output) ≡ true).
    let parts = and_parts (nat_le call.read rest.position) (nat_le call.printed (length rest.output)) t in
    let read = leb-true call.read rest.position parts.0 in
    let printed = leb-true call.printed (length rest.output) parts.1 in
    let reads : nat_le call.read (k + rest.position) ≡ true = le-leb call.read (k + rest.position) (omega (arith, read)) in
    let prints : nat_le call.printed (length (o ++ rest.output)) ≡ true =
    le-leb call.printed (length (o ++ rest.output)) (omega (arith, printed, length-append o rest.output)) in
    let fits = and_from (nat_le call.read (k + rest.position)) (nat_le call.printed (length (o ++ rest.output))) reads prints in
    let place : k + rest.position - call.read ≡ k + (rest.position - call.read) = omega (arith, read) in
    let output = all_before_last-further o rest.output call.printed printed in
    let known : Some (rest_said call rest) ≡ Some before = ap (λ (b : Bool). then_some b (rest_said call rest)) (sym t) ∙ back in
    let same : rest_said call rest ≡ before = cc in
    ap (λ (b : Bool). then_some b (rest_said call (rest_further k o rest))) fits
    ∙ (λ i. let moved : Rest = record (rest_said call rest) { position = place i; output = output i } in Some moved)
    ∙ ap (λ (r : Rest). Some (rest_further k o r)) same)
    (λ (t : nat_le call.read rest.position && nat_le call.printed (length rest.output) ≡ false).
    absurd (let none : None ≡ Some before = ap (λ (b : Bool). then_some b (rest_said call rest)) (sym t) ∙ back in cc))
    (cases_Bool (nat_le call.read rest.position && nat_le call.printed (length rest.output)))

-- parts that are put together are all there
pub put_together_parts : (texts : Option Texts) (storage : Option Storage) (rest : Option Rest) (s : State) → put_together texts storage rest ≡ Some s →
    (texts ≡ Some (texts_in s)) × (storage ≡ Some (storage_of s)) × (rest ≡ Some (rest_of s))
put_together_parts (Some a) (Some b) (Some c) s e =
    let same : state_of a b c ≡ s = cc in
    (ap (λ (u : State). Some (texts_in u)) same, ap (λ (u : State). Some (storage_of u)) same, ap (λ (u : State). Some (rest_of u)) same)
put_together_parts None storage rest s e = absurd (cc)
put_together_parts (Some a) None rest s e = absurd (cc)
put_together_parts (Some a) (Some b) None s e = absurd (cc)

call_further_on : (k : ℕ) (o : List ℕ) (call : CallRecord) (s t : State) → restored (Called call) t ≡ Some s → restored (Called call) (further_on k o t) ≡ Some (further_on k o s)
call_further_on k o call s t back =
    let parts = put_together_parts (texts_before call (texts_in t)) (storage_before call.arguments call.undone (storage_of t)) (rest_before call (rest_of t)) s back in
    let rest = rest_further_on k o call (rest_of t) (rest_of s) parts.2 in
    λ i. put_together (parts.0 i) (parts.1 i) (rest i)

pub restored-further_on : (r : Record) (s t : State) (k : ℕ) (o : List ℕ) → restored r t ≡ Some s → restored r (further_on k o t) ≡ Some (further_on k o s)
restored-further_on (Called call) s t k o back = call_further_on k o call s t back
restored-further_on other s t k o back = scanning_further_on k o other s t tt back
