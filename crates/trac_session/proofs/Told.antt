-- What a record tells of its step: how much that read and printed.
use Rattle.std.proofs.Common.{◌≡◌, ℕ, ◌+◌, ◌-◌, Bool, true, false, List, [], ◌++◌, length, drop, refl, sym, ap, ◌∙◌, arith}
use Rattle.std.specs.Prelude.{None, Some, nat_le, ◌&&◌}
use Rattle.std.specs.Bool.{then_some}
use Rattle.std.specs.Option.{unwrap_or}
use Rattle.std.proofs.lemmas.Bool.{and_parts, leb-true}
use Rattle.std.proofs.lemmas.List.{append-nil, length-drop, take-append-drop}
use Rattle.trac_rules.specs.Records.{CallRecord, Record, Moved, Comma, Begun, Quoted, Deleted, Idle, Called, IsOfScanning, Rest, all_before_last, rest_before, rest_of, restored, state_before, texts_before, texts_in}
use Rattle.trac_rules.specs.State.{State, storage_of}
use Rattle.trac_rules.specs.Undone.{storage_before}
use Rattle.trac_rules.proofs.FurtherOn.{put_together_parts, stands_there}
use Rattle.trac_rules.proofs.Restored.{restored_of_before}
use Rattle.trac_journal.specs.Told.{printed_by, read_by}

-- a step read so many bytes, and printed so many
pub record Passes (reads prints : ℕ) (s t : State) : Type 0 where
  pub position : t.position ≡ s.position + reads
  pub more : List ℕ
  pub output : t.output ≡ s.output ++ more
  pub count : length more ≡ prints

-- the rest of a state tells what the call read and printed
record RestPasses (call : CallRecord) (before after : Rest) : Type 0 where
  position : after.position ≡ before.position + call.read
  more : List ℕ
  output : after.output ≡ before.output ++ more
  count : length more ≡ call.printed

rest_passes : (call : CallRecord) (before after : Rest) → rest_before call after ≡ Some before → RestPasses call before after
rest_passes call before after back = by_test (nat_le call.read after.position && nat_le call.printed (length after.output)) refl
  where
    there : Rest
    there = record {
      meta = unwrap_or call.meta after.meta;
      trace = call.trace;
      position = after.position - call.read;
      output = all_before_last call.printed after.output;
    }

    by_test : (b : Bool) → (nat_le call.read after.position && nat_le call.printed (length after.output)) ≡ b → RestPasses call before after
    by_test false t = absurd (let none : None ≡ Some before = ap (λ (b : Bool). then_some b there) (sym t) ∙ back in cc)
    by_test true t =
        let parts = and_parts (nat_le call.read after.position) (nat_le call.printed (length after.output)) t in
        let read = leb-true call.read after.position parts.0 in
        let printed = leb-true call.printed (length after.output) parts.1 in
        let known : Some there ≡ Some before = ap (λ (b : Bool). then_some b there) (sym t) ∙ back in
        let same : there ≡ before = cc in
        let front : ℕ = length after.output - call.printed in
        record {
          position = omega (arith, read, ap (λ (r : Rest). r.position) same);
          more = drop front after.output;
          output = sym (take-append-drop front after.output) ∙ ap (λ (r : Rest). r.output ++ drop front after.output) same;
          count = omega (arith, printed, length-drop front after.output);
        }

-- a step of scanning reads and prints nothing
scanning_passes : (r : Record) (s t : State) → IsOfScanning r → restored r t ≡ Some s → Passes 0 0 s t
scanning_passes r s t of back =
    let same = stands_there r s t of back in
    record { position = omega (arith, same.0); more = []; output = sym same.1 ∙ sym (append-nil s.output); count = refl }

restored_passes : (r : Record) (s t : State) → restored r t ≡ Some s → Passes (read_by r) (printed_by r) s t
restored_passes Moved s t back = scanning_passes Moved s t tt back
restored_passes Comma s t back = scanning_passes Comma s t tt back
restored_passes Begun s t back = scanning_passes Begun s t tt back
restored_passes (Quoted inner closed) s t back = scanning_passes (Quoted inner closed) s t tt back
restored_passes (Deleted b) s t back = scanning_passes (Deleted b) s t tt back
restored_passes (Idle base frames) s t back = scanning_passes (Idle base frames) s t tt back
restored_passes (Called call) s t back =
    let parts = put_together_parts (texts_before call (texts_in t)) (storage_before call.arguments call.undone (storage_of t)) (rest_before call (rest_of t)) s back in
    let rest = rest_passes call (rest_of s) (rest_of t) parts.2 in
    record { position = rest.position; more = rest.more; output = rest.output; count = rest.count }

pub record_passes : (r : Record) (s t : State) → state_before r t ≡ Some s → Passes (read_by r) (printed_by r) s t
record_passes r s t says = restored_passes r s t (restored_of_before r s t says).0
