-- What is made is put together, or something passes a limit.
use Rattle.std.proofs.Common.{◌≡◌, ℕ, List, length, true, refl, sym, ap, ◌∙◌, subst, arith}
use Rattle.std.specs.Prelude.{Ok, Vec}
use Rattle.std.proofs.lemmas.Result.{err_from_is_err_and}
use Rattle.trac_rules.specs.declared.kind.Kind.{Kind}
use Rattle.trac_rules.specs.Outcomes.{MayRefuse, limited}
use Rattle.trac_rules.specs.State.{State, storage_of}
use Rattle.trac_rules.proofs.Outcomes.{lacks_limited, limited_beyond, limited_within}
use Rattle.trac_text.specs.Framing.{EachGathers, argument_count, frames_of, function_bytes, functions_of}
use Rattle.trac_rules.specs.Proper.{IsProperStorage}
use Rattle.trac_rules.specs.Records.{state_of}
use Rattle.trac_forms.specs.Stored.{storage_in}
use Rattle.trac_storage.proofs.Judged.{limits_kept}
use Rattle.trac_step.specs.Layout.{rest_in}
use Rattle.trac_storage.specs.Loading.{counts_fit, lengths_fit, parts_fit, state_in}
use Rattle.trac_storage.proofs.Loaded.{all_fits, counts_fail, judged_apart, lengths_fail, proper_storage}
use Rattle.trac_storage.proofs.Judged.{marks_within, text_within}
use Rattle.trac_step.proofs.LoadedMachines.{store_made}
use Rattle.trac_storage.proofs.Outcomes.{refuses_memory, refuses_with}
use Rattle.trac_step.proofs.engine.Core.load.Goals as goal

pub returns-then-not-lengths_within-clause-answer : goal.returns-then-not-lengths_within-clause-answer
returns-then-not-lengths_within-clause-answer g c =
    limited_beyond (λ _. parts_fit c.args.parts.now) (state_in c.args.parts.now) (lengths_fail c.args.parts.now (sym c.if-not-lengths_within.ensures.fits))

pub returns-in_err-store-clause-answer : goal.returns-in_err-store-clause-answer
returns-in_err-store-clause-answer g c =
    let p = err_from_is_err_and c.from_residual.result c.from_residual.ensures.1 in
    let parts = c.args.parts.now in
    rw p.1
    (refuses_with counts_fit (storage_of (state_in parts)) (λ _. parts_fit parts) (state_in parts) p.0 (counts_fail parts)
    (subst (MayRefuse (limited counts_fit (Ok (storage_of (state_in parts))))) (sym p.2) c.in_err-store.ensures.answer))

pub load-requires-clause-some : goal.load-requires-clause-some
load-requires-clause-some g c =
    subst (λ (fs : List (Kind × Vec (Vec ℕ g.row.A.Denot) g.row.A.Denot)). EachGathers fs) (sym c.as_slice-3.ensures.value) c.requires

pub load-requires-clause-text : goal.load-requires-clause-text
load-requires-clause-text g c =
    let parts = c.args.parts.now in
    omega (
      arith,
      text_within parts (judged_apart parts (sym c.if-not-lengths_within.ensures.fits)).texts,
      ap length c.as_slice.ensures.value,
      ap length c.as_slice-2.ensures.value,
      ap (λ (fs : List (Kind × Vec (Vec ℕ g.row.A.Denot) g.row.A.Denot)). function_bytes (functions_of fs)) c.as_slice-3.ensures.value,
    )

pub load-requires-clause-marks : goal.load-requires-clause-marks
load-requires-clause-marks g c =
    let parts = c.args.parts.now in
    omega (
      arith,
      marks_within parts c.requires (judged_apart parts (sym c.if-not-lengths_within.ensures.fits)).texts,
      ap (λ (fs : List (Kind × Vec (Vec ℕ g.row.A.Denot) g.row.A.Denot)). argument_count (functions_of fs)) c.as_slice-3.ensures.value,
    )

pub returns-in_err-texts-clause-answer : goal.returns-in_err-texts-clause-answer
returns-in_err-texts-clause-answer g c =
    let p = err_from_is_err_and c.from_residual-in_err-texts.result c.from_residual-in_err-texts.ensures.1 in
    rw p.1 (refuses_memory _ p.0 (p.2 ∙ c.in_err-texts.ensures.err) (lacks_limited (λ _. parts_fit c.args.parts.now) (state_in c.args.parts.now)))

pub returns-in_err-output-clause-answer : goal.returns-in_err-output-clause-answer
returns-in_err-output-clause-answer g c =
    let p = err_from_is_err_and c.from_residual-in_err-output.result c.from_residual-in_err-output.ensures.1 in
    rw p.1 (refuses_memory _ p.0 (p.2 ∙ c.in_err-output.ensures.err) (lacks_limited (λ _. parts_fit c.args.parts.now) (state_in c.args.parts.now)))

pub invariant_of-result : goal.invariant_of-result
invariant_of-result g c =
    let parts = c.args.parts.now in
    let made = store_made parts c.in_ok-store.store c.in_ok-store.ensures.answer in
    let within : lengths_fit parts ≡ true = sym c.if-not-lengths_within.ensures.fits in
    let kept = c.if-not-lengths_within.ensures in
    record {
      storage_is = subst IsProperStorage (sym made.0) (proper_storage parts within (kept.forms refl) (kept.blocks refl) made.1);
      output_limit = omega (arith, (limits_kept (state_in parts) (judged_apart parts within).texts).output, ap (λ (xs : List ℕ). length xs) c.in_ok-output.ensures.items);
    }

pub returns-clause-answer : goal.returns-clause-answer
returns-clause-answer g c =
    let parts = c.args.parts.now in
    let made = store_made parts c.in_ok-store.store c.in_ok-store.ensures.answer in
    let kept = c.if-not-lengths_within.ensures in
    let shows : (let s : State = state_of c.in_ok-texts.texts.texts (storage_in c.in_ok-store.store) (rest_in parts.meta parts.trace parts.position c.in_ok-output.output) in s) ≡ state_in parts =
    (λ i. state_of (c.in_ok-texts.ensures.loaded i) (made.0 i) (record { meta = parts.meta; trace = parts.trace; position = parts.position; output = c.in_ok-output.ensures.items i }))
    ∙ (λ i. record (state_in parts) { active = c.as_slice.ensures.value i; base = c.as_slice-2.ensures.value i; frames = frames_of (functions_of (c.as_slice-3.ensures.value i)) }) in
    limited_within (λ _. parts_fit parts) (state_in parts) (all_fits parts (sym kept.fits) (kept.forms refl) (kept.blocks refl) made.1) ∙ ap Ok (sym shows)

pub returns-clause-holds : goal.returns-clause-holds
returns-clause-holds g c = record {
  text = c.recall_room.ensures.text_room;
  marks = c.recall_room.ensures.mark_room;
  output = c.in_ok-output.ensures.holds;
  names = c.in_ok-store.ensures.names;
}
