use Rattle.std.proofs.Common.{ℕ, ◌++◌, List, length, drop, refl, sym, ap, subst, ◌∙◌}
use Rattle.std.specs.Prelude.{false, Ok, None, Some, [], slice_get}
use Rattle.trac_rules.specs.declared.primitive.Primitive.TheVariants.{Compute, Handle, HandleBlock, ReadByte, ReadString}
use Rattle.trac_rules.specs.Blocks.{block_handled}
use Rattle.trac_rules.specs.Computing.{computed}
use Rattle.trac_rules.specs.Effect.{Effect, argument, leaves, sets_trace}
use Rattle.trac_rules.specs.Handling.{handled}
use Rattle.trac_rules.specs.Reading.{byte_read, string_read}
use Rattle.trac_rules.specs.State.{initial, storage_of}
use Rattle.trac_rules.proofs.Steps.{effect_within}
use Rattle.trac_forms.specs.Stored.{storage_in}
use Rattle.trac_change.specs.declared.change.UnnamedChange.TheVariants.{Keep}
use Rattle.trac_prims.specs.Effects.{IsDone, nothing}
use Rattle.trac_prims.proofs.Kept.{changed_so, keeps_so, left_so, meta_given, printed}
use Rattle.trac_prims.proofs.ReadCounts.{done_unread}
use Rattle.trac_prims.proofs.planning.perform.Goals as goal

pub returns-in_ok-extend_from_slice-in-PrintString-clause-outcome : goal.returns-in_ok-extend_from_slice-in-PrintString-clause-outcome
returns-in_ok-extend_from_slice-in-PrintString-clause-outcome g c = λ s known.
    rw (c.in-PrintString.is, c.requires.keeps)
    (printed c.args.args.now (storage_of s) c.args.made.now (record c.args.made.now { print = c.extend_from_slice.new.self }) (argument 1 c.args.args.now) nothing
    refl (c.in_ok-extend_from_slice-in-PrintString.ensures.items ∙ ap (λ (text : List ℕ). c.args.made.now.print.items ++ text) c.get.ensures) refl)

pub returns-in-ReadString-clause-outcome : goal.returns-in-ReadString-clause-outcome
returns-in-ReadString-clause-outcome g c = λ s known.
    rw (c.in-ReadString.is, c.requires.keeps)
    (subst (λ (meta : ℕ). IsDone c.args.args.now (storage_of s) (string_read (drop s.position c.args.tape.bytes.now) c.args.tape.ended meta (storage_of s)) c.args.made.now c.read_string.new.made Keep c.read_string.result) (sym known.meta_is)
    (subst (λ (place : ℕ). IsDone c.args.args.now (storage_of s) (string_read (drop place c.args.tape.bytes.now) c.args.tape.ended c.args.now.meta (storage_of s)) c.args.made.now c.read_string.new.made Keep c.read_string.result) (sym known.position_is)
    (c.read_string.ensures.outcome c.args.args.now (storage_of s))))

pub returns-in-ReadString-clause-change : goal.returns-in-ReadString-clause-change
returns-in-ReadString-clause-change g c = rw c.in-ReadString.is (keeps_so ReadString c.args.args.now (storage_in c.args.store.now) c.args.change.now c.read_string.result refl c.requires.keeps)

pub returns-in-ReadByte-clause-outcome : goal.returns-in-ReadByte-clause-outcome
returns-in-ReadByte-clause-outcome g c = λ s known.
    rw (c.in-ReadByte.is, c.requires.keeps)
    (subst (λ (place : ℕ). IsDone c.args.args.now (storage_of s) (byte_read (drop place c.args.tape.bytes.now) c.args.tape.ended (storage_of s)) c.args.made.now c.read_byte.new.made Keep c.read_byte.result) (sym known.position_is)
    (c.read_byte.ensures.outcome c.args.args.now (storage_of s)))

pub returns-in-ReadByte-clause-change : goal.returns-in-ReadByte-clause-change
returns-in-ReadByte-clause-change g c = rw c.in-ReadByte.is (keeps_so ReadByte c.args.args.now (storage_in c.args.store.now) c.args.change.now c.read_byte.result refl c.requires.keeps)

pub returns-in-SetMeta-clause-outcome : goal.returns-in-SetMeta-clause-outcome
returns-in-SetMeta-clause-outcome g c = λ s known.
    let text = argument 1 c.args.args.now in
    let first = c.copied.ensures ∙ c.first.ensures.value ∙ ap (λ (t : List ℕ). slice_get t 0) c.get-in-SetMeta.ensures in
    rw (c.in-SetMeta.is, c.requires.keeps)
    (subst (λ (e : Effect). IsDone c.args.args.now (storage_of s) (Ok e) c.args.made.now c.args.made.now Keep (Ok (record nothing { meta = c.copied.result }))) (sym (meta_given text (storage_of s)))
    (left_so c.args.args.now (storage_of s) c.args.made.now (record (leaves (storage_of s)) { meta = slice_get text 0 }) Keep (record nothing { meta = c.copied.result }) refl refl refl
    (ap (λ meta. record { forced = false; read = 0; meta = meta; trace = None }) first)))

pub returns-in-SetTrace-clause-outcome : goal.returns-in-SetTrace-clause-outcome
returns-in-SetTrace-clause-outcome g c = λ s known.
    rw (c.in-SetTrace.is, c.requires.keeps)
    (left_so c.args.args.now (storage_of s) c.args.made.now (sets_trace c.in-SetTrace.trace (storage_of s)) Keep (record nothing { trace = Some c.in-SetTrace.trace }) refl refl refl
    refl)

pub returns-in-Compute-clause-outcome : goal.returns-in-Compute-clause-outcome
returns-in-Compute-clause-outcome g c = λ s known. rw (c.in-Compute.is, c.requires.keeps) (c.compute.ensures (storage_of s))

pub returns-in-Compute-clause-within : goal.returns-in-Compute-clause-within
returns-in-Compute-clause-within g c =
    done_unread c.args.args.now c.args.now.position (length c.args.tape.bytes.now) (storage_of initial) (Ok (computed c.in-Compute.computation c.args.now.width c.args.args.now (storage_of initial)))
    c.args.made.now c.compute.new.made Keep c.compute.result (c.compute.ensures (storage_of initial))
    (effect_within (Compute c.in-Compute.computation) (record { tape = record { bytes = []; ended = false }; width = c.args.now.width }) c.args.args.now initial) c.requires.position

pub returns-in-Compute-clause-change : goal.returns-in-Compute-clause-change
returns-in-Compute-clause-change g c =
    rw c.in-Compute.is (keeps_so (Compute c.in-Compute.computation) c.args.args.now (storage_in c.args.store.now) c.args.change.now c.compute.result refl c.requires.keeps)

pub returns-in-Handle-clause-within : goal.returns-in-Handle-clause-within
returns-in-Handle-clause-within g c =
    let storage = storage_in c.args.store.now in
    done_unread c.args.args.now c.args.now.position (length c.args.tape.bytes.now) storage (handled c.in-Handle.action c.args.now.width c.args.args.now storage)
    c.args.made.now c.handle.new.made c.handle.new.change c.handle.result c.handle.ensures.outcome
    (effect_within (Handle c.in-Handle.action) (record { tape = record { bytes = []; ended = false }; width = c.args.now.width }) c.args.args.now (record initial { forms = storage.forms; blocks = storage.blocks })) c.requires.position

pub returns-in-HandleBlock-clause-outcome : goal.returns-in-HandleBlock-clause-outcome
returns-in-HandleBlock-clause-outcome g c = λ s known. rw (c.in-HandleBlock.is, known.storage_is) (c.plan_block_change.ensures.outcome c.args.made.now)

pub returns-in-HandleBlock-clause-within : goal.returns-in-HandleBlock-clause-within
returns-in-HandleBlock-clause-within g c =
    let storage = storage_in c.args.store.now in
    done_unread c.args.args.now c.args.now.position (length c.args.tape.bytes.now) storage (block_handled c.in-HandleBlock.action c.args.args.now storage) c.args.made.now c.args.made.now
    c.plan_block_change.new.change c.plan_block_change.result (c.plan_block_change.ensures.outcome c.args.made.now)
    (effect_within (HandleBlock c.in-HandleBlock.action) (record { tape = record { bytes = []; ended = false }; width = c.args.now.width }) c.args.args.now (record initial { forms = storage.forms; blocks = storage.blocks })) c.requires.position

pub returns-in-HandleBlock-clause-change : goal.returns-in-HandleBlock-clause-change
returns-in-HandleBlock-clause-change g c = rw c.in-HandleBlock.is c.plan_block_change.ensures.change

pub returns-in-Unknown-clause-outcome : goal.returns-in-Unknown-clause-outcome
returns-in-Unknown-clause-outcome g c = λ s known.
    rw (c.in-Unknown.is, c.requires.keeps) (changed_so c.args.args.now (storage_of s) c.args.made.now Keep refl refl)
