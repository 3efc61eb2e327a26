use Rattle.std.proofs.Common.{◌∙◌, ◌++◌, Bool, List, ap, arith, inl, inr, refl, take, true, ℕ}
use Rattle.trac_streams.specs.declared.ending.Ending.TheVariants.{Memory, Read}
use Rattle.trac_streams.specs.Pending.{Pending}
use Rattle.trac_streams.proofs.Known.{Consumes-nothing}
use Rattle.trac_streams.proofs.Gathered.{Consumes-kept, fails_alone, reads_bytes, reads_end}
use Rattle.trac_streams.proofs.lines.Lines.read_more.Goals as goal

-- these bytes are read and not taken yet
abbrev with_bytes : List ℕ → Bool → Pending
with_bytes bytes ended = record { bytes = bytes; ended = ended }

pub returns-in_default-clause-failed : goal.returns-in_default-clause-failed
returns-in_default-clause-failed g c =
    fails_alone _ _ c.args.reads.now _ c.args.self.now _ Memory c.requires.part (Consumes-nothing (g.R.Read.remaining c.args.input.now))
    (ap (λ t. with_bytes t c.self.inside.ended) (c.in_default.ensures.items ∙ c.drop_front.ensures) ∙ c.self.view_is) (inl refl) (omega arith)

pub returns-in_default-read-clause-failed : goal.returns-in_default-read-clause-failed
returns-in_default-read-clause-failed g c =
    fails_alone _ _ c.args.reads.now _ c.args.self.now _ Read c.requires.part (Consumes-kept _ _ c.in_default-read.ensures.bytes)
    (ap (λ t. with_bytes t c.self.inside.ended) (c.reserve.ensures.items ∙ c.drop_front.ensures) ∙ c.self.view_is) (inr refl) (omega arith)

pub returns-then-count-eq0-clause-more : goal.returns-then-count-eq0-clause-more
returns-then-count-eq0-clause-more g c =
    reads_end _ _ c.args.reads.now c.args.self.now _ c.read.new.buf c.in-Ok-read.count c.requires.part c.if-count-eq0.true c.in-Ok-read.ensures.bytes.0
    (c.in-Ok-read.ensures.bytes.1 c.if-count-eq0.true (omega (arith, c.read.auto.buf)))
    (ap (λ t. with_bytes t true) (c.reserve.ensures.items ∙ c.drop_front.ensures ∙ ap (λ (p : Pending). p.bytes) c.self.view_is))

pub returns-clause-more : goal.returns-clause-more
returns-clause-more g c =
    let given : List ℕ = take c.in-Ok-read.count c.read.new.buf in
    reads_bytes _ _ c.args.reads.now c.args.self.now _ c.read.new.buf c.in-Ok-read.count c.requires.part (omega arith) (omega (arith, c.in-Ok-read.ensures.bound)) (omega (arith, c.read.auto.buf))
    c.in-Ok-read.ensures.bytes.0
    (ap (λ t. with_bytes t c.self.inside.ended) (c.in-Ok-extend_from_slice.ensures.items ∙ ap (λ t. t ++ given) (c.reserve.ensures.items ∙ c.drop_front.ensures))
    ∙ ap (λ (p : Pending). with_bytes (p.bytes ++ given) p.ended) c.self.view_is)
