use Rattle.std.proofs.Common.{◌∙◌, ◌++◌, ◌-◌, ◌≤◌, List, ap, arith, drop, inl, inr, length, refl, sym, take, ℕ}
use Rattle.std.proofs.lemmas.List.{drop_all, length-take-le}
use Rattle.trac_streams.specs.declared.ending.Ending.TheVariants.{Memory, Read}
use Rattle.trac_streams.proofs.Known.{Consumes-nothing}
use Rattle.trac_streams.proofs.Gathered.{Consumes-kept}
use Rattle.trac_messages.specs.Incoming.{Pending}
use Rattle.trac_messages.proofs.Given.{fails_alone, reads_bytes, reads_end, sliced}
use Rattle.trac_messages.proofs.incoming.Incoming.read_more.Goals as goal

pub returns-in_default-clause-failed : goal.returns-in_default-clause-failed
returns-in_default-clause-failed g c =
    fails_alone _ _ c.args.self.now _ Memory (Consumes-nothing (g.R.Read.remaining c.args.input.now))
    (ap (λ (p : Pending). p.skip) c.self.view_is)
    (c.in_default.ensures.items ∙ c.drop_front.ensures ∙ ap (λ (p : Pending). p.bytes) c.self.view_is)
    (ap (λ (p : Pending). p.ended) c.self.view_is) c.requires (inl refl)

pub returns-in_default-read-clause-failed : goal.returns-in_default-read-clause-failed
returns-in_default-read-clause-failed g c =
    fails_alone _ _ c.args.self.now _ Read (Consumes-kept _ _ c.in_default-read.ensures.bytes)
    (ap (λ (p : Pending). p.skip) c.self.view_is)
    (c.reserve.ensures.items ∙ c.drop_front.ensures ∙ ap (λ (p : Pending). p.bytes) c.self.view_is)
    (ap (λ (p : Pending). p.ended) c.self.view_is) c.requires (inr refl)

pub returns-then-count-eq0-clause-read : goal.returns-then-count-eq0-clause-read
returns-then-count-eq0-clause-read g c =
    reads_end _ _ c.args.self.now _ c.read.new.buf c.in-Ok-read.count c.if-count-eq0.true c.in-Ok-read.ensures.bytes.0
    (c.in-Ok-read.ensures.bytes.1 c.if-count-eq0.true (omega (arith, c.read.auto.buf)))
    (ap (λ (p : Pending). p.skip) c.self.view_is)
    (c.reserve.ensures.items ∙ c.drop_front.ensures ∙ ap (λ (p : Pending). p.bytes) c.self.view_is) refl

pub returns-clause-read : goal.returns-clause-read
returns-clause-read g c =
    let count = c.in-Ok-read.count in
    let buffer : List ℕ = c.read.new.buf in
    let over = c.min-over.result in
    let within : count ≤ length buffer = omega (arith, c.in-Ok-read.ensures.bound) in
    let same = ap (λ (p : Pending). p.skip) c.self.view_is in
    let few = length-take-le count buffer within in
    reads_bytes _ _ c.args.self.now _ (take count buffer)
    (λ some. sym (ap (λ (p : Pending). p.bytes) c.self.view_is) ∙ drop_all c.self.inside.taken c.self.inside.bytes.items (omega (arith, c.self.invariant.2 (omega (arith, same, some)))))
    (omega (arith, few, c.if-count-eq0.false)) c.in-Ok-read.ensures.bytes.0
    (omega (arith, c.min-over.ensures, few, same))
    (c.in-Ok-extend_from_slice.ensures.items
    ∙ ap (λ (t : List ℕ). t ++ take (count - over) (drop over buffer)) (c.reserve.ensures.items ∙ c.drop_front.ensures ∙ ap (λ (p : Pending). p.bytes) c.self.view_is)
    ∙ ap (λ (t : List ℕ). c.args.self.now.bytes ++ t) (sliced buffer c.self.inside.skip count over c.min-over.ensures within ∙ ap (λ n. drop n (take count buffer)) same))
    (ap (λ (p : Pending). p.ended) c.self.view_is) c.requires
