use Rattle.std.proofs.Common.{ℕ, List, [], ◌∷◌, ◌++◌, take, get_or, sym, ap, ◌∙◌, arith}
use Rattle.std.specs.List.{join_with_byte}
use Rattle.std.proofs.lemmas.List.{append_assoc, take_all}
use Rattle.trac_rules.specs.declared.byte.TheConstants.{STAR}
use Rattle.trac_prims.proofs.Joining.{join-first, join-take}
use Rattle.trac_prims.proofs.tracing.join_into.Goals as goal

pub loop-i-init : goal.loop-i-init
loop-i-init g c =
    c.in_ok-extend_from_slice.ensures.items
    ∙ ap (λ (text : List ℕ). c.args.out.now.items ++ text) (c.get.ensures ∙ sym (join-first STAR c.args.args.now))

pub loop-i-preserved : goal.loop-i-preserved
loop-i-preserved g c =
    let before : List ℕ = c.args.out.now.items in
    let joined : List ℕ = join_with_byte STAR (take c.loop-i.i c.args.args.now) in
    let last : List ℕ = get_or c.args.args.now c.loop-i.i [] in
    c.in_ok-extend_from_slice-2.ensures.items
    ∙ ap (λ (text : List ℕ). text ++ c.get-in-loop-i.result.now) (c.in_ok-push.ensures.items ∙ ap (λ (text : List ℕ). text ++ STAR ∷ []) c.loop-i.invariant)
    ∙ ap (λ (text : List ℕ). ((before ++ joined) ++ STAR ∷ []) ++ text) c.get-in-loop-i.ensures
    ∙ ap (λ (text : List ℕ). text ++ last) (append_assoc before joined (STAR ∷ []))
    ∙ append_assoc before (joined ++ STAR ∷ []) last
    ∙ ap (λ (text : List ℕ). before ++ text) (sym (join-take STAR c.args.args.now c.loop-i.i (omega arith) (omega (arith, c.count-i-end.ensures))))

pub returns-clause-ok : goal.returns-clause-ok
returns-clause-ok g c =
    c.loop-i.invariant
    ∙ ap (λ (texts : List (List ℕ)). c.args.out.now.items ++ join_with_byte STAR texts)
    (take_all c.loop-i.i c.args.args.now (omega (arith, c.loop-i-test.false, c.count-i-end.ensures)))
