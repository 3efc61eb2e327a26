-- One more name is known.
use Rattle.std.proofs.Common.{ℕ, List, ap, arith, drop, IsTrue, subst}
use Rattle.std.specs.FinSet as set
use Rattle.std.specs.Prelude.{Vec}
use Rattle.std.proofs.lemmas.List.{drop_all}
use Rattle.trac_forms.specs.Stored.{Names, Stored}
use Rattle.trac_forms.proofs.Going.{on_err}
use Rattle.trac_rules.specs.Form.{Form}
use Rattle.trac_rules.specs.Undone.{names_in}
use Rattle.trac_change.specs.Changed.{named_forms}
use Rattle.trac_text.proofs.Framed.{map_rest}
use Rattle.trac_storage.specs.Changing.{KnowsSome}
use Rattle.trac_storage.proofs.Known.{among_more, stay_known}
use Rattle.trac_storage.proofs.blocking.know_each.Goals as goal

pub loop-name-preserved : goal.loop-name-preserved
loop-name-preserved g c =
    let at = c.loop-name in
    let next = map_rest {Y = List ℕ × Form} (λ (e : Vec ℕ g.row.A.Denot × Form). (e.0.items, e.1)) c.args.forms.now at.name-index c.loop-name-item.result (omega (arith, c.loop-name-test.true)) c.loop-name-item.is in
    let so_far = rw next at at.invariant in
    let more = ap (λ (s : Stored). s.known) c.in_ok-know.ensures.known in (
      rw (more, c.as_slice.ensures.value) so_far.0,
      λ q h. among_more at.store.known c.know.new.self.known c.as_slice.result.now more q (at.invariant.1 q h),
      rw c.in_ok-know.ensures.known (ap (λ (s : Stored). let t : Stored = record s { known = set.insert at.store.known c.as_slice.result.now; recent = set.insert at.store.recent c.as_slice.result.now } in t) at.invariant.2),
      λ q h. among_more at.store.recent c.know.new.self.recent c.as_slice.result.now (ap (λ (s : Stored). s.recent) c.in_ok-know.ensures.known) q (at.invariant.3 q h),
    )

pub returns-clause-names : goal.returns-clause-names
returns-clause-names g c = (rw (drop_all c.loop-name.name-index c.args.forms.now (omega (arith, c.loop-name-test.false))) at c.loop-name.invariant).0

pub returns-in_err-know-clause-some : goal.returns-in_err-know-clause-some
returns-in_err-know-clause-some g c =
    let at = c.loop-name in
    let some : KnowsSome (names_in (named_forms c.args.forms.now)) c.args.store.now.known c.know.new.self.known = rw c.in_err-know.ensures.unchanged
    (at.invariant.1, λ q h. subst (λ (known : Names). IsTrue (set.contains known q)) at.invariant.0 (stay_known (names_in (named_forms (drop at.name-index c.args.forms.now))) at.store.known q h)) in
    on_err _ some
