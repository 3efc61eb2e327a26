use Rattle.std.proofs.Common.{◌≡◌, IfOk, refl, subst}
use Rattle.trac_machine_tests.proofs.Walks.{shows_loaded}
use Rattle.trac_machine_tests.proofs.elsewhere.loaded_after.Goals as goal

pub returns : goal.returns
returns g c =
    shows_loaded _ c.args.after.active.now c.args.after.output.now c.load.result
    (subst (λ r. IfOk r (λ text. text.items ≡ c.args.after.active.now)) c.expect.ensures c.from_slice.ensures.items)
    c.new.ensures.items c.new-2.ensures.items c.new-3.ensures.items c.new-4.ensures.items refl refl
    (subst (λ r. IfOk r (λ text. text.items ≡ c.args.after.output.now)) c.expect-2.ensures c.from_slice-2.ensures.items)
    c.load.ensures.answer c.load.ensures.asked
