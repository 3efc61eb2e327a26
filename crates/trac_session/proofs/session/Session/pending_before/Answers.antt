use Rattle.std.proofs.Common.{ℕ, List, length, take, refl, ap, ◌∙◌, arith}
use Rattle.trac_session.proofs.Windowed.{newest_kept, released_begins, released_there}
use Rattle.trac_session.proofs.session.Session.pending_before.Goals as goal

pub printed_before-printed-requires : goal.printed_before-printed-requires
printed_before-printed-requires g c =
    let kept = newest_kept c.args.keep c.self.invariant.sound refl refl refl in
    omega (arith, (released_there kept).1, ap length c.output-output.ensures, c.output-output.type_inv.0)

pub split_at-requires : goal.split_at-requires
split_at-requires g c =
    let kept = newest_kept c.args.keep c.self.invariant.sound refl c.printed_before-printed.ensures refl in
    omega (arith, (released_there kept).1, ap length c.output-output.ensures)

pub returns : goal.returns
returns g c =
    let kept = newest_kept c.args.keep c.self.invariant.sound refl c.printed_before-printed.ensures refl in
    let begins = released_begins kept c.self.view_is (c.split_at.ensures.front ∙ ap (λ (output : List ℕ). take c.printed_before-printed.result output) c.output-output.ensures) in
    record { released = begins.0; begins = begins.1 }
