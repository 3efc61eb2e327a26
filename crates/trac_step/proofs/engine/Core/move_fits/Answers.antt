use Rattle.std.proofs.Common.{◌≡◌, ℕ, sym, ap, ◌∙◌, subst, true, false, Bool, not}
use Rattle.std.specs.Prelude.{nat_lt}
use Rattle.trac_rules.specs.Scanning.{scan}
use Rattle.trac_rules.specs.Limits.{marks, texts_fit}
use Rattle.trac_text.specs.Ruled.{makes_mark}
use Rattle.trac_step.specs.Calling.{IfMoves}
use Rattle.trac_step.specs.Layout.{Shown}
use Rattle.trac_step.proofs.Moving.{move_without_mark, move_with_mark}
use Rattle.trac_step.proofs.engine.Core.move_fits.Goals as goal

pub returns-then-not-makes_mark : goal.returns-then-not-makes_mark
returns-then-not-makes_mark g c =
    let s = c.args.self.now.state in
    let adds : makes_mark c.args.rule ≡ false = sym c.makes_mark.ensures ∙ c.if-not-makes_mark.true in
    subst (λ (b : Bool). IfMoves (scan s) (λ t. not b ≡ texts_fit t)) (sym c.if-not-makes_mark.true) (move_without_mark s c.requires.proper c.args.rule c.requires.next adds)

pub returns-else-not-makes_mark : goal.returns-else-not-makes_mark
returns-else-not-makes_mark g c =
    let s = c.args.self.now.state in
    let count = c.mark_count.ensures ∙ ap (λ (m : Shown). marks m.state.frames) c.self.view_is in
    let adds : makes_mark c.args.rule ≡ true = sym c.makes_mark.ensures ∙ c.if-not-makes_mark.false in
    subst (λ (k : ℕ). IfMoves (scan s) (λ t. nat_lt k 1048576 ≡ texts_fit t)) (sym count) (move_with_mark s c.requires.proper c.args.rule c.requires.next adds)
