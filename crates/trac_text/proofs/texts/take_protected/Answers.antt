use Rattle.std.proofs.Common.{◌≡◌, ◌<◌, List, length, drop, sym, ap, subst, ◌∙◌, is_some}
use Rattle.std.specs.Prelude.{ℕ, Option}
use Rattle.trac_gap.specs.Ends.{Ends}
use Rattle.trac_rules.specs.Matching.{match_of}
use Rattle.trac_text.proofs.Protected.{inner_length, taken_matched, taken_unmatched}
use Rattle.trac_text.proofs.texts.take_protected.Goals as goal

pub returns-clause-taken : goal.returns-clause-taken
returns-clause-taken g c =
    let old = g.E.TwoEnds.ends c.args.text.now in
    let after : c.right.result.now ≡ drop 1 old.right = c.right.ensures.right ∙ ap (λ (e : Ends ℕ). e.right) c.cut_right.ensures in
    taken_matched old (g.E.TwoEnds.ends c.cut_right.new.self) (g.E.TwoEnds.ends c.shift_left-2.new.self) (g.E.TwoEnds.ends c.cut_right-2.new.self) c.in-Some.place
    c.cut_right.ensures c.shift_left-2.ensures c.cut_right-2.ensures (ap match_of (sym after) ∙ sym c.in-Some.ensures.place)

pub returns-in_default-clause-taken : goal.returns-in_default-clause-taken
returns-in_default-clause-taken g c =
    let old = g.E.TwoEnds.ends c.args.text.now in
    let after : c.right.result.now ≡ drop 1 old.right = c.right.ensures.right ∙ ap (λ (e : Ends ℕ). e.right) c.cut_right.ensures in
    taken_unmatched old (g.E.TwoEnds.ends c.cut_right.new.self) (g.E.TwoEnds.ends c.shift_left.new.self) (length c.right-inner.result.now)
    c.cut_right.ensures (ap length c.right-inner.ensures.right) c.shift_left.ensures (ap match_of (sym after) ∙ sym c.in_default.ensures.place)

pub returns-clause-inner : goal.returns-clause-inner
returns-clause-inner g c =
    let old = g.E.TwoEnds.ends c.args.text.now in
    let after : c.right.result.now ≡ drop 1 old.right = c.right.ensures.right ∙ ap (λ (e : Ends ℕ). e.right) c.cut_right.ensures in
    inner_length (drop 1 old.right) c.in-Some.place (ap match_of (sym after) ∙ sym c.in-Some.ensures.place) (subst (λ (text : List ℕ). c.in-Some.place < length text) after c.in-Some.ensures.within)

pub returns-clause-closed : goal.returns-clause-closed
returns-clause-closed g c =
    let after = c.right.ensures.right ∙ ap (λ (e : Ends ℕ). e.right) c.cut_right.ensures in
    ap (λ (o : Option ℕ). is_some o) (c.in-Some.ensures.place ∙ ap match_of after)
