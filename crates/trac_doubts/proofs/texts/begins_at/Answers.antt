use Rattle.std.proofs.Common.{◌≡◌, ◌+◌, [], ◌∷◌, ap, arith, drop, false, get_or, sym, true, ◌∙◌}
use Rattle.std.specs.Prelude.{Option, ◌&&◌, option_to_list}
use Rattle.trac_rules.specs.declared.item.Item.{Item}
use Rattle.trac_rules.specs.Form.{all_items}
use Rattle.trac_rules.specs.Pieces.{begin_with}
use Rattle.trac_doubts.proofs.Standing.{next_byte}
use Rattle.trac_doubts.proofs.texts.begins_at.Goals as goal

pub returns-then-not-is_there : goal.returns-then-not-is_there
returns-then-not-is_there g c =
    let text = c.args.text.now in
    let items = all_items c.args.form.now in
    let i = c.loop-i.i in
    let rest = begin_with (drop (i + 1) text) (drop (c.args.place + i + 1) items) in
    let here : begin_with (get_or text i 0 ∷ []) (option_to_list c.item.result) ≡ false = sym c.is_byte-is_there.ensures ∙ c.if-not-is_there.true in
    sym (
    c.loop-i.invariant
    ∙ next_byte text items i (c.args.place + i) (omega (arith, c.loop-i-test.true))
    ∙ ap (λ (o : Option Item). begin_with (get_or text i 0 ∷ []) (option_to_list o) && rest) (sym c.item.ensures)
    ∙ ap (λ b. b && rest) here
    )

pub loop-i-preserved : goal.loop-i-preserved
loop-i-preserved g c =
    let text = c.args.text.now in
    let items = all_items c.args.form.now in
    let i = c.loop-i.i in
    let rest = begin_with (drop (i + 1) text) (drop (c.args.place + i + 1) items) in
    let here : begin_with (get_or text i 0 ∷ []) (option_to_list c.item.result) ≡ true = sym c.is_byte-is_there.ensures ∙ c.if-not-is_there.false in
    c.loop-i.invariant
    ∙ next_byte text items i (c.args.place + i) (omega (arith, c.loop-i-test.true))
    ∙ ap (λ (o : Option Item). begin_with (get_or text i 0 ∷ []) (option_to_list o) && rest) (sym c.item.ensures)
    ∙ ap (λ b. b && rest) here
    ∙ ap (λ n. begin_with (drop (i + 1) text) (drop n items)) (let same : c.args.place + i + 1 ≡ c.args.place + (i + 1) = omega arith in same)
