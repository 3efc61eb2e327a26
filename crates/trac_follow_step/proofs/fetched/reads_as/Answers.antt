-- One item more, and all of them.
use Rattle.std.proofs.Common.{◌≡◌, List, ◌++◌, ap, subst, ◌∙◌, Option, bytes_eq, false, option_to_list}
use Rattle.trac_rules.specs.declared.item.Item.{Item}
use Rattle.trac_rules.specs.Form.{all_items}
use Rattle.trac_rules.specs.Pieces.{bytes_in}
use Rattle.trac_follow_step.proofs.FetchedTold.{read_off, read_on}
use Rattle.trac_follow_step.proofs.fetched.reads_as.Goals as goal

pub loop-place-preserved : goal.loop-place-preserved
loop-place-preserved g c =
    let items = all_items c.args.form.now in
    read_on items c.loop-place.place (bytes_eq c.args.text.now (bytes_in items)) c.loop-place.rest.now c.in-Some.others.now
    (c.in-Some.ensures ∙ ap (λ (found : Option Item). bytes_in (option_to_list found) ++ c.in-Some.others.now) c.item.ensures)
    c.loop-place.invariant

pub returns-in_default : goal.returns-in_default
returns-in_default g c =
    let items = all_items c.args.form.now in
    read_off items c.loop-place.place (bytes_eq c.args.text.now (bytes_in items)) c.loop-place.rest.now
    (subst (λ (found : Option Item). (others : List Item) → bytes_eq c.loop-place.rest.now (bytes_in (option_to_list found ++ others)) ≡ false) c.item.ensures c.in_default.ensures)
    c.loop-place.invariant
