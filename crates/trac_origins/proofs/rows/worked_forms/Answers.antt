-- Each clause is computed from the definitions; those that look into a finite map by its laws.
use Rattle.std.proofs.Common.{◌++◌, [], cond, codes, is_some, map, rules, ap, ◌∙◌}
use Rattle.std.specs.Prelude.{Option}
use Rattle.std.specs.Cmp.Lexicographic.{nat_list_cmp_total}
use Rattle.std.specs.FinMap as finite
use Rattle.std.specs.List.{flat_map}
use Rattle.trac_rules.specs.Form.{Form, as_items, pointed_at}
use Rattle.trac_rules.specs.Rows.{Named, named, text_at, texts_of}
use Rattle.trac_rules.specs.State.{initial}
use Rattle.trac_rules.proofs.FormCalls.{entries-held}
use Rattle.trac_origins.specs.Lists.{all_made, kept}
use Rattle.trac_origins.specs.Performing.{argument_from}
use Rattle.trac_origins.specs.Places.{InForm, InHeld, items_of}
use Rattle.trac_origins.specs.Rows.{performing}
use Rattle.trac_origins.specs.Stepping.{origins}
use Rattle.trac_rules.proofs.Opened.{cut_out, digits, number_of, numeral_of, part, performed, scan, whole_number}
use Rattle.trac_origins.proofs.rows.worked_forms.Goals as goal

pub returns : goal.returns
unfolding cut_out part digits number_of numeral_of whole_number origins scan performed
returns c =
    let listing = ap (λ (entries : Named). flat_map (λ name. argument_from 1 (performing (texts_of "ln,xy") (pointed_at 0 []) initial) ++ all_made name) (map (λ entry. entry.0) entries)) (entries-held (named "b" "" ++ named "aa" "")) in
    let fetching = ap (λ (found : Option Form). cond (is_some found) (kept (InHeld 0 (codes "A")) (items_of found)) (kept (InForm (codes "A")) (as_items (codes "cd")))) (finite.get-insert nat_list_cmp_total finite.empty (codes "A") (text_at 0 "pq") (codes "A")) in
    let fetching_beside = ap (λ (found : Option Form). cond (is_some found) (kept (InHeld 0 (codes "F")) (items_of found)) (kept (InForm (codes "F")) (as_items (codes "cd")))) (finite.get-insert nat_list_cmp_total finite.empty (codes "A") (text_at 0 "pq") (codes "F") ∙ finite.get-empty _ _) in
    search (rules, listing, fetching, fetching_beside, finite.get-from_entries {X = Form} nat_list_cmp_total)
