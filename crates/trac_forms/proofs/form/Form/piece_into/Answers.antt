-- The first bytes before the pointer are put, and then those after it.
use Rattle.std.proofs.Common.{◌≡◌, ◌-◌, ◌++◌, ℕ, List, length, drop, min, take, ap, sym, ◌∙◌, refl}
use Rattle.std.proofs.lemmas.List.{take_min}
use Rattle.trac_rules.specs.declared.item.Item.{Item}
use Rattle.trac_rules.specs.Pieces.{byte_of, bytes_in}
use Rattle.trac_forms.specs.Taken.{items_from}
use Rattle.trac_forms.proofs.Passing.{piece_added}
use Rattle.trac_items.proofs.Alone.{given_alone, items_alone}
use Rattle.trac_forms.proofs.form.Form.piece_into.Given.{Over}
use Rattle.trac_forms.proofs.form.Form.piece_into.Goals as goal
use Rattle.trac_forms.proofs.form.Form.piece_into.Goals.{After-is_empty}

-- what follows the bytes before the pointer
added : (g : Over) (c : After-is_empty g) (new : List ℕ) → new ≡ c.first_bytes_into.new.out.items ++ take (c.args.piece.now.len - c.in_ok-put.put) (bytes_in c.after-after.result) →
    new ≡ c.args.out.now.items ++ take c.args.piece.now.len (bytes_in (items_from c.args.piece.now c.args.self.now))
added g c new then =
    let form = c.args.self.now in
    let place = c.args.piece.now.pointer in
    let middle = c.first_bytes_into.new.out.items in
    let back : c.split_at.result.1.now ≡ drop (min place (length form.before)) form.before =
    c.split_at.ensures.back ∙ ap (λ k. drop k c.before-before.result.now) c.min.ensures ∙ ap (λ (xs : List Item). drop (min place (length xs)) xs) c.before-before.ensures in
    piece_added form c.args.piece.now c.split_at.result.1.now c.in_ok-put.put c.args.out.now.items middle new back c.in_ok-put.ensures.count c.in_ok-put.ensures.ok
    (then ∙ ap (λ (xs : List Item). middle ++ take (c.args.piece.now.len - c.in_ok-put.put) (bytes_in xs)) c.after-after.ensures)

pub returns-then-is_empty-clause-ok : goal.returns-then-is_empty-clause-ok
returns-then-is_empty-clause-ok g c =
    let left = c.args.piece.now.len - c.in_ok-put.put in
    let all = items_alone c.after.inside.text.now c.after.inside.items.now c.after-after.result c.after.view_is c.if-is_empty.ensures in
    added g (goal.at.returns-then-is_empty-clause-ok g c).After-is_empty c.first_bytes_into-then-is_empty.new.out.items
    (c.in_ok-first_bytes_into.ensures.ok ∙ ap (λ (xs : List Item). c.first_bytes_into.new.out.items ++ take left (bytes_in xs)) (sym all))

pub returns-clause-ok : goal.returns-clause-ok
returns-clause-ok g c =
    let left = c.args.piece.now.len - c.in_ok-put.put in
    let text = c.after.inside.text.now in
    let all : text ≡ bytes_in c.after-after.result =
    given_alone text c.after.inside.items.now c.after-after.result c.after.view_is c.after.invariant c.if-is_empty.ensures byte_of (λ b. refl) in
    let front : c.split_at-2.result.0.now ≡ take left (bytes_in c.after-after.result) =
    c.split_at-2.ensures.front ∙ ap (λ k. take k text) c.min-len.ensures ∙ take_min left text ∙ ap (take left) all in
    added g (goal.at.returns-clause-ok g c).After-is_empty c.extend_from_slice.new.self.items
    (c.in_ok-extend_from_slice.ensures.items ∙ ap (λ (bytes : List ℕ). c.first_bytes_into.new.out.items ++ bytes) front)
