use Rattle.std.proofs.Common.{◌≡◌, ℕ, List, [], ◌∷◌, ◌++◌, ◌<◌, ap, arith, false, length, sym, take, ◌∙◌}
use Rattle.std.specs.Prelude.{bytes_eq}
use Rattle.std.specs.List.{list_any}
use Rattle.std.proofs.lemmas.List.{take_more}
use Rattle.trac_rules.specs.Blocks.{moved_out}
use Rattle.trac_rules.specs.Undone.{names_in}
use Rattle.trac_text.specs.Framing.{texts_of}
use Rattle.trac_prims.proofs.MovedOut.{name_added, name_again, name_missing, text_added}
use Rattle.trac_prims.proofs.Putting.{there_behind}
use Rattle.trac_prims.proofs.blocks.leaving_few.Goals as goal
use Rattle.trac_prims.proofs.blocks.leaving_few.Goals.{then-is_some+then-not-stands_among+in_ok-from_slice+in_ok-push, else-is_some, else-is_some-via-then-is_some+else-not-stands_among, else-is_some-via-else-is_some}

pub loop-i-preserved : goal.loop-i-preserved
loop-i-preserved g c =
    let names = c.args.names.now in
    let forms = c.args.store.now.forms in
    let name = c.get-name.result.now in
    let so_far = take c.loop-i.i names in
    let held = texts_of c.loop-i.held.items in
    let within : c.loop-i.i < length names = omega (arith, c.loop-i-test.true, c.count-i-end.ensures) in
    let found = sym (there_behind c.get.result _ c.get.ensures.value) ∙ sym c.is_some.ensures in
    elim c.if-is_some.branch [
      | then-is_some+then-not-stands_among+in_ok-from_slice+in_ok-push w ↦
          let pushed : texts_of c.if-is_some.held.items ≡ texts_of w.push.new.self.items = (let e = w.held-is in cc) in
          let new : list_any (bytes_eq name) held ≡ false = ap (λ ts. list_any (bytes_eq name) (texts_of ts)) (sym w.as_slice.ensures.value) ∙ sym w.if-not-stands_among.ensures in
          pushed
          ∙ text_added c.loop-i.held.items w.push.new.self.items w.in_ok-from_slice.field-0 name w.in_ok-push.ensures.items w.in_ok-from_slice.ensures.items
          ∙ name_added so_far forms name held c.loop-i.invariant (found ∙ w.if-is_some.true) new
      | else-is_some w ↦
          let same : texts_of c.if-is_some.held.items ≡ held = (let e = w.held-is in cc) in
          same ∙ elim w.else-is_some.branch [
            | else-is_some-via-then-is_some+else-not-stands_among v ↦
                name_again so_far forms name held c.loop-i.invariant (ap (λ ts. list_any (bytes_eq name) (texts_of ts)) (sym v.as_slice.ensures.value) ∙ sym v.if-not-stands_among.ensures)
            | else-is_some-via-else-is_some v ↦ name_missing so_far forms name held c.loop-i.invariant (found ∙ v.if-is_some.false)
          ]
    ]
    ∙ ap (λ (ns : List (List ℕ)). names_in (moved_out ns forms))
    (ap (λ (n : List ℕ). so_far ++ n ∷ []) c.get-name.ensures ∙ sym (take_more names c.loop-i.i [] within))
