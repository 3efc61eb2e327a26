use Rattle.std.proofs.Common.{◌≡◌, ℕ, Bor, List, [], ◌∷◌, ◌++◌, ◌<◌, ap, arith, false, true, length, sym, take, ◌∙◌}
use Rattle.std.specs.Prelude.{bytes_eq}
use Rattle.std.specs.List.{list_any}
use Rattle.std.proofs.lemmas.Bool.{MatchBool-at_false, MatchBool-at_true, not-false, not-true}
use Rattle.std.proofs.lemmas.List.{take_more}
use Rattle.trac_rules.specs.Blocks.{moved_out}
use Rattle.trac_rules.specs.Undone.{names_in}
use Rattle.trac_text.specs.Framing.{texts_of}
use Rattle.trac_prims.proofs.MovedOut.{key_added, name_added, name_again, name_missing, text_added}
use Rattle.trac_prims.proofs.Putting.{there_behind}
use Rattle.trac_prims.proofs.blocks.leaving_many.Goals as goal
use Rattle.trac_prims.proofs.blocks.leaving_many.Goals.{then-is_some+in_ok-insert+then-branch+in_ok-from_slice+in_ok-push, else-is_some, else-is_some-via-then-is_some+in_ok-insert+else-branch, else-is_some-via-else-is_some}

-- keys and texts that are those before
as_before : (q : List ℕ) (keys before : List (Bor (List ℕ))) (held others : List (List ℕ)) → keys ≡ before → held ≡ others →
    list_any (λ k. bytes_eq q k.now) before ≡ list_any (bytes_eq q) others → list_any (λ k. bytes_eq q k.now) keys ≡ list_any (bytes_eq q) held
as_before q keys before held others same alike so =
    ap (λ (ks : List (Bor (List ℕ))). list_any (λ k. bytes_eq q k.now) ks) same ∙ so ∙ ap (λ (ns : List (List ℕ)). list_any (bytes_eq q) ns) (sym alike)

pub loop-i-preserved : goal.loop-i-preserved
loop-i-preserved g c =
    let names = c.args.names.now in
    let forms = c.args.store.now.forms in
    let name = c.get-name.result.now in
    let so_far = take c.loop-i.i names in
    let held = texts_of c.loop-i.held.items in
    let is_seen = list_any (λ k. bytes_eq name k.now) c.loop-i.seen.keys in
    let within : c.loop-i.i < length names = omega (arith, c.loop-i-test.true, c.count-i-end.ensures) in
    let found = sym (there_behind c.get.result _ c.get.ensures.value) ∙ sym c.is_some.ensures in
    let further = ap (λ (ns : List (List ℕ)). names_in (moved_out ns forms))
    (ap (λ (n : List ℕ). so_far ++ n ∷ []) c.get-name.ensures ∙ sym (take_more names c.loop-i.i [] within)) in
    elim c.if-is_some.branch [
      | then-is_some+in_ok-insert+then-branch+in_ok-from_slice+in_ok-push w ↦
          let put = w.in_ok-insert.ensures in
          let new : list_any (bytes_eq name) held ≡ false = sym (c.loop-i.invariant.1 name) ∙ not-true is_seen (sym put.added ∙ w.if-branch.true) in
          let pushed : texts_of c.if-is_some.held.items ≡ held ++ name ∷ [] =
          rw w.held-is (text_added c.loop-i.held.items w.push.new.self.items w.in_ok-from_slice.field-0 name w.in_ok-push.ensures.items w.in_ok-from_slice.ensures.items) in (
            pushed ∙ name_added so_far forms name held c.loop-i.invariant.0 (found ∙ w.if-is_some.true) new ∙ further,
            λ q. rw w.seen-is (key_added q c.loop-i.seen.keys w.insert.new.self.keys c.get-name.result held (MatchBool-at_true _ _ w.if-branch.true put.keys) (c.loop-i.invariant.1 q))
                ∙ ap (λ (ns : List (List ℕ)). list_any (bytes_eq q) ns) (sym pushed),
          )
      | else-is_some w ↦
          let same : texts_of c.if-is_some.held.items ≡ held = (let e = w.held-is in cc) in
          elim w.else-is_some.branch [
            | else-is_some-via-then-is_some+in_ok-insert+else-branch v ↦
                let put = v.in_ok-insert.ensures in
                let again : list_any (bytes_eq name) held ≡ true = sym (c.loop-i.invariant.1 name) ∙ not-false is_seen (sym put.added ∙ v.if-branch.false) in
                let stays = MatchBool-at_false _ _ v.if-branch.false put.unchanged in
                let kept : c.if-is_some.seen.keys ≡ c.loop-i.seen.keys = (let e = w.seen-is in let f = v.seen-is in cc) in (
                  same ∙ name_again so_far forms name held c.loop-i.invariant.0 again ∙ further,
                  λ q. as_before q _ _ _ _ kept same (c.loop-i.invariant.1 q),
                )
            | else-is_some-via-else-is_some v ↦
                let kept : c.if-is_some.seen.keys ≡ c.loop-i.seen.keys = (let e = w.seen-is in let f = v.seen-is in cc) in (
                  same ∙ name_missing so_far forms name held c.loop-i.invariant.0 (found ∙ v.if-is_some.false) ∙ further,
                  λ q. as_before q _ _ _ _ kept same (c.loop-i.invariant.1 q),
                )
          ]
    ]
