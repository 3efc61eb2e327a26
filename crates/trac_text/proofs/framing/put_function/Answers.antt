-- Each argument is put after the others.
use Rattle.std.proofs.Common.{ℕ, List, [], ◌∷◌, ◌++◌, length, refl, ap, ◌∙◌, arith}
use Rattle.std.specs.Prelude.{Vec}
use Rattle.std.proofs.lemmas.List.{drop_all, length-map}
use Rattle.trac_gap.specs.Ends.{Ends}
use Rattle.trac_text.specs.declared.mark.Mark.{Mark}
use Rattle.trac_text.specs.Framing.{texts_of}
use Rattle.trac_text.specs.Marks.{mark_at}
use Rattle.trac_text.proofs.Framed.{map_rest, put_all, put_next}
use Rattle.trac_text.proofs.framing.put_function.Goals as goal

pub loop-argument-init : goal.loop-argument-init
loop-argument-init g c = record {
  text_is = refl;
  marks_are = refl;
  text_room = c.requires.text;
  mark_room = omega (arith, c.requires.marks, length-map c.args.arguments.now (λ t. t.items));
}

pub push_left-requires : goal.push_left-requires
push_left-requires g c =
    let next = map_rest (λ (t : Vec ℕ g.row.A.Denot). t.items) c.args.arguments.now c.loop-argument.argument-index c.argument-item.result (omega arith) c.argument-item.is in
    omega (arith, c.loop-argument.invariant.mark_room, ap (λ (ts : List (List ℕ)). length ts) next)

pub put_left-requires : goal.put_left-requires
put_left-requires g c =
    let next = map_rest (λ (t : Vec ℕ g.row.A.Denot). t.items) c.args.arguments.now c.loop-argument.argument-index c.argument-item.result (omega arith) c.argument-item.is in
    omega (arith, (rw next at c.loop-argument.invariant).text_room, ap length c.as_slice.ensures.value)

pub loop-argument-preserved : goal.loop-argument-preserved
loop-argument-preserved g c =
    let next = map_rest (λ (t : Vec ℕ g.row.A.Denot). t.items) c.args.arguments.now c.loop-argument.argument-index c.argument-item.result (omega arith) c.argument-item.is in
    let text = g.E.TwoEnds.ends c.loop-argument.text in
    let marks = g.M.TwoEnds.ends c.loop-argument.marks in
    put_next c.argument-item.result.items (rw next at c.loop-argument.invariant)
    (c.put_left.ensures ∙ ap (λ (bytes : List ℕ). let more : Ends ℕ = record text { left = text.left ++ bytes } in more) c.as_slice.ensures.value)
    (c.push_left.ensures ∙ ap (λ (n : ℕ). let more : Ends Mark = record marks { left = marks.left ++ mark_at n c.loop-argument.frame ∷ [] } in more) (ap length c.left-place.ensures.left))

pub returns : goal.returns
returns g c =
    let all = put_all c.loop-argument.invariant (ap texts_of (drop_all c.loop-argument.argument-index c.args.arguments.now (omega arith))) in
    record { text = all.0; marks = all.1 }
