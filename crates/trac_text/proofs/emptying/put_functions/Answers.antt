-- Each function is put after those further out, in the room that there is for all.
use Rattle.std.proofs.Common.{◌≡◌, ◌+◌, ◌≤◌, ◌∷◌, ◌++◌, [], List, length, refl, sym, ap, ◌∙◌, subst, arith}
use Rattle.std.specs.List.{concat}
use Rattle.std.proofs.lemmas.List.{append-nil, append_assoc}
use Rattle.trac_rules.specs.declared.kind.Kind.{Kind}
use Rattle.trac_rules.specs.Limits.{argument_bytes, marks}
use Rattle.trac_text.specs.Pieces.{Arguments, all_texts, frames_in}
use Rattle.trac_text.proofs.NeutralAgain.{function_fits, mark_size, shows_base, shows_function, text_size}
use Rattle.trac_text.proofs.emptying.put_functions.Goals as goal

pub loop-kind-init : goal.loop-kind-init
loop-kind-init g c = rw (c.refill.ensures, c.refill-2.ensures) (record {
  back = [];
  all = append-nil c.args.functions.items;
  shows = shows_base c.args.base.now;
  text_right = refl;
  mark_right = refl;
  text_room = refl;
  mark_room = refl;
})

-- the function that is put back now, before those that are put back already
next_back : (left fewer back all : List (Kind × Arguments)) (kind : Kind) {popped lent : Arguments} → left ≡ fewer ++ (kind, popped) ∷ [] → lent ≡ popped → left ++ back ≡ all →
    fewer ++ (kind, lent) ∷ back ≡ all
next_back left fewer back all kind {popped} {lent} last is whole =
    ap (λ (a : Arguments). fewer ++ (kind, a) ∷ back) is ∙ sym (append_assoc fewer ((kind, popped) ∷ []) back)
    ∙ ap (λ (functions : List (Kind × Arguments)). functions ++ back) (sym last) ∙ whole

-- and it fits where all do
next_fits : (left fewer back all : List (Kind × Arguments)) (kind : Kind) {popped lent : Arguments} → left ≡ fewer ++ (kind, popped) ∷ [] → lent ≡ popped → left ++ back ≡ all →
    (length (concat (all_texts lent)) + argument_bytes (frames_in back) ≤ argument_bytes (frames_in all)) × (1 + length lent.finished + marks (frames_in back) ≤ marks (frames_in all))
next_fits left fewer back all kind {popped} {lent} last is whole =
    subst (λ (functions : List (Kind × Arguments)). (length (concat (all_texts lent)) + argument_bytes (frames_in back) ≤ argument_bytes (frames_in functions))
    × (1 + length lent.finished + marks (frames_in back) ≤ marks (frames_in functions))) (next_back left fewer back all kind last is whole) (function_fits fewer back kind lent)

pub put_function-requires : goal.put_function-requires
put_function-requires g c =
    let held = c.loop-kind.invariant in
    let text = (g.E.TwoEnds.ends c.loop-kind.text).left in
    let ms = (g.M.TwoEnds.ends c.loop-kind.marks).left in
    let fits = next_fits c.loop-kind.functions.items c.pop.new.self.items held.back c.args.functions.items c.in-Some.kind c.in-Some.ensures.items c.lend.ensures held.all in
    record {
      text_room = omega (arith, fits.0, text_size text ms _ held.shows, ap length held.text_right, held.text_room, c.requires.text_room);
      mark_room = omega (arith, fits.1, mark_size text ms _ held.shows, ap length held.mark_right, held.mark_room, c.requires.mark_room);
    }

pub loop-kind-preserved : goal.loop-kind-preserved
loop-kind-preserved g c =
    let held = c.loop-kind.invariant in
    let kind = c.in-Some.kind in
    rw (c.put_function.ensures.text, c.put_function.ensures.marks) (record {
      back = (kind, c.lend.result) ∷ held.back;
      all = next_back c.loop-kind.functions.items c.pop.new.self.items held.back c.args.functions.items kind c.in-Some.ensures.items c.lend.ensures held.all;
      shows = shows_function (g.E.TwoEnds.ends c.loop-kind.text).left (g.M.TwoEnds.ends c.loop-kind.marks).left (record { base = c.args.base.now; frames = frames_in held.back }) kind c.lend.result held.shows;
      text_right = held.text_right;
      mark_right = held.mark_right;
      text_room = held.text_room;
      mark_room = held.mark_room;
    })
