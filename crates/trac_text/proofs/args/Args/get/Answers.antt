use Rattle.std.proofs.Common.{◌≡◌, ◌≤◌, [], length, drop, get_or, sym, ap, ◌∙◌, arith}
use Rattle.std.proofs.lemmas.List.{get_or_past}
use Rattle.std.proofs.lemmas.Slice.{between_is}
use Rattle.trac_text.specs.Cuts.{cut}
use Rattle.trac_text.proofs.Cutting.{length-cut, get-cut, start_before_end, start_of, start_of-before}
use Rattle.trac_text.proofs.args.Args.get.Goals as goal
use Rattle.trac_text.proofs.args.Args.get.Goals.{then-i-eq0, else-i-eq0}

pub returns-then-i-self : goal.returns-then-i-self
returns-then-i-self c =
    let texts = cut c.self.inside.from c.self.inside.marks.now c.self.inside.text.now in
    let short : length texts ≤ c.args.i = omega (arith, length-cut c.self.inside.from c.self.inside.marks.now c.self.inside.text.now) in
    let past : get_or texts c.args.i [] ≡ [] = get_or_past texts c.args.i [] short in
    sym past ∙ ap (λ texts. get_or texts c.args.i []) c.self.view_is

pub split_at-requires : goal.split_at-requires
split_at-requires c =
    omega (arith, start_before_end c.self.inside.from c.self.inside.marks.now (length c.self.inside.text.now) c.args.i c.self.invariant (omega arith), c.end_at-end.ensures)

pub split_at-requires-2 : goal.split_at-requires-2
split_at-requires-2 c =
    let args = c.self.inside in
    let lies = start_before_end args.from args.marks.now (length args.text.now) c.args.i c.self.invariant (omega arith) in
    let start_is : c.if-i-eq0.start ≡ start_of args.from args.marks.now c.args.i = elim c.if-i-eq0.branch [
      | then-i-eq0 w ↦ w.start-is ∙ ap (start_of args.from args.marks.now) (sym w.if-i-eq0.true)
      | else-i-eq0 w ↦ w.start-is ∙ sym (start_of-before args.from args.marks.now c.args.i _ w.if-i-eq0.false c.if-i-self.false)
    ] in
    omega (arith, lies, start_is, c.end_at-end.ensures, c.split_at.ensures.front_len)

pub returns : goal.returns
returns c =
    let args = c.self.inside in
    let start_is : c.if-i-eq0.start ≡ start_of args.from args.marks.now c.args.i = elim c.if-i-eq0.branch [
      | then-i-eq0 w ↦ w.start-is ∙ ap (start_of args.from args.marks.now) (sym w.if-i-eq0.true)
      | else-i-eq0 w ↦ w.start-is ∙ sym (start_of-before args.from args.marks.now c.args.i _ w.if-i-eq0.false c.if-i-self.false)
    ] in
    c.split_at-2.ensures.back ∙ ap (drop c.if-i-eq0.start) c.split_at.ensures.front ∙ sym (between_is args.text.now c.if-i-eq0.start c.end_at-end.result)
    ∙ rw (start_is, c.end_at-end.ensures) (sym (get-cut args.from args.marks.now args.text.now c.args.i (omega arith)))
    ∙ ap (λ texts. get_or texts c.args.i []) c.self.view_is
