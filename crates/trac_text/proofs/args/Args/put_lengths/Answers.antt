use Rattle.std.proofs.Common.{◌≡◌, ℕ, List, [], ◌+◌, ◌-◌, ◌^◌, ◌++◌, ap, drop, length, refl, sym, ◌∙◌, arith}
use Rattle.std.specs.List.{concat}
use Rattle.std.proofs.lemmas.List.{append-nil, drop_all}
use Rattle.trac_text.specs.declared.mark.Mark.{Mark}
use Rattle.trac_text.proofs.Cutting.{length-cut}
use Rattle.trac_text.proofs.Lengths.{lengths_between, lengths_told, marks_near, next_within}
use Rattle.trac_text.proofs.args.Args.put_lengths.Goals as goal

pub loop-mark-init : goal.loop-mark-init
loop-mark-init g c =
    let args = c.self.inside in
    record {
      put = refl;
      cuts = marks_near args.from args.marks.now args.text.now (2 ^ 32 - 1) c.self.invariant (omega (arith, c.requires.short, ap (λ (texts : List (List ℕ)). length (concat texts)) c.self.view_is));
      from = omega arith;
      room = omega (arith, c.requires.room, length-cut args.from args.marks.now args.text.now, ap (λ (texts : List (List ℕ)). length texts) c.self.view_is);
    }

pub overflow_cast-mark : goal.overflow_cast-mark
overflow_cast-mark g c =
    let args = c.self.inside in
    omega (
      arith,
      c.loop-mark.invariant.from,
      next_within c.loop-mark.start args.marks.now c.loop-mark.mark-index (args.from + (2 ^ 32 - 1)) c.loop-mark-test.true c.loop-mark.invariant.cuts,
    )

pub returns : goal.returns
returns g c =
    let args = c.self.inside in
    let all : drop c.loop-mark.mark-index args.marks.now ≡ [] = drop_all c.loop-mark.mark-index args.marks.now (omega arith) in
    sym (append-nil c.loop-mark.commas.items)
    ∙ ap (λ (marks : List Mark). c.loop-mark.commas.items ++ lengths_between c.loop-mark.start marks) (sym all)
    ∙ c.loop-mark.invariant.put
    ∙ ap (λ (lengths : List ℕ). c.args.commas.now.items ++ lengths) (lengths_told args.from args.marks.now args.text.now c.args.self.now c.self.invariant c.self.view_is)
