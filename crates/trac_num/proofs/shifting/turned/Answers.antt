-- The text goes round by whole digits, and then by the bits that are left.
use Rattle.std.proofs.Common.{◌≡◌, ◌++◌, ◌+◌, take, drop, ◌∙◌, rules}
use Rattle.trac_num.proofs.Sliding.{turned_by_digits}
use Rattle.trac_num.proofs.shifting.turned.Goals as goal

pub returns-clause-bits : goal.returns-clause-bits
returns-clause-bits g c =
    let front : c.extend_from_slice.new.self.items ≡ drop c.args.start c.args.a.now = search rules in
    let made : c.extend_from_slice-2.new.self.items ≡ drop c.args.start c.args.a.now ++ take (c.args.start + 1) c.args.a.now = search rules in
    c.slide.ensures.bits ∙ turned_by_digits c.args.a.now c.extend_from_slice-2.new.self.items c.args.start c.args.skipped c.requires.inside c.requires.within made
