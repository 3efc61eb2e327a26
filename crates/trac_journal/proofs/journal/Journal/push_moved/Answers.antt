use Rattle.std.proofs.Common.{◌-◌, ◌++◌, ap, ◌∙◌, arith}
use Rattle.std.specs.Prelude.{replicate, reverse}
use Rattle.std.specs.VecDeque.{deque_capacity, deque_len}
use Rattle.trac_rules.specs.Records.{Moved}
use Rattle.trac_journal.specs.Journaled.{Journaled}
use Rattle.trac_journal.proofs.Counted.{more_moved, moved_more, moved_within}
use Rattle.trac_journal.proofs.journal.Journal.push_moved.Goals as goal

pub overflow_add-self : goal.overflow_add-self
overflow_add-self g c = grind (arith, moved_within)

pub invariant_of-self : goal.invariant_of-self
invariant_of-self g c =
    moved_more c.self.inside.moved c.args.n c.self.inside.len c.self.inside.weight c.self.inside.entries.items c.self.inside.lists.listed c.self.invariant

pub returns : goal.returns
returns g c =
    let more = more_moved c.self.inside.moved c.args.n (reverse c.self.inside.entries.items) c.self.inside.lists.listed in
    (λ i. record { records = more i; places = deque_capacity c.self.inside.entries - deque_len c.self.inside.entries; room = c.self.inside.lists.room })
    ∙ ap (λ (j : Journaled). let kept : Journaled = record j { records = replicate c.args.n Moved ++ j.records } in kept) c.self.view_is
