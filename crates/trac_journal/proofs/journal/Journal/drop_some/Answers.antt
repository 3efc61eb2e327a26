-- In each case some of the oldest records are dropped.
use Rattle.std.proofs.Common.{length, refl, sym, ap, ◌∙◌, arith}
use Rattle.trac_journal.specs.Journaled.{Journaled}
use Rattle.trac_journal.specs.Told.{printed_by, read_by, sum_by}
use Rattle.trac_journal.proofs.Dropped.{entry_apart, entry_left, entry_listed, entry_printed, entry_read, last_left, last_listed, last_within, moved_dropped, moved_left, moved_listed, oldest_light, same_weight, seen_left}
use Rattle.trac_journal.proofs.journal.Journal.drop_some.Goals as goal

-- ---- without an entry

pub overflow_sub-self : goal.overflow_sub-self
overflow_sub-self g c =
    let inside = c.self.inside in
    let none = sym inside.entries.ok.0 ∙ c.in_default.ensures.cases.0 in
    last_within inside.moved c.args.most inside.entries.items inside.entries.items inside.lists.listed none none (omega (arith, ap (λ (j : Journaled). length j.records) c.self.view_is, c.requires.there))

pub invariant_of-self : goal.invariant_of-self
invariant_of-self g c =
    let inside = c.self.inside in
    let none = sym inside.entries.ok.0 ∙ c.in_default.ensures.cases.0 in
    let still = sym c.pop_front.new.self.ok.0 ∙ c.in_default.ensures.cases.1 in (
      last_listed inside.moved c.args.most inside.entries.items c.pop_front.new.self.items inside.lists.listed none still c.self.invariant.0,
      same_weight (last_left inside.moved c.args.most inside.entries.items c.pop_front.new.self.items inside.lists.listed none still
          (omega (arith, ap (λ (j : Journaled). length j.records) c.self.view_is, c.requires.there)) c.self.invariant.1),
    )

pub returns-in_default : goal.returns-in_default
returns-in_default g c =
    let inside = c.self.inside in
    let none = sym inside.entries.ok.0 ∙ c.in_default.ensures.cases.0 in
    let still = sym c.pop_front.new.self.ok.0 ∙ c.in_default.ensures.cases.1 in
    moved_dropped (ap (λ (j : Journaled). j.records) c.self.view_is) c.requires.some
    (last_left inside.moved c.args.most inside.entries.items c.pop_front.new.self.items inside.lists.listed none still
    (omega (arith, ap (λ (j : Journaled). length j.records) c.self.view_is, c.requires.there)) c.self.invariant.1)

-- ---- before the oldest entry's own record

pub invariant_of-self-then-most-moved : goal.invariant_of-self-then-most-moved
invariant_of-self-then-most-moved g c =
    let listed = c.self.inside.lists.listed in (
      moved_listed listed c.in-Some.ensures.items c.push_front_reserved.ensures.items refl c.self.invariant.0,
      same_weight (moved_left c.self.inside.moved c.args.most listed c.in-Some.ensures.items c.push_front_reserved.ensures.items refl (omega (arith, c.if-most-moved.true)) c.self.invariant.0 c.self.invariant.1),
    )

pub returns-then-most-moved : goal.returns-then-most-moved
returns-then-most-moved g c =
    moved_dropped (ap (λ (j : Journaled). j.records) c.self.view_is) c.requires.some
    (moved_left c.self.inside.moved c.args.most c.self.inside.lists.listed c.in-Some.ensures.items c.push_front_reserved.ensures.items refl (omega (arith, c.if-most-moved.true)) c.self.invariant.0 c.self.invariant.1)

-- ---- with it

pub drop_oldest-gone-requires : goal.drop_oldest-gone-requires
drop_oldest-gone-requires g c =
    let listed = c.self.inside.lists.listed in
    let apart = entry_apart c.self.inside.moved listed c.in-Some.ensures.items c.self.invariant.0 c.self.invariant.1 in
    let light = oldest_light c.self.inside.moved listed c.in-Some.ensures.items c.self.invariant.0 c.self.invariant.1 in
    (apart.own, (apart.others, (apart.oldest, omega (arith, light))))

pub overflow_sub-self-2 : goal.overflow_sub-self-2
overflow_sub-self-2 g c =
    (entry_left c.self.inside.moved c.self.inside.lists.listed c.in-Some.ensures.items c.self.invariant.0 c.self.invariant.1 c.drop_oldest-gone.ensures).few

pub overflow_sub-self-3 : goal.overflow_sub-self-3
overflow_sub-self-3 g c =
    (entry_left c.self.inside.moved c.self.inside.lists.listed c.in-Some.ensures.items c.self.invariant.0 c.self.invariant.1 c.drop_oldest-gone.ensures).within

pub invariant_of-self-2 : goal.invariant_of-self-2
invariant_of-self-2 g c = (
  entry_listed c.self.inside.moved c.self.inside.lists.listed c.in-Some.ensures.items c.self.invariant.0 c.self.invariant.1 c.drop_oldest-gone.ensures,
  (entry_left c.self.inside.moved c.self.inside.lists.listed c.in-Some.ensures.items c.self.invariant.0 c.self.invariant.1 c.drop_oldest-gone.ensures).counted,
)

pub returns : goal.returns
returns g c =
    let inside = c.self.inside in
    let left = seen_left (ap (λ (j : Journaled). j.records) c.self.view_is)
    (entry_left inside.moved inside.lists.listed c.in-Some.ensures.items c.self.invariant.0 c.self.invariant.1 c.drop_oldest-gone.ensures) in
    let read = entry_read inside.moved inside.lists.listed c.in-Some.ensures.items c.self.invariant.0 c.self.invariant.1 c.drop_oldest-gone.ensures in
    let printed = entry_printed inside.moved inside.lists.listed c.in-Some.ensures.items c.self.invariant.0 c.self.invariant.1 c.drop_oldest-gone.ensures in
    record {
      kept = left.kept;
      some = omega (arith, left.many);
      most = omega (arith, left.many, c.if-most-moved.false);
      read = read ∙ sym (ap (sum_by read_by) left.rest);
      printed = printed ∙ sym (ap (sum_by printed_by) left.rest);
    }
