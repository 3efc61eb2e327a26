-- The last of the list is the first of what is seen.
use Rattle.std.proofs.Common.{drop, ap, sym}
use Rattle.trac_journal.specs.Emptied.{texts_in}
use Rattle.trac_journal.specs.Journaled.{Lists}
use Rattle.trac_journal.specs.Listed.{idle_of}
use Rattle.trac_journal.proofs.Ends.{push_seen}
use Rattle.trac_journal.proofs.lists.Lists.pop_emptied.Goals as goal

pub returns : goal.returns
returns g c =
    let seen = push_seen texts_in c.self.inside.emptied.items c.pop_back.new.self.items c.in-Some.emptied c.args.self.now.listed.emptied
    (ap (λ (v : Lists). v.listed.emptied) c.self.view_is) c.in-Some.ensures.items in
    record { others = λ i. record (c.self.view_is i).listed { emptied = drop 1 (sym seen i) }; first = ap idle_of (sym seen) }
