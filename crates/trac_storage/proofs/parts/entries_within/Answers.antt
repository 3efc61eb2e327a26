-- Each name is within the limit, or one is not; what is true of every form makes the entry proper.
use Rattle.std.proofs.Common.{◌≤◌, ℕ, List, sym, subst, arith, take_all}
use Rattle.std.specs.Prelude.{Vec, length}
use Rattle.std.proofs.lemmas.Bool.{le-leb}
use Rattle.trac_rules.specs.declared.limit.TheConstants.{NAME_LIMIT}
use Rattle.trac_rules.specs.Form.{Form}
use Rattle.trac_change.specs.Changed.{named_forms}
use Rattle.trac_storage.specs.Loading.{AreProperEntries}
use Rattle.trac_storage.proofs.Entries.{entry_fails, entry_next, over, proper_entry, proper_next}
use Rattle.trac_storage.proofs.parts.entries_within.Goals as goal

pub returns-then-len-gt-NAME_LIMIT-clause-fits : goal.returns-then-len-gt-NAME_LIMIT-clause-fits
returns-then-len-gt-NAME_LIMIT-clause-fits g c =
    let entry = c.loop-name-item.result in
    sym (entry_fails c.args.forms.now c.loop-name.name-index entry (omega arith) c.loop-name-item.is (over (length entry.0.items) NAME_LIMIT (omega (arith, c.len.ensures, entry.0.ok.0))))

pub loop-name-preserved : goal.loop-name-preserved
loop-name-preserved g c =
    let entry = c.loop-name-item.result in
    let short : length entry.0.items ≤ NAME_LIMIT = omega (arith, c.len.ensures, entry.0.ok.0) in
    record {
      fits = entry_next c.args.forms.now c.loop-name.name-index entry (omega arith) c.loop-name-item.is (le-leb _ _ short) c.loop-name.invariant.fits;
      proper = proper_next c.args.forms.now c.loop-name.name-index entry (omega arith) c.loop-name-item.is
          (proper_entry entry.0.items entry.1 short c.len-items.ensures.within c.len-items.ensures.wide) c.loop-name.invariant.proper;
    }

pub returns-clause-proper : goal.returns-clause-proper
returns-clause-proper g c = λ _.
    subst (λ (forms : List (Vec ℕ g.row.A.Denot × Form)). AreProperEntries (named_forms forms)) (take_all c.loop-name.name-index c.args.forms.now (omega arith)) c.loop-name.invariant.proper
