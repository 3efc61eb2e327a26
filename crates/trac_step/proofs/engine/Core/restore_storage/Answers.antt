use Rattle.std.proofs.Common.{List, length, sym, ap, ◌∙◌, subst, arith}
use Rattle.std.specs.Prelude.{IsSomeAnd}
use Rattle.trac_rules.specs.Proper.{IsProperStorage}
use Rattle.trac_rules.specs.Scanning.{scan}
use Rattle.trac_rules.specs.State.{Frame, storage_of}
use Rattle.trac_rules.specs.Undone.{storage_before}
use Rattle.trac_forms.specs.Stored.{KnowsAll, storage_in}
use Rattle.trac_text.specs.Neutral.{Neutral}
use Rattle.trac_change.specs.Undone.{undone_in}
use Rattle.trac_storage.specs.Changing.{AreAmong}
use Rattle.trac_step.specs.Calling.{arguments_in}
use Rattle.trac_step.specs.Layout.{Shown}
use Rattle.trac_step.proofs.Finishing.{before_there, read_there}
use Rattle.trac_step.proofs.Storages.{known_before, proper_before, stored_shows}
use Rattle.trac_step.proofs.engine.Core.restore_storage.Goals as goal

pub unreachable-requires : goal.unreachable-requires
unreachable-requires g c =
    let read = read_there c.self.view_is c.neutral.result c.neutral.ensures in
    absurd (omega (arith, c.requires.inside, ap (λ (n : Neutral). length n.frames) read, ap (λ (fs : List Frame). length fs) c.in_default.ensures))

pub put_storage-requires : goal.put_storage-requires
put_storage-requires g c =
    let s = c.args.self.now.state in
    let f = c.in-Some.function in
    known_before c.self.inside.store.known _ _
    (before_there c.self.view_is c.neutral.result c.neutral.ensures f.number f.place f.kind f.arguments (undone_in c.args.undone) c.requires.front c.in-Some.ensures)
    (subst (λ (m : Shown). IsSomeAnd (storage_before (arguments_in (scan s)) (undone_in c.args.undone) (storage_of s)) (λ storage. KnowsAll m.known storage.forms × IsProperStorage storage)) (sym c.self.view_is) c.requires.there)

pub invariant_of-self : goal.invariant_of-self
invariant_of-self g c =
    let f = c.in-Some.function in
    let same = before_there c.self.view_is c.neutral.result c.neutral.ensures f.number f.place f.kind f.arguments (undone_in c.args.undone) c.requires.front c.in-Some.ensures in
    record {
      storage_is = proper_before c.args.self.now.known _ (storage_in c.put_storage.new.store) (sym same ∙ c.put_storage.ensures.storage) c.requires.there;
      output_limit = c.self.invariant.output_limit;
    }

pub returns : goal.returns
returns g c =
    let f = c.in-Some.function in
    record {
      back =
          sym (before_there c.self.view_is c.neutral.result c.neutral.ensures f.number f.place f.kind f.arguments (undone_in c.args.undone) c.requires.front c.in-Some.ensures)
          ∙ c.put_storage.ensures.storage;
      others = stored_shows c.self.view_is c.put_storage.new.store c.put_storage.ensures.names;
      recent = subst (λ (m : Shown). AreAmong m.recent c.put_storage.new.store.recent) c.self.view_is c.put_storage.ensures.recent;
    }
