use Rattle.std.proofs.Common.{ℕ, List, length, ap, refl, subst, sym, arith}
use Rattle.std.specs.Prelude.{reverse}
use Rattle.trac_rules.specs.Records.{Called}
use Rattle.trac_rules.specs.Undone.{Undone}
use Rattle.trac_journal.specs.Journaled.{unpacked, IsLight, Journaled}
use Rattle.trac_journal.specs.Told.{record_with}
use Rattle.trac_change.specs.Undone.{undone_in}
use Rattle.trac_journal.specs.declared.entry.Entry.{Entry}
use Rattle.trac_journal.proofs.Counted.{moved_within, one_more, weight_bounded}
use Rattle.trac_text.proofs.Joined.{total-joined}
use Rattle.trac_journal.proofs.journal.JournalKeeper.push_call.Goals as goal

pub overflow_cast-self-inside : goal.overflow_cast-self-inside
overflow_cast-self-inside g c = grind (arith, moved_within)

pub overflow_add-self-2 : goal.overflow_add-self-2
overflow_add-self-2 g c =
    let texts : List (List ℕ) = c.args.arguments.now in
    let light = subst (λ (undone : Undone). IsLight (Called (record_with c.args.called texts undone))) (ap (λ u. undone_in u) (sym c.replace-undone.ensures.value)) c.requires.light in
    omega (
      arith,
      c.requires.not_full,
      light,
      ap (λ (j : Journaled). length j.records) c.self.view_is,
      ap (λ (text : List ℕ). length text) c.joined-bytes.ensures,
      total-joined texts,
      c.comma_count.ensures,
      c.weigh_call-weight.ensures,
      weight_bounded (unpacked c.self.inside.moved (reverse c.self.inside.entries.items) c.self.inside.lists.listed) c.self.inside.len c.self.inside.weight c.self.invariant.1,
    )

pub invariant_of-self : goal.invariant_of-self
invariant_of-self g c =
    let texts : List (List ℕ) = c.args.arguments.now in
    let e : Entry = record { moved = c.self.inside.moved; kept = c.push_call-kept.result } in
    let light = subst (λ (undone : Undone). IsLight (Called (record_with c.args.called texts undone))) (ap (λ u. undone_in u) (sym c.replace-undone.ensures.value)) c.requires.light in
    one_more c.self.inside.moved c.self.inside.len c.self.inside.weight c.weigh_call-weight.result c.self.inside.entries.items c.push_back_reserved.new.self.items e
    (Called (record_with c.args.called texts (undone_in c.replace-undone.result))) c.self.inside.lists.listed c.push_call-kept.new.self.listed c.push_back_reserved.ensures.items refl
    c.push_call-kept.ensures
    (omega (arith, ap (λ (text : List ℕ). length text) c.joined-bytes.ensures, total-joined texts, c.comma_count.ensures, c.weigh_call-weight.ensures)) light c.self.invariant
