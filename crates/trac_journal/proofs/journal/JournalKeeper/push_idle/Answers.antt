use Rattle.std.proofs.Common.{◌≡◌, length, ap, refl, subst, sym, arith}
use Rattle.std.specs.Prelude.{reverse}
use Rattle.trac_rules.specs.Records.{Idle}
use Rattle.trac_text.specs.Pieces.{frames_in}
use Rattle.trac_journal.specs.Journaled.{unpacked, IsLight, Journaled}
use Rattle.trac_journal.specs.declared.entry.Entry.{Entry}
use Rattle.trac_journal.specs.declared.entry.Kept.TheVariants as kept
use Rattle.trac_journal.proofs.Counted.{moved_within, one_more, weight_bounded}
use Rattle.trac_journal.proofs.journal.JournalKeeper.push_idle.Goals as goal

pub overflow_cast-self-inside : goal.overflow_cast-self-inside
overflow_cast-self-inside g c = grind (arith, moved_within)

pub overflow_add-self-2 : goal.overflow_add-self-2
overflow_add-self-2 g c =
    let same : Idle c.args.base.now.items (frames_in c.args.frames.now.items) ≡ Idle c.replace.result.items (frames_in c.replace-2.result.items) =
    λ i. Idle (sym c.replace.ensures.value i).items (frames_in (sym c.replace-2.ensures.value i).items) in
    omega (
      arith,
      c.requires.not_full,
      subst IsLight same c.requires.light,
      ap (λ (j : Journaled). length j.records) c.self.view_is,
      c.weight-weight.ensures,
      weight_bounded (unpacked c.self.inside.moved (reverse c.self.inside.entries.items) c.self.inside.lists.listed) c.self.inside.len c.self.inside.weight c.self.invariant.1,
    )

pub invariant_of-self : goal.invariant_of-self
invariant_of-self g c =
    let e : Entry = record { moved = c.self.inside.moved; kept = kept.Idle } in
    let same : Idle c.args.base.now.items (frames_in c.args.frames.now.items) ≡ Idle c.replace.result.items (frames_in c.replace-2.result.items) =
    λ i. Idle (sym c.replace.ensures.value i).items (frames_in (sym c.replace-2.ensures.value i).items) in
    one_more c.self.inside.moved c.self.inside.len c.self.inside.weight c.weight-weight.result c.self.inside.entries.items c.push_back_reserved.new.self.items e
    (Idle c.replace.result.items (frames_in c.replace-2.result.items)) c.self.inside.lists.listed c.push_idle.new.self.listed c.push_back_reserved.ensures.items refl
    c.push_idle.ensures c.weight-weight.ensures (subst IsLight same c.requires.light) c.self.invariant
