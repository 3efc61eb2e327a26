-- The newest record of a journal, by its kind: looked at, and taken out.
use Rattle.std.proofs.Common.{◌≡◌, ℕ, zero, suc, ◌+◌, ◌-◌, ◌≤◌, List, [], ◌∷◌, ◌++◌, drop, refl, sym, ap, subst, ◌∙◌, arith}
use Rattle.std.specs.Prelude.{reverse}
use Rattle.trac_rules.specs.Records.{Called, CallRecord, Record, Idle, Moved}
use Rattle.trac_rules.specs.State.{Frame}
use Rattle.trac_rules.specs.Undone.{Undone}
use Rattle.trac_rules.specs.Weights.{undone_weight, weight}
use Rattle.trac_journal.specs.Journaled.{unpacked, AreListed}
use Rattle.trac_journal.specs.Listed.{Listed, call_of, idle_of, newest_in, newest_undone, nothing_listed, older_in, older_undone, without_call, HasCall, Holds, IsBrief}
use Rattle.trac_journal.specs.Told.{HasCallOut, IsCallFirst, IsMovedFirst}
use Rattle.trac_journal.specs.declared.entry.CallEntry.{CallEntry}
use Rattle.trac_journal.specs.declared.entry.Entry.{Entry}
use Rattle.trac_journal.specs.declared.entry.Kept.{Kept}
use Rattle.trac_journal.specs.declared.entry.Kept.TheVariants as kept
use Rattle.trac_journal.proofs.Counted.{entry_first, entry_there, one_less, IsSound, OneLess}

-- where the newest record is not of a moved byte, none was moved after the newest entry
pub none_moved : (IsFirst : List Record → Type 0) → ((older : List Record) → IsFirst (Moved ∷ older) → ⊥) → (moved : ℕ) (entries : List Entry) (l : Listed) →
    IsFirst (unpacked moved entries l) → moved ≡ 0
none_moved IsFirst other zero entries l first = refl
none_moved IsFirst other (suc moved) [] l first = absurd (other _ first)
none_moved IsFirst other (suc moved) (e ∷ entries) l first = absurd (other _ first)

-- ---- one of a moved byte

-- a call has a record of its own
call_unmoved : (calls : List CallEntry) (undone : Undone) (bytes commas : List ℕ) (older : List Record) → HasCall calls bytes commas →
    IsMovedFirst (call_of calls undone bytes commas ∷ older) → ⊥
call_unmoved [] undone bytes commas older has first = has
call_unmoved (c ∷ calls) undone bytes commas older has first = first

-- and so has a step that emptied all texts
idle_unmoved : (emptied : List (List ℕ × List Frame)) (older : List Record) → IsMovedFirst (idle_of emptied ∷ older) → ⊥
idle_unmoved [] older first = first
idle_unmoved (texts ∷ emptied) older first = first

-- no entry keeps one
entry_unmoved : (k : Kept) (l : Listed) (older : List Record) → Holds k l → IsMovedFirst (newest_in k l ∷ older) → ⊥
entry_unmoved kept.Call l older there first = call_unmoved l.calls (newest_undone kept.Call l.undone) l.bytes l.commas older there first
entry_unmoved (kept.Pointed place) l older there first =
    call_unmoved l.calls (newest_undone (kept.Pointed place) l.undone) l.bytes l.commas older there first
entry_unmoved kept.Changed l older there first = call_unmoved l.calls (newest_undone kept.Changed l.undone) l.bytes l.commas older there.0 first
entry_unmoved kept.Idle l older there first = idle_unmoved l.emptied older first
entry_unmoved k l older there first = first

-- so where none was moved after the newest entry, the newest record is of something else
pub moved_out : (moved : ℕ) (entries : List Entry) (l : Listed) → moved ≡ 0 → AreListed entries l → IsMovedFirst (unpacked moved entries l) → ⊥
moved_out zero [] l none listed first = first
moved_out zero (e ∷ entries) l none listed first = entry_unmoved e.kept l (unpacked e.moved entries (older_in e.kept l)) listed.0 first
moved_out (suc moved) entries l none listed first = absurd (omega (arith, none))

-- ---- a short one

-- its entry holds all of it
brief_alone : (k : Kept) (l : Listed) → IsBrief k → (newest_in k l ≡ newest_in k nothing_listed) × (older_in k l ≡ l)
brief_alone kept.Call l brief = absurd brief
brief_alone (kept.Pointed place) l brief = absurd brief
brief_alone kept.Changed l brief = absurd brief
brief_alone kept.Idle l brief = absurd brief
brief_alone k l brief = (refl, refl)

pub short_less : {moved count weighed own : ℕ} {entries left : List Entry} {e : Entry} {r : Record} {l : Listed} → moved ≡ 0 → entries ≡ left ++ e ∷ [] → IsBrief e.kept →
    r ≡ newest_in e.kept nothing_listed → own ≡ weight (newest_in e.kept nothing_listed) → IsSound moved entries l count weighed → OneLess moved count weighed own entries left e r l l
short_less {e = e} {l = l} none last brief says is sound =
    let alone = brief_alone e.kept l brief in
    one_less none last (alone.0 ∙ sym says) (sym alone.1) (is ∙ ap weight (sym says)) sound

-- ---- one of a call

-- of which an entry keeps this
record KeepsCall (k : Kept) (l : Listed) : Type 0 where
  has : HasCall l.calls l.bytes l.commas
  newest : newest_in k l ≡ call_of l.calls (newest_undone k l.undone) l.bytes l.commas
  others : without_call l.calls (record l { undone = older_undone k l.undone }) ≡ older_in k l

keeps_call : (k : Kept) (l : Listed) (older : List Record) → IsCallFirst (newest_in k l ∷ older) → Holds k l → KeepsCall k l
keeps_call kept.Call l older first there = record { has = there; newest = refl; others = refl }
keeps_call (kept.Pointed place) l older first there = record { has = there; newest = refl; others = refl }
keeps_call kept.Changed l older first there = record { has = there.0; newest = refl; others = refl }
keeps_call kept.Idle l older first there = absurd (no_call l.emptied first)
  where
    no_call : (emptied : List (List ℕ × List Frame)) → IsCallFirst (idle_of emptied ∷ older) → ⊥
    no_call [] first = first
    no_call (texts ∷ emptied) first = first
keeps_call k l older first there = absurd first

-- it says what it destroyed
says_undone : (calls : List CallEntry) (undone : Undone) (bytes commas : List ℕ) → HasCall calls bytes commas → (call : CallRecord) × ((call_of calls undone bytes commas ≡ Called call) × (undone ≡ call.undone))
says_undone [] undone bytes commas has = absurd has
says_undone (c ∷ calls) undone bytes commas has = (_, (refl, refl))

-- and it is taken out: what it destroyed first, and then its texts, which weigh so much
pub record CallLess (moved count weighed texts : ℕ) (entries left : List Entry) (e : Entry) (undone : Undone) (l new : Listed) : Type 0 where
  pub within : texts + undone_weight undone ≤ weighed
  pub sound : IsSound e.moved left new (count - 1) (weighed - (texts + undone_weight undone))
  pub out : HasCallOut undone (unpacked moved (reverse entries) l) (unpacked e.moved (reverse left) new)

call_kept : (moved : ℕ) (entries left : List Entry) (e : Entry) (l : Listed) → IsCallFirst (unpacked moved (reverse entries) l) → entries ≡ left ++ e ∷ [] → AreListed (reverse entries) l →
    (moved ≡ 0) × KeepsCall e.kept l
call_kept moved entries left e l first last listed =
    let none = none_moved IsCallFirst (λ older is. is) moved (reverse entries) l first in
    (none, keeps_call e.kept l _ (subst IsCallFirst (entry_first moved entries left e l none last) first) (entry_there entries left e l last listed).0)

pub call_there : (moved : ℕ) (entries left : List Entry) (e : Entry) (l : Listed) {mid : Listed} → IsCallFirst (unpacked moved (reverse entries) l) → entries ≡ left ++ e ∷ [] →
    AreListed (reverse entries) l → mid ≡ record l { undone = older_undone e.kept l.undone } → HasCall mid.calls mid.bytes mid.commas
call_there moved entries left e l first last listed mid_is = subst (λ (x : Listed). HasCall x.calls x.bytes x.commas) (sym mid_is) (call_kept moved entries left e l first last listed).1.has

pub call_less : {moved count weighed texts : ℕ} {entries left : List Entry} {e : Entry} {l mid new : Listed} {undone : Undone} → IsCallFirst (unpacked moved (reverse entries) l) →
    entries ≡ left ++ e ∷ [] → IsSound moved entries l count weighed → mid ≡ record l { undone = older_undone e.kept l.undone } → undone ≡ newest_undone e.kept l.undone →
    new ≡ without_call mid.calls mid → ((u : Undone) → texts + undone_weight u ≡ weight (call_of mid.calls u mid.bytes mid.commas)) → CallLess moved count weighed texts entries left e undone l new
call_less {moved} {texts = texts} {entries} {left} {e} {l} {undone = undone} first last sound mid_is own new_is weighs =
    let kept_so = call_kept moved entries left e l first last sound.0 in
    let keeps = kept_so.1 in
    let says = says_undone l.calls undone l.bytes l.commas keeps.has in
    let newest = keeps.newest ∙ ap (λ (u : Undone). call_of l.calls u l.bytes l.commas) (sym own) ∙ says.1.0 in
    let same : texts + undone_weight undone ≡ weight (Called says.0) =
    weighs undone ∙ ap (λ (x : Listed). weight (call_of x.calls undone x.bytes x.commas)) mid_is ∙ ap weight says.1.0 in
    let less = one_less kept_so.0 last newest (new_is ∙ ap (λ (x : Listed). without_call x.calls x) mid_is ∙ keeps.others) same sound in
    record { within = less.within; sound = less.sound; out = record { call = says.0; taken = less.first; destroyed = says.1.1 } }

-- ---- one of a step that emptied all texts

pub idle_less : {moved count weighed : ℕ} {entries left : List Entry} {e : Entry} {l new : Listed} {base : List ℕ} {frames : List Frame} → moved ≡ 0 → entries ≡ left ++ e ∷ [] →
    e.kept ≡ kept.Idle → Idle base frames ≡ idle_of l.emptied → new ≡ record l { emptied = drop 1 l.emptied } → IsSound moved entries l count weighed →
    OneLess moved count weighed (weight (Idle base frames)) entries left e (Idle base frames) l new
idle_less {e = e} {l = l} none last is emptied others sound =
    one_less none last (ap (λ (k : Kept). newest_in k l) is ∙ sym emptied) (others ∙ sym (ap (λ (k : Kept). older_in k l) is)) refl sound
