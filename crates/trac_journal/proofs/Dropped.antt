-- What the oldest record has in the lists, dropped.
use Rattle.std.proofs.Common.{◌≡◌, ℕ, ◌+◌, ◌-◌, ◌<◌, ◌≤◌, ◌^◌, List, [], ◌∷◌, ◌++◌, length, map, take, drop, refl, sym, ap, subst, ◌∙◌, arith}
use Rattle.std.specs.Prelude.{min, replicate, reverse}
use Rattle.std.proofs.lemmas.List.{append-nil, append_assoc, drop-append-le, drop-drop, drop_all, drop_at, drop_min, length-append, length-replicate, length-take, map-append, nil_from_length, replicate-append-replicate, reverse-append, take-append-drop, take-take, take_all, take_at, take_min}
use Rattle.std.proofs.lemmas.List.Elements.{All-drop, All-head, All-same, All-take}
use Rattle.trac_rules.specs.Records.{Record, Idle, Moved}
use Rattle.trac_rules.specs.State.{Frame}
use Rattle.trac_rules.specs.Undone.{Undone, Nothing, Point}
use Rattle.trac_rules.specs.Weights.{meta_weight, undone_weight, weight}
use Rattle.trac_journal.specs.Dropped.{EndsWithCall, IsGone, IsGoneCall, IsOldest, joined, without_oldest}
use Rattle.trac_journal.specs.Journaled.{unpacked, AreCounted, AreListed, IsLight}
use Rattle.trac_journal.specs.Listed.{Listed, call_of, first_undone, idle_of, newest_in, nothing_listed, older_in, without_call, HasCall, Holds, IsBrief}
use Rattle.trac_journal.specs.Told.{printed_by, read_by, sum_by}
use Rattle.trac_journal.specs.declared.entry.CallEntry.{CallEntry}
use Rattle.trac_journal.specs.declared.entry.Entry.{Entry}
use Rattle.trac_journal.specs.declared.entry.Kept.{Kept}
use Rattle.trac_journal.specs.declared.entry.Kept.TheVariants as kept
use Rattle.trac_journal.specs.declared.lists.Gone.{Gone}
use Rattle.trac_journal.proofs.Calls.{call_weighs, newest_call}
use Rattle.trac_journal.proofs.Counted.{moved_sum, sum_by-append}
use Rattle.trac_text.proofs.TakenOut.{same_before_last}
use Rattle.trac_journal.proofs.Ends.{length-alone}
use Rattle.trac_journal.proofs.Oldest.{nothing_joined, OldestApart, oldest_apart, oldest_last}

-- ---- the first of a list of the code is the last of those that are seen

pub first_of : {X Y : Type 0} (f : X → Y) {items left : List X} {x : X} {seen : List Y} (newer : List Y) (y : Y) → items ≡ x ∷ left → map f (reverse items) ≡ seen → seen ≡ newer ++ y ∷ [] →
    (newer ≡ map f (reverse left)) × (y ≡ f x)
first_of {X} f {items} {left} {x} newer y first view last =
    let there : map f (reverse items) ≡ map f (reverse left) ++ f x ∷ [] =
    ap (λ (xs : List X). map f (reverse xs)) first ∙ ap (map f) (reverse-append (x ∷ []) left) ∙ map-append f (reverse left) (x ∷ []) in
    same_before_last newer (map f (reverse left)) y (f x) (sym last ∙ sym view ∙ there)

pub first_call : {items left seen : List CallEntry} {x : CallEntry} (newer : List CallEntry) (call : CallEntry) → items ≡ x ∷ left → reverse items ≡ seen → seen ≡ newer ++ call ∷ [] →
    (newer ≡ reverse left) × (call ≡ x)
first_call {items} {left} {x = x} newer call first view last =
    let there : reverse items ≡ reverse left ++ x ∷ [] = ap reverse first ∙ reverse-append (x ∷ []) left in
    same_before_last newer (reverse left) call x (sym last ∙ sym view ∙ there)

-- ---- the oldest call

-- it is the last of the calls, and all that stands before it is others'
pub record OldestCall (own others all : Listed) : Type 0 where
  pub call : CallEntry
  pub ends : EndsWithCall call others.calls all
  pub weighs : (undone : Undone) → call.bytes + call.commas + meta_weight call.meta + undone_weight undone ≡ weight (call_of own.calls undone own.bytes own.commas)
  pub read : (undone : Undone) → call.read ≡ read_by (call_of own.calls undone own.bytes own.commas)
  pub printed : (undone : Undone) → call.printed ≡ printed_by (call_of own.calls undone own.bytes own.commas)
  pub left : without_oldest call others.calls all ≡ record others { undone = others.undone ++ own.undone }

-- where nothing is left without it, and with this of what was destroyed, which is nothing then
oldest_call : (own others all : Listed) (undone : List Undone) → HasCall own.calls own.bytes own.commas → without_call own.calls (record own { undone = undone }) ≡ nothing_listed →
    all ≡ joined own others → OldestCall own others all × (undone ≡ [])
oldest_call own others all undone has alone together = by_calls own.calls refl has alone
  where
    by_calls : (calls : List CallEntry) → own.calls ≡ calls → HasCall calls own.bytes own.commas → without_call calls (record own { undone = undone }) ≡ nothing_listed →
        OldestCall own others all × (undone ≡ [])
    by_calls [] first has is = absurd has
    by_calls (c ∷ calls) first has is =
        let one : own.calls ≡ c ∷ [] = first ∙ ap (λ (l : Listed). c ∷ l.calls) is in
        let bytes : length own.bytes ≡ c.bytes = length-alone c.bytes own.bytes has.0 (ap (λ (l : Listed). l.bytes) is) in
        let commas : length own.commas ≡ c.commas = length-alone c.commas own.commas has.1 (ap (λ (l : Listed). l.commas) is) in
        let text_is : all.bytes ≡ own.bytes ++ others.bytes = ap (λ (l : Listed). l.bytes) together in
        let lengths_are : all.commas ≡ own.commas ++ others.commas = ap (λ (l : Listed). l.commas) together in (
          record {
            call = c;
            ends = record {
              last = ap (λ (l : Listed). l.calls) together ∙ ap (λ (cs : List CallEntry). others.calls ++ cs) one;
              bytes = omega (arith, bytes, ap (λ (xs : List ℕ). length xs) text_is, length-append own.bytes others.bytes);
              commas = omega (arith, commas, ap (λ (xs : List ℕ). length xs) lengths_are, length-append own.commas others.commas);
            };
            weighs = call_weighs own.calls calls c own.bytes own.commas first (newest_call own.calls calls c own.bytes own.commas first (subst (λ (cs : List CallEntry). HasCall cs own.bytes own.commas) (sym first) has));
            read = λ undone. sym (ap (λ (cs : List CallEntry). read_by (call_of cs undone own.bytes own.commas)) first);
            printed = λ undone. sym (ap (λ (cs : List CallEntry). printed_by (call_of cs undone own.bytes own.commas)) first);
            left = λ i. record others {
              bytes = (ap (drop c.bytes) text_is ∙ drop_at own.bytes others.bytes c.bytes bytes) i;
              commas = (ap (drop c.commas) lengths_are ∙ drop_at own.commas others.commas c.commas commas) i;
              undone = ap (λ (l : Listed). l.undone) together i;
              emptied = (ap (λ (l : Listed). l.emptied) together ∙ ap (λ (l : Listed). others.emptied ++ l.emptied) is ∙ append-nil others.emptied) i;
            };
          },
          ap (λ (l : Listed). l.undone) is,
        )

-- an entry that keeps this holds what its call destroyed of forms and blocks
abbrev pub IsWhole : Kept → Type 0
IsWhole kept.Call = Unit {0}
IsWhole (kept.Pointed place) = Unit {0}
IsWhole other = ⊥

held_call : (own others all : Listed) → HasCall own.calls own.bytes own.commas → without_call own.calls own ≡ nothing_listed → all ≡ joined own others →
    (oldest : OldestCall own others all) × (without_oldest oldest.call others.calls all ≡ others)
held_call own others all has alone together =
    let oldest = oldest_call own others all own.undone has alone together in
    (oldest.0, oldest.0.left ∙ (λ i. record others { undone = (ap (λ (us : List Undone). others.undone ++ us) oldest.1 ∙ append-nil others.undone) i }))

-- then the call is all that stands in the lists
pub whole_call : (k : Kept) (own others all : Listed) → IsWhole k → IsOldest k own others all →
    (oldest : OldestCall own others all) × (without_oldest oldest.call others.calls all ≡ others)
whole_call kept.Call own others all whole is = held_call own others all is.is_there is.alone is.together
whole_call (kept.Pointed place) own others all whole is = held_call own others all is.is_there is.alone is.together
whole_call k own others all whole is = absurd whole

-- and where it does not, the last of the list of these is the call's
pub record ChangedCall (own others all : Listed) : Type 0 where
  pub oldest : OldestCall own others all
  pub undone : Undone
  pub last : all.undone ≡ others.undone ++ undone ∷ []
  pub is_first : first_undone own.undone ≡ undone
  pub left : record (without_oldest oldest.call others.calls all) { undone = others.undone } ≡ others

pub changed_call : (own others all : Listed) → IsOldest kept.Changed own others all → ChangedCall own others all
changed_call own others all is =
    let oldest = oldest_call own others all (drop 1 own.undone) is.is_there.0 is.alone is.together in
    by_undone own.undone refl is.is_there.1 oldest.1 oldest.0
  where
    by_undone : (us : List Undone) → own.undone ≡ us → 1 ≤ length us → drop 1 us ≡ [] → OldestCall own others all → ChangedCall own others all
    by_undone [] same some none oldest = absurd (omega (arith, some))
    by_undone (u ∷ us) same some none oldest = record {
      oldest = oldest;
      undone = u;
      last = ap (λ (l : Listed). l.undone) is.together ∙ ap (λ (vs : List Undone). others.undone ++ vs) (same ∙ ap (λ (vs : List Undone). u ∷ vs) none);
      is_first = ap first_undone same;
      left = λ i. record (oldest.left i) { undone = others.undone };
    }

-- what an idle step emptied
pub record OldestIdle (own others all : Listed) : Type 0 where
  pub texts : List ℕ × List Frame
  pub last : all.emptied ≡ others.emptied ++ texts ∷ []
  pub is_first : idle_of own.emptied ≡ Idle texts.0 texts.1
  pub left : record all { emptied = others.emptied } ≡ others

pub oldest_idle : (own others all : Listed) → IsOldest kept.Idle own others all → OldestIdle own others all
oldest_idle own others all is = by_emptied own.emptied refl is.is_there (ap (λ (l : Listed). l.emptied) is.alone)
  where
    left_is : record all { emptied = others.emptied } ≡ others
    left_is =
        ap (λ (l : Listed). let left : Listed = record l { emptied = others.emptied } in left) is.together
        ∙ ap (λ (l : Listed). let left : Listed = record (joined l others) { emptied = others.emptied } in left) is.alone
        ∙ (λ i. record (nothing_joined others i) { emptied = others.emptied })

    by_emptied : (es : List (List ℕ × List Frame)) → own.emptied ≡ es → 1 ≤ length es → drop 1 es ≡ [] → OldestIdle own others all
    by_emptied [] same some none = absurd (omega (arith, some))
    by_emptied (texts ∷ es) same some none = record {
      texts = texts;
      last = ap (λ (l : Listed). l.emptied) is.together ∙ ap (λ (vs : List (List ℕ × List Frame)). others.emptied ++ vs) (same ∙ ap (λ (vs : List (List ℕ × List Frame)). texts ∷ vs) none);
      is_first = ap idle_of same;
      left = left_is;
    }

-- a record that has nothing in the lists
pub brief_left : (own others all : Listed) → own ≡ nothing_listed → all ≡ joined own others → all ≡ others
brief_left own others all none together = together ∙ ap (λ (l : Listed). joined l others) none ∙ nothing_joined others

-- ---- what is known of a record that is dropped

-- an entry held all of it
pub brief_gone : (k : Kept) (gone : Gone) (own others all : Listed) → IsBrief k → gone.weight ≡ weight (newest_in k nothing_listed) → gone.read ≡ 0 → gone.printed ≡ 0 →
    IsOldest k own others all → IsGone gone (newest_in k own) × (all ≡ others)
brief_gone kept.Call gone own others all brief weighs reads prints is = absurd brief
brief_gone (kept.Pointed place) gone own others all brief weighs reads prints is = absurd brief
brief_gone kept.Changed gone own others all brief weighs reads prints is = absurd brief
brief_gone kept.Idle gone own others all brief weighs reads prints is = absurd brief
brief_gone k gone own others all brief weighs reads prints is =
    (record { weighs = weighs; reads = reads; prints = prints }, brief_left own others all is.alone is.together)

-- what dropping the oldest call leaves
abbrev pub DropsCall : Gone → Listed → Listed → Type 0
DropsCall gone all new = (call : CallEntry) (newer : List CallEntry) → EndsWithCall call newer all → IsGoneCall gone call × (new ≡ without_oldest call newer all)

-- of an entry that holds what the call destroyed of forms and blocks
pub whole_gone : (k : Kept) (gone : Gone) (own others all new : Listed) → IsWhole k → IsOldest k own others all → DropsCall gone all new → IsGone gone (newest_in k own) × (new ≡ others)
whole_gone k gone own others all new whole is drops = by_kept k whole
  where
    by_undone : (u : Undone) → undone_weight u ≡ 0 → IsGone gone (call_of own.calls u own.bytes own.commas) × (new ≡ others)
    by_undone u light =
        let oldest = whole_call k own others all whole is in
        let d = drops oldest.0.call others.calls oldest.0.ends in (
          record {
            weighs = omega (arith, d.0.weighs, light, oldest.0.weighs u);
            reads = d.0.reads ∙ oldest.0.read u;
            prints = d.0.prints ∙ oldest.0.printed u;
          },
          d.1 ∙ oldest.1,
        )

    by_kept : (k : Kept) → IsWhole k → IsGone gone (newest_in k own) × (new ≡ others)
    by_kept kept.Call whole = by_undone Nothing refl
    by_kept (kept.Pointed place) whole = by_undone (Point place) refl
    by_kept k whole = absurd whole

-- and of one that does not
pub changed_gone : (k : Kept) (gone part : Gone) (weighed : ℕ) (own others all middle new : Listed) → k ≡ kept.Changed → IsOldest k own others all → DropsCall part all middle →
    ((first : Undone) (newer : List Undone) → middle.undone ≡ newer ++ first ∷ [] → (weighed ≡ undone_weight first) × (new ≡ record middle { undone = newer })) →
    gone.weight ≡ part.weight + weighed → gone.read ≡ part.read → gone.printed ≡ part.printed → IsGone gone (newest_in k own) × (new ≡ others)
changed_gone k gone part weighed own others all middle new kind is drops drops_undone weighs reads prints =
    let whole = changed_call own others all (subst (λ (x : Kept). IsOldest x own others all) kind is) in
    let d = drops whole.oldest.call others.calls whole.oldest.ends in
    let u = drops_undone whole.undone others.undone (ap (λ (l : Listed). l.undone) d.1 ∙ whole.last) in
    let newest : newest_in k own ≡ call_of own.calls (first_undone own.undone) own.bytes own.commas = ap (λ (x : Kept). newest_in x own) kind in (
      record {
        weighs = omega (arith, weighs, d.0.weighs, u.0, ap undone_weight whole.is_first, whole.oldest.weighs (first_undone own.undone), ap weight newest);
        reads = reads ∙ d.0.reads ∙ whole.oldest.read (first_undone own.undone) ∙ ap read_by (sym newest);
        prints = prints ∙ d.0.prints ∙ whole.oldest.printed (first_undone own.undone) ∙ ap printed_by (sym newest);
      },
      u.1 ∙ (λ i. record (d.1 i) { undone = others.undone }) ∙ whole.left,
    )

-- both parts are within what fits
pub changed_fits : (k : Kept) (own others all : Listed) → k ≡ kept.Changed → (is : IsOldest k own others all) → weight (newest_in k own) < 2 ^ 64 →
    (whole : ChangedCall own others all) × (whole.oldest.call.bytes + whole.oldest.call.commas + meta_weight whole.oldest.call.meta + undone_weight whole.undone < 2 ^ 64)
changed_fits k own others all kind is fits =
    let whole = changed_call own others all (subst (λ (x : Kept). IsOldest x own others all) kind is) in
    let newest : newest_in k own ≡ call_of own.calls (first_undone own.undone) own.bytes own.commas = ap (λ (x : Kept). newest_in x own) kind in
    (whole, omega (arith, fits, ap weight newest, ap undone_weight whole.is_first, whole.oldest.weighs (first_undone own.undone)))

-- of an idle step
pub idle_gone : (k : Kept) (gone : Gone) (own others all new : Listed) → k ≡ kept.Idle → IsOldest k own others all →
    ((texts : List ℕ × List Frame) (newer : List (List ℕ × List Frame)) → all.emptied ≡ newer ++ texts ∷ [] → (gone.weight ≡ weight (Idle texts.0 texts.1)) × (new ≡ record all { emptied = newer })) →
    gone.read ≡ 0 → gone.printed ≡ 0 → IsGone gone (newest_in k own) × (new ≡ others)
idle_gone k gone own others all new kind is drops reads prints =
    let whole = oldest_idle own others all (subst (λ (x : Kept). IsOldest x own others all) kind is) in
    let d = drops whole.texts others.emptied whole.last in
    let newest : newest_in k own ≡ Idle whole.texts.0 whole.texts.1 = ap (λ (x : Kept). newest_in x own) kind ∙ whole.is_first in (
      record {
        weighs = d.0 ∙ ap weight (sym newest);
        reads = reads ∙ ap read_by (sym newest);
        prints = prints ∙ ap printed_by (sym newest);
      },
      d.1 ∙ whole.left,
    )

pub idle_fits : (k : Kept) (own others all : Listed) → k ≡ kept.Idle → (is : IsOldest k own others all) → weight (newest_in k own) < 2 ^ 64 →
    (whole : OldestIdle own others all) × (weight (Idle whole.texts.0 whole.texts.1) < 2 ^ 64)
idle_fits k own others all kind is fits =
    let whole = oldest_idle own others all (subst (λ (x : Kept). IsOldest x own others all) kind is) in
    (whole, subst (λ (r : Record). weight r < 2 ^ 64) (ap (λ (x : Kept). newest_in x own) kind ∙ whole.is_first) fits)

-- ---- the journal without some of the oldest records

-- records are these, and then some that are dropped, so many, which weigh so much
pub record AreLeft (old new gone : List Record) (count weighed n own : ℕ) : Type 0 where
  pub kept : new ≡ take (length new) old
  pub rest : drop (length new) old ≡ gone
  pub many : length old ≡ length new + n
  pub few : n ≤ count
  pub within : own ≤ weighed
  pub counted : AreCounted new (count - n) (weighed - own)

are_left : (old new gone : List Record) (count weighed n own : ℕ) → old ≡ new ++ gone → n ≡ length gone → own ≡ sum_by weight gone → AreCounted old count weighed →
    AreLeft old new gone count weighed n own
are_left old new gone count weighed n own cut at is counted =
    let parts = ap (sum_by weight) cut in
    let many : length old ≡ length new + n = omega (arith, at, ap (λ (rs : List Record). length rs) cut, length-append new gone) in
    let kept : new ≡ take (length new) old = sym (ap (take (length new)) cut ∙ take_at new gone (length new) refl) in
    let within : own ≤ weighed = omega (arith, is, counted.together, parts, sum_by-append weight new gone) in
    record {
      kept = kept;
      rest = ap (drop (length new)) cut ∙ drop_at new gone (length new) refl;
      many = many;
      few = omega (arith, many, counted.all);
      within = within;
      counted = record {
        all = omega (arith, many, counted.all);
        together = omega (arith, is, within, counted.together, parts, sum_by-append weight new gone);
        light = All-same IsLight new (take (length new) old) kept (All-take IsLight (length new) old counted.light);
      };
    }

-- the same of records that are seen as these
pub seen_left : {old seen new gone : List Record} {count weighed n own : ℕ} → old ≡ seen → AreLeft old new gone count weighed n own → AreLeft seen new gone count weighed n own
seen_left {old} {seen} {new} {gone} {count} {weighed} {n} {own} is left = subst (λ (rs : List Record). AreLeft rs new gone count weighed n own) is left

-- and where they are of moved bytes, their steps read and printed nothing
pub moved_dropped : {old seen new : List Record} {count weighed n : ℕ} → old ≡ seen → 0 < n → AreLeft old new (replicate n Moved) count weighed n 0 →
    record {
      kept : new ≡ take (length new) seen;
      some : length new < length seen;
      most : length seen ≤ length new + n;
      read : 0 ≡ sum_by read_by (drop (length new) seen);
      printed : 0 ≡ sum_by printed_by (drop (length new) seen);
    }
moved_dropped {n = n} is some old_left =
    let left = seen_left is old_left in
    record {
      kept = left.kept;
      some = omega (arith, left.many, some);
      most = omega (arith, left.many);
      read = sym (ap (sum_by read_by) left.rest ∙ moved_sum read_by n refl);
      printed = sym (ap (sum_by printed_by) left.rest ∙ moved_sum printed_by n refl);
    }

-- without an entry some moved bytes are left out
module _ (moved n : ℕ) (entries now : List Entry) (l : Listed) (none : length entries ≡ 0) (still : length now ≡ 0) where
  pub last_listed : AreListed (reverse entries) l → AreListed (reverse now) l
  last_listed listed = subst (λ (es : List Entry). AreListed (reverse es) l) (nil_from_length entries none ∙ sym (nil_from_length now still)) listed

  old_moved : unpacked moved (reverse entries) l ≡ replicate moved Moved
  old_moved = ap (λ (es : List Entry). unpacked moved (reverse es) l) (nil_from_length entries none)

  pub last_within : n ≤ length (unpacked moved (reverse entries) l) → n ≤ moved
  last_within few = omega (arith, few, ap (λ (rs : List Record). length rs) old_moved, length-replicate moved Moved)

  pub last_left : {count weighed : ℕ} → n ≤ length (unpacked moved (reverse entries) l) → AreCounted (unpacked moved (reverse entries) l) count weighed →
      AreLeft (unpacked moved (reverse entries) l) (unpacked (moved - n) (reverse now) l) (replicate n Moved) count weighed n 0
  last_left {count} {weighed} few counted =
      let new : unpacked (moved - n) (reverse now) l ≡ replicate (moved - n) Moved = ap (λ (es : List Entry). unpacked (moved - n) (reverse es) l) (nil_from_length now still) in
      let whole : moved ≡ (moved - n) + n = omega (arith, last_within few) in
      let cut : unpacked moved (reverse entries) l ≡ unpacked (moved - n) (reverse now) l ++ replicate n Moved =
      old_moved ∙ ap (λ k. replicate k Moved) whole ∙ sym (replicate-append-replicate (moved - n) n Moved) ∙ ap (λ (rs : List Record). rs ++ replicate n Moved) (sym new) in
      are_left (unpacked moved (reverse entries) l) (unpacked (moved - n) (reverse now) l) (replicate n Moved) count weighed n 0 cut
      (sym (length-replicate n Moved)) (sym (moved_sum weight n refl)) counted

reverse_first : (entries left : List Entry) (e : Entry) → entries ≡ e ∷ left → reverse entries ≡ reverse left ++ e ∷ []
reverse_first entries left e first = ap reverse first ∙ reverse-append (e ∷ []) left

-- the oldest entry apart
pub first_apart : (entries left : List Entry) (e : Entry) (l : Listed) → entries ≡ e ∷ left → AreListed (reverse entries) l → OldestApart (reverse left) e l
first_apart entries left e l first listed =
    oldest_apart (reverse left) e l (subst (λ (es : List Entry). AreListed es l) (reverse_first entries left e first) listed)

pub first_last : (moved : ℕ) (entries left : List Entry) (e : Entry) (own others l : Listed) → entries ≡ e ∷ left → AreListed (reverse left) others → l ≡ joined own others →
    unpacked moved (reverse entries) l ≡ unpacked moved (reverse left) others ++ newest_in e.kept own ∷ replicate e.moved Moved
first_last moved entries left e own others l first listed together =
    (λ i. unpacked moved (reverse_first entries left e first i) (together i)) ∙ oldest_last moved (reverse left) e own others listed

-- what an entry keeps says which of the lists have its own
same_listed : (entries : List Entry) (e other : Entry) (l : Listed) → other.kept ≡ e.kept → AreListed (entries ++ e ∷ []) l → AreListed (entries ++ other ∷ []) l
same_listed [] e other l same listed = subst (λ (k : Kept). Holds k l × (older_in k l ≡ nothing_listed)) (sym same) listed
same_listed (first ∷ entries) e other l same listed = (listed.0, same_listed entries e other (older_in first.kept l) same listed.1)

pub moved_listed : {entries now left : List Entry} {e other : Entry} (l : Listed) → entries ≡ e ∷ left → now ≡ other ∷ left → other.kept ≡ e.kept → AreListed (reverse entries) l →
    AreListed (reverse now) l
moved_listed {entries} {now} {left} {e} {other} l first fewer same listed =
    subst (λ (es : List Entry). AreListed es l) (sym (reverse_first now left other fewer))
    (same_listed (reverse left) e other l same (subst (λ (es : List Entry). AreListed es l) (reverse_first entries left e first) listed))

-- some of the bytes that were moved before the oldest entry's step
pub moved_left : (moved n : ℕ) {count weighed : ℕ} {entries now left : List Entry} {e other : Entry} (l : Listed) → entries ≡ e ∷ left → now ≡ other ∷ left → other.kept ≡ e.kept →
    e.moved ≡ other.moved + n → AreListed (reverse entries) l → AreCounted (unpacked moved (reverse entries) l) count weighed →
    AreLeft (unpacked moved (reverse entries) l) (unpacked moved (reverse now) l) (replicate n Moved) count weighed n 0
moved_left moved n {count} {weighed} {entries} {now} {left} {e} {other} l first fewer same parts listed counted =
    let apart = first_apart entries left e l first listed in
    let newer : List Record = unpacked moved (reverse left) apart.others in
    let old = first_last moved entries left e apart.own apart.others l first apart.listed apart.oldest.together in
    let new = first_last moved now left other apart.own apart.others l fewer apart.listed apart.oldest.together in
    let run : replicate e.moved Moved ≡ replicate other.moved Moved ++ replicate n Moved =
    ap (λ k. replicate k Moved) parts ∙ sym (replicate-append-replicate other.moved n Moved) in
    let cut : unpacked moved (reverse entries) l ≡ unpacked moved (reverse now) l ++ replicate n Moved =
    old
    ∙ (λ i. newer ++ newest_in (sym same i) apart.own ∷ run i)
    ∙ sym (append_assoc newer (newest_in other.kept apart.own ∷ replicate other.moved Moved) (replicate n Moved))
    ∙ ap (λ (rs : List Record). rs ++ replicate n Moved) (sym new) in
    are_left (unpacked moved (reverse entries) l) (unpacked moved (reverse now) l) (replicate n Moved) count weighed n 0 cut
    (sym (length-replicate n Moved)) (sym (moved_sum weight n refl)) counted

-- what it is to drop the oldest entry's own
abbrev pub DropsOldest : Kept → Gone → Listed → Listed → Type 0
DropsOldest k gone all new = (own others : Listed) → IsOldest k own others all → IsGone gone (newest_in k own) × (new ≡ others)

-- all of these, and the record of the oldest entry
module _ (moved : ℕ) (l : Listed) {count weighed : ℕ} {entries now : List Entry} {e : Entry} (first : entries ≡ e ∷ now) (listed : AreListed (reverse entries) l)
    (counted : AreCounted (unpacked moved (reverse entries) l) count weighed) where
  abbrev pub entry_apart : OldestApart (reverse now) e l
  entry_apart = first_apart entries now e l first listed

  abbrev pub entry_gone : List Record
  entry_gone = newest_in e.kept entry_apart.own ∷ replicate e.moved Moved

  entry_last : unpacked moved (reverse entries) l ≡ unpacked moved (reverse now) entry_apart.others ++ entry_gone
  entry_last = first_last moved entries now e entry_apart.own entry_apart.others l first entry_apart.listed entry_apart.oldest.together

  -- that record is a light one
  pub oldest_light : weight (newest_in e.kept entry_apart.own) ≤ 2 ^ 42
  oldest_light =
      let all : List Record = unpacked moved (reverse entries) l in
      let newer : List Record = unpacked moved (reverse now) entry_apart.others in
      let last : entry_gone ≡ drop (length newer) all = sym (ap (drop (length newer)) entry_last ∙ drop_at newer entry_gone (length newer) refl) in
      All-head IsLight (newest_in e.kept entry_apart.own) (replicate e.moved Moved)
      (All-same IsLight entry_gone (drop (length newer) all) last (All-drop IsLight (length newer) all counted.light))

  module _ {gone : Gone} {new : Listed} (drops : DropsOldest e.kept gone l new) where
    is_gone : IsGone gone (newest_in e.kept entry_apart.own) × (new ≡ entry_apart.others)
    is_gone = drops entry_apart.own entry_apart.others entry_apart.oldest

    pub entry_listed : AreListed (reverse now) new
    entry_listed = subst (AreListed (reverse now)) (sym is_gone.1) entry_apart.listed

    pub entry_left : AreLeft (unpacked moved (reverse entries) l) (unpacked moved (reverse now) new) entry_gone count weighed (e.moved + 1) gone.weight
    entry_left =
        are_left (unpacked moved (reverse entries) l) (unpacked moved (reverse now) new) entry_gone count weighed (e.moved + 1) gone.weight
        (entry_last ∙ ap (λ (x : Listed). unpacked moved (reverse now) x ++ entry_gone) (sym is_gone.1))
        (omega (arith, length-replicate e.moved Moved)) (omega (arith, is_gone.0.weighs, moved_sum weight e.moved refl)) counted

    pub entry_read : gone.read ≡ sum_by read_by entry_gone
    entry_read = omega (arith, is_gone.0.reads, moved_sum read_by e.moved refl)

    pub entry_printed : gone.printed ≡ sum_by printed_by entry_gone
    entry_printed = omega (arith, is_gone.0.prints, moved_sum printed_by e.moved refl)

-- where what is dropped weighs nothing
pub same_weight : {old new gone : List Record} {count weighed n : ℕ} → AreLeft old new gone count weighed n 0 → AreCounted new (count - n) weighed
same_weight {old} {new} {gone} {count} {weighed} {n} left =
    let same : weighed - 0 ≡ weighed = omega arith in
    subst (λ w. AreCounted new (count - n) w) same left.counted

-- ---- what is dropped one after another

-- fewer of the records that are left are the first of all
pub fewer_left : (all now next : List Record) → now ≡ take (length now) all → next ≡ take (length next) now → next ≡ take (length next) all
fewer_left all now next is fewer =
    let few : length next ≤ length now = omega (arith, ap (λ (rs : List Record). length rs) fewer, length-take (length next) now) in
    fewer ∙ ap (take (length next)) is ∙ take-take (length next) (length now) all few

-- of what is counted of those that are dropped so far, and those that are dropped next
pub sum_left : (count : Record → ℕ) (all now next : List Record) → now ≡ take (length now) all → length next ≤ length now →
    sum_by count (drop (length next) all) ≡ sum_by count (drop (length next) now) + sum_by count (drop (length now) all)
sum_left count all now next is few =
    let whole : length now ≡ length next + (length now - length next) = omega (arith, few) in
    let parts : drop (length next) all ≡ drop (length next) now ++ drop (length now) all =
    ap (drop (length next)) (sym (take-append-drop (length now) all) ∙ ap (λ (rs : List Record). rs ++ drop (length now) all) (sym is))
    ∙ drop-append-le (length next) now (drop (length now) all) few in
    ap (sum_by count) parts ∙ sum_by-append count (drop (length next) now) (drop (length now) all)

-- of fewer there is no more
pub sum_fewer : (count : Record → ℕ) (all : List Record) (n k : ℕ) → n ≤ k → sum_by count (drop k all) ≤ sum_by count (drop n all)
sum_fewer count all n k few =
    let whole : n + (k - n) ≡ k = omega (arith, few) in
    let later : drop k all ≡ drop (k - n) (drop n all) = ap (λ j. drop j all) (sym whole) ∙ sym (drop-drop (k - n) n all) in
    omega (
      arith,
      ap (sum_by count) later,
      ap (sum_by count) (take-append-drop (k - n) (drop n all)),
      sum_by-append count (take (k - n) (drop n all)) (drop (k - n) (drop n all)),
    )

-- ---- all that are dropped

-- what is kept of all records, and what is counted of those that are dropped so far
pub record AreKept (count : Record → ℕ) (all now : List Record) (n dropped : ℕ) : Type 0 where
  pub kept : now ≡ take (length now) all
  pub enough : min n (length all) ≤ length now
  pub counted : dropped ≡ sum_by count (drop (length now) all)

-- at first all are kept
pub all_kept : (count : Record → ℕ) (all : List Record) (n : ℕ) → AreKept count all all n 0
all_kept count all n = record {
  kept = sym (take_all (length all) all (omega arith));
  enough = omega arith;
  counted = sym (ap (sum_by count) (drop_all (length all) all (omega arith)));
}

-- then fewer
pub fewer_kept : {count : Record → ℕ} {all now next : List Record} {n dropped more : ℕ} → next ≡ take (length next) now → length next < length now → n ≤ length next →
    more ≡ sum_by count (drop (length next) now) → AreKept count all now n dropped → AreKept count all next n (dropped + more)
fewer_kept {count} {all} {now} {next} fewer less enough is so = record {
  kept = fewer_left all now next so.kept fewer;
  enough = omega (arith, enough);
  counted = omega (arith, is, so.counted, sum_left count all now next so.kept (omega (arith, less)));
}

-- what is counted fits where it does of all that are dropped in the end
pub kept_fits : {count : Record → ℕ} {all now next : List Record} {n dropped more : ℕ} → next ≡ take (length next) now → length next < length now → n ≤ length next →
    more ≡ sum_by count (drop (length next) now) → AreKept count all now n dropped → dropped + more ≤ sum_by count (drop n all)
kept_fits {count} {all} {next = next} {n} fewer less enough is so = omega (arith, (fewer_kept fewer less enough is so).counted, sum_fewer count all n (length next) enough)

-- and at last n are kept, or all
pub last_kept : {count : Record → ℕ} {all now : List Record} {n dropped : ℕ} → length now ≤ n → AreKept count all now n dropped →
    (now ≡ take n all) × (dropped ≡ sum_by count (drop n all))
last_kept {count} {all} {now} {n} few so =
    let within : length now ≤ length all = omega (arith, ap (λ (rs : List Record). length rs) so.kept, length-take (length now) all) in
    let many : length now ≡ min n (length all) = omega (arith, few, within, so.enough) in (
      so.kept ∙ ap (λ k. take k all) many ∙ take_min n all,
      so.counted ∙ ap (λ k. sum_by count (drop k all)) many ∙ ap (sum_by count) (drop_min n all),
    )
