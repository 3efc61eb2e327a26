-- The records of a journal, counted and weighed, with more of them and with less.
use Rattle.std.proofs.Common.{◌≡◌, ℕ, zero, suc, ◌+◌, ◌-◌, ◌*◌, ◌^◌, ◌<◌, ◌≤◌, List, [], ◌∷◌, ◌++◌, length, drop, All, refl, sym, ap, subst, ◌∙◌, arith}
use Rattle.std.specs.Prelude.{replicate, reverse}
use Rattle.std.proofs.lemmas.List.{append_assoc, drop_at, length-append, length-replicate, replicate-append-replicate}
use Rattle.std.proofs.lemmas.List.Elements.{All-append, All-cons, All-drop, All-head, All-nil, All-replicate, All-same, All-tail}
use Rattle.trac_rules.specs.Records.{Record, Moved}
use Rattle.trac_rules.specs.Weights.{weight}
use Rattle.trac_journal.specs.Journaled.{unpacked, AreCounted, AreListed, IsLight}
use Rattle.trac_journal.specs.Listed.{Listed, newest_in, nothing_listed, older_in, HasMore, Holds, IsBrief}
use Rattle.trac_journal.specs.Told.{sum_by}
use Rattle.trac_journal.specs.declared.entry.Entry.{Entry}
use Rattle.trac_journal.specs.declared.entry.Kept.{Kept}
use Rattle.trac_journal.specs.declared.entry.Kept.TheVariants as kept
use Rattle.trac_text.proofs.Marking.{reverse_push}

-- ---- sums

pub sum_by-append : (count : Record → ℕ) (records others : List Record) → sum_by count (records ++ others) ≡ sum_by count records + sum_by count others
sum_by-append count [] others = omega arith
sum_by-append count (r ∷ records) others = omega (arith, sum_by-append count records others)

-- records of moved bytes add nothing to what they have nothing of
pub moved_sum : (count : Record → ℕ) (n : ℕ) → count Moved ≡ 0 → sum_by count (replicate n Moved) ≡ 0
moved_sum count zero none = refl
moved_sum count (suc n) none = omega (arith, none, moved_sum count n none)

-- light records weigh no more than so much each
light_sum : (records : List Record) → All IsLight records → sum_by weight records ≤ length records * 2 ^ 42
light_sum [] all = omega arith
light_sum (r ∷ records) all = omega (arith, All-head IsLight r records all, light_sum records (All-tail IsLight r records all))

pub weight_bounded : (records : List Record) (count weighed : ℕ) → AreCounted records count weighed → weighed ≤ length records * 2 ^ 42
weight_bounded records count weighed kept = omega (arith, kept.together, light_sum records kept.light)

-- ---- counts

pub counted_more : (old new : List Record) (r : Record) (count weighed own : ℕ) → new ≡ r ∷ old → own ≡ weight r → IsLight r → AreCounted old count weighed →
    AreCounted new (count + 1) (weighed + own)
counted_more old new r count weighed own more is light kept = record {
  all = omega (arith, ap (λ (rs : List Record). length rs) more, kept.all);
  together = omega (arith, ap (sum_by weight) more, is, kept.together);
  light = All-same IsLight new (r ∷ old) more (All-cons IsLight r old light kept.light);
}

pub counted_moved : (old new : List Record) (n count weighed : ℕ) → new ≡ replicate n Moved ++ old → AreCounted old count weighed → AreCounted new (count + n) weighed
counted_moved old new n count weighed more kept = record {
  all = omega (arith, ap (λ (rs : List Record). length rs) more, kept.all, length-append (replicate n Moved) old, length-replicate n Moved);
  together = omega (arith, ap (sum_by weight) more, kept.together, sum_by-append weight (replicate n Moved) old, moved_sum weight n refl);
  light =
      All-same IsLight new (replicate n Moved ++ old) more
      (All-append IsLight (replicate n Moved) old (All-replicate IsLight n Moved (omega arith)) kept.light);
}

-- what is left of records without those in front, which weigh so much
pub record Less (front new : List Record) (count weighed : ℕ) : Type 0 where
  pub within : sum_by weight front ≤ weighed
  pub few : length front ≤ count
  pub left : (own n : ℕ) → own ≡ sum_by weight front → n ≡ length front → AreCounted new (count - n) (weighed - own)

pub counted_less : (old front new : List Record) (count weighed : ℕ) → old ≡ front ++ new → AreCounted old count weighed → Less front new count weighed
counted_less old front new count weighed cut kept =
    let parts = ap (sum_by weight) cut in
    let many = ap (λ (rs : List Record). length rs) cut in
    let within : sum_by weight front ≤ weighed = omega (arith, kept.together, parts, sum_by-append weight front new) in
    let few : length front ≤ count = omega (arith, kept.all, many, length-append front new) in
    record {
      within = within;
      few = few;
      left = λ own n is at. record {
        all = omega (arith, at, few, kept.all, many, length-append front new);
        together = omega (arith, is, within, kept.together, parts, sum_by-append weight front new);
        light = All-same IsLight new (drop (length front) old) (sym (ap (drop (length front)) cut ∙ drop_at front new (length front) refl)) (All-drop IsLight (length front) old kept.light);
      };
    }

-- ---- records of moved bytes

pub moved_within : (moved : ℕ) (entries : List Entry) (l : Listed) → moved ≤ length (unpacked moved entries l)
moved_within moved [] l = omega (arith, length-replicate moved Moved)
moved_within moved (e ∷ entries) l =
    omega (
      arith,
      length-replicate moved Moved,
      length-append (replicate moved Moved) (newest_in e.kept l ∷ unpacked e.moved entries (older_in e.kept l)),
    )

pub more_moved : (moved n : ℕ) (entries : List Entry) (l : Listed) → unpacked (moved + n) entries l ≡ replicate n Moved ++ unpacked moved entries l
more_moved moved n [] l =
    let e : moved + n ≡ n + moved = omega arith in
    ap (λ k. replicate k Moved) e ∙ sym (replicate-append-replicate n moved Moved)
more_moved moved n (e ∷ entries) l =
    let swapped : moved + n ≡ n + moved = omega arith in
    let own : List Record = newest_in e.kept l ∷ unpacked e.moved entries (older_in e.kept l) in
    ap (λ k. replicate k Moved ++ own) swapped
    ∙ ap (λ (front : List Record). front ++ own) (sym (replicate-append-replicate n moved Moved))
    ∙ append_assoc (replicate n Moved) (replicate moved Moved) own

pub fewer_moved : (moved n : ℕ) (entries : List Entry) (l : Listed) → n ≤ moved → unpacked moved entries l ≡ replicate n Moved ++ unpacked (moved - n) entries l
fewer_moved moved n entries l few =
    let whole : moved ≡ (moved - n) + n = omega (arith, few) in
    ap (λ k. unpacked k entries l) whole ∙ more_moved (moved - n) n entries l

-- the newest of them
pub moved_first : (moved : ℕ) (entries : List Entry) (l : Listed) → 0 < moved → unpacked moved entries l ≡ Moved ∷ unpacked (moved - 1) entries l
moved_first moved entries l some = fewer_moved moved 1 entries l (omega (arith, some))

-- ---- the newest entry

pub entry_first : (moved : ℕ) (entries left : List Entry) (e : Entry) (l : Listed) → moved ≡ 0 → entries ≡ left ++ e ∷ [] →
    unpacked moved (reverse entries) l ≡ newest_in e.kept l ∷ unpacked e.moved (reverse left) (older_in e.kept l)
entry_first moved entries left e l none last =
    let back = ap reverse last ∙ reverse_push left e in
    λ i. unpacked (none i) (back i) l

pub entry_there : (entries left : List Entry) (e : Entry) (l : Listed) → entries ≡ left ++ e ∷ [] → AreListed (reverse entries) l →
    Holds e.kept l × AreListed (reverse left) (older_in e.kept l)
entry_there entries left e l last listed = subst (λ (es : List Entry). AreListed es l) (ap reverse last ∙ reverse_push left e) listed

pub entry_added : (moved : ℕ) (entries new : List Entry) (e : Entry) (r : Record) (old_l new_l : Listed) → new ≡ entries ++ e ∷ [] → e.moved ≡ moved →
    HasMore e.kept r old_l new_l → unpacked 0 (reverse new) new_l ≡ r ∷ unpacked moved (reverse entries) old_l
entry_added moved entries new e r old_l new_l last same more =
    ap (λ (es : List Entry). unpacked 0 es new_l) (ap reverse last ∙ reverse_push entries e)
    ∙ (λ i. more.newest i ∷ unpacked (same i) (reverse entries) (more.others i))

pub entry_listed : (entries new : List Entry) (e : Entry) (r : Record) (old_l new_l : Listed) → new ≡ entries ++ e ∷ [] → HasMore e.kept r old_l new_l →
    AreListed (reverse entries) old_l → AreListed (reverse new) new_l
entry_listed entries new e r old_l new_l last more listed =
    subst (λ (es : List Entry). AreListed es new_l) (sym (ap reverse last ∙ reverse_push entries e))
    (more.is_there, subst (AreListed (reverse entries)) (sym more.others) listed)

-- ---- one record more

pub brief_light : (k : Kept) → IsBrief k → weight (newest_in k nothing_listed) ≤ 1
brief_light kept.Call brief = absurd brief
brief_light (kept.Pointed place) brief = absurd brief
brief_light kept.Changed brief = absurd brief
brief_light kept.Idle brief = absurd brief
brief_light k brief = omega arith

-- what holds of the fields of every journal
abbrev pub IsSound : ℕ → List Entry → Listed → ℕ → ℕ → Type 0
IsSound moved entries l count weighed = AreListed (reverse entries) l × AreCounted (unpacked moved (reverse entries) l) count weighed

-- it holds with one more
pub one_more : (moved count weighed own : ℕ) (entries new : List Entry) (e : Entry) (r : Record) (old_l new_l : Listed) → new ≡ entries ++ e ∷ [] → e.moved ≡ moved →
    HasMore e.kept r old_l new_l → own ≡ weight r → IsLight r → IsSound moved entries old_l count weighed → IsSound 0 new new_l (count + 1) (weighed + own)
one_more moved count weighed own entries new e r old_l new_l last same more is light sound = (
  entry_listed entries new e r old_l new_l last more sound.0,
  counted_more (unpacked moved (reverse entries) old_l) (unpacked 0 (reverse new) new_l) r count weighed own (entry_added moved entries new e r old_l new_l last same more) is light sound.1,
)

-- ---- one record less

pub record OneLess (moved count weighed own : ℕ) (entries left : List Entry) (e : Entry) (r : Record) (l new : Listed) : Type 0 where
  pub first : unpacked moved (reverse entries) l ≡ r ∷ unpacked e.moved (reverse left) new
  pub few : 1 ≤ count
  pub within : own ≤ weighed
  pub sound : IsSound e.moved left new (count - 1) (weighed - own)

pub one_less : {moved count weighed own : ℕ} {entries left : List Entry} {e : Entry} {r : Record} {l new : Listed} → moved ≡ 0 → entries ≡ left ++ e ∷ [] → newest_in e.kept l ≡ r →
    new ≡ older_in e.kept l → own ≡ weight r → IsSound moved entries l count weighed → OneLess moved count weighed own entries left e r l new
one_less {moved} {count} {weighed} {own} {entries} {left} {e} {r} {l} {new} none last newest others is sound =
    let later : List Record = unpacked e.moved (reverse left) new in
    let first : unpacked moved (reverse entries) l ≡ r ∷ later =
    entry_first moved entries left e l none last ∙ (λ i. newest i ∷ unpacked e.moved (reverse left) (sym others i)) in
    let there = entry_there entries left e l last sound.0 in
    let less = counted_less (unpacked moved (reverse entries) l) (r ∷ []) later count weighed first sound.1 in
    record {
      first = first;
      few = omega (arith, less.few);
      within = omega (arith, is, less.within);
      sound = (subst (AreListed (reverse left)) (sym others) there.1, less.left own 1 (omega (arith, is)) refl);
    }

-- ---- moved bytes taken out

pub moved_less : (moved n count weighed : ℕ) (entries : List Entry) (l : Listed) → n ≤ moved → IsSound moved entries l count weighed →
    (n ≤ count) × IsSound (moved - n) entries l (count - n) weighed
moved_less moved n count weighed entries l few sound =
    let cut = fewer_moved moved n (reverse entries) l few in
    let less = counted_less (unpacked moved (reverse entries) l) (replicate n Moved) (unpacked (moved - n) (reverse entries) l) count weighed cut sound.1 in
    let same : weighed - 0 ≡ weighed = omega arith in (
      omega (arith, less.few, length-replicate n Moved),
      (sound.0, subst (λ w. AreCounted (unpacked (moved - n) (reverse entries) l) (count - n) w) same (less.left 0 n (sym (moved_sum weight n refl)) (sym (length-replicate n Moved)))),
    )

pub moved_more : (moved n count weighed : ℕ) (entries : List Entry) (l : Listed) → IsSound moved entries l count weighed → IsSound (moved + n) entries l (count + n) weighed
moved_more moved n count weighed entries l sound =
    (sound.0, counted_moved (unpacked moved (reverse entries) l) (unpacked (moved + n) (reverse entries) l) n count weighed (more_moved moved n (reverse entries) l) sound.1)

-- without an entry
pub none_sound : (entries : List Entry) (l : Listed) → entries ≡ [] → l ≡ nothing_listed → IsSound 0 entries l 0 0
none_sound entries l none empty =
    subst (λ (es : List Entry). IsSound 0 es l 0 0) (sym none) (empty, record { all = refl; together = refl; light = All-nil IsLight })
