-- The oldest record of a journal, and the others.
use Rattle.std.proofs.Common.{◌≡◌, ℕ, ◌≤◌, List, [], ◌∷◌, ◌++◌, length, take, drop, refl, sym, ap, subst, ◌∙◌, arith}
use Rattle.std.specs.Prelude.{replicate, sum}
use Rattle.std.proofs.lemmas.List.{append-nil, append_assoc, length-append, length-take-le, take-append-drop}
use Rattle.trac_rules.specs.Records.{Record, Called, Moved, last_of}
use Rattle.trac_rules.specs.Undone.{Undone, Nothing, Point}
use Rattle.trac_rules.proofs.FurtherOn.{all_before_last-further}
use Rattle.trac_journal.specs.Dropped.{joined, IsOldest}
use Rattle.trac_journal.specs.Journaled.{unpacked, AreListed}
use Rattle.trac_journal.specs.Listed.{Listed, call_of, called_in, first_undone, idle_of, newest_in, nothing_listed, older_in, without_call, HasCall, Holds}
use Rattle.trac_text.specs.Pieces.{all_texts, cut_at}
use Rattle.trac_journal.specs.Told.{record_with}
use Rattle.trac_journal.specs.declared.entry.CallEntry.{CallEntry}
use Rattle.trac_journal.specs.declared.entry.Entry.{Entry}
use Rattle.trac_journal.specs.declared.entry.Kept.{Kept}
use Rattle.trac_journal.specs.declared.entry.Kept.TheVariants as kept
use Rattle.trac_journal.proofs.Ends.{before-last, ends_joined, last-after, last-last, length-last}

-- ---- lists with older ones after them

joined_nothing : (l : Listed) → joined l nothing_listed ≡ l
joined_nothing l = λ i. record l { bytes = append-nil l.bytes i; commas = append-nil l.commas i }

pub nothing_joined : (l : Listed) → joined nothing_listed l ≡ l
nothing_joined l = λ i. record l { calls = append-nil l.calls i; undone = append-nil l.undone i; emptied = append-nil l.emptied i }

joined_assoc : (a b c : Listed) → joined (joined a b) c ≡ joined a (joined b c)
joined_assoc a b c =
    λ i. record {
      calls = sym (append_assoc c.calls b.calls a.calls) i;
      bytes = append_assoc a.bytes b.bytes c.bytes i;
      commas = append_assoc a.commas b.commas c.commas i;
      undone = sym (append_assoc c.undone b.undone a.undone) i;
      emptied = sym (append_assoc c.emptied b.emptied a.emptied) i;
    }

-- with others after it the newest call is the same
record CallAfter (calls : List CallEntry) (older l : Listed) : Type 0 where
  has : HasCall (calls ++ older.calls) (older.bytes ++ l.bytes) (older.commas ++ l.commas)
  same : (undone : Undone) → call_of (calls ++ older.calls) undone (older.bytes ++ l.bytes) (older.commas ++ l.commas) ≡ call_of calls undone l.bytes l.commas
  rest : without_call (calls ++ older.calls) (joined older l) ≡ joined older (without_call calls l)

call_after : (calls : List CallEntry) (older l : Listed) → HasCall calls l.bytes l.commas → CallAfter calls older l
call_after [] older l has = absurd has
call_after (c ∷ calls) older l has =
    let text = last-after older.bytes l.bytes c.bytes has.0 in
    let lengths = last-after older.commas l.commas c.commas has.1 in
    record {
      has = (
        omega (arith, has.0, length-append older.bytes l.bytes),
        omega (arith, has.1, length-append older.commas l.commas),
        subst (λ (ms : List ℕ). sum ms ≤ c.bytes) (sym lengths) has.2,
      );
      same = λ undone. (λ i. Called (record_with (called_in c) (all_texts (cut_at (lengths i) (text i))) undone));
      rest = λ i. record (joined older (record l { calls = calls })) {
        bytes = all_before_last-further older.bytes l.bytes c.bytes has.0 i;
        commas = all_before_last-further older.commas l.commas c.commas has.1 i;
      };
    }

-- so is what is told by the first of a list, and the others are those and these
first_after : {X Y : Type 0} (f : List X → Y) → ((x : X) (xs ys : List X) → f (x ∷ xs) ≡ f (x ∷ ys)) → (xs older : List X) → 1 ≤ length xs →
    (f (xs ++ older) ≡ f xs) × (drop 1 (xs ++ older) ≡ drop 1 xs ++ older)
first_after f told [] older some = absurd (omega (arith, some))
first_after f told (x ∷ xs) older some = (told x (xs ++ older) xs, refl)

-- so is the newest record of any kind
record IsAfter (k : Kept) (older l : Listed) : Type 0 where
  has : Holds k (joined older l)
  same : newest_in k (joined older l) ≡ newest_in k l
  rest : older_in k (joined older l) ≡ joined older (older_in k l)

after : (k : Kept) (older l : Listed) → Holds k l → IsAfter k older l
after kept.Call older l has =
    let call = call_after l.calls older l has in
    record { has = call.has; same = call.same Nothing; rest = call.rest }
after (kept.Pointed place) older l has =
    let call = call_after l.calls older l has in
    record { has = call.has; same = call.same (Point place); rest = call.rest }
after kept.Changed older l has =
    let call = call_after l.calls older (record l { undone = drop 1 l.undone }) has.0 in
    let first = first_after first_undone (λ undone newer others. refl) l.undone older.undone has.1 in
    record {
      has = (call.has, omega (arith, has.1, length-append l.undone older.undone));
      same = call.same (first_undone (l.undone ++ older.undone)) ∙ ap (λ (u : Undone). call_of l.calls u l.bytes l.commas) first.0;
      rest = (λ i. without_call (l.calls ++ older.calls) (record (joined older l) { undone = first.1 i })) ∙ call.rest;
    }
after kept.Idle older l has =
    let first = first_after idle_of (λ texts newer others. refl) l.emptied older.emptied has in
    record {
      has = omega (arith, has, length-append l.emptied older.emptied);
      same = first.0;
      rest = λ i. record (joined older l) { emptied = first.1 i };
    }
after k older l has = record { has = tt; same = refl; rest = refl }

-- ---- the newest record's own

-- those of a call, with this of what was destroyed of forms and blocks
record CallApart (calls : List CallEntry) (l : Listed) : Type 0 where
  own : Listed
  has : HasCall own.calls own.bytes own.commas
  alone : (undone : List Undone) → without_call own.calls (record own { undone = undone }) ≡ record nothing_listed { undone = undone }
  together : (undone others : List Undone) → undone ++ others ≡ l.undone → l ≡ joined (without_call calls (record l { undone = others })) (record own { undone = undone })

call_apart : (calls : List CallEntry) (l : Listed) → l.calls ≡ calls → HasCall calls l.bytes l.commas → CallApart calls l
call_apart [] l first has = absurd has
call_apart (c ∷ calls) l first has = record {
  own = record nothing_listed { calls = c ∷ []; bytes = last_of c.bytes l.bytes; commas = last_of c.commas l.commas };
  has = (
    omega (arith, length-last c.bytes l.bytes has.0),
    omega (arith, length-last c.commas l.commas has.1),
    subst (λ (ms : List ℕ). sum ms ≤ c.bytes) (sym (last-last c.commas l.commas has.1)) has.2,
  );
  alone = λ undone. (λ i. record nothing_listed { bytes = before-last c.bytes l.bytes has.0 i; commas = before-last c.commas l.commas has.1 i; undone = undone });
  together = λ undone others both. (λ i. record l {
    calls = first i;
    bytes = sym (ends_joined c.bytes l.bytes) i;
    commas = sym (ends_joined c.commas l.commas) i;
    undone = sym both i;
  });
}

-- those of any record
record Apart (k : Kept) (l : Listed) : Type 0 where
  own : Listed
  has : Holds k own
  alone : older_in k own ≡ nothing_listed
  together : l ≡ joined (older_in k l) own

none_left : {X : Type 0} (xs : List X) → drop 1 (take 1 xs) ≡ []
none_left [] = refl
none_left (x ∷ xs) = refl

apart : (k : Kept) (l : Listed) → Holds k l → Apart k l
apart kept.Call l has =
    let call = call_apart l.calls l refl has in
    record { own = record call.own { undone = [] }; has = call.has; alone = call.alone []; together = call.together [] l.undone refl }
apart (kept.Pointed place) l has =
    let call = call_apart l.calls l refl has in
    record { own = record call.own { undone = [] }; has = call.has; alone = call.alone []; together = call.together [] l.undone refl }
apart kept.Changed l has =
    let call = call_apart l.calls l refl has.0 in
    record {
      own = record call.own { undone = take 1 l.undone };
      has = (call.has, omega (arith, length-take-le 1 l.undone has.1));
      alone = call.alone (drop 1 (take 1 l.undone)) ∙ (λ i. record nothing_listed { undone = none_left l.undone i });
      together = call.together (take 1 l.undone) (drop 1 l.undone) (take-append-drop 1 l.undone);
    }
apart kept.Idle l has =
    record {
      own = record nothing_listed { emptied = take 1 l.emptied };
      has = omega (arith, length-take-le 1 l.emptied has);
      alone = λ i. record nothing_listed { emptied = none_left l.emptied i };
      together = sym (joined_nothing l) ∙ (λ i. record (joined l nothing_listed) { emptied = sym (take-append-drop 1 l.emptied) i });
    }
apart k l has = record { own = nothing_listed; has = tt; alone = refl; together = sym (joined_nothing l) }

-- ---- the oldest record's own

-- the oldest entry's own in the lists, and those of the entries after it
pub record OldestApart (entries : List Entry) (e : Entry) (l : Listed) : Type 0 where
  pub own : Listed
  pub others : Listed
  pub oldest : IsOldest e.kept own others l
  pub listed : AreListed entries others

pub oldest_apart : (entries : List Entry) (e : Entry) (l : Listed) → AreListed (entries ++ e ∷ []) l → OldestApart entries e l
oldest_apart [] e l listed = record {
  own = l;
  others = nothing_listed;
  oldest = record { is_there = listed.0; alone = listed.1; together = sym (joined_nothing l) };
  listed = refl;
}
oldest_apart (newest ∷ entries) e l listed =
    let first = apart newest.kept l listed.0 in
    let rest = oldest_apart entries e (older_in newest.kept l) listed.1 in
    let again = after newest.kept rest.others first.own first.has in
    let back : older_in newest.kept (joined rest.others first.own) ≡ rest.others =
    again.rest ∙ ap (λ (x : Listed). joined rest.others x) first.alone ∙ joined_nothing rest.others in
    record {
      own = rest.own;
      others = joined rest.others first.own;
      oldest = record {
        is_there = rest.oldest.is_there;
        alone = rest.oldest.alone;
        together = first.together ∙ ap (λ (x : Listed). joined x first.own) rest.oldest.together ∙ joined_assoc rest.own rest.others first.own;
      };
      listed = (again.has, subst (AreListed entries) (sym back) rest.listed);
    }

-- the oldest records are that of the oldest entry, and those of the bytes that were moved before its step
pub oldest_last : (moved : ℕ) (entries : List Entry) (e : Entry) (own others : Listed) → AreListed entries others →
    unpacked moved (entries ++ e ∷ []) (joined own others) ≡ unpacked moved entries others ++ newest_in e.kept own ∷ replicate e.moved Moved
oldest_last moved [] e own others none =
    let alone : joined own others ≡ own = ap (λ (x : Listed). joined own x) none ∙ joined_nothing own in
    ap (λ (x : Listed). replicate moved Moved ++ newest_in e.kept x ∷ replicate e.moved Moved) alone
oldest_last moved (newest ∷ entries) e own others listed =
    let again = after newest.kept own others listed.0 in
    let tail : List Record = newest_in e.kept own ∷ replicate e.moved Moved in
    (λ i. replicate moved Moved ++ again.same i ∷ unpacked newest.moved (entries ++ e ∷ []) (again.rest i))
    ∙ ap (λ (rs : List Record). replicate moved Moved ++ newest_in newest.kept others ∷ rs) (oldest_last newest.moved entries e own (older_in newest.kept others) listed.1)
    ∙ sym (append_assoc (replicate moved Moved) (newest_in newest.kept others ∷ unpacked newest.moved entries (older_in newest.kept others)) tail)
