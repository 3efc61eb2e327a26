-- How much the steps of the oldest records printed, told by their calls alone.
use Rattle.std.proofs.Common.{◌≡◌, ℕ, suc, ◌+◌, ◌-◌, ◌<◌, ◌≤◌, List, [], ◌∷◌, ◌++◌, length, drop, refl, sym, ap, ◌∙◌, inl, inr, arith}
use Rattle.std.specs.Prelude.{nat_le, replicate, reverse}
use Rattle.std.proofs.lemmas.Bool.{cases_lt, cond-false, cond-true, le-leb, lt-leb}
use Rattle.std.proofs.lemmas.List.{drop-append-le, drop-drop, drop_at, length-append, length-replicate}
use Rattle.trac_rules.specs.Records.{Record, Moved}
use Rattle.trac_rules.specs.Undone.{Nothing, Point}
use Rattle.trac_journal.specs.Dropped.{calls_of, printed_at, printed_first, printed_in, IsOldest}
use Rattle.trac_journal.specs.Journaled.{unpacked, AreListed}
use Rattle.trac_journal.specs.Listed.{Listed, first_undone, newest_in}
use Rattle.trac_journal.specs.Told.{printed_by, sum_by}
use Rattle.trac_journal.specs.declared.entry.CallEntry.{CallEntry}
use Rattle.trac_journal.specs.declared.entry.Entry.{Entry}
use Rattle.trac_journal.specs.declared.entry.Kept.{Kept}
use Rattle.trac_journal.specs.declared.entry.Kept.TheVariants as kept
use Rattle.trac_journal.proofs.Counted.{moved_sum, sum_by-append}
use Rattle.trac_journal.proofs.Dropped.{OldestCall, brief_left, changed_call, first_apart, first_call, first_last, oldest_idle, sum_fewer, whole_call}

-- ---- the oldest entry

-- moved bytes print nothing
none_printed : (n k : ℕ) → sum_by printed_by (drop n (replicate k Moved)) ≡ 0
none_printed n k = omega (arith, sum_fewer printed_by (replicate k Moved) 0 n (omega arith), moved_sum printed_by k refl)

record OldestPrinted (k : Kept) (own others : Listed) (calls : List CallEntry) : Type 0 where
  printed : printed_by (newest_in k own) ≡ printed_in k calls
  left : others.calls ≡ reverse (drop (calls_of k) calls)

-- of the entry of a call
call_printed : (own others all : Listed) (calls : List CallEntry) (oldest : OldestCall own others all) → all.calls ≡ reverse calls →
    (oldest.call.printed ≡ printed_at calls) × (others.calls ≡ reverse (drop 1 calls))
call_printed own others all [] oldest view =
    absurd (omega (arith, ap (λ (cs : List CallEntry). length cs) (sym view ∙ oldest.ends.last), length-append others.calls (oldest.call ∷ [])))
call_printed own others all (c ∷ calls) oldest view =
    let first = first_call {items = c ∷ calls} others.calls oldest.call refl (sym view) oldest.ends.last in
    (ap (λ (call : CallEntry). call.printed) first.1, first.0)

oldest_printed : (k : Kept) (own others all : Listed) (calls : List CallEntry) → IsOldest k own others all → all.calls ≡ reverse calls → OldestPrinted k own others calls
oldest_printed kept.Call own others all calls is view =
    let whole = whole_call kept.Call own others all tt is in
    let first = call_printed own others all calls whole.0 view in
    record { printed = sym (whole.0.printed Nothing) ∙ first.0; left = first.1 }
oldest_printed (kept.Pointed place) own others all calls is view =
    let whole = whole_call (kept.Pointed place) own others all tt is in
    let first = call_printed own others all calls whole.0 view in
    record { printed = sym (whole.0.printed (Point place)) ∙ first.0; left = first.1 }
oldest_printed kept.Changed own others all calls is view =
    let whole = changed_call own others all is in
    let first = call_printed own others all calls whole.oldest view in
    record { printed = sym (whole.oldest.printed (first_undone own.undone)) ∙ first.0; left = first.1 }
oldest_printed kept.Idle own others all calls is view =
    let whole = oldest_idle own others all is in
    record { printed = ap printed_by whole.is_first; left = ap (λ (l : Listed). l.calls) (sym whole.left) ∙ view }
oldest_printed k own others all calls is view =
    record { printed = refl; left = ap (λ (l : Listed). l.calls) (sym (brief_left own others all is.alone is.together)) ∙ view }

-- ---- all that are left out

-- of so few that the oldest entry's own record stays
pub printed_few : (count : ℕ) (e : Entry) (entries : List Entry) (calls : List CallEntry) → count ≤ e.moved → printed_first count (e ∷ entries) calls ≡ 0
printed_few count e entries calls few =
    cond-true (nat_le count e.moved) 0 (printed_in e.kept calls + printed_first (count - (e.moved + 1)) entries (drop (calls_of e.kept) calls)) (le-leb count e.moved few)

-- and of more
pub printed_more : (count : ℕ) (e : Entry) (entries : List Entry) (calls : List CallEntry) → e.moved < count →
    printed_first count (e ∷ entries) calls ≡ printed_in e.kept calls + printed_first (count - (e.moved + 1)) entries (drop (calls_of e.kept) calls)
printed_more count e entries calls more =
    cond-false (nat_le count e.moved) 0 (printed_in e.kept calls + printed_first (count - (e.moved + 1)) entries (drop (calls_of e.kept) calls)) (lt-leb count e.moved more)

-- those of a list that ends with the records of the oldest entry
few_last : (newer : List Record) (r : Record) (k n : ℕ) → length newer + (k + 1) - n ≤ k → sum_by printed_by (drop n (newer ++ r ∷ replicate k Moved)) ≡ 0
few_last newer r k n few =
    let whole : length newer + (n - length newer) ≡ n = omega (arith, few) in
    let one : suc (n - length newer - 1) ≡ n - length newer = omega (arith, few) in
    ap (λ j. sum_by printed_by (drop j (newer ++ r ∷ replicate k Moved))) (sym whole)
    ∙ ap (sum_by printed_by) (sym (drop-drop (n - length newer) (length newer) (newer ++ r ∷ replicate k Moved)))
    ∙ ap (λ (rs : List Record). sum_by printed_by (drop (n - length newer) rs)) (drop_at newer (r ∷ replicate k Moved) (length newer) refl)
    ∙ ap (λ j. sum_by printed_by (drop j (r ∷ replicate k Moved))) (sym one)
    ∙ none_printed (n - length newer - 1) k

more_last : (newer : List Record) (r : Record) (k n : ℕ) → k < length newer + (k + 1) - n →
    sum_by printed_by (drop n (newer ++ r ∷ replicate k Moved)) ≡ printed_by r + sum_by printed_by (drop n newer)
more_last newer r k n more =
    let few : n ≤ length newer = omega (arith, more) in
    omega (
      arith,
      ap (sum_by printed_by) (drop-append-le n newer (r ∷ replicate k Moved) few),
      sum_by-append printed_by (drop n newer) (r ∷ replicate k Moved),
      moved_sum printed_by k refl,
    )

pub printed_by_oldest : (entries : List Entry) (calls : List CallEntry) (moved n : ℕ) (l : Listed) → AreListed (reverse entries) l → l.calls ≡ reverse calls →
    sum_by printed_by (drop n (unpacked moved (reverse entries) l)) ≡ printed_first (length (unpacked moved (reverse entries) l) - n) entries calls
printed_by_oldest [] calls moved n l listed view = none_printed n moved
printed_by_oldest (e ∷ entries) calls moved n l listed view =
    let apart = first_apart (e ∷ entries) entries e l refl listed in
    let newer : List Record = unpacked moved (reverse entries) apart.others in
    let r : Record = newest_in e.kept apart.own in
    let all : List Record = unpacked moved (reverse (e ∷ entries)) l in
    let cut : all ≡ newer ++ r ∷ replicate e.moved Moved = first_last moved (e ∷ entries) entries e apart.own apart.others l refl apart.listed apart.oldest.together in
    let first = oldest_printed e.kept apart.own apart.others l calls apart.oldest view in
    let rest : sum_by printed_by (drop n newer) ≡ printed_first (length newer - n) entries (drop (calls_of e.kept) calls) =
    printed_by_oldest entries (drop (calls_of e.kept) calls) moved n apart.others apart.listed first.left in
    let many : length all ≡ length newer + (e.moved + 1) =
    omega (arith, ap (λ (rs : List Record). length rs) cut, length-append newer (r ∷ replicate e.moved Moved), length-replicate e.moved Moved) in
    let cut_sum : sum_by printed_by (drop n all) ≡ sum_by printed_by (drop n (newer ++ r ∷ replicate e.moved Moved)) = ap (λ (rs : List Record). sum_by printed_by (drop n rs)) cut in
    let later : length all - n - (e.moved + 1) ≡ length newer - n = omega (arith, many) in
    elim (cases_lt e.moved (length all - n)) [
      | inl more ↦
          cut_sum
          ∙ more_last newer r e.moved n (omega (arith, more, many))
          ∙ (λ i. first.printed i + rest i)
          ∙ ap (λ k. printed_in e.kept calls + printed_first k entries (drop (calls_of e.kept) calls)) (sym later)
          ∙ sym (printed_more (length all - n) e entries calls more)
      | inr few ↦ cut_sum ∙ few_last newer r e.moved n (omega (arith, few, many)) ∙ sym (printed_few (length all - n) e entries calls few)
    ]

-- as the fields of a journal tell it
pub printed_all : (entries : List Entry) (calls : List CallEntry) (moved n count : ℕ) (l : Listed) (records : List Record) → AreListed (reverse entries) l → l.calls ≡ reverse calls →
    unpacked moved (reverse entries) l ≡ records → count ≡ length (unpacked moved (reverse entries) l) → printed_first (count - n) entries calls ≡ sum_by printed_by (drop n records)
printed_all entries calls moved n count l records listed view is all =
    ap (λ k. printed_first (k - n) entries calls) all ∙ sym (printed_by_oldest entries calls moved n l listed view) ∙ ap (λ (rs : List Record). sum_by printed_by (drop n rs)) is
