-- Calls in the lists of a journal: the newest one lent, taken out and put there.
use Rattle.std.proofs.Common.{◌≡◌, ℕ, ◌+◌, ◌≤◌, List, [], ◌∷◌, ◌++◌, length, map, take, drop, sym, ap, subst, ◌∙◌, arith}
use Rattle.std.specs.List.{concat, sum}
use Rattle.std.proofs.lemmas.List.{length-append, length-map, length-take-le}
use Rattle.trac_rules.specs.Records.{Called, last_of}
use Rattle.trac_rules.specs.Undone.{Undone, Nothing, Point}
use Rattle.trac_rules.specs.Weights.{meta_weight, undone_weight, weight}
use Rattle.trac_journal.specs.Listed.{Listed, call_of, called_in, first_undone, without_call, HasCall, HasMore, IsKept}
use Rattle.trac_text.specs.Pieces.{Arguments, all_texts, cut_at}
use Rattle.trac_journal.specs.Told.{record_with}
use Rattle.trac_journal.specs.declared.called.Called as code
use Rattle.trac_journal.specs.declared.entry.CallEntry.{CallEntry}
use Rattle.trac_journal.specs.declared.entry.Kept.{Kept}
use Rattle.trac_journal.specs.declared.entry.Kept.TheVariants as kept
use Rattle.trac_journal.proofs.Ends.{before-append, last-append, length-last}
use Rattle.trac_text.proofs.Joined.{count-cut, cut-joined, joined-cut, lengths_within, total-joined}

-- ---- the newest call

-- all its bytes and lengths are there
pub record IsCall (c : CallEntry) (text lengths : List ℕ) : Type 0 where
  pub bytes : c.bytes ≤ length text
  pub commas : c.commas ≤ length lengths
  pub within : sum (last_of c.commas lengths) ≤ c.bytes

pub newest_call : (calls older : List CallEntry) (c : CallEntry) (bytes commas : List ℕ) → calls ≡ c ∷ older → HasCall calls bytes commas → IsCall c bytes commas
newest_call calls older c bytes commas first has =
    let all = subst (λ (cs : List CallEntry). HasCall cs bytes commas) first has in
    record { bytes = all.0; commas = all.1; within = all.2 }

-- it is lent
pub call_told : (c : CallEntry) (called : code.Called) (calls older : List CallEntry) (bytes commas : List ℕ) (arguments : Arguments) → calls ≡ c ∷ older → called ≡ called_in c →
    arguments ≡ cut_at (last_of c.commas commas) (last_of c.bytes bytes) → (undone : Undone) → call_of calls undone bytes commas ≡ Called (record_with called (all_texts arguments) undone)
call_told c called calls older bytes commas arguments first called_is arguments_are undone =
    ap (λ (cs : List CallEntry). call_of cs undone bytes commas) first ∙ (λ i. Called (record_with (sym called_is i) (all_texts (sym arguments_are i)) undone))

-- what it weighs beside what it destroyed of forms and blocks
pub call_weighs : (calls older : List CallEntry) (c : CallEntry) (bytes commas : List ℕ) → calls ≡ c ∷ older → IsCall c bytes commas → (undone : Undone) →
    c.bytes + c.commas + meta_weight c.meta + undone_weight undone ≡ weight (call_of calls undone bytes commas)
call_weighs calls older c bytes commas first has undone =
    let a : Arguments = cut_at (last_of c.commas commas) (last_of c.bytes bytes) in
    let text : length (concat (all_texts a)) ≡ c.bytes =
    ap (λ (joined : List ℕ). length joined) (joined-cut (last_of c.commas commas) (last_of c.bytes bytes)) ∙ length-last c.bytes bytes has.bytes in
    let of_first : c.bytes + c.commas + meta_weight c.meta + undone_weight undone ≡ weight (call_of (c ∷ older) undone bytes commas) =
    omega (
      arith,
      text,
      total-joined (all_texts a),
      length-append a.finished (a.gathered ∷ []),
      count-cut (last_of c.commas commas) (last_of c.bytes bytes),
      length-last c.commas commas has.commas,
    ) in
    of_first ∙ ap (λ (cs : List CallEntry). weight (call_of cs undone bytes commas)) (sym first)

-- ---- a further call

-- the lists with a call before the others, what it destroyed aside
record WithCall (called : code.Called) (texts : List (List ℕ)) (old new : Listed) : Type 0 where
  has : HasCall new.calls new.bytes new.commas
  says : (undone : Undone) → call_of new.calls undone new.bytes new.commas ≡ Called (record_with called texts undone)
  others : (undone : List Undone) → without_call new.calls (record new { undone = undone }) ≡ record old { undone = undone }

with_call : (called : code.Called) (c : CallEntry) (texts : List (List ℕ)) (n : ℕ) (old new : Listed) → n + 1 ≡ length texts → called_in c ≡ called →
    c.bytes ≡ length (concat texts) → c.commas ≡ n → new.calls ≡ c ∷ old.calls → new.bytes ≡ old.bytes ++ concat texts → new.commas ≡ old.commas ++ map length (take n texts) →
    new.emptied ≡ old.emptied → WithCall called texts old new
with_call called c texts n old new count called_is bytes_are commas_are calls_new bytes_new commas_new emptied_is =
    let lengths : List ℕ = map length (take n texts) in
    let more : Listed = record { calls = c ∷ old.calls; bytes = old.bytes ++ concat texts; commas = old.commas ++ lengths; undone = new.undone; emptied = old.emptied } in
    let new_is : new ≡ more = λ i. record { calls = calls_new i; bytes = bytes_new i; commas = commas_new i; undone = new.undone; emptied = emptied_is i } in
    let many : c.commas ≡ length lengths = omega (arith, commas_are, length-map (take n texts) (λ (text : List ℕ). length text), length-take-le n texts (omega (arith, count))) in
    let lengths_last : last_of c.commas (old.commas ++ lengths) ≡ lengths = last-append old.commas lengths c.commas many in
    let bytes_last : last_of c.bytes (old.bytes ++ concat texts) ≡ concat texts = last-append old.bytes (concat texts) c.bytes bytes_are in
    let texts_are : all_texts (cut_at (last_of c.commas (old.commas ++ lengths)) (last_of c.bytes (old.bytes ++ concat texts))) ≡ texts =
    (λ i. all_texts (cut_at (lengths_last i) (bytes_last i))) ∙ cut-joined texts n count in
    subst (λ (l : Listed). WithCall called texts old l) (sym new_is)
    (record {
      has = (
        omega (arith, bytes_are, length-append old.bytes (concat texts)),
        omega (arith, many, length-append old.commas lengths),
        subst (λ (ms : List ℕ). sum ms ≤ c.bytes) (sym lengths_last) (omega (arith, bytes_are, lengths_within texts n)),
      );
      says = λ undone. (λ i. Called (record_with (called_is i) (texts_are i) undone));
      others = λ undone. (λ i. record old {
        bytes = before-append old.bytes (concat texts) c.bytes bytes_are i;
        commas = before-append old.commas lengths c.commas many i;
        undone = undone;
      });
    })

-- it is the newest, whichever way what it destroyed is kept
pub call_more : (k : Kept) (called : code.Called) (c : CallEntry) (texts : List (List ℕ)) (n : ℕ) (u : Undone) (old new : Listed) → n + 1 ≡ length texts → called_in c ≡ called →
    c.bytes ≡ length (concat texts) → c.commas ≡ n → new.calls ≡ c ∷ old.calls → new.bytes ≡ old.bytes ++ concat texts → new.commas ≡ old.commas ++ map length (take n texts) →
    IsKept k u old.undone new.undone → new.emptied ≡ old.emptied → HasMore k (Called (record_with called texts u)) old new
call_more k called c texts n u old new count called_is bytes_are commas_are calls_new bytes_new commas_new kept_so emptied_is =
    by_kept k kept_so (with_call called c texts n old new count called_is bytes_are commas_are calls_new bytes_new commas_new emptied_is)
  where
    by_kept : (k : Kept) → IsKept k u old.undone new.undone → WithCall called texts old new → HasMore k (Called (record_with called texts u)) old new
    by_kept kept.Call so w = record {
      is_there = w.has;
      newest = w.says Nothing ∙ ap (λ (v : Undone). Called (record_with called texts v)) (sym so.0);
      others = w.others new.undone ∙ (λ i. record old { undone = so.1 i });
    }
    by_kept (kept.Pointed place) so w = record {
      is_there = w.has;
      newest = w.says (Point place) ∙ ap (λ (v : Undone). Called (record_with called texts v)) (sym so.0);
      others = w.others new.undone ∙ (λ i. record old { undone = so.1 i });
    }
    by_kept kept.Changed so w = record {
      is_there = (w.has, omega (arith, ap (λ (us : List Undone). length us) so));
      newest = w.says (first_undone new.undone) ∙ ap (λ (us : List Undone). Called (record_with called texts (first_undone us))) so;
      others = w.others (drop 1 new.undone) ∙ (λ i. record old { undone = drop 1 (so i) });
    }
    by_kept k so w = absurd so
