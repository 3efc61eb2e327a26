-- A window of the last records: what is dropped before it tells what is released, and the records that stay lead on as before.
use Rattle.std.proofs.Common.{◌≡◌, ℕ, zero, suc, ◌+◌, ◌-◌, ◌≤◌, Bool, List, [], ◌∷◌, ◌++◌, length, map, take, drop, All, refl, sym, ap, subst, ◌∙◌, arith}
use Rattle.std.specs.Prelude.{Some}
use Rattle.std.proofs.lemmas.List.{append-nil, append_assoc, length-append, length-drop, length-take, nil_from_length, take-append-drop, take-append-le, take_all}
use Rattle.std.proofs.lemmas.List.Elements.{All-cons, All-nil}
use Rattle.trac_rules.specs.declared.width.Width.{Width}
use Rattle.trac_rules.specs.Fronts.{IsFrontOf}
use Rattle.trac_rules.specs.Records.{Record, state_before}
use Rattle.trac_rules.specs.Session.{PlainSession, Commit, answer, done, first_kept, first_of, released, settled}
use Rattle.trac_rules.specs.State.{State}
use Rattle.trac_rules.proofs.GoingOn.{settled_is}
use Rattle.trac_rules.proofs.Released.{before-released, step_weight-released}
use Rattle.trac_rules.proofs.Replies.{answer_Commit}
use Rattle.trac_journal.specs.Told.{printed_by, read_by, sum_by}
use Rattle.trac_step.specs.Layout.{Shown}
use Rattle.trac_step.specs.Room.{HasRoom}
use Rattle.trac_session.specs.Journal.{earlier_of, AreRecords, IsAtStart, IsSound, IsWithinReach, plain_of}
use Rattle.trac_session.proofs.Journaled.{led_on-Some}
use Rattle.trac_session.proofs.Told.{Passes, record_passes}

-- ---- what records say of their steps

-- so many bytes, and then so many more
passes_on : (a b c d : ℕ) (s t u : State) → Passes a b s t → Passes c d t u → Passes (c + a) (d + b) s u
passes_on a b c d s t u first then = record {
  position = omega (arith, first.position, then.position);
  more = first.more ++ then.more;
  output = then.output ∙ ap (λ (o : List ℕ). o ++ then.more) first.output ∙ append_assoc s.output first.more then.more;
  count = omega (arith, length-append first.more then.more, first.count, then.count);
}

passes_none : (s : State) → Passes 0 0 s s
passes_none s = record { position = omega arith; more = []; output = sym (append-nil s.output); count = refl }

-- the first of the states before this one
abbrev pub first_before : List Record → State → State
first_before records t = first_of t (earlier_of records t)

first_before-more : (r : Record) (records : List Record) (s t : State) → state_before r t ≡ Some s →
    first_before (r ∷ records) t ≡ first_before records s
first_before-more r records s t says = ap (first_of t) (led_on-Some (state_before r t) s (λ u. earlier_of records u) says)

-- the steps of the first records of a list, from the first of the states that they say on
pub all_pass : (Holds : State → Type 0) (kept dropped : List Record) (t : State) → AreRecords Holds (kept ++ dropped) t → Passes (sum_by read_by kept) (sum_by printed_by kept) (first_before kept t) t
all_pass Holds [] dropped t all = passes_none t
all_pass Holds (r ∷ kept) dropped t all =
    subst (λ (f : State). Passes (read_by r + sum_by read_by kept) (printed_by r + sum_by printed_by kept) f t) (sym (first_before-more r kept all.0 t all.1.says))
    (passes_on (sum_by read_by kept) (sum_by printed_by kept) (read_by r) (printed_by r) (first_before kept all.0) all.0 t
    (all_pass Holds kept dropped all.0 all.3) (record_passes r all.0 t all.1.says))

-- ---- records that are kept, and others before them

-- of two lists of records the second goes on from the first of the states that the first says
parted : (Holds : State → Type 0) (kept dropped : List Record) (t : State) → AreRecords Holds (kept ++ dropped) t → AreRecords Holds dropped (first_before kept t)
parted Holds [] dropped t all = all
parted Holds (r ∷ kept) dropped t all =
    subst (λ (f : State). AreRecords Holds dropped f) (sym (first_before-more r kept all.0 t all.1.says)) (parted Holds kept dropped all.0 all.3)

-- what the records that are dropped tell of the first state that stays: the states begin without output, at the start of the tape
pub record IsToldBy (dropped : List Record) (u : State) : Type 0 where
  pub position : u.position ≡ sum_by read_by dropped
  pub output : length u.output ≡ sum_by printed_by dropped

pub first_told : (Holds : State → Type 0) (dropped : List Record) (u : State) → AreRecords Holds dropped u → IsToldBy dropped u
first_told Holds dropped u all =
    let first : State = first_before dropped u in
    let whole : dropped ++ [] ≡ dropped = append-nil dropped in
    let passed = all_pass Holds dropped [] u (subst (λ (rs : List Record). AreRecords Holds rs u) (sym whole) all) in
    let start = at_first dropped u all in
    record {
      position = omega (arith, passed.position, start.nothing_read);
      output = omega (arith, ap length passed.output, length-append first.output passed.more, passed.count, ap length start.nothing_pending);
    }
  where
    at_first : (records : List Record) (t : State) → AreRecords Holds records t → IsAtStart (first_before records t)
    at_first [] t all = all
    at_first (r ∷ records) t all =
        subst (λ (f : State). IsAtStart f) (sym (first_before-more r records all.0 t all.1.says)) (at_first records all.0 all.3)

-- ---- the records that stay, from the released state on

-- a state begins with the output of the first of those before it
front_of_first : (Holds : State → Type 0) (kept dropped : List Record) (t u : State) →
    AreRecords Holds (kept ++ dropped) t → u ≡ first_before kept t → IsFrontOf u.output t.output
front_of_first Holds kept dropped t u all first =
    let passed = all_pass Holds kept dropped t all in
    (passed.more, passed.output ∙ ap (λ (f : State). f.output ++ passed.more) (sym first))

-- so it has read and printed no less
beyond : (Holds : State → Type 0) (kept dropped : List Record) (t u : State) →
    AreRecords Holds (kept ++ dropped) t → u ≡ first_before kept t → (u.position ≤ t.position) × (length u.output ≤ length t.output)
beyond Holds kept dropped t u all first =
    let passed = all_pass Holds kept dropped t all in
    let front = front_of_first Holds kept dropped t u all first in
    (omega (arith, passed.position, ap (λ (f : State). f.position) first), omega (arith, ap length front.1, length-append u.output front.0))

-- the states that they say are released alike
pub led_released : (Holds : State → Type 0) (kept dropped : List Record) (t u : State) (o k : ℕ) →
    AreRecords Holds (kept ++ dropped) t → u ≡ first_before kept t → k ≤ u.position → o ≤ length u.output →
    earlier_of kept (released o k t) ≡ map (released o k) (earlier_of kept t)
led_released Holds [] dropped t u o k all first read printed = refl
led_released Holds (r ∷ kept) dropped t u o k all first read printed =
    let s = all.0 in
    let says : state_before r t ≡ Some s = all.1.says in
    let same = first ∙ first_before-more r kept s t says in
    let far = beyond Holds kept dropped s u all.3 same in
    led_on-Some (state_before r (released o k t)) (released o k s) (λ v. earlier_of kept v) (before-released o k r s t (omega (arith, far.0, read)) (omega (arith, far.1, printed)) says)
    ∙ ap (λ (states : List State). released o k s ∷ states) (led_released Holds kept dropped s u o k all.3 same read printed)
    ∙ ap (map (released o k)) (sym (led_on-Some (state_before r t) s (λ v. earlier_of kept v) says))

-- and they are the records of these states
pub records_released : (Holds Still : State → Type 0) (kept dropped : List Record) (t u : State) (o k : ℕ) →
    AreRecords Holds (kept ++ dropped) t → u ≡ first_before kept t → k ≤ u.position → o ≤ length u.output → IsAtStart (released o k u) →
    ((s : State) → Holds s → k ≤ s.position → o ≤ length s.output → Still (released o k s)) → AreRecords Still kept (released o k t)
records_released Holds Still [] dropped t u o k all first read printed start so = subst (λ (f : State). IsAtStart (released o k f)) first start
records_released Holds Still (r ∷ kept) dropped t u o k all first read printed start so =
    let s = all.0 in
    let says : state_before r t ≡ Some s = all.1.says in
    let same = first ∙ first_before-more r kept s t says in
    let far = beyond Holds kept dropped s u all.3 same in
    let reads_less : k ≤ s.position = omega (arith, far.0, read) in
    let prints_less : o ≤ length s.output = omega (arith, far.1, printed) in (
      released o k s,
      record { says = before-released o k r s t reads_less prints_less says; weighs = all.1.weighs ∙ sym (step_weight-released o k s) },
      so s all.2 reads_less prints_less,
      records_released Holds Still kept dropped s u o k all.3 same read printed start so,
    )

-- each output of the states that stay begins with that of the first of them
pub fronts_kept : (Holds : State → Type 0) (kept dropped : List Record) (t u : State) →
    AreRecords Holds (kept ++ dropped) t → u ≡ first_before kept t →
    All (λ (s : State). IsFrontOf u.output s.output) (t ∷ earlier_of kept t)
fronts_kept Holds [] dropped t u all first =
    let begins : State → Type 0 = λ s. IsFrontOf u.output s.output in
    All-cons begins t [] (front_of_first Holds [] dropped t u all first) (All-nil begins)
fronts_kept Holds (r ∷ kept) dropped t u all first =
    let s = all.0 in
    let says : state_before r t ≡ Some s = all.1.says in
    let rest = fronts_kept Holds kept dropped s u all.3 (first ∙ first_before-more r kept s t says) in
    All-cons (λ (v : State). IsFrontOf u.output v.output) t (earlier_of (r ∷ kept) t) (front_of_first Holds (r ∷ kept) dropped t u all first)
    (subst (λ (states : List State). All (λ (v : State). IsFrontOf u.output v.output) states) (sym (led_on-Some (state_before r t) s (λ v. earlier_of kept v) says)) rest)

-- ---- the journal

-- the first records say the first states
earlier_of-take : (Holds : State → Type 0) (keep : ℕ) (records : List Record) (t : State) → AreRecords Holds records t →
    take keep (earlier_of records t) ≡ earlier_of (take keep records) t
earlier_of-take Holds zero records t all = refl
earlier_of-take Holds (suc keep) [] t all = refl
earlier_of-take Holds (suc keep) (r ∷ records) t all =
    let says : state_before r t ≡ Some all.0 = all.1.says in
    ap (take (suc keep)) (led_on-Some (state_before r t) all.0 (λ s. earlier_of records s) says)
    ∙ ap (λ (states : List State). all.0 ∷ states) (earlier_of-take Holds keep records all.0 all.3)
    ∙ sym (led_on-Some (state_before r t) all.0 (λ s. earlier_of (take keep records) s) says)

-- ---- what a commit makes of the fields

-- a commit that keeps so many of the newest records and drops the others: what it releases is told by those
pub record KeepsNewest (Holds : State → Type 0) (keep : ℕ) (old new : List Record) (last : State) (o k : ℕ) : Type 0 where
  pub all : AreRecords Holds old last
  pub rest : new ≡ take keep old
  pub printed : o ≡ sum_by printed_by (drop keep old)
  pub read : k ≡ sum_by read_by (drop keep old)

-- what a journal that keeps its newest records tells
pub newest_kept : {limit o k : ℕ} {bytes : List ℕ} {old new : List Record} {m : Shown} (keep : ℕ) → IsSound limit bytes old m → new ≡ take keep old →
    o ≡ sum_by printed_by (drop keep old) → k ≡ sum_by read_by (drop keep old) → KeepsNewest (IsWithinReach m (length bytes)) keep old new m.state o k
newest_kept keep sound rest printed read = record { all = sound.records; rest = rest; printed = printed; read = read }

-- the first state that stays, as the records that stay say it
pub record StaysFirst (Holds : State → Type 0) (keep : ℕ) (old new : List Record) (last : State) (o k : ℕ) : Type 0 where
  pub records : AreRecords Holds (new ++ drop keep old) last
  pub states : take keep (earlier_of old last) ≡ earlier_of new last
  pub printed : o ≡ length (first_before new last).output
  pub read : k ≡ (first_before new last).position

pub stays_first : {Holds : State → Type 0} {keep o k : ℕ} {old new : List Record} {last : State} → KeepsNewest Holds keep old new last o k → StaysFirst Holds keep old new last o k
stays_first {Holds} {keep = keep} {old = old} {new = new} {last = last} kept =
    let both : old ≡ new ++ drop keep old = sym (take-append-drop keep old) ∙ ap (λ (rs : List Record). rs ++ drop keep old) (sym kept.rest) in
    let all : AreRecords Holds (new ++ drop keep old) last = subst (λ (rs : List Record). AreRecords Holds rs last) both kept.all in
    let told = first_told Holds (drop keep old) (first_before new last) (parted Holds new (drop keep old) last all) in
    record {
      records = all;
      states = earlier_of-take Holds keep old last kept.all ∙ ap (λ (rs : List Record). earlier_of rs last) (sym kept.rest);
      printed = kept.printed ∙ sym told.output;
      read = kept.read ∙ sym told.position;
    }

-- the session is the one that the definitions say
pub Commit_of_fields : {keep limit o k : ℕ} {bytes rest : List ℕ} {ended : Bool} {old new : List Record} {m n : Shown} {Holds : State → Type 0} {p : PlainSession} → KeepsNewest Holds keep old new m.state o k →
    rest ≡ drop k bytes → n ≡ record m { state = released o k m.state } → plain_of limit m.width bytes ended old m.state ≡ p →
    answer (Commit keep) p ≡ done (plain_of limit n.width rest ended new n.state)
Commit_of_fields {keep} {limit} {o} {k} {bytes} {rest} {ended} {old} {new} {m} {n} {Holds} kept cut at view =
    let width = m.width in
    let last = m.state in
    let q : PlainSession = plain_of limit width bytes ended old last in
    let u : State = first_before new last in
    let first = stays_first kept in
    let u_is : first_kept keep q ≡ u = ap (first_of last) first.states in
    let o_is : length (first_kept keep q).output ≡ o = ap (λ (s : State). length s.output) u_is ∙ sym first.printed in
    let k_is : (first_kept keep q).position ≡ k = ap (λ (s : State). s.position) u_is ∙ sym first.read in
    let states : earlier_of new (released o k last) ≡ map (released o k) (earlier_of new last) =
    led_released Holds new (drop keep old) last u o k first.records refl (omega (arith, first.read)) (omega (arith, first.printed)) in
    ap (answer (Commit keep)) (sym view)
    ∙ answer_Commit keep q
    ∙ (λ i. let committed_so : PlainSession = record q {
      tape = record q.tape { bytes = drop (k_is i) bytes };
      earlier = map (released (o_is i) (k_is i)) (first.states i);
      last = released (o_is i) (k_is i) last;
    } in done committed_so)
    ∙ (λ i. let shown : PlainSession = record q { tape = record q.tape { bytes = sym cut i }; earlier = sym states i; last = released o k last } in done shown)
    ∙ ap (λ (shown : Shown). done (plain_of limit shown.width rest ended new shown.state)) (sym at)

-- what it releases is there
pub released_there : {Holds : State → Type 0} {keep o k : ℕ} {old new : List Record} {last : State} → KeepsNewest Holds keep old new last o k → (k ≤ last.position) × (o ≤ length last.output)
released_there {Holds} {keep = keep} {old = old} {new = new} {last = last} kept =
    let u : State = first_before new last in
    let first = stays_first kept in
    let far = beyond Holds new (drop keep old) last u first.records refl in
    (omega (arith, far.0, first.read), omega (arith, far.1, first.printed))

-- and stands at the front of the output of each state that stays
pub released_begins : {width : Width} {Holds : State → Type 0} {keep limit o k : ℕ} {bytes : List ℕ} {ended : Bool} {old new : List Record} {last : State} {p : PlainSession} {text : List ℕ} →
    KeepsNewest Holds keep old new last o k → plain_of limit width bytes ended old last ≡ p → text ≡ take o last.output →
    (text ≡ (first_kept keep p).output) × All (λ (s : State). IsFrontOf text s.output) (p.last ∷ take keep p.earlier)
released_begins {Holds = Holds} {keep = keep} {o = o} {old = old} {new = new} {last = last} {p = p} {text = text} kept view cut =
    let u : State = first_before new last in
    let first = stays_first kept in
    let fronts = fronts_kept Holds new (drop keep old) last u first.records refl in
    let front = front_of_first Holds new (drop keep old) last u first.records refl in
    let is : text ≡ u.output =
    cut ∙ ap (λ (n : ℕ). take n last.output) first.printed ∙ ap (take (length u.output)) front.1 ∙ take-append-le (length u.output) u.output front.0 (omega arith) ∙ take_all (length u.output) u.output (omega arith) in
    let u_is : first_kept keep p ≡ u = ap (first_kept keep) (sym view) ∙ ap (first_of last) first.states in
    let states : p.last ∷ take keep p.earlier ≡ last ∷ earlier_of new last =
    ap (λ (q : PlainSession). q.last ∷ take keep q.earlier) (sym view) ∙ ap (λ (xs : List State). last ∷ xs) first.states in (
      is ∙ ap (λ (s : State). s.output) (sym u_is),
      subst (λ (xs : List State). All (λ (s : State). IsFrontOf text s.output) xs) (sym states)
          (subst (λ (front_text : List ℕ). All (λ (s : State). IsFrontOf front_text s.output) (last ∷ earlier_of new last)) (sym is) fronts),
    )

-- the fields stay sound
pub IsSound-kept : {keep limit o k : ℕ} {bytes rest : List ℕ} {old new : List Record} {m n : Shown} → IsSound limit bytes old m → KeepsNewest (IsWithinReach m (length bytes)) keep old new m.state o k →
    rest ≡ drop k bytes → n ≡ record m { state = released o k m.state } → IsSound limit rest new n
IsSound-kept {keep} {o = o} {k = k} {bytes = bytes} {rest = rest} {old = old} {new = new} {m = m} {n = n} sound kept cut at =
    let u : State = first_before new m.state in
    let first = stays_first kept in
    let shorter : length rest ≡ length bytes - k = ap length cut ∙ length-drop k bytes in
    let there : n.state ≡ released o k m.state = ap (λ (s : Shown). s.state) at in
    let start : IsAtStart (released o k u) = record {
      nothing_pending = nil_from_length (drop o u.output) (omega (arith, length-drop o u.output, first.printed));
      nothing_read = omega (arith, first.read);
    } in
    record {
      some_records = sound.some_records;
      not_too_many = sound.not_too_many;
      within_limit = omega (arith, sound.within_limit, ap (λ (rs : List Record). length rs) kept.rest, length-take keep old);
      tape_limit = omega (arith, sound.tape_limit, shorter);
      on_tape = omega (arith, sound.on_tape, shorter, ap (λ (s : State). s.position) there);
      records =
          subst (λ (s : State). AreRecords (IsWithinReach n (length rest)) new s) (sym there)
          (records_released (IsWithinReach m (length bytes)) (IsWithinReach n (length rest)) new (drop keep old) m.state u o k
          first.records refl (omega (arith, first.read)) (omega (arith, first.printed)) start
          (λ s reach read printed. record {
            on_tape = omega (arith, reach.on_tape, shorter, read);
            room = subst (λ (shown : Shown). HasRoom shown (released o k s)) (sym at) (record {
              text = reach.room.text;
              marks = reach.room.marks;
              output = omega (arith, reach.room.output, length-drop o s.output);
              names = reach.room.names;
            });
          }));
    }

-- ---- a commit that keeps the last state alone

pub Commit_alone : {width after : Width} → (limit : ℕ) (bytes rest : List ℕ) (ended : Bool) (old none : List Record) (last there : State) (p : PlainSession) →
    plain_of limit width bytes ended old last ≡ p → rest ≡ drop last.position bytes → none ≡ [] → there ≡ settled last → after ≡ width →
    answer (Commit 0) p ≡ done (plain_of limit after rest ended none there)
Commit_alone {width} {after} limit bytes rest ended old none last there p view cut empty at still =
    rw (cut, empty, at, still) (ap (answer (Commit 0)) (sym view) ∙ answer_Commit 0 (plain_of limit width bytes ended old last))

pub IsSound-alone : (limit : ℕ) (bytes rest : List ℕ) (old none : List Record) (m n : Shown) →
    rest ≡ drop m.state.position bytes → none ≡ [] → n.state ≡ settled m.state → IsSound limit bytes old m → IsSound limit rest none n
IsSound-alone limit bytes rest old none m n cut empty at sound =
    let shorter : length rest ≡ length bytes - m.state.position = ap length cut ∙ length-drop m.state.position bytes in
    let place : n.state.position ≡ 0 = ap (λ (s : State). s.position) (at ∙ settled_is m.state) in
    record {
      some_records = sound.some_records;
      not_too_many = sound.not_too_many;
      within_limit = omega (arith, ap (λ (rs : List Record). length rs) empty);
      tape_limit = omega (arith, sound.tape_limit, shorter);
      on_tape = omega (arith, place);
      records =
          subst (λ (rs : List Record). AreRecords (IsWithinReach n (length rest)) rs n.state) (sym empty)
          (record { nothing_pending = ap (λ (s : State). s.output) (at ∙ settled_is m.state); nothing_read = place });
    }
