-- Runs of plain bytes, passed at once there and back.
use Rattle.std.proofs.Common.{◌≡◌, ℕ, zero, suc, ◌+◌, ◌-◌, ◌<◌, ◌≤◌, Bool, true, false, List, [], ◌∷◌, ◌++◌, length, take, drop, refl, sym, ap, subst, ◌∙◌, arith}
use Rattle.std.specs.Prelude.{Some, get_or, nat_le, replicate}
use Rattle.std.specs.Bool.{then_some}
use Rattle.std.proofs.lemmas.Bool.{false≢true, leb-true}
use Rattle.std.proofs.lemmas.List.{drop_at, get_or-drop, length-append, length-drop, length-replicate, length-take, take-append-drop, take_at}
use Rattle.trac_rules.specs.declared.width.Width.{Width}
use Rattle.trac_rules.specs.declared.width.Width.TheVariants.{W64}
use Rattle.trac_rules.specs.PlainRuns.{BeginsPlain, is_plain, moved_on, on_the_way}
use Rattle.trac_rules.specs.Proper.{IsProper}
use Rattle.trac_rules.specs.Records.{Record, Moved, all_before_last, last_of, moved_back, moved_back_in, put_before, state_before}
use Rattle.trac_rules.specs.Scanning.{deleted, gather_first}
use Rattle.trac_rules.specs.Session.{PlainSession, Back, Step, accepted_by, repeated}
use Rattle.trac_rules.specs.State.{Frame, State}
use Rattle.trac_rules.specs.Weights.{weight}
use Rattle.trac_rules.proofs.MovedOn.{active-gathered, moved_byte_back, moved_byte_weighs, moved_on-suc, moved_on-zero, plain_bytes_there}
use Rattle.trac_rules.proofs.Replies.{answer_Back_from}
use Rattle.trac_rules.proofs.Restored.{moved_back-gather, restored_of_before}
use Rattle.trac_rules.proofs.Scans.{gathered_in_shows}
use Rattle.trac_journal.specs.Told.{sum_by}
use Rattle.trac_journal.proofs.Counted.{moved_sum, sum_by-append}
use Rattle.trac_journal.proofs.Ends.{length-last}
use Rattle.trac_step.proofs.Rooms.{HasRoom-kept, no_less_state}
use Rattle.trac_step.specs.Layout.{Shown}
use Rattle.trac_step.specs.Room.{HasRoom, IsNoLess}
use Rattle.trac_session.specs.Journal.{earlier_of, AreRecords, plain_of, IsWithinReach, IsSound}
use Rattle.trac_session.specs.Runs.{HasMovedBack}
use Rattle.trac_session.proofs.Journaled.{led_on-Some, length-earlier, length-earlier_of, AreRecords-weaker, IsWithinReach-more}
use Rattle.trac_session.proofs.Walked.{repeated-from}

-- ---- records of moved bytes

-- so many of them are so many more
pub length-moved : (old new : List Record) (n : ℕ) → new ≡ replicate n Moved ++ old → length new ≡ n + length old
length-moved old new n kept =
    omega (arith, ap (λ (records : List Record). length records) kept, length-append (replicate n Moved) old, length-replicate n Moved)

-- they say the states on the way
earlier_of-moved : (n : ℕ) (rest : List Record) (s : State) → IsProper s → n ≤ length s.active →
    earlier_of (replicate n Moved ++ rest) (moved_on n s) ≡ on_the_way n s ++ earlier_of rest s
earlier_of-moved zero rest s proper within = ap (λ (t : State). earlier_of rest t) (moved_on-zero s)
earlier_of-moved (suc n) rest s proper within =
    led_on-Some (state_before Moved (moved_on (suc n) s)) (moved_on n s) (λ u. earlier_of (replicate n Moved ++ rest) u) (moved_byte_back n s proper (omega arith))
    ∙ ap (λ (states : List State). moved_on n s ∷ states) (earlier_of-moved n rest s proper (omega arith))

-- of which something holds
AreRecords-moved : (Holds : State → Type 0) (n : ℕ) (rest : List Record) (s : State) → IsProper s → BeginsPlain n s →
    ((k : ℕ) → k < n → Holds (moved_on k s)) → AreRecords Holds rest s → AreRecords Holds (replicate n Moved ++ rest) (moved_on n s)
AreRecords-moved Holds zero rest s proper plain holds all = subst (λ (t : State). AreRecords Holds rest t) (sym (moved_on-zero s)) all
AreRecords-moved Holds (suc n) rest s proper plain holds all = (
  moved_on n s,
  record {
    says = moved_byte_back n s proper (omega (arith, plain.within));
    weighs = sym (moved_byte_weighs n s (omega (arith, plain.within)) (plain.each n (omega arith)));
  },
  holds n (omega arith),
  AreRecords-moved Holds n rest s proper (record { within = omega (arith, plain.within); each = λ k less. plain.each k (omega arith) }) (λ k less. holds k (omega arith)) all,
)

-- ---- there

-- the position stays
moved_on-position : (n : ℕ) (s : State) → (moved_on n s).position ≡ s.position
moved_on-position n s = gathered_in_shows (λ (u : State). u.position) (λ u active base frames. refl) s.frames (take n s.active) (deleted n s)

-- a journal with records of moved bytes says the states on the way before those that it said
earlier_of-passed : (old new : List Record) (s t : State) (n : ℕ) → IsProper s → n ≤ length s.active → new ≡ replicate n Moved ++ old → t ≡ moved_on n s →
    earlier_of new t ≡ on_the_way n s ++ earlier_of old s
earlier_of-passed old new s t n proper within kept moved =
    ap (λ (records : List Record). earlier_of records t) kept
    ∙ ap (λ (u : State). earlier_of (replicate n Moved ++ old) u) moved
    ∙ earlier_of-moved n old s proper within

-- plain bytes that were moved at once, as the fields show it, and that the journal has room for
pub record HasPassed (limit : ℕ) (old new : List Record) (m k : Shown) (n : ℕ) : Type 0 where
  pub proper : IsProper m.state
  pub plain : BeginsPlain n m.state
  pub fits : length old + n ≤ limit
  pub kept : new ≡ replicate n Moved ++ old
  pub moved : k ≡ record m { state = moved_on n m.state }
  pub held : (j : ℕ) → j ≤ n → HasRoom m (moved_on j m.state)

module _ {limit n : ℕ} {old new : List Record} {m k : Shown} (passed : HasPassed limit old new m k n) where
  there : k.state ≡ moved_on n m.state
  there = ap (λ (u : Shown). u.state) passed.moved

  -- they are as many steps
  pub Step_passed : {bytes : List ℕ} {ended : Bool} {p : PlainSession} → IsSound limit bytes old m → plain_of limit m.width bytes ended old m.state ≡ p →
      repeated Step n p ≡ Some (plain_of limit k.width bytes ended new k.state)
  Step_passed {bytes} {ended} sound view =
      let q : PlainSession = plain_of limit m.width bytes ended old m.state in
      ap (repeated Step n) (sym view)
      ∙ plain_bytes_there n q passed.proper passed.plain (omega (arith, passed.fits, length-earlier (IsWithinReach m (length bytes)) limit bytes ended old m.state q refl sound.records))
      ∙ ap (λ (earlier : List State). Some (record q { earlier = earlier; last = moved_on n m.state })) (sym (earlier_of-passed old new m.state k.state n passed.proper passed.plain.within passed.kept there))
      ∙ ap (λ (u : State). Some (record q { earlier = earlier_of new k.state; last = u })) (sym there)
      ∙ ap (λ (w : Width). Some (plain_of limit w bytes ended new k.state)) (sym (ap (λ (u : Shown). u.width) passed.moved))

  -- they moved the first bytes of the active text
  pub Step_moved : {bytes : List ℕ} {ended : Bool} {p : PlainSession} → plain_of limit m.width bytes ended old m.state ≡ p → HasMovedBack n (plain_of limit k.width bytes ended new k.state) p
  Step_moved {bytes} {ended} view =
      subst (λ (q : PlainSession). HasMovedBack n (plain_of limit k.width bytes ended new k.state) q) view
      (record {
        others = ap (λ (w : Width). plain_of limit w bytes ended old m.state) (sym (ap (λ (u : Shown). u.width) passed.moved));
        within = passed.plain.within;
        last = there;
        earlier = earlier_of-passed old new m.state k.state n passed.proper passed.plain.within passed.kept there;
      })

  -- the fields stay sound
  pub IsSound-passed : {bytes : List ℕ} → IsSound limit bytes old m → IsSound limit bytes new k
  IsSound-passed {bytes} sound =
      let more : IsNoLess m k = subst (λ (u : Shown). IsNoLess m u) (sym passed.moved) (no_less_state m (moved_on n m.state)) in
      let Reach : State → Type 0 = IsWithinReach k (length bytes) in
      let reach : (j : ℕ) → j < n → Reach (moved_on j m.state) = λ j less. record {
        on_tape = omega (arith, sound.on_tape, moved_on-position j m.state);
        room = HasRoom-kept m k (moved_on j m.state) more (passed.held j (omega arith));
      } in
      record {
        some_records = sound.some_records;
        not_too_many = sound.not_too_many;
        within_limit = omega (arith, passed.fits, length-moved old new n passed.kept);
        tape_limit = sound.tape_limit;
        on_tape = omega (arith, sound.on_tape, ap (λ (u : State). u.position) there, moved_on-position n m.state);
        records =
            subst (λ (records : List Record). AreRecords Reach records k.state) (sym passed.kept)
            (subst (λ (u : State). AreRecords Reach (replicate n Moved ++ old) u) (sym there)
            (AreRecords-moved Reach n old m.state passed.proper passed.plain reach
            (AreRecords-weaker (IsWithinReach m (length bytes)) Reach old m.state
            (IsWithinReach-more m k (length bytes) (length bytes) more (omega arith)) sound.records)));
      }

-- no plain byte follows those that were moved, where fewer were than might be
no_plain_after : (n most : ℕ) (s : State) → (n < most → n < length s.active → is_plain (get_or s.active n 0) ≡ false) → n < most → BeginsPlain 1 (moved_on n s) → ⊥
no_plain_after n most s end fewer plain =
    let left : (moved_on n s).active ≡ drop n s.active = active-gathered s.frames (take n s.active) (deleted n s) in
    let some : n < length s.active = omega (arith, plain.within, ap (λ (text : List ℕ). length text) left, length-drop n s.active) in
    let none : n + 0 ≡ n = omega arith in
    let first : is_plain (get_or s.active n 0) ≡ true =
    ap (λ k. is_plain (get_or s.active k 0)) (sym none) ∙ ap is_plain (sym (get_or-drop n s.active 0 0)) ∙ ap (λ (text : List ℕ). is_plain (get_or text 0 0)) (sym left) ∙ plain.each 0 (omega arith) in
    false≢true (sym (end fewer some) ∙ first)

-- so it is where the journal has a place left
pub no_plain_ahead : {limit n : ℕ} {bytes : List ℕ} {old new : List Record} {m k : Shown} (most : ℕ) → HasPassed limit old new m k n → IsSound limit bytes new k →
    (n < most → n < length m.state.active → is_plain (get_or m.state.active n 0) ≡ false) → (length old + n < limit → n < most) → length (earlier_of new k.state) < limit → BeginsPlain 1 k.state → ⊥
no_plain_ahead {n = n} {bytes = bytes} {old = old} {new = new} {m = m} {k = k} most passed sound end fewer place plain =
    no_plain_after n most m.state end
    (fewer (omega (arith, place, length-earlier_of (IsWithinReach k (length bytes)) new k.state sound.records, length-moved old new n passed.kept)))
    (subst (BeginsPlain 1) (there passed) plain)

-- ---- and back

-- so many bytes that have moved on go back
moved_on-back : (n : ℕ) (s : State) → n ≤ length s.active → moved_back n (moved_on n s) ≡ Some s
moved_on-back n s within =
    let all : length (take n s.active) ≡ n = omega (arith, length-take n s.active) in
    ap (λ k. moved_back k (moved_on n s)) (sym all)
    ∙ moved_back-gather s.frames (take n s.active) [] (deleted n s)
    ∙ ap (λ (text : List ℕ). Some (record s { active = text })) (take-append-drop n s.active)

-- the last n bytes of a text, put before another one, can be taken from its beginning again
module _ (n : ℕ) (text active : List ℕ) (within : n ≤ length text) where
  enough : n ≤ length (last_of n text ++ active)
  enough = omega (arith, length-last n text within, length-append (last_of n text) active)

  left : drop n (last_of n text ++ active) ≡ active
  left = drop_at (last_of n text) active n (length-last n text within)

  whole : all_before_last n text ++ take n (last_of n text ++ active) ≡ text
  whole =
      ap (λ (xs : List ℕ). all_before_last n text ++ xs) (take_at (last_of n text) active n (length-last n text within))
      ∙ take-append-drop (length text - n) text

-- a state from which so many bytes went back is where they have moved on to
abbrev IsThere : ℕ → State → State → Type 0
IsThere n s t = (t ≡ moved_on n s) × (n ≤ length s.active)

moved_there : (n : ℕ) (s t : State) → moved_back n t ≡ Some s → IsThere n s t
moved_there n s t back = by_frames t.frames back
  where
    base_there : n ≤ length t.base → IsThere n (put_before (last_of n t.base) (record t { base = all_before_last n t.base; frames = [] })) (record t { frames = [] })
    base_there within =
        (sym (λ i. record t { active = left n t.base t.active within i; base = whole n t.base t.active within i; frames = [] }), enough n t.base t.active within)

    gathered_there : (f : Frame) (fs : List Frame) → n ≤ length f.gathered →
        IsThere n (put_before (last_of n f.gathered) (record t { frames = record f { gathered = all_before_last n f.gathered } ∷ fs })) (record t { frames = f ∷ fs })
    gathered_there f fs within =
        (sym (λ i. record t { active = left n f.gathered t.active within i; frames = record f { gathered = whole n f.gathered t.active within i } ∷ fs }), enough n f.gathered t.active within)

    by_test : (b : Bool) (u v : State) → then_some b u ≡ Some s → (b ≡ true → IsThere n u v) → IsThere n s v
    by_test true u v h there = let same : u ≡ s = cc in subst (λ (x : State). IsThere n x v) same (there refl)
    by_test false u v h there = absurd (cc)

    by_frames : (frames : List Frame) → moved_back_in frames n (record t { frames = frames }) ≡ Some s → IsThere n s (record t { frames = frames })
    by_frames [] h = by_test (nat_le n (length t.base)) _ _ h (λ few. base_there (leb-true n (length t.base) few))
    by_frames (f ∷ fs) h = by_test (nat_le n (length f.gathered)) _ _ h (λ few. gathered_there f fs (leb-true n (length f.gathered) few))

-- one byte more
moved_there-more : (n : ℕ) (r s t : State) → IsThere 1 s t → IsThere n r s → IsThere (suc n) r t
moved_there-more n r s t last others = (
  last.0 ∙ ap gather_first others.0 ∙ sym (moved_on-suc n r),
  omega (arith, last.1, others.1, ap (λ (u : State). length u.active) others.0, ap (λ (text : List ℕ). length text) (active-gathered r.frames (take n r.active) (deleted n r)), length-drop n r.active),
)

-- records of moved bytes lead back to a state, as so many steps back do, and the other records go on from it
pub record GoesBack (Holds : State → Type 0) (n : ℕ) (rest : List Record) (t : State) (p : PlainSession) : Type 0 where
  pub first : State
  pub there : IsThere n first t
  pub records : AreRecords Holds rest first
  pub way : earlier_of (replicate n Moved ++ rest) t ≡ on_the_way n first ++ earlier_of rest first
  pub walked : repeated Back n p ≡ Some (record p { earlier = earlier_of rest first; last = first })

goes_back : (Holds : State → Type 0) (n : ℕ) (rest : List Record) (t : State) (p : PlainSession) → AreRecords Holds (replicate n Moved ++ rest) t →
    p.earlier ≡ earlier_of (replicate n Moved ++ rest) t → p.last ≡ t → GoesBack Holds n rest t p
goes_back Holds zero rest t p all earlier last = record {
  first = t;
  there = (sym (moved_on-zero t), omega arith);
  records = all;
  way = refl;
  walked = λ i. Some (record p { earlier = earlier i; last = last i });
}
goes_back Holds (suc n) rest t p all earlier last =
    let s : State = all.0 in
    let one_less : earlier_of (replicate (suc n) Moved ++ rest) t ≡ s ∷ earlier_of (replicate n Moved ++ rest) s =
    led_on-Some (state_before Moved t) s (λ u. earlier_of (replicate n Moved ++ rest) u) all.1.says in
    let some : p.earlier ≡ s ∷ earlier_of (replicate n Moved ++ rest) s = earlier ∙ one_less in
    let q : PlainSession = record p { earlier = earlier_of (replicate n Moved ++ rest) s; last = s } in
    let back : repeated Back 1 p ≡ Some q = ap accepted_by (answer_Back_from p s (earlier_of (replicate n Moved ++ rest) s) some) in
    let next : suc n ≡ 1 + n = omega arith in
    let others : GoesBack Holds n rest s q = goes_back Holds n rest s q all.3 refl refl in
    record {
      first = others.first;
      there = moved_there-more n others.first s t (moved_there 1 s t (restored_of_before Moved s t all.1.says).0) others.there;
      records = others.records;
      way = one_less ∙ ap (λ (states : List State). s ∷ states) others.way
          ∙ ap (λ (u : State). u ∷ (on_the_way n others.first ++ earlier_of rest others.first)) others.there.0;
      walked = ap (λ k. repeated Back k p) next ∙ repeated-from Back 1 n p q back ∙ others.walked;
    }

-- the same of fields
went_back : {width : Width} → (Holds : State → Type 0) (limit : ℕ) (bytes : List ℕ) (ended : Bool) (old new : List Record) (t : State) (n : ℕ) → old ≡ replicate n Moved ++ new →
    AreRecords Holds old t → GoesBack Holds n new t (plain_of limit width bytes ended old t)
went_back {width} Holds limit bytes ended old new t n kept all =
    goes_back Holds n new t (plain_of limit width bytes ended old t)
    (subst (λ (records : List Record). AreRecords Holds records t) kept all)
    (ap (λ (records : List Record). earlier_of records t) kept) refl

-- the bytes can go back
pub moved_back_says : (n : ℕ) (new : List Record) {limit : ℕ} {bytes : List ℕ} {old : List Record} {m : Shown} → IsSound limit bytes old m → old ≡ replicate n Moved ++ new →
    (s : State) × (moved_back n m.state ≡ Some s) × (s.position ≡ m.state.position) × AreRecords (IsWithinReach m (length bytes)) new s
moved_back_says n new {bytes = bytes} {old} {m} sound kept =
    let went = went_back {width = W64} (IsWithinReach m (length bytes)) 0 [] false old new m.state n kept sound.records in (
      went.first,
      ap (moved_back n) went.there.0 ∙ moved_on-back n went.first went.there.1,
      sym (ap (λ (u : State). u.position) went.there.0 ∙ moved_on-position n went.first),
      went.records,
    )

-- bytes that went back at once, as the fields show it
pub record HasPassedBack (old new : List Record) (m k : Shown) (n : ℕ) : Type 0 where
  pub kept : old ≡ replicate n Moved ++ new
  pub back : moved_back n m.state ≡ Some k.state
  pub others : k ≡ record m { state = k.state }

pub passed_back : (n : ℕ) (new : List Record) (m : Shown) {old : List Record} {k : Shown} → old ≡ replicate n Moved ++ new → moved_back n m.state ≡ Some k.state → k ≡ record m { state = k.state } → HasPassedBack old new m k n
passed_back n new m kept back others = record { kept = kept; back = back; others = others }

module _ {limit n : ℕ} {bytes : List ℕ} {old new : List Record} {m k : Shown} (sound : IsSound limit bytes old m) (passed : HasPassedBack old new m k n) where
  went : (ended : Bool) → GoesBack (IsWithinReach m (length bytes)) n new m.state (plain_of limit m.width bytes ended old m.state)
  went ended = went_back (IsWithinReach m (length bytes)) limit bytes ended old new m.state n passed.kept sound.records

  first_is : (ended : Bool) → (went ended).first ≡ k.state
  first_is ended =
      let back = went ended in
      let here : moved_back n m.state ≡ Some back.first = ap (moved_back n) back.there.0 ∙ moved_on-back n back.first back.there.1 in
      let there = passed.back in cc

  -- that is as many steps back
  pub Back_passed : {ended : Bool} {p : PlainSession} → plain_of limit m.width bytes ended old m.state ≡ p → repeated Back n p ≡ Some (plain_of limit k.width bytes ended new k.state)
  Back_passed {ended} view =
      ap (repeated Back n) (sym view) ∙ (went ended).walked ∙ ap (λ (u : State). Some (plain_of limit m.width bytes ended new u)) (first_is ended)
      ∙ ap (λ (w : Width). Some (plain_of limit w bytes ended new k.state)) (sym (ap (λ (u : Shown). u.width) passed.others))

  -- each of which moved a byte
  pub Back_moved : {ended : Bool} {p : PlainSession} → plain_of limit m.width bytes ended old m.state ≡ p → HasMovedBack n p (plain_of limit k.width bytes ended new k.state)
  Back_moved {ended} view =
      let back = went ended in
      subst (λ (q : PlainSession). HasMovedBack n q (plain_of limit k.width bytes ended new k.state)) view
      (subst (λ (w : Width). HasMovedBack n (plain_of limit m.width bytes ended old m.state) (plain_of limit w bytes ended new k.state)) (sym (ap (λ (u : Shown). u.width) passed.others))
      (subst (λ (u : State). HasMovedBack n (plain_of limit m.width bytes ended old m.state) (plain_of limit m.width bytes ended new u)) (first_is ended)
      (record {
        others = refl;
        within = back.there.1;
        last = back.there.0;
        earlier = ap (λ (records : List Record). earlier_of records m.state) passed.kept ∙ back.way;
      })))

  -- the fields stay sound
  pub IsSound-passed-back : IsSound limit bytes new k
  IsSound-passed-back =
      let Reach : State → Type 0 = IsWithinReach m (length bytes) in
      let back = went false in
      let more : IsNoLess m k = subst (λ (u : Shown). IsNoLess m u) (sym passed.others) (no_less_state m k.state) in
      record {
        some_records = sound.some_records;
        not_too_many = sound.not_too_many;
        within_limit = omega (arith, sound.within_limit, length-moved new old n passed.kept);
        tape_limit = sound.tape_limit;
        on_tape = omega (arith, sound.on_tape, ap (λ (u : State). u.position) back.there.0, moved_on-position n back.first, ap (λ (u : State). u.position) (first_is false));
        records =
            AreRecords-weaker Reach (IsWithinReach k (length bytes)) new k.state
            (IsWithinReach-more m k (length bytes) (length bytes) more (omega arith))
            (subst (λ (u : State). AreRecords Reach new u) (first_is false) back.records);
      }

-- records of moved bytes weigh nothing
pub moved_weigh_nothing : (old new : List Record) (n : ℕ) → new ≡ replicate n Moved ++ old → sum_by weight new ≡ sum_by weight old
moved_weigh_nothing old new n kept =
    omega (arith, ap (sum_by weight) kept, sum_by-append weight (replicate n Moved) old, moved_sum weight n refl)
