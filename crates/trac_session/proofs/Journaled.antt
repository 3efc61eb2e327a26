-- Sessions as their fields show them, and what the calls make of the fields.
use Rattle.std.proofs.Common.{◌≡◌, ℕ, suc, ◌+◌, ◌<◌, ◌≤◌, Bool, true, false, List, [], ◌∷◌, ◌++◌, length, refl, sym, ap, subst, ◌∙◌, arith}
use Rattle.std.specs.Prelude.{Option, Some, Result, Ok, Err, OnErr, OnOk, IfErr, IsSomeAnd}
use Rattle.std.proofs.lemmas.List.{length-append}
use Rattle.trac_rules.specs.declared.width.Width.{Width}
use Rattle.trac_rules.specs.declared.limit.TheConstants.{TAPE_LIMIT}
use Rattle.trac_rules.specs.declared.refusal.Refusal.{Refusal}
use Rattle.trac_rules.specs.declared.refusal.Refusal.TheVariants.{Memory, TooLong, JournalFull, AtStart, Closed}
use Rattle.trac_rules.specs.declared.reply.Reply.TheVariants.{Done, Refused}
use Rattle.trac_rules.specs.Records.{Record, state_before}
use Rattle.trac_rules.specs.State.{Environment, State}
use Rattle.trac_rules.specs.Outcomes.{MayLackMemory, MayRefuse}
use Rattle.trac_rules.specs.Stepping.{step}
use Rattle.trac_rules.specs.Session.{PlainSession, Feed, End, Step, Back, done, refused, stepped_to, answer, MayRunOut, Answers, over}
use Rattle.trac_rules.proofs.CallsWeighed.{record_weighs}
use Rattle.trac_rules.proofs.Steps.{step_within}
use Rattle.trac_rules.proofs.Replies.{answer_Step, answer_Step_Ok, answer_Step_Err, answer_Step_full, answer_Feed_closed, answer_Feed_long, answer_Feed_room, answer_End, answer_Back_start, answer_Back_from}
use Rattle.trac_step.specs.Kept.{CanGoBack, IsKept}
use Rattle.trac_step.specs.Layout.{Shown}
use Rattle.trac_step.specs.Room.{HasRoom, IsNoLess}
use Rattle.trac_step.proofs.Rooms.{HasRoom-kept}
use Rattle.trac_session.specs.Journal.{led_on, earlier_of, AreRecords, plain_of, IsWithinReach, IsSound}
use Rattle.trac_session.specs.Replies.{reply_of}

-- ---- lists of records

-- a record says the state that it says
pub led_on-Some : (x : Option State) (s : State) (rest : State → List State) → x ≡ Some s → led_on x rest ≡ s ∷ rest s
led_on-Some x s rest e = ap (λ y. led_on y rest) e

-- there are as many earlier states as records
pub length-earlier_of : (Holds : State → Type 0) (records : List Record) (t : State) → AreRecords Holds records t →
    length (earlier_of records t) ≡ length records
length-earlier_of Holds [] t all = refl
length-earlier_of Holds (r ∷ records) t all =
    ap length (led_on-Some (state_before r t) all.0 (λ s. earlier_of records s) all.1.says)
    ∙ ap (λ (k : ℕ). suc k) (length-earlier_of Holds records all.0 all.3)

-- with one record more there is one earlier state more
pub earlier_of-more : (old new : List Record) (r : Record) (s t : State) → new ≡ r ∷ old → state_before r t ≡ Some s →
    earlier_of new t ≡ s ∷ earlier_of old s
earlier_of-more old new r s t with_r says =
    ap (λ records. earlier_of records t) with_r ∙ led_on-Some (state_before r t) s (λ u. earlier_of old u) says

-- and each record still says a state before
pub AreRecords-more : (e : Environment) (Holds : State → Type 0) (old new : List Record) (s t : State) → IsKept e s t old new → Holds s →
    AreRecords Holds old s → AreRecords Holds new t
AreRecords-more e Holds old new s t kept holds all =
    subst (λ records. AreRecords Holds records t) (sym kept.added)
    (s, record { says = kept.leads_back; weighs = record_weighs e s kept.newest kept.of_step }, holds, all)

-- something else holds of each state before, where it follows from what holds
pub AreRecords-weaker : (Holds Still : State → Type 0) (records : List Record) (t : State) → ((s : State) → Holds s → Still s) →
    AreRecords Holds records t → AreRecords Still records t
AreRecords-weaker Holds Still [] t so all = all
AreRecords-weaker Holds Still (r ∷ records) t so all = (all.0, all.1, so all.0 all.2, AreRecords-weaker Holds Still records all.0 so all.3)

-- what is within reach stays so on a tape that is no shorter, and with no less room
pub IsWithinReach-more : (old new : Shown) (n k : ℕ) → IsNoLess old new → n ≤ k → (s : State) → IsWithinReach old n s → IsWithinReach new k s
IsWithinReach-more old new n k more l s reach = record {
  on_tape = omega (arith, reach.on_tape);
  room = HasRoom-kept old new s more reach.room;
}

-- the newest record says a state before, of which it holds, and the others go on from it
pub newest_says : (Holds : State → Type 0) (old new : List Record) (r : Record) (t u : State) → old ≡ r ∷ new →
    AreRecords Holds old t → state_before r t ≡ Some u → Holds u × AreRecords Holds new u
newest_says Holds old new r t u e all says =
    let said = subst (λ records. AreRecords Holds records t) e all in
    let known : state_before r t ≡ Some said.0 = said.1.says in
    let same : said.0 ≡ u = cc in
    subst (λ (s : State). Holds s × AreRecords Holds new s) same (said.2, said.3)

-- ---- what calls make of the fields

-- there are as many earlier states as the journal has records
pub length-earlier : {width : Width} → (Holds : State → Type 0) (limit : ℕ) (bytes : List ℕ) (ended : Bool) (journal : List Record) (last : State) (p : PlainSession) →
    plain_of limit width bytes ended journal last ≡ p → AreRecords Holds journal last → length p.earlier ≡ length journal
length-earlier Holds limit bytes ended journal last p view all =
    sym (ap (λ (q : PlainSession). length q.earlier) view) ∙ length-earlier_of Holds journal last all

-- the end of the input
pub End_of_fields : {width : Width} → (limit : ℕ) (bytes : List ℕ) (ended : Bool) (journal : List Record) (last : State) (p : PlainSession) →
    plain_of limit width bytes ended journal last ≡ p → answer End p ≡ done (plain_of limit width bytes true journal last)
End_of_fields {width} limit bytes ended journal last p view =
    ap (answer End) (sym view) ∙ answer_End (plain_of limit width bytes ended journal last)

-- a feed after the end
pub Feed_closed_of_fields : {width : Width} → (limit : ℕ) (bytes : List ℕ) (ended : Bool) (journal : List Record) (last : State) (p : PlainSession) (more : List ℕ) →
    plain_of limit width bytes ended journal last ≡ p → ended ≡ true → answer (Feed more) p ≡ refused Closed p
Feed_closed_of_fields limit bytes ended journal last p more view over =
    answer_Feed_closed more p (sym (ap (λ (q : PlainSession). q.tape.ended) view) ∙ over)

-- a feed that is too long
pub Feed_long_of_fields : {width : Width} → (limit : ℕ) (bytes : List ℕ) (ended : Bool) (journal : List Record) (last : State) (p : PlainSession) (more : List ℕ) →
    plain_of limit width bytes ended journal last ≡ p → ended ≡ false → TAPE_LIMIT < length bytes + length more → answer (Feed more) p ≡ refused TooLong p
Feed_long_of_fields limit bytes ended journal last p more view open_ long =
    let same : length p.tape.bytes ≡ length bytes = sym (ap (λ (q : PlainSession). length q.tape.bytes) view) in
    answer_Feed_long more p (sym (ap (λ (q : PlainSession). q.tape.ended) view) ∙ open_) (omega arith)

-- a feed that there is room for
pub Feed_room_of_fields : {width : Width} → (limit : ℕ) (bytes longer : List ℕ) (ended : Bool) (journal : List Record) (last : State) (p : PlainSession) (more : List ℕ) →
    plain_of limit width bytes ended journal last ≡ p → ended ≡ false → length bytes + length more ≤ TAPE_LIMIT → longer ≡ bytes ++ more →
    answer (Feed more) p ≡ done (plain_of limit width longer ended journal last)
Feed_room_of_fields {width} limit bytes longer ended journal last p more view open_ room longer_is =
    rw longer_is (ap (answer (Feed more)) (sym view) ∙ answer_Feed_room more (plain_of limit width bytes ended journal last) open_ room)

-- there memory may be refused, with nothing changed
pub Feed_memory_of_fields : {width : Width} → (limit : ℕ) (bytes same : List ℕ) (ended : Bool) (journal : List Record) (last : State) (p : PlainSession) (more : List ℕ) →
    plain_of limit width bytes ended journal last ≡ p → ended ≡ false → length bytes + length more ≤ TAPE_LIMIT → same ≡ bytes →
    MayRunOut (Feed more) (answer (Feed more) p).reply × (plain_of limit width same ended journal last ≡ p)
Feed_memory_of_fields {width} limit bytes same ended journal last p more view open_ room same_is =
    let would : (answer (Feed more) p).reply ≡ Done =
    ap (λ q. (answer (Feed more) q).reply) (sym view) ∙ ap (λ a. a.reply) (answer_Feed_room more (plain_of limit width bytes ended journal last) open_ room) in
    (rw would tt, ap (λ (b : List ℕ). plain_of limit width b ended journal last) same_is ∙ view)

-- ---- steps

-- memory may be lacking for a command where it may for its reply
pub MayRunOut_of_step : (x : Result State Refusal) (p : PlainSession) → MayLackMemory x → MayRunOut Step (stepped_to x p).reply
MayRunOut_of_step (Ok t) p may = tt
MayRunOut_of_step (Err TooLong) p may = tt
MayRunOut_of_step (Err other) p may = absurd may

-- what a step may be refused for, the session may be
pub Step_refused_as : (p q : PlainSession) (refusal : Refusal) → length p.earlier < p.limit → MayRefuse (step (over p.width p.tape) p.last) refusal → q ≡ p → Answers Step p (Refused refusal) q
Step_refused_as p q Memory l may same = (rw (answer_Step p l) (MayRunOut_of_step (step (over p.width p.tape) p.last) p may), same)
Step_refused_as p q refusal l may same = rw same (answer_Step_Err p refusal l may)

-- a step that was taken, or refused, with a place in the journal
pub Step_of_fields : {width after : Width} → (Holds : State → Type 0) (limit : ℕ) (bytes : List ℕ) (ended : Bool) (old new : List Record) (s t : State) (r : Result (Unit {0}) Refusal) →
    length old < limit → AreRecords Holds old s →
    OnOk r (step (over width (record { bytes = bytes; ended = ended })) s ≡ Ok t) → OnOk r (IsKept (over width (record { bytes = bytes; ended = ended })) s t old new) →
    IfErr r (MayRefuse (step (over width (record { bytes = bytes; ended = ended })) s)) → OnErr r ((t ≡ s) × (new ≡ old)) → after ≡ width →
    Answers Step (plain_of limit width bytes ended old s) (reply_of r) (plain_of limit after bytes ended new t)
Step_of_fields {width} {after} Holds limit bytes ended old new s t (Ok done_) room all taken kept may same still =
    let p : PlainSession = plain_of limit width bytes ended old s in
    let l : length p.earlier < p.limit = omega (arith, length-earlier Holds limit bytes ended old s p refl all) in
    answer_Step_Ok p t l taken
    ∙ ap (λ (earlier : List State). done (record p { earlier = earlier; last = t })) (sym (earlier_of-more old new kept.newest s t kept.added kept.leads_back))
    ∙ ap (λ (w : Width). done (plain_of limit w bytes ended new t)) (sym still)
Step_of_fields {width} {after} Holds limit bytes ended old new s t (Err refusal) room all taken kept may same still =
    let p : PlainSession = plain_of limit width bytes ended old s in
    let l : length p.earlier < p.limit = omega (arith, length-earlier Holds limit bytes ended old s p refl all) in
    Step_refused_as p (plain_of limit after bytes ended new t) refusal l may (rw (same.0, same.1, still) refl)

-- the fields stay sound
pub IsSound-step : (limit : ℕ) (bytes : List ℕ) (ended : Bool) (old new : List Record) (m k : Shown) (r : Result (Unit {0}) Refusal) →
    length old < limit → IsSound limit bytes old m → IsNoLess m k → OnOk r (HasRoom k m.state) →
    OnOk r (step (over m.width (record { bytes = bytes; ended = ended })) m.state ≡ Ok k.state) → OnOk r (IsKept (over m.width (record { bytes = bytes; ended = ended })) m.state k.state old new) →
    OnErr r ((k.state ≡ m.state) × (new ≡ old)) → IsSound limit bytes new k
IsSound-step limit bytes ended old new m k (Ok done_) room sound more back taken kept same = record {
  some_records = sound.some_records;
  not_too_many = sound.not_too_many;
  within_limit = omega (arith, ap (λ (records : List Record). length records) kept.added);
  tape_limit = sound.tape_limit;
  on_tape = step_within (over m.width (record { bytes = bytes; ended = ended })) m.state k.state taken sound.on_tape;
  records =
      AreRecords-more (over m.width (record { bytes = bytes; ended = ended })) (IsWithinReach k (length bytes)) old new m.state k.state kept (record { on_tape = sound.on_tape; room = back })
      (AreRecords-weaker (IsWithinReach m (length bytes)) (IsWithinReach k (length bytes)) old m.state
      (IsWithinReach-more m k (length bytes) (length bytes) more (omega arith)) sound.records);
}
IsSound-step limit bytes ended old new m k (Err refusal) room sound more back taken kept same = record {
  some_records = sound.some_records;
  not_too_many = sound.not_too_many;
  within_limit = omega (arith, ap length same.1, sound.within_limit);
  tape_limit = sound.tape_limit;
  on_tape = omega (arith, ap (λ (s : State). s.position) same.0, sound.on_tape);
  records =
      subst (λ (s : State). AreRecords (IsWithinReach k (length bytes)) new s) (sym same.0)
      (subst (λ (journal : List Record). AreRecords (IsWithinReach k (length bytes)) journal m.state) (sym same.1)
      (AreRecords-weaker (IsWithinReach m (length bytes)) (IsWithinReach k (length bytes)) old m.state
      (IsWithinReach-more m k (length bytes) (length bytes) more (omega arith)) sound.records));
}

-- a step with a full journal
pub Step_full_of_fields : {width : Width} → (Holds : State → Type 0) (limit : ℕ) (bytes : List ℕ) (ended : Bool) (journal : List Record) (last : State) (p : PlainSession) →
    plain_of limit width bytes ended journal last ≡ p → AreRecords Holds journal last → limit ≤ length journal → answer Step p ≡ refused JournalFull p
Step_full_of_fields Holds limit bytes ended journal last p view all full =
    answer_Step_full p (omega (arith, length-earlier Holds limit bytes ended journal last p view all, ap (λ (q : PlainSession). q.limit) view))

-- ---- steps back

-- where a journal has a record, the machine can go back over it
pub can_go_back : (m : Shown) (n : ℕ) (records : List Record) → AreRecords (IsWithinReach m n) records m.state → CanGoBack m records
can_go_back m n [] all = tt
can_go_back m n (r ∷ records) all = subst (λ (o : Option State). IsSomeAnd o (λ s. HasRoom m s)) (sym all.1.says) all.2.room

-- at the first state
pub Back_start_of_fields : (limit : ℕ) (bytes : List ℕ) (ended : Bool) (old new : List Record) (m k : Shown) (p : PlainSession) →
    plain_of limit m.width bytes ended old m.state ≡ p → old ≡ [] → new ≡ [] → k ≡ m → answer Back p ≡ refused AtStart (plain_of limit k.width bytes ended new k.state)
Back_start_of_fields limit bytes ended old new m k p view empty still same =
    let none : p.earlier ≡ [] = sym (ap (λ (q : PlainSession). q.earlier) view) ∙ ap (λ (records : List Record). earlier_of records m.state) empty in
    answer_Back_start p none
    ∙ ap (refused AtStart) (sym view ∙ ap (λ (records : List Record). plain_of limit m.width bytes ended records m.state) (empty ∙ sym still))
    ∙ ap (λ (u : Shown). refused AtStart (plain_of limit u.width bytes ended new u.state)) (sym same)

-- from any other
pub Back_of_fields : {width after : Width} → (limit : ℕ) (bytes : List ℕ) (ended : Bool) (old new : List Record) (r : Record) (last s : State) (p : PlainSession) →
    plain_of limit width bytes ended old last ≡ p → old ≡ r ∷ new → state_before r last ≡ Some s → after ≡ width →
    answer Back p ≡ done (plain_of limit after bytes ended new s)
Back_of_fields {width} {after} limit bytes ended old new r last s p view with_r says still =
    let some : p.earlier ≡ s ∷ earlier_of new s =
    sym (ap (λ (q : PlainSession). q.earlier) view) ∙ earlier_of-more new old r s last with_r says in
    answer_Back_from p s (earlier_of new s) some
    ∙ ap (λ (q : PlainSession). done (record q { earlier = earlier_of new s; last = s })) (sym view)
    ∙ ap (λ (w : Width). done (plain_of limit w bytes ended new s)) (sym still)

-- the fields stay sound
pub IsSound-back : (limit : ℕ) (bytes : List ℕ) (old new : List Record) (r : Record) (m k : Shown) →
    old ≡ r ∷ new → state_before r m.state ≡ Some k.state → IsNoLess m k → IsSound limit bytes old m → IsSound limit bytes new k
IsSound-back limit bytes old new r m k with_r says more sound =
    let this = newest_says (IsWithinReach m (length bytes)) old new r m.state k.state with_r sound.records says in
    record {
      some_records = sound.some_records;
      not_too_many = sound.not_too_many;
      within_limit = omega (arith, sound.within_limit, ap (λ (records : List Record). length records) with_r);
      tape_limit = sound.tape_limit;
      on_tape = this.0.on_tape;
      records =
          AreRecords-weaker (IsWithinReach m (length bytes)) (IsWithinReach k (length bytes)) new k.state
          (IsWithinReach-more m k (length bytes) (length bytes) more (omega arith)) this.1;
    }

-- so they do where nothing is changed
pub IsSound-same : (limit : ℕ) (bytes : List ℕ) (old new : List Record) (m k : Shown) → old ≡ [] → new ≡ [] → k ≡ m → IsSound limit bytes old m → IsSound limit bytes new k
IsSound-same limit bytes old new m k empty still same sound =
    subst (λ (u : Shown). IsSound limit bytes new u) (sym same) (subst (λ (records : List Record). IsSound limit bytes records m) (empty ∙ sym still) sound)

-- and with a longer tape
pub IsSound-feed : (limit : ℕ) (bytes longer more : List ℕ) (journal : List Record) (m : Shown) →
    longer ≡ bytes ++ more → length bytes + length more ≤ TAPE_LIMIT → IsSound limit bytes journal m → IsSound limit longer journal m
IsSound-feed limit bytes longer more journal m longer_is room sound =
    let n : length longer ≡ length bytes + length more = ap length longer_is ∙ length-append bytes more in
    record {
      some_records = sound.some_records;
      not_too_many = sound.not_too_many;
      within_limit = sound.within_limit;
      tape_limit = omega arith;
      on_tape = omega (arith, sound.on_tape);
      records =
          AreRecords-weaker (IsWithinReach m (length bytes)) (IsWithinReach m (length longer)) journal m.state
          (λ s reach. record { on_tape = omega (arith, reach.on_tape); room = reach.room }) sound.records;
    }
