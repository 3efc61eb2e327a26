-- The names that the machine of a session knows, as the fields show it.
use Rattle.std.proofs.Common.{◌≡◌, ◌≢◌, ◌≤◌, ℕ, zero, suc, Bool, List, [], ◌∷◌, ◌++◌, length, min, take, refl, sym, ap, subst, ◌∙◌, arith}
use Rattle.std.specs.Prelude.{Some, replicate}
use Rattle.trac_rules.specs.declared.reply.Reply.{Reply}
use Rattle.trac_rules.specs.declared.width.Width.{Width}
use Rattle.trac_rules.specs.PlainRuns.{moved_on}
use Rattle.trac_rules.specs.Records.{Record, Moved}
use Rattle.trac_rules.specs.Session.{PlainSession, Command, Answers, released, repeated}
use Rattle.trac_rules.specs.State.{State}
use Rattle.trac_rules.proofs.MovedOn.{moved_on-zero}
use Rattle.trac_step.specs.Layout.{Shown}
use Rattle.trac_session.specs.Journal.{earlier_of, AreRecords, IsAtStart, IsSession, IsSound, IsWithinReach, plain_of}
use Rattle.trac_session.specs.Knowing.{AreRecent, HasForgotten, HasSwept, KnowsItsOwn, names_in}
use Rattle.trac_session.proofs.Aged.{AreNewer, recent_forgotten, recent_min}
use Rattle.trac_session.proofs.Journaled.{length-earlier, length-earlier_of}
use Rattle.trac_session.proofs.Trailed.{answered, walked}

-- ---- names are forgotten

-- a machine that has forgotten names without a step to go back over knows no names but its own
pub own_names : (records : List Record) (m n : Shown) → HasForgotten records m n → KnowsItsOwn records n
own_names [] m n h = (ap (λ (u : Shown). u.known) h ∙ sym (ap (λ (u : Shown). names_in u.state) h), ap (λ (u : Shown). u.recent) h ∙ sym (ap (λ (u : Shown). names_in u.state) h))
own_names (r ∷ records) m n h = tt

-- it shows what it showed
pub shows_as_before : {T : Type 0} → (show : State → Width → T) (records : List Record) (m n : Shown) → HasForgotten records m n → show n.state n.width ≡ show m.state m.width
shows_as_before show [] m n h = ap (λ (u : Shown). show u.state u.width) h
shows_as_before show (r ∷ records) m n h = ap (λ (u : Shown). show u.state u.width) h

pub plain_forgotten : {limit : ℕ} {bytes : List ℕ} {ended : Bool} (records : List Record) (m n : Shown) → HasForgotten records m n →
    plain_of limit n.width bytes ended records n.state ≡ plain_of limit m.width bytes ended records m.state
plain_forgotten {limit} {bytes} {ended} records m n h = shows_as_before (λ s width. plain_of limit width bytes ended records s) records m n h

-- a first state has no output, and has read nothing
pub at_start : {limit : ℕ} {bytes : List ℕ} {records : List Record} {m : Shown} → IsSound limit bytes records m → records ≡ [] → IsAtStart m.state
at_start {bytes = bytes} {m = m} sound none = subst (λ (rs : List Record). AreRecords (IsWithinReach m (length bytes)) rs m.state) none sound.records

-- the fields stay sound
pub IsSound-forgotten : {limit : ℕ} {bytes : List ℕ} (records : List Record) (m n : Shown) → HasForgotten records m n → IsSound limit bytes records m → IsSound limit bytes records n
IsSound-forgotten [] m n h sound =
    let same : n.state ≡ m.state = ap (λ (u : Shown). u.state) h in
    record {
      some_records = sound.some_records;
      not_too_many = sound.not_too_many;
      within_limit = sound.within_limit;
      tape_limit = sound.tape_limit;
      on_tape = omega (arith, sound.on_tape, ap (λ (s : State). s.position) same);
      records = subst (λ (s : State). IsAtStart s) (sym same) sound.records;
    }
IsSound-forgotten {limit} {bytes} (r ∷ records) m n h sound = subst (λ (u : Shown). IsSound limit bytes (r ∷ records) u) (sym h) sound

-- ---- sessions

-- after a command, of a machine that forgets names then
pub answered_forgotten : (command : Command) (reply : Reply) {limit : ℕ} {width : Width} {bytes after : List ℕ} {ended over : Bool} {mark more : ℕ} {old new : List Record} {m k n : Shown} →
    IsSession limit width bytes ended mark old m → k.width ≡ m.width → IsSound limit after new k →
    Answers command (plain_of limit m.width bytes ended old m.state) reply (plain_of limit k.width after over new k.state) → HasForgotten new k n → AreRecent more k.recent (earlier_of new k.state) →
    IsSession limit width after over more new n
answered_forgotten command reply {limit} {bytes = bytes} {ended = ended} {old = old} {new = new} {m = m} {k = k} {n = n} session still sound h forgotten recent =
    answered command reply session (shows_as_before (λ s width. width) new k n forgotten ∙ still) (IsSound-forgotten new k n forgotten sound)
    (subst (λ (p : PlainSession). Answers command (plain_of limit m.width bytes ended old m.state) reply p) (sym (plain_forgotten new k n forgotten)) h)
    (own_names new k n forgotten) (recent_forgotten _ new k n forgotten recent)

-- and after one that was accepted so many times
pub walked_forgotten : (command : Command) (steps : ℕ) {limit : ℕ} {width : Width} {bytes : List ℕ} {ended : Bool} {mark more : ℕ} {old new : List Record} {m k n : Shown} →
    IsSession limit width bytes ended mark old m → k.width ≡ m.width → IsSound limit bytes new k →
    repeated command steps (plain_of limit m.width bytes ended old m.state) ≡ Some (plain_of limit k.width bytes ended new k.state) → HasForgotten new k n → AreRecent more k.recent (earlier_of new k.state) →
    IsSession limit width bytes ended more new n
walked_forgotten command steps {new = new} {k = k} {n = n} session still sound h forgotten recent =
    walked command steps session (shows_as_before (λ s width. width) new k n forgotten ∙ still) (IsSound-forgotten new k n forgotten sound)
    (h ∙ ap (λ (p : PlainSession). Some p) (sym (plain_forgotten new k n forgotten))) (own_names new k n forgotten) (recent_forgotten _ new k n forgotten recent)

-- with a step more there is one to go back over
pub own_after_step : (old new : List Record) (r : Record) (n : Shown) → new ≡ r ∷ old → KnowsItsOwn new n
own_after_step old new r n e = subst (λ (rs : List Record). KnowsItsOwn rs n) (sym e) tt

-- a machine that shows the same forms, and knows the same names, knows its own if it did so
own_still : (m n : Shown) → n.known ≡ m.known → n.recent ≡ m.recent → names_in n.state ≡ names_in m.state → (records : List Record) → KnowsItsOwn records m → KnowsItsOwn records n
own_still m n known recent names [] own = (known ∙ own.0 ∙ sym names, recent ∙ own.1 ∙ sym names)
own_still m n known recent names (r ∷ records) own = tt

-- nothing is changed
pub own_same : (old new : List Record) (m n : Shown) → new ≡ old → n ≡ m → KnowsItsOwn old m → KnowsItsOwn new n
own_same old new m n same still own =
    subst (λ (u : Shown). KnowsItsOwn new u) (sym still) (subst (λ (rs : List Record). KnowsItsOwn rs m) (sym same) own)

-- over bytes that were moved
pub own_passed : (n : ℕ) (old new : List Record) (m k : Shown) → new ≡ replicate n Moved ++ old → k ≡ record m { state = moved_on n m.state } → KnowsItsOwn old m → KnowsItsOwn new k
own_passed zero old new m k kept moved own =
    subst (λ (rs : List Record). KnowsItsOwn rs k) (sym kept)
    (own_still m k (ap (λ (u : Shown). u.known) moved) (ap (λ (u : Shown). u.recent) moved) (ap (λ (u : Shown). names_in u.state) moved ∙ ap names_in (moved_on-zero m.state)) old own)
own_passed (suc n) old new m k kept moved own = own_after_step (replicate n Moved ++ old) new Moved k kept

-- and once aged names are swept too
pub own_swept : (kept mark : ℕ) (records : List Record) (m n : Shown) → HasSwept kept mark m n → KnowsItsOwn records m → KnowsItsOwn records n
own_swept kept mark [] m n swept own =
    let names = sym (ap (λ (u : Shown). names_in u.state) swept.machine) in
    (ap (λ (u : Shown). u.known) swept.machine ∙ own.1 ∙ names, ap (λ (u : Shown). u.recent) swept.machine ∙ names)
own_swept kept mark (r ∷ records) m n swept own = tt

-- after a commit that keeps some steps
pub own_kept : (keep o p : ℕ) (old new : List Record) (m n : Shown) → keep ≢ 0 → new ≡ take keep old → n ≡ record m { state = released o p m.state } → KnowsItsOwn old m → KnowsItsOwn new n
own_kept zero o p old new m n some kept at own = absurd (some refl)
own_kept (suc keep) o p [] new m n some kept at own =
    subst (λ (rs : List Record). KnowsItsOwn rs n) (sym kept)
    (own_still m n (ap (λ (u : Shown). u.known) at) (ap (λ (u : Shown). u.recent) at) (ap (λ (u : Shown). names_in u.state) at) [] own)
own_kept (suc keep) o p (r ∷ old) new m n some kept at own = own_after_step (take keep old) new r n kept

-- ---- old steps

-- no more are old than there are
pub few_old : {limit : ℕ} {width : Width} {bytes : List ℕ} {ended : Bool} {mark : ℕ} (records : List Record) (machine : Shown) → IsSession limit width bytes ended mark records machine → mark ≤ length records
few_old {bytes = bytes} records machine session =
    let count : length (earlier_of records machine.state) ≡ length records = length-earlier_of (IsWithinReach machine (length bytes)) records machine.state session.sound.records in
    omega (arith, session.recent.0, count)

-- of steps that are left, where no more are old than were before
pub recent_trimmed : {limit : ℕ} {bytes : List ℕ} (mark more : ℕ) (records : List Record) (machine : Shown) → IsSound limit bytes records machine → more ≡ min mark (length records) →
    AreNewer mark machine.recent (earlier_of records machine.state) → AreRecent more machine.recent (earlier_of records machine.state)
recent_trimmed {bytes = bytes} mark more records machine sound is all =
    recent_min mark (length records) more machine.recent (earlier_of records machine.state) (sym (length-earlier_of (IsWithinReach machine (length bytes)) records machine.state sound.records)) is all

-- ---- the machine that a session shows

pub names_shown : {limit : ℕ} {width : Width} {bytes : List ℕ} {ended : Bool} {mark : ℕ} (records : List Record) (machine : Shown) (p : PlainSession) → IsSession limit width bytes ended mark records machine →
    plain_of limit machine.width bytes ended records machine.state ≡ p → p.earlier ≡ [] → machine.known ≡ names_in p.last
names_shown [] machine p session view none = session.names.0 ∙ ap (λ (q : PlainSession). names_in q.last) view
names_shown {limit} {bytes = bytes} {ended = ended} (r ∷ records) machine p session view none =
    absurd (omega (
      arith,
      length-earlier (IsWithinReach machine (length bytes)) limit bytes ended (r ∷ records) machine.state p view session.sound.records,
      ap (λ (states : List State). length states) none,
    ))
