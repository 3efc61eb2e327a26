-- Sessions whose states are steps of one another, as their fields show them.
use Rattle.std.proofs.Common.{◌≡◌, ℕ, Bool, List, [], ◌∷◌, sym, ap, subst, ◌∙◌}
use Rattle.std.specs.Prelude.{Some}
use Rattle.std.specs.List.{All}
use Rattle.std.proofs.lemmas.List.Elements.{All-cons, All-nil}
use Rattle.trac_rules.specs.declared.reply.Reply.{Reply}
use Rattle.trac_rules.specs.declared.width.Width.{Width}
use Rattle.trac_rules.specs.Records.{Record, state_before}
use Rattle.trac_rules.specs.Session.{PlainSession, Command, Answers, repeated}
use Rattle.trac_rules.specs.State.{State}
use Rattle.trac_rules.specs.Trails.{IsTrail}
use Rattle.trac_rules.proofs.TakenAgain.{answered_trail, repeated_trail}
use Rattle.trac_step.specs.Layout.{Shown}
use Rattle.trac_step.specs.Room.{HasRoom}
use Rattle.trac_session.specs.Journal.{earlier_of, AreRecords, IsSession, IsSound, IsWithinReach, plain_of}
use Rattle.trac_session.specs.Knowing.{AreRecent, KnowsItsOwn}
use Rattle.trac_session.proofs.Journaled.{led_on-Some}

-- they stay so after a command
pub answered : (command : Command) (reply : Reply) {limit : ℕ} {width : Width} {bytes after : List ℕ} {ended over : Bool} {mark more : ℕ} {old new : List Record} {m n : Shown} →
    IsSession limit width bytes ended mark old m → n.width ≡ m.width → IsSound limit after new n →
    Answers command (plain_of limit m.width bytes ended old m.state) reply (plain_of limit n.width after over new n.state) → KnowsItsOwn new n → AreRecent more n.recent (earlier_of new n.state) →
    IsSession limit width after over more new n
answered command reply {limit} {bytes = bytes} {after = after} {ended = ended} {over = over} {old = old} {new = new} {m = m} {n = n} session still sound h names recent = record {
  sound = sound;
  wide = still ∙ session.wide;
  names = names;
  recent = recent;
  trail = answered_trail command reply (plain_of limit m.width bytes ended old m.state) (plain_of limit n.width after over new n.state) session.trail h;
}

-- and after one that was accepted so many times
pub walked : (command : Command) (steps : ℕ) {limit : ℕ} {width : Width} {bytes : List ℕ} {ended : Bool} {mark more : ℕ} {old new : List Record} {m n : Shown} →
    IsSession limit width bytes ended mark old m → n.width ≡ m.width → IsSound limit bytes new n →
    repeated command steps (plain_of limit m.width bytes ended old m.state) ≡ Some (plain_of limit n.width bytes ended new n.state) → KnowsItsOwn new n → AreRecent more n.recent (earlier_of new n.state) →
    IsSession limit width bytes ended more new n
walked command steps {limit} {bytes = bytes} {ended = ended} {old = old} {new = new} {m = m} {n = n} session still sound h names recent = record {
  sound = sound;
  wide = still ∙ session.wide;
  names = names;
  recent = recent;
  trail = repeated_trail command steps (plain_of limit m.width bytes ended old m.state) (plain_of limit n.width bytes ended new n.state) session.trail h;
}

-- the session that they show is so
pub trail_shown : {limit : ℕ} {width : Width} {bytes : List ℕ} {ended : Bool} {mark : ℕ} (journal : List Record) {machine : Shown} (p : PlainSession) →
    IsSession limit width bytes ended mark journal machine → plain_of limit machine.width bytes ended journal machine.state ≡ p → IsTrail p
trail_shown journal p session view = subst IsTrail view session.trail

-- the width of its numbers is kept
pub width_shown : {limit : ℕ} {width : Width} {bytes : List ℕ} {ended : Bool} {mark : ℕ} (journal : List Record) {machine : Shown} (p : PlainSession) →
    IsSession limit width bytes ended mark journal machine → plain_of limit machine.width bytes ended journal machine.state ≡ p → width ≡ p.width
width_shown journal p session view = sym session.wide ∙ ap (λ (q : PlainSession). q.width) view

-- the machine has room for each state before the last one
all_within_reach : (m : Shown) (n : ℕ) (records : List Record) (t : State) → AreRecords (IsWithinReach m n) records t → All (λ s. HasRoom m s) (earlier_of records t)
all_within_reach m n [] t all = All-nil (λ s. HasRoom m s)
all_within_reach m n (r ∷ records) t all =
    subst (λ (states : List State). All (λ s. HasRoom m s) states) (sym (led_on-Some (state_before r t) all.0 (λ s. earlier_of records s) all.1.says))
    (All-cons (λ s. HasRoom m s) all.0 (earlier_of records all.0) all.2.room (all_within_reach m n records all.0 all.3))

-- and, where it has room for the last one, for all of them
pub room_shown : {limit : ℕ} {width : Width} (bytes : List ℕ) {ended : Bool} (journal : List Record) (machine : Shown) (p : PlainSession) →
    IsSound limit bytes journal machine → HasRoom machine machine.state → plain_of limit width bytes ended journal machine.state ≡ p →
    All (λ s. HasRoom machine s) (p.last ∷ p.earlier)
room_shown bytes journal machine p sound last view =
    subst (λ (q : PlainSession). All (λ s. HasRoom machine s) (q.last ∷ q.earlier)) view
    (All-cons (λ s. HasRoom machine s) machine.state (earlier_of journal machine.state) last
    (all_within_reach machine _ journal machine.state sound.records))
