-- A session of which a commit sweeps the aged names, or leaves them.
use Rattle.std.proofs.Common.{◌≡◌, ℕ, ◌-◌, ◌<◌, ◌≤◌, Bool, List, [], ◌∷◌, length, refl, sym, take, ap, subst, ◌∙◌, arith, ⊎_elim}
use Rattle.std.specs.List.{All}
use Rattle.std.proofs.lemmas.Bool.{cases_lt}
use Rattle.std.proofs.lemmas.List.Elements.{All-head, All-nil, All-tail}
use Rattle.trac_rules.specs.declared.reply.Reply.TheVariants.{Done}
use Rattle.trac_rules.specs.declared.width.Width.{Width}
use Rattle.trac_rules.specs.Records.{Record, state_before}
use Rattle.trac_rules.specs.Session.{Commit, answer, done}
use Rattle.trac_rules.specs.State.{State}
use Rattle.trac_forms.specs.Stored.{KnowsAll}
use Rattle.trac_step.specs.Layout.{Shown}
use Rattle.trac_session.specs.Journal.{earlier_of, AreRecords, IsSession, IsSound, IsWithinReach, plain_of}
use Rattle.trac_session.specs.Knowing.{AreRecent, HasSwept, KnowsItsOwn, names_in}
use Rattle.trac_session.proofs.Aged.{all_newer, some_newer}
use Rattle.trac_session.proofs.Journaled.{led_on-Some, length-earlier}
use Rattle.trac_session.proofs.Known.{own_swept}
use Rattle.trac_session.proofs.Trailed.{answered}

-- the machine after it
abbrev after_sweep : Shown → Shown
after_sweep m = record m { known = m.recent; recent = names_in m.state }

-- it has room for the states whose names were recent
records_swept : (m : Shown) (n : ℕ) (records : List Record) (t : State) → AreRecords (IsWithinReach m n) records t → All (λ s. KnowsAll m.recent s.forms) (earlier_of records t) →
    AreRecords (IsWithinReach (after_sweep m) n) records t
records_swept m n [] t all names = all
records_swept m n (r ∷ records) t all names =
    let s : State = all.0 in
    let states : earlier_of (r ∷ records) t ≡ s ∷ earlier_of records s = led_on-Some (state_before r t) s (λ u. earlier_of records u) all.1.says in
    let there = subst (λ (xs : List State). All (λ u. KnowsAll m.recent u.forms) xs) states names in (
      s,
      all.1,
      record {
        on_tape = all.2.on_tape;
        room = record { text = all.2.room.text; marks = all.2.room.marks; output = all.2.room.output; names = All-head (λ u. KnowsAll m.recent u.forms) s (earlier_of records s) there };
      },
      records_swept m n records s all.3 (All-tail (λ u. KnowsAll m.recent u.forms) s (earlier_of records s) there),
    )

IsSound-swept : {limit : ℕ} {bytes : List ℕ} {records : List Record} (m : Shown) → IsSound limit bytes records m → All (λ s. KnowsAll m.recent s.forms) (earlier_of records m.state) →
    IsSound limit bytes records (after_sweep m)
IsSound-swept {bytes = bytes} {records = records} m sound names = record {
  some_records = sound.some_records;
  not_too_many = sound.not_too_many;
  within_limit = sound.within_limit;
  tape_limit = sound.tape_limit;
  on_tape = sound.on_tape;
  records = records_swept m (length bytes) records m.state sound.records names;
}

-- a machine that swept names, or did not
module _ (kept dropped mark more : ℕ) (m n : Shown) (swept : mark ≤ dropped → HasSwept kept more m n) (waits : dropped < mark → (n ≡ m) × (more ≡ mark - dropped)) where
  -- shows what it showed
  pub shows_still : {T : Type 0} (show : State → Width → T) → show n.state n.width ≡ show m.state m.width
  shows_still show = ⊎_elim
      (λ (some : dropped < mark). ap (λ (u : Shown). show u.state u.width) (waits some).0)
      (λ (none : mark ≤ dropped). ap (λ (u : Shown). show u.state u.width) (swept none).machine)
      (cases_lt dropped mark)

-- after a commit that keeps some steps
module _ {limit : ℕ} {width : Width} {bytes rest : List ℕ} {ended : Bool} {mark : ℕ} {old new : List Record} {m k : Shown} (session : IsSession limit width bytes ended mark old m)
    (still : k.width ≡ m.width) (keep : ℕ) (sound : IsSound limit rest new k) (own : KnowsItsOwn new k) (recent : k.recent ≡ m.recent)
    (h : answer (Commit keep) (plain_of limit m.width bytes ended old m.state) ≡ done (plain_of limit k.width rest ended new k.state))
    (before kept more : ℕ) (before_is : before ≡ length old) (kept_is : kept ≡ length new) (n : Shown) where
  before_there : before ≡ length (earlier_of old m.state)
  before_there = before_is ∙ sym (length-earlier (IsWithinReach m (length bytes)) limit bytes ended old m.state (plain_of limit m.width bytes ended old m.state) refl session.sound.records)

  kept_there : kept ≡ length (earlier_of new k.state)
  kept_there = kept_is ∙ sym (length-earlier (IsWithinReach k (length rest)) limit rest ended new k.state (plain_of limit k.width rest ended new k.state) refl sound.records)

  after_waiting : before - kept < mark → (n ≡ k) × (more ≡ mark - (before - kept)) → IsSession limit width rest ended more new n
  after_waiting some is =
      let newer = some_newer keep mark before kept m.recent (plain_of limit m.width bytes ended old m.state) (plain_of limit k.width rest ended new k.state) h session.recent before_there kept_there more is.1 some in
      subst (λ (u : Shown). IsSession limit width rest ended more new u) (sym is.0)
      (answered (Commit keep) Done session still sound h own (subst (λ names. AreRecent more names (earlier_of new k.state)) (sym recent) newer))

  after_sweeping : mark ≤ before - kept → HasSwept kept more k n → IsSession limit width rest ended more new n
  after_sweeping none is =
      let newer = all_newer keep mark before kept m.recent (plain_of limit m.width bytes ended old m.state) (plain_of limit k.width rest ended new k.state) h session.recent before_there kept_there none in
      let there = subst (λ names. All (λ s. KnowsAll names s.forms) (earlier_of new k.state)) (sym recent) newer in
      let last : length (earlier_of new k.state) - more ≡ 0 = omega (arith, kept_there, is.mark_is) in
      let names = names_in k.state in
      subst (λ (u : Shown). IsSession limit width rest ended more new u) (sym is.machine)
      (answered (Commit keep) Done session still (IsSound-swept k sound there) h (own_swept kept kept new k (after_sweep k) (record { machine = refl; mark_is = refl }) own)
      (omega (arith, kept_there, is.mark_is), subst (λ count. All (λ s. KnowsAll names s.forms) (take count (earlier_of new k.state))) (sym last) (All-nil (λ s. KnowsAll names s.forms))))

  pub committed_session : (mark ≤ before - kept → HasSwept kept more k n) → (before - kept < mark → (n ≡ k) × (more ≡ mark - (before - kept))) → IsSession limit width rest ended more new n
  committed_session sweeps waits = ⊎_elim
      (λ (some : before - kept < mark). after_waiting some (waits some))
      (λ (none : mark ≤ before - kept). after_sweeping none (sweeps none))
      (cases_lt (before - kept) mark)
