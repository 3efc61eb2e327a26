use Rattle.std.proofs.Common.{ℕ, ◌-◌, length, refl, sym, ap, ◌∙◌, arith}
use Rattle.trac_rules.specs.declared.reply.Reply.TheVariants.{Done}
use Rattle.trac_rules.specs.Session.{Commit, done, released}
use Rattle.trac_gap.specs.Window.{Window}
use Rattle.trac_step.specs.Layout.{Shown}
use Rattle.trac_session.specs.Journal.{plain_of}
use Rattle.trac_session.proofs.Aged.{recent_gone}
use Rattle.trac_session.proofs.Known.{answered_forgotten, at_start, own_kept, plain_forgotten}
use Rattle.trac_session.proofs.Swept.{committed_session, shows_still}
use Rattle.trac_session.proofs.Windowed.{Commit_alone, Commit_of_fields, IsSound-alone, IsSound-kept, newest_kept, released_there}
use Rattle.trac_session.proofs.session.Session.commit.Goals as goal

-- ---- the last state alone stays

pub forget_names-requires : goal.forget_names-requires
forget_names-requires g c =
    at_start (IsSound-alone _ _ _ c.self.inside.journal.records c.clear.new.self.records c.self.inside.machine c.release_all.new.machine c.release_all.ensures.tape c.clear.ensures
    (ap (λ (m : Shown). m.state) c.release_all.ensures.machine) c.self.invariant.sound)

pub invariant_of-self : goal.invariant_of-self
invariant_of-self g c =
    let at = ap (λ (m : Shown). m.state) c.release_all.ensures.machine in
    let still = ap (λ (m : Shown). m.width) c.release_all.ensures.machine in
    answered_forgotten (Commit 0) Done c.self.invariant still
    (IsSound-alone _ _ _ c.self.inside.journal.records c.clear.new.self.records c.self.inside.machine c.release_all.new.machine c.release_all.ensures.tape c.clear.ensures at c.self.invariant.sound)
    (Commit_alone _ _ _ _ c.self.inside.journal.records c.clear.new.self.records _ _ _ refl c.release_all.ensures.tape c.clear.ensures at still)
    c.forget_names.ensures.forgotten (recent_gone c.none-self-inside.result c.clear.new.self.records c.release_all.new.machine c.none-self-inside.ensures c.clear.ensures)

pub returns-then-keep-eq0 : goal.returns-then-keep-eq0
returns-then-keep-eq0 g c =
    rw c.if-keep-eq0.true
    (Commit_alone _ _ _ _ c.self.inside.journal.records c.clear.new.self.records _ _ _ c.self.view_is c.release_all.ensures.tape c.clear.ensures
    (ap (λ (m : Shown). m.state) c.release_all.ensures.machine) (ap (λ (m : Shown). m.width) c.release_all.ensures.machine)
    ∙ ap done (sym (plain_forgotten c.clear.new.self.records c.release_all.new.machine c.forget_names.new.machine c.forget_names.ensures.forgotten)))

-- ---- others stay before it

pub keep_newest-passed-requires : goal.keep_newest-passed-requires
keep_newest-passed-requires g c =
    let there = released_there (newest_kept c.args.keep c.self.invariant.sound refl refl refl) in
    record {
      read_fits = omega (arith, there.0, c.self.invariant.sound.on_tape, c.self.invariant.sound.tape_limit);
      printed_fits = omega (arith, there.1, ap length c.output-len.ensures, c.output-len.type_inv.0);
      read = there.0;
      printed = there.1;
    }

pub drop_front-requires : goal.drop_front-requires
drop_front-requires g c =
    let passed = c.keep_newest-passed.ensures in
    omega (arith, (released_there (newest_kept c.args.keep c.self.invariant.sound passed.kept passed.printed passed.read)).0, c.self.invariant.sound.on_tape)

-- the machine before aged names are swept
abbrev left : Shown → ℕ → ℕ → Shown
left m printed read = record m { state = released printed read m.state }

pub invariant_of-self-2 : goal.invariant_of-self-2
invariant_of-self-2 g c =
    let passed = c.keep_newest-passed.ensures in
    let inside = c.self.inside in
    let old = inside.journal.records in
    let new = c.keep_newest-passed.new.journal.records in
    let m : Shown = left inside.machine c.keep_newest-passed.result.printed c.keep_newest-passed.result.read in
    let kept = newest_kept c.args.keep c.self.invariant.sound passed.kept passed.printed passed.read in
    let cut = ap (λ (w : Window ℕ). w.items) c.drop_front.ensures in
    committed_session {k = m} c.self.invariant refl c.args.keep (IsSound-kept {n = m} c.self.invariant.sound kept cut refl)
    (own_kept c.args.keep c.keep_newest-passed.result.printed c.keep_newest-passed.result.read old new inside.machine m c.if-keep-eq0.false kept.rest refl c.self.invariant.names)
    refl (Commit_of_fields {n = m} kept cut refl refl) (length old) (length new) c.keep_newest-passed.new.self refl refl c.keep_newest-passed.new.machine passed.swept passed.waits

pub returns : goal.returns
returns g c =
    let passed = c.keep_newest-passed.ensures in
    let inside = c.self.inside in
    let old = inside.journal.records in
    let new = c.keep_newest-passed.new.journal.records in
    let m : Shown = left inside.machine c.keep_newest-passed.result.printed c.keep_newest-passed.result.read in
    let kept = newest_kept c.args.keep c.self.invariant.sound passed.kept passed.printed passed.read in
    Commit_of_fields {n = m} kept (ap (λ (w : Window ℕ). w.items) c.drop_front.ensures) refl c.self.view_is
    ∙ ap done
    (sym
    (shows_still (length new) (length old - length new) inside.mark c.keep_newest-passed.new.self m c.keep_newest-passed.new.machine passed.swept passed.waits
    (λ s width. plain_of inside.limit width c.drop_front.new.self.items inside.ended new s)))
