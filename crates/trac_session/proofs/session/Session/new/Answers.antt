use Rattle.std.proofs.Common.{◌≡◌, ℕ, ◌≤◌, false, List, [], length, sym, ap, subst, ◌∙◌, arith}
use Rattle.trac_rules.specs.declared.width.Width.{Width}
use Rattle.trac_rules.specs.declared.limit.TheConstants.{JOURNAL_LIMIT}
use Rattle.trac_rules.specs.Records.{Record}
use Rattle.trac_rules.specs.State.{State, initial}
use Rattle.trac_rules.specs.Session.{new_session}
use Rattle.trac_rules.specs.Trails.{IsTrail}
use Rattle.trac_rules.proofs.TakenAgain.{new_trail}
use Rattle.trac_gap.specs.Window.{Window}
use Rattle.trac_step.specs.Layout.{Shown}
use Rattle.trac_session.specs.Journal.{AreRecords, IsSession, IsSound, IsWithinReach, plain_of}
use Rattle.trac_session.specs.Knowing.{HasForgotten}
use Rattle.trac_session.proofs.Aged.{recent_gone}
use Rattle.trac_session.proofs.Known.{IsSound-forgotten, own_names, plain_forgotten, shows_as_before}
use Rattle.trac_session.proofs.session.Session.new.Goals as goal

-- fields without a record and without input
sound_at_first : (limit : ℕ) (bytes : List ℕ) (journal : List Record) (m : Shown) → 1 ≤ limit → limit ≤ JOURNAL_LIMIT → bytes ≡ [] → journal ≡ [] → m.state ≡ initial →
    IsSound limit bytes journal m
sound_at_first limit bytes journal m some most none first at = record {
  some_records = some;
  not_too_many = most;
  within_limit = omega (arith, ap (λ (records : List Record). length records) first);
  tape_limit = omega (arith, ap (λ (xs : List ℕ). length xs) none);
  on_tape = omega (arith, ap (λ (s : State). s.position) at);
  records = subst (λ (records : List Record). AreRecords (IsWithinReach m (length bytes)) records m.state) (sym first)
      (record { nothing_pending = ap (λ (s : State). s.output) at; nothing_read = ap (λ (s : State). s.position) at });
}

plain_at_first : (limit : ℕ) (width made : Width) (bytes : List ℕ) (journal : List Record) (last : State) → made ≡ width → bytes ≡ [] → journal ≡ [] → last ≡ initial →
    plain_of limit made bytes false journal last ≡ new_session limit width
plain_at_first limit width made bytes journal last same none first at i = plain_of limit (same i) (none i) false (first i) (at i)

session_at_first : (limit : ℕ) (width : Width) (bytes : List ℕ) (mark : ℕ) (journal : List Record) (m n : Shown) → 1 ≤ limit → limit ≤ JOURNAL_LIMIT → bytes ≡ [] → mark ≡ 0 → journal ≡ [] → m.state ≡ initial → m.width ≡ width →
    HasForgotten journal m n → IsSession limit width bytes false mark journal n
session_at_first limit width bytes mark journal m n some most none unmarked first at same forgotten = record {
  sound = IsSound-forgotten journal m n forgotten (sound_at_first limit bytes journal m some most none first at);
  wide = shows_as_before (λ s w. w) journal m n forgotten ∙ same;
  trail = subst IsTrail (sym (plain_forgotten journal m n forgotten ∙ plain_at_first limit width m.width bytes journal m.state same none first at)) (new_trail limit width);
  names = own_names journal m n forgotten;
  recent = recent_gone mark journal n unmarked first;
}

pub forget_names-requires : goal.forget_names-requires
forget_names-requires g c = λ none. record {
  nothing_pending = ap (λ (s : State). s.output) c.in_ok-machine.ensures.made;
  nothing_read = ap (λ (s : State). s.position) c.in_ok-machine.ensures.made;
}

pub invariant_of-result : goal.invariant_of-result
invariant_of-result g c =
    session_at_first c.args.limit c.args.width c.new-2.result.items c.none.result c.new-journal.result.records c.in_ok-machine.machine c.forget_names.new.machine c.requires.some c.requires.most (ap (λ (w : Window ℕ). w.items) c.new-2.ensures) c.none.ensures c.new-journal.ensures
    c.in_ok-machine.ensures.made c.in_ok-machine.ensures.width c.forget_names.ensures.forgotten

pub returns-clause-made : goal.returns-clause-made
returns-clause-made g c =
    plain_forgotten c.new-journal.result.records c.in_ok-machine.machine c.forget_names.new.machine c.forget_names.ensures.forgotten
    ∙ plain_at_first c.args.limit c.args.width c.in_ok-machine.machine.width c.new-2.result.items c.new-journal.result.records c.in_ok-machine.machine.state c.in_ok-machine.ensures.width (ap (λ (w : Window ℕ). w.items) c.new-2.ensures) c.new-journal.ensures c.in_ok-machine.ensures.made
