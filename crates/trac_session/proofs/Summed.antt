-- What the records of a session weigh together.
use Rattle.std.proofs.Common.{◌≡◌, ℕ, Bool, List, [], ◌∷◌, refl, ap, ◌∙◌, arith}
use Rattle.trac_rules.specs.declared.width.Width.{Width}
use Rattle.trac_rules.specs.Records.{Record, state_before}
use Rattle.trac_rules.specs.Session.{PlainSession}
use Rattle.trac_rules.specs.State.{State}
use Rattle.trac_rules.specs.Weights.{weight, weights_from}
use Rattle.trac_journal.specs.Told.{sum_by}
use Rattle.trac_session.specs.Journal.{AreRecords, earlier_of, plain_of}
use Rattle.trac_session.proofs.Journaled.{led_on-Some}

-- each record weighs what is said of the state before its step
weights_told : (Holds : State → Type 0) (records : List Record) (t : State) → AreRecords Holds records t → sum_by weight records ≡ weights_from (earlier_of records t)
weights_told Holds [] t all = refl
weights_told Holds (r ∷ records) t all =
    let first = ap weights_from (led_on-Some (state_before r t) all.0 (λ s. earlier_of records s) all.1.says) in
    omega (arith, first, all.1.weighs, weights_told Holds records all.0 all.3)

-- so the journal weighs what the session shows
pub journal_weighs : {width : Width} → (Holds : State → Type 0) (limit : ℕ) (bytes : List ℕ) (ended : Bool) (journal : List Record) (last : State) (p : PlainSession) →
    plain_of limit width bytes ended journal last ≡ p → AreRecords Holds journal last → sum_by weight journal ≡ weights_from p.earlier
journal_weighs Holds limit bytes ended journal last p view all =
    weights_told Holds journal last all ∙ ap (λ (q : PlainSession). weights_from q.earlier) view
