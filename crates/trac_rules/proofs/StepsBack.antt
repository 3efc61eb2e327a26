-- The records of all steps that a session took one after another lead back over them.
use Rattle.std.proofs.Common.{◌≡◌, ℕ, zero, suc, Bool, false, List, ◌∷◌, ◌++◌, length, take, is_some, true, refl, sym, ap, subst, ◌∙◌, arith}
use Rattle.std.specs.Prelude.{Option, None, Some, Result, Ok, Err, nat_lt, option_and_then, if◌then◌else◌}
use Rattle.std.specs.Option.{option_to_list}
use Rattle.std.proofs.lemmas.List.{take_all}
use Rattle.std.proofs.lemmas.Option.{option_and_then_some}
use Rattle.trac_rules.specs.declared.refusal.Refusal.{Refusal}
use Rattle.trac_rules.specs.declared.refusal.Refusal.TheVariants.{JournalFull}
use Rattle.trac_rules.specs.Proper.{IsProper}
use Rattle.trac_rules.specs.Records.{Record, led_back, record_of, records_from}
use Rattle.trac_rules.specs.Session.{PlainSession, Step, accepted_by, answer, over, refused, repeated, stepped_to}
use Rattle.trac_rules.specs.declared.width.Width.{Width}
use Rattle.trac_rules.specs.State.{Environment, State, Tape}
use Rattle.trac_rules.specs.Stepping.{step}
use Rattle.trac_rules.proofs.CallsBack.{record_is_there, record_leads_back}
use Rattle.trac_rules.proofs.ProperStates.{step_proper}

-- an accepted step of a session leads to the next state, adds the one before it to the list, and leaves tape and width
record IsTaken (p q : PlainSession) : Type 0 where
  done : step (over p.width p.tape) p.last ≡ Ok q.last
  earlier : q.earlier ≡ p.last ∷ p.earlier
  tape : q.tape ≡ p.tape
  width : q.width ≡ p.width

step_accepted : (p q : PlainSession) → accepted_by (answer Step p) ≡ Some q → IsTaken p q
unfolding answer
step_accepted p q h = by_room (nat_lt (length p.earlier) p.limit) h
  where
    by_outcome : (outcome : Result State Refusal) → step (over p.width p.tape) p.last ≡ outcome → accepted_by (stepped_to outcome p) ≡ Some q → IsTaken p q
    by_outcome (Ok t) is same =
        let one : record p { earlier = p.last ∷ p.earlier; last = t } ≡ q = cc in
        record {
          done = is ∙ ap (λ (x : PlainSession). Ok x.last) one;
          earlier = ap (λ (x : PlainSession). x.earlier) (sym one);
          tape = ap (λ (x : PlainSession). x.tape) (sym one);
          width = ap (λ (x : PlainSession). x.width) (sym one);
        }
    by_outcome (Err refusal) is same = absurd (cc)

    by_room : (b : Bool) → accepted_by (if b then stepped_to (step (over p.width p.tape) p.last) p else refused JournalFull p) ≡ Some q → IsTaken p q
    by_room true same = by_outcome (step (over p.width p.tape) p.last) refl same
    by_room false same = absurd (cc)

-- the records of the last n steps lead back
abbrev IsLedBack : ℕ → PlainSession → PlainSession → Type 0
IsLedBack n old new = led_back (records_from (over new.width new.tape) (take n new.earlier)) new.last ≡ Some old.last

-- one more record leads back over one more step
one_more : (environment : Environment) (s t first : State) (states : List State) → IsProper s → step environment s ≡ Ok t →
    led_back (records_from environment states) s ≡ Some first → led_back (records_from environment (s ∷ states)) t ≡ Some first
one_more environment s t first states proper h before = by_record (record_of environment s) refl (record_is_there environment s t h)
  where
    by_record : (kept : Option Record) → record_of environment s ≡ kept → is_some kept ≡ true →
        led_back (option_to_list kept ++ records_from environment states) t ≡ Some first
    by_record None is some = absurd (cc)
    by_record (Some r) is some = ap (option_and_then (led_back (records_from environment states))) (record_leads_back environment s t r proper h is) ∙ before

walk_goes_back : (n : ℕ) (old new : PlainSession) → IsProper old.last → repeated Step n old ≡ Some new → IsLedBack n old new × IsProper new.last
walk_goes_back zero old new proper h =
    let same : old ≡ new = cc in
    (ap (λ (p : PlainSession). Some p.last) (sym same), subst (λ (p : PlainSession). IsProper p.last) same proper)
walk_goes_back (suc n) old new proper h =
    option_and_then_some (λ (q : PlainSession). accepted_by (answer Step q)) (repeated Step n old) new h
    (λ q there next. after q (walk_goes_back n old q proper there) (step_accepted q new next))
  where
    after : (q : PlainSession) → IsLedBack n old q × IsProper q.last → IsTaken q new → IsLedBack (suc n) old new × IsProper new.last
    after q before taken = (
      ap (λ (earlier : List State). led_back (records_from (over new.width new.tape) (take (suc n) earlier)) new.last) taken.earlier
          ∙ ap (λ (tape : Tape). led_back (records_from (over new.width tape) (q.last ∷ take n q.earlier)) new.last) taken.tape
          ∙ ap (λ (width : Width). led_back (records_from (over width q.tape) (q.last ∷ take n q.earlier)) new.last) taken.width
          ∙ one_more (over q.width q.tape) q.last new.last old.last (take n q.earlier) before.1 taken.done before.0,
      step_proper (over q.width q.tape) q.last new.last before.1 taken.done,
    )

pub steps_go_back : (n : ℕ) (old new : PlainSession) → IsProper old.last → repeated Step n old ≡ Some new → IsLedBack n old new
steps_go_back n old new proper h = (walk_goes_back n old new proper h).0

-- all records of a session lead back over as many steps
pub all_go_back : (n : ℕ) (old new : PlainSession) → IsProper old.last → repeated Step n old ≡ Some new → length new.earlier ≡ n →
    led_back (records_from (over new.width new.tape) new.earlier) new.last ≡ Some old.last
all_go_back n old new proper h count =
    ap (λ (states : List State). led_back (records_from (over new.width new.tape) states) new.last) (sym (take_all n new.earlier (omega (arith, count))))
    ∙ steps_go_back n old new proper h
