-- Each clause is computed from the definitions; that a whole session is led back is the law.
use Rattle.std.proofs.Common.{◌≡◌, ◌∙◌, ap, length, refl, rules, subst, sym}
use Rattle.std.specs.Prelude.{Some}
use Rattle.trac_rules.specs.Rows.{fed, session_of}
use Rattle.trac_rules.specs.Proper.{IsProper}
use Rattle.trac_rules.specs.Session.{PlainSession, Step, repeated}
use Rattle.trac_rules.specs.State.{initial}
use Rattle.trac_rules.proofs.ProperStates.{initial_proper}
use Rattle.trac_rules.proofs.StepsBack.{all_go_back}
use Rattle.trac_rules.proofs.Opened.{answer, match_of, performed, scan, state_before, step, texts_fit}
use Rattle.trac_rules.proofs.records.worked_records.Goals as goal

-- the session before its steps, and after them
abbrev first : PlainSession
first = session_of (fed "a)b,c'" 0)

abbrev final : PlainSession
final = session_of (fed "a)b,c'" 22)

begins : first.last ≡ initial
unfolding answer
begins = refl

walked : repeated Step 22 first ≡ Some final
unfolding match_of scan texts_fit performed step answer
walked = refl

counted : length final.earlier ≡ 22
unfolding match_of scan texts_fit performed step answer
counted = refl

pub returns : goal.returns
unfolding match_of scan texts_fit performed step answer state_before
returns c =
    let all_back = all_go_back 22 first final (subst IsProper (sym begins) initial_proper) walked counted ∙ ap Some begins in
    search (rules, all_back)
