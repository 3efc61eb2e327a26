-- What a host is told, by how its numbers are judged.
use Rattle.std.proofs.Common.{◌≡◌, ℕ, List, refl, ap, subst, ◌∙◌}
use Rattle.std.specs.Prelude.{Result, Ok, Err}
use Rattle.trac_rules.specs.declared.width.Width.{Width}
use Rattle.trac_web_requests.specs.declared.outcome.Outcome.{Outcome}
use Rattle.trac_web_requests.specs.Outcomes.{status_told}
use Rattle.trac_web_requests.specs.Replies.{Refuses}
use Rattle.trac_web_requests.specs.Requests.{IsJudged, Tells}

-- they are taken, and what is answered by the width is told
pub told_taken : {Taken : Type 0} {wrong : Outcome} {decimals : ℕ} {judged : Result Width Outcome} {taken : Width} {AnswersBy : Width → List ℕ → List ℕ → ℕ → ℕ → Type 0} {old new : List ℕ} {written status : ℕ} →
    IsJudged Taken wrong decimals judged → judged ≡ Ok taken → AnswersBy taken old new written status → Tells Taken wrong decimals AnswersBy old new written status
told_taken {taken = taken} {AnswersBy = AnswersBy} {old = old} {new = new} {written = written} {status = status} by is answers = record {
  not_taken = λ other. absurd (cc (is, by.not_taken other));
  no_width = λ right none. absurd (cc (is, by.no_width right none));
  answers = λ width right some.
      let same : taken ≡ width = cc (is, by.taken width right some) in
      subst (λ w. AnswersBy w old new written status) same answers;
}

-- they are refused, and why is told
refused_so : {judged : Result Width Outcome} {why wanted : Outcome} {all : List ℕ} {status : ℕ} → judged ≡ Err why → judged ≡ Err wanted → status ≡ status_told why → Refuses wanted all all 0 status
refused_so {why = why} {wanted = wanted} is so told =
    let same : why ≡ wanted = cc (is, so) in
    record { told = told ∙ ap status_told same; none = refl; same = refl }

pub told_refused : {Taken : Type 0} {wrong : Outcome} {decimals : ℕ} {judged : Result Width Outcome} {why : Outcome} {AnswersBy : Width → List ℕ → List ℕ → ℕ → ℕ → Type 0} {all : List ℕ} {status : ℕ} →
    IsJudged Taken wrong decimals judged → judged ≡ Err why → status ≡ status_told why → Tells Taken wrong decimals AnswersBy all all 0 status
told_refused by is told = record {
  not_taken = λ other. refused_so is (by.not_taken other) told;
  no_width = λ right none. refused_so is (by.no_width right none) told;
  answers = λ width right some. absurd (cc (is, by.taken width right some));
}
