use Rattle.std.proofs.Common.{◌≡◌, ℕ, ◌+◌, ◌<◌, ◌≤◌, suc, List, ◌∷◌, length, drop, add-one, drop-cons, refl, sym, ap, ◌∙◌, inl, inr, arith}
use Rattle.std.specs.Prelude.{reverse}
use Rattle.std.proofs.lemmas.Bool.{cases_lt}
use Rattle.std.proofs.lemmas.List.{drop_all, reverse-reverse}
use Rattle.trac_journal.specs.Dropped.{printed_at}
use Rattle.trac_journal.specs.Journaled.{Lists}
use Rattle.trac_journal.specs.declared.entry.CallEntry.{CallEntry}
use Rattle.trac_journal.proofs.lists.Lists.printed_at.Goals as goal

pub returns-in-Some : goal.returns-in-Some
returns-in-Some g c =
    let items : List CallEntry = c.self.inside.calls.items in
    let at : ℕ = c.args.at in
    let call : CallEntry = c.in-Some.call.now in
    let within : at < length items = omega (arith, c.in-Some.ensures.variant.0 refl, c.self.inside.calls.ok.0) in
    let there : drop at items ≡ call ∷ drop (at + 1) items =
    rw add-one (drop-cons items at call within ∙ ap (λ (first : CallEntry). first ∷ drop (suc at) items) (sym c.in-Some.ensures.lookup)) in
    ap printed_at (sym there ∙ ap (drop at) (sym (reverse-reverse items) ∙ ap (λ (v : Lists). reverse v.listed.calls) c.self.view_is))

pub returns-in-None : goal.returns-in-None
returns-in-None g c =
    let items : List CallEntry = c.self.inside.calls.items in
    let at : ℕ = c.args.at in
    let none : length items ≤ at = elim (cases_lt at (length items)) [
      | inl within ↦ absurd (let some = c.in-None.ensures.variant.1 (omega (arith, within, c.self.inside.calls.ok.0)) in cc)
      | inr past ↦ past
    ] in
    ap printed_at (sym (drop_all at items none) ∙ ap (drop at) (sym (reverse-reverse items) ∙ ap (λ (v : Lists). reverse v.listed.calls) c.self.view_is))
