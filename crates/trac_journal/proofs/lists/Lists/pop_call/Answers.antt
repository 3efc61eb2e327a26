-- The call that is taken out is the first of those that are seen.
use Rattle.std.proofs.Common.{◌≡◌, ℕ, ◌+◌, ◌∷◌, ap, sym, ◌∙◌}
use Rattle.std.specs.Prelude.{reverse}
use Rattle.trac_rules.specs.Weights.{undone_weight}
use Rattle.trac_journal.specs.Journaled.{Lists}
use Rattle.trac_journal.specs.Listed.{Listed}
use Rattle.trac_journal.proofs.Calls.{call_weighs, newest_call}
use Rattle.trac_text.proofs.Marking.{reverse_push}
use Rattle.trac_journal.proofs.lists.Lists.pop_call.Goals as goal

pub returns-clause-weighs : goal.returns-clause-weighs
returns-clause-weighs g c =
    λ undone.
    let call = c.in-Some.call in
    let l : Listed = c.args.self.now.listed in
    let older = reverse c.pop_back.new.self.items in
    let first : l.calls ≡ call ∷ older =
    sym (ap (λ (v : Lists). v.listed.calls) c.self.view_is) ∙ ap reverse c.in-Some.ensures.items ∙ reverse_push c.pop_back.new.self.items call in
    ap (λ (k : ℕ). k + undone_weight undone) c.weigh_texts.ensures
    ∙ call_weighs l.calls older call l.bytes l.commas first (newest_call l.calls older call l.bytes l.commas first c.requires) undone
