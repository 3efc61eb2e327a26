-- A change that stays in its place, under the name that the call gave.
use Rattle.std.proofs.Common.{List, ℕ, [], ◌∷◌, ap, sym, subst, ◌∙◌, IsTrue}
use Rattle.std.specs.FinSet as set
use Rattle.std.proofs.lemmas.Bool.{false≢true}
use Rattle.trac_rules.specs.Effect.{argument}
use Rattle.trac_forms.specs.Stored.{Stored}
use Rattle.trac_forms.proofs.Going.{on_err}
use Rattle.trac_storage.proofs.Known.{among_more, among_same, knows_same}
use Rattle.trac_storage.proofs.changing.change_forms.Goals as goal

pub returns-in-Point : goal.returns-in-Point
returns-in-Point g c = rw (c.in-Point.is, ← c.get-name.ensures) (assumption)

pub returns-in_err-insert-in-Put-clause-some : goal.returns-in_err-insert-in-Put-clause-some
returns-in_err-insert-in-Put-clause-some g c =
    rw (sym c.replace.ensures.value ∙ c.in-Put.is)
    (on_err _ (knows_same (argument 1 c.args.arguments.now ∷ []) c.args.store.now.known c.insert.new.self.known (ap (λ (s : Stored). s.known) c.in_err-insert-in-Put.ensures.unchanged)))

pub returns-in_err-insert-in-Put-clause-free : goal.returns-in_err-insert-in-Put-clause-free
returns-in_err-insert-in-Put-clause-free g c =
    rw (sym c.replace.ensures.value ∙ c.in-Put.is)
    (λ known. absurd (false≢true (c.in_err-insert-in-Put.ensures.again (subst (λ (n : List ℕ). IsTrue (set.contains c.args.store.now.known n)) (sym c.get-name.ensures) known))))

pub returns-in_ok-insert-in-Put-clause-recent : goal.returns-in_ok-insert-in-Put-clause-recent
returns-in_ok-insert-in-Put-clause-recent g c =
    among_more c.args.store.now.recent c.insert.new.self.recent _ (ap (λ (s : Stored). s.recent) c.in_ok-insert-in-Put.ensures.put)

pub returns-in_err-insert-in-Put-clause-recent : goal.returns-in_err-insert-in-Put-clause-recent
returns-in_err-insert-in-Put-clause-recent g c =
    among_same c.args.store.now.recent c.insert.new.self.recent (ap (λ (s : Stored). s.recent) c.in_err-insert-in-Put.ensures.unchanged)
