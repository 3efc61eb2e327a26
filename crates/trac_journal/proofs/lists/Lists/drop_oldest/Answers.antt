-- By what the oldest entry keeps.
use Rattle.std.proofs.Common.{ℕ, List, ◌+◌, ◌<◌, ◌^◌, ap, refl, sym, subst, ◌∙◌, arith, rules}
use Rattle.trac_rules.specs.Records.{Idle}
use Rattle.trac_rules.specs.State.{Frame}
use Rattle.trac_rules.specs.Weights.{weight}
use Rattle.trac_journal.specs.Emptied.{texts_in}
use Rattle.trac_journal.specs.Journaled.{Lists}
use Rattle.trac_journal.specs.Listed.{Listed}
use Rattle.trac_journal.proofs.Dropped.{brief_gone, changed_fits, changed_gone, first_of, idle_fits, idle_gone, whole_call, whole_gone}
use Rattle.trac_journal.proofs.lists.Lists.drop_oldest.Goals as goal

pub returns-in-Comma : goal.returns-in-Comma
returns-in-Comma g c =
    λ own others is.
    brief_gone c.args.kept c.weighing.result own others c.args.self.now.listed (search rules) (c.weighing.ensures.weight ∙ c.weigh_brief.ensures) c.weighing.ensures.read c.weighing.ensures.printed is

pub drop_call-requires : goal.drop_call-requires
drop_call-requires g c =
    let whole = whole_call c.args.kept c.requires.0 c.requires.1.0 c.args.self.now.listed (search rules) c.requires.1.1.0 in
    (whole.0.call, (c.requires.1.0.calls, whole.0.ends))

pub returns-in-Call : goal.returns-in-Call
returns-in-Call g c =
    λ own others oldest.
    whole_gone c.args.kept c.drop_call.result own others c.args.self.now.listed c.drop_call.new.self.listed (search rules) oldest c.drop_call.ensures

pub drop_call-call-requires : goal.drop_call-call-requires
drop_call-call-requires g c =
    let fits = changed_fits c.args.kept c.requires.0 c.requires.1.0 c.args.self.now.listed c.in-Changed.is c.requires.1.1.0 c.requires.1.1.1 in
    (fits.0.oldest.call, (c.requires.1.0.calls, fits.0.oldest.ends))

pub drop_undone-undone-requires : goal.drop_undone-undone-requires
drop_undone-undone-requires g c =
    let fits = changed_fits c.args.kept c.requires.0 c.requires.1.0 c.args.self.now.listed c.in-Changed.is c.requires.1.1.0 c.requires.1.1.1 in
    let d = c.drop_call-call.ensures fits.0.oldest.call c.requires.1.0.calls fits.0.oldest.ends in
    (fits.0.undone, (c.requires.1.0.undone, (ap (λ (l : Listed). l.undone) d.1 ∙ fits.0.last, omega (arith, fits.1))))

pub overflow_add-weight : goal.overflow_add-weight
overflow_add-weight g c =
    let fits = changed_fits c.args.kept c.requires.0 c.requires.1.0 c.args.self.now.listed c.in-Changed.is c.requires.1.1.0 c.requires.1.1.1 in
    let d = c.drop_call-call.ensures fits.0.oldest.call c.requires.1.0.calls fits.0.oldest.ends in
    let u = c.drop_undone-undone.ensures fits.0.undone c.requires.1.0.undone (ap (λ (l : Listed). l.undone) d.1 ∙ fits.0.last) in
    omega (arith, fits.1, d.0.weighs, u.0)

pub returns-in-Changed : goal.returns-in-Changed
returns-in-Changed g c =
    λ own others oldest.
    changed_gone c.args.kept (record { weight = c.drop_call-call.result.weight + c.drop_undone-undone.result; read = c.drop_call-call.result.read; printed = c.drop_call-call.result.printed }) c.drop_call-call.result c.drop_undone-undone.result own others c.args.self.now.listed c.drop_call-call.new.self.listed c.drop_undone-undone.new.self.listed
    c.in-Changed.is oldest c.drop_call-call.ensures c.drop_undone-undone.ensures refl refl refl

pub weight-requires : goal.weight-requires
weight-requires g c =
    let fits = idle_fits c.args.kept c.requires.0 c.requires.1.0 c.args.self.now.listed c.in-Idle.is c.requires.1.1.0 c.requires.1.1.1 in
    let first = first_of texts_in c.requires.1.0.emptied fits.0.texts c.in-Some.ensures.items (ap (λ (v : Lists). v.listed.emptied) c.self.view_is) fits.0.last in
    subst (λ (texts : List ℕ × List Frame). weight (Idle texts.0 texts.1) < 2 ^ 64) first.1 fits.1

pub returns-in-Some : goal.returns-in-Some
returns-in-Some g c =
    λ own others oldest.
    idle_gone c.args.kept c.weighing-in-Idle.result own others c.args.self.now.listed _ c.in-Idle.is oldest
    (λ texts newer last. let first = first_of texts_in newer texts c.in-Some.ensures.items (ap (λ (v : Lists). v.listed.emptied) c.self.view_is) last in (
      c.weighing-in-Idle.ensures.weight ∙ c.weight.ensures ∙ ap (λ (t : List ℕ × List Frame). weight (Idle t.0 t.1)) (sym first.1),
      λ i. record (c.self.view_is i).listed { emptied = sym first.0 i },
    )) c.weighing-in-Idle.ensures.read c.weighing-in-Idle.ensures.printed
