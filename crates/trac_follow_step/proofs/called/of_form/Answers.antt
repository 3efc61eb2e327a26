use Rattle.std.proofs.Common.{◌≡◌, ℕ, ◌<◌, ◌≤◌, List, length, refl, sym, ap, subst, ◌∙◌, arith}
use Rattle.trac_forms.specs.Stored.{Stored, storage_in}
use Rattle.trac_rules.specs.Effect.{argument}
use Rattle.trac_rules.specs.Performing.{primitive_of}
use Rattle.trac_follow_step.specs.Fetched.{block_named, place_fetched}
use Rattle.trac_origins.specs.Places.{InForm}
use Rattle.trac_origins.specs.Stepping.{origin}
use Rattle.trac_follow_step.specs.Places.{Tells, place_of}
use Rattle.trac_follow_step.specs.declared.called.Put as code
use Rattle.trac_follow_step.proofs.CallsTold.{number_is}
use Rattle.trac_follow_step.proofs.FetchedTold.{fetched_tells}
use Rattle.trac_follow_step.proofs.FormsTold.{cut_tells}
use Rattle.trac_follow_step.proofs.Staying.{form_unchanged}
use Rattle.trac_follow_step.proofs.PutTold.{IsFor, address_is, defined_is, defined_within, is_put_by}
use Rattle.trac_follow_step.proofs.called.of_form.Given.{Over}
use Rattle.trac_follow_step.proofs.called.of_form.Goals as goal
use Rattle.trac_follow_step.proofs.called.of_form.Goals.{After-put_by}

-- what the call puts under the name
puts : (g : Over) (c : After-put_by g) (put : code.Put) → c.put_by.result ≡ put → IsFor put (primitive_of (argument 0 c.requires.call.0.arguments)) (argument 1 c.requires.call.0.arguments) c.args.name.now
puts g c put is =
    let name = c.args.name.now in
    let texts = c.args.arguments.now in
    subst (λ (given : List (List ℕ)). IsFor put (primitive_of (argument 0 given)) (argument 1 given) name) (sym c.requires.call.2)
    (subst (λ (told : code.Put). IsFor told (primitive_of (argument 0 texts)) (argument 1 texts) name) (sym c.put_by.ensures ∙ is) (is_put_by (primitive_of (argument 0 texts)) (argument 1 texts) name))

pub returns-in-Text-clause-tells : goal.returns-in-Text-clause-tells
returns-in-Text-clause-tells g c = λ width environment t item wide h lengths stands.
    let s = c.args.before.now.state in
    let call = c.requires.call in
    let is = puts g (goal.at.returns-in-Text-clause-tells g c).After-put_by code.TheVariants.Text c.in-Text.is in
    subst (λ o. Tells s o (origin environment s (InForm c.args.name.now c.args.i))) (sym c.argument_byte.ensures)
    (defined_is environment s t call.0 h call.1 c.args.name.now c.args.i c.innermost.result is.0 is.1 (number_is s call.0 call.1 c.innermost.result (c.innermost.ensures call.0 call.1))
    (subst (λ text. c.args.i < length text) (c.get.ensures ∙ ap (argument 2) (sym call.2)) c.if-i-get.true))

pub returns-in-Text-2-clause-tells : goal.returns-in-Text-2-clause-tells
returns-in-Text-2-clause-tells g c = λ width environment t item wide h lengths stands.
    let call = c.requires.call in
    let is = puts g (goal.at.returns-in-Text-2-clause-tells g c).After-put_by code.TheVariants.Text c.in-Text-2.is in
    absurd (omega (
      arith,
      defined_within environment c.args.before.now.state t call.0 h call.1 c.args.name.now c.args.i item is.0 is.1 stands,
      subst (λ text. length text ≤ c.args.i) (c.get.ensures ∙ ap (argument 2) (sym call.2)) c.if-i-get.false,
    ))

pub returns-in-Cut-clause-tells : goal.returns-in-Cut-clause-tells
returns-in-Cut-clause-tells g c = λ width environment t item wide h lengths stands.
    let is = puts g (goal.at.returns-in-Cut-clause-tells g c).After-put_by code.TheVariants.Cut c.in-Cut.is in
    cut_tells environment c.args.before.now.state t c.requires.call.0 h c.requires.call.1 is.0 c.args.name.now c.args.after c.args.i item c.cut_item.result is.1 lengths.measured stands c.cut_item.ensures

pub returns-in-Fetched-clause-tells : goal.returns-in-Fetched-clause-tells
returns-in-Fetched-clause-tells g c = λ width environment t item wide h lengths stands.
    let call = c.requires.call in
    fetched_tells environment c.args.before.now.state t call.0 h call.1 (puts g (goal.at.returns-in-Fetched-clause-tells g c).After-put_by code.TheVariants.Fetched c.in-Fetched.is)
    c.get-in-Fetched.result.now c.args.name.now c.args.i item (place_of c.before_fetch.result) (c.get-in-Fetched.ensures ∙ ap (argument 1) (sym call.2))
    (c.before_fetch.ensures
    ∙ ap (λ (stored : Stored). place_fetched (block_named c.get-in-Fetched.result.now (storage_in stored)) c.args.name.now c.args.i (storage_in stored)) c.store.ensures) stands

pub returns-in-Address-clause-tells : goal.returns-in-Address-clause-tells
returns-in-Address-clause-tells g c = λ width environment t item wide h lengths stands.
    let is = puts g (goal.at.returns-in-Address-clause-tells g c).After-put_by code.TheVariants.Address c.in-Address.is in
    address_is environment c.args.before.now.state t c.requires.call.0 h c.requires.call.1 c.args.name.now c.args.i is.0 is.1

pub returns-in-Nothing-clause-tells : goal.returns-in-Nothing-clause-tells
returns-in-Nothing-clause-tells g c = λ width environment t item wide h lengths stands.
    let call = c.requires.call in
    (form_unchanged c.args.before.now.state c.args.name.now call.0.arguments (call.0, call.1, refl)
    (puts g (goal.at.returns-in-Nothing-clause-tells g c).After-put_by code.TheVariants.Nothing c.in-Nothing.is) c.args.i environment t item h stands).carried
