-- The block holds what was listed, unless that is too much, or memory lacks; an erased one is none.
use Rattle.std.proofs.Common.{◌≡◌, ◌<◌, ◌≤◌, List, ℕ, false, length, refl, sym, ap, subst, ◌∙◌}
use Rattle.std.specs.Prelude.{Option, Some, Ok, Vec}
use Rattle.std.proofs.lemmas.Bool.{le-leb}
use Rattle.std.proofs.lemmas.Result.{err_from_is_err_and}
use Rattle.trac_rules.specs.declared.limit.TheConstants.{FORM_COUNT_LIMIT}
use Rattle.trac_rules.specs.Form.{Form}
use Rattle.trac_rules.specs.Outcomes.{limited}
use Rattle.trac_rules.specs.State.{Held}
use Rattle.trac_rules.proofs.Outcomes.{lacks_limited, limited_beyond, limited_within}
use Rattle.trac_forms.specs.Outcomes.{as_refusal}
use Rattle.trac_change.specs.Changed.{named_forms}
use Rattle.trac_storage.specs.Loading.{block_few, block_of, held_of}
use Rattle.trac_storage.proofs.Entries.{over}
use Rattle.trac_storage.proofs.Outcomes.{refuses_memory}
use Rattle.trac_storage.proofs.storing.copied_block.Goals as goal

module _ {A : Type 0} (listed : Option (Vec (Vec ℕ A × Form) A)) (forms : Vec (Vec ℕ A × Form) A) (items : List (Vec ℕ A × Form)) (held : Held) (is : listed ≡ Some forms)
    (items_are : items ≡ forms.items) (held_is : held ≡ held_of (named_forms items)) (count : ℕ) (count_is : count ≡ length held) where
  same : block_of listed ≡ Some held
  same = ap block_of is ∙ ap (λ (es : List (Vec ℕ A × Form)). Some (held_of (named_forms es))) (sym items_are) ∙ ap Some (sym held_is)

  within : count ≤ FORM_COUNT_LIMIT → limited block_few (Ok (block_of listed)) ≡ Ok (Some held)
  within few =
      limited_within block_few (block_of listed) (ap block_few same ∙ le-leb (length held) FORM_COUNT_LIMIT (subst (λ n. n ≤ FORM_COUNT_LIMIT) count_is few)) ∙ ap Ok same

  beyond : FORM_COUNT_LIMIT < count → block_few (block_of listed) ≡ false
  beyond many = ap block_few same ∙ over _ _ (subst (λ n. FORM_COUNT_LIMIT < n) count_is many)

pub returns-in_default : goal.returns-in_default
returns-in_default g c = rw c.in_default.is refl

pub returns-in_err-block : goal.returns-in_err-block
returns-in_err-block g c =
    let p = err_from_is_err_and c.from_residual.result c.from_residual.ensures.1 in
    rw p.1 (refuses_memory _ p.0 (p.2 ∙ ap as_refusal c.in_err-block.ensures.err) (lacks_limited block_few (block_of c.args.forms.now)))

pub returns-then-len-gt-FORM_COUNT_LIMIT : goal.returns-then-len-gt-FORM_COUNT_LIMIT
returns-then-len-gt-FORM_COUNT_LIMIT g c =
    limited_beyond block_few (block_of c.args.forms.now)
    (beyond c.args.forms.now c.in-Some.forms c.as_slice.result.now c.in_ok-block.block.held c.in-Some.is c.as_slice.ensures.value c.in_ok-block.ensures.held c.len.result c.len.ensures.len
    c.if-len-gt-FORM_COUNT_LIMIT.true)

pub returns : goal.returns
returns g c =
    within c.args.forms.now c.in-Some.forms c.as_slice.result.now c.in_ok-block.block.held c.in-Some.is c.as_slice.ensures.value c.in_ok-block.ensures.held c.len.result c.len.ensures.len
    c.if-len-gt-FORM_COUNT_LIMIT.false
