-- A store that was made of parts.
use Rattle.std.proofs.Common.{◌≡◌, true, subst}
use Rattle.std.specs.Prelude.{Ok}
use Rattle.trac_rules.specs.Outcomes.{limited}
use Rattle.trac_rules.specs.State.{Storage, storage_of}
use Rattle.trac_rules.proofs.Outcomes.{limited_Ok}
use Rattle.trac_forms.specs.Stored.{Stored, storage_in}
use Rattle.trac_storage.specs.declared.parts.Parts as code
use Rattle.trac_storage.specs.Loading.{counts_fit, state_in}

-- a store that was made holds the forms and blocks, and not too many
pub store_made : {A : Type 0} (parts : code.Parts A) (store : Stored) → limited counts_fit (Ok (storage_of (state_in parts))) ≡ Ok (storage_in store) →
    (storage_in store ≡ storage_of (state_in parts)) × (counts_fit (storage_of (state_in parts)) ≡ true)
store_made parts store made =
    let both = limited_Ok counts_fit (Ok (storage_of (state_in parts))) (storage_in store) made in
    let same : storage_in store ≡ storage_of (state_in parts) = (let e = both.0 in cc) in
    (same, subst (λ (s : Storage). counts_fit s ≡ true) same both.1)
