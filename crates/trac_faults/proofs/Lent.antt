-- The allocator that refuses, as `allocate` and `deallocate` are lent it, and the layout that they are given.
use Rattle.trac_faults.proofs.Steps.{◌≡◌, ℕ, ◌+◌, [], ◌∷◌, Bor, Ty, Args, a_type, dnil, dcons, size, align, capped, up, RefOf, bounded, param, Slot, plain}
use Rattle.std.proofs.alloc.Calls.{Al, α}
use Rattle.trac_faults.specs.contracts.memory.Refusing as refusing

module _ (Z : Al) where
  -- both are made for any backing
  abbrev pub args : Args
  args = bounded (a_type ∷ []) (Z.row, tt) (dcons Z.d (dcons Z.drops dnil))

  abbrev pub self : Slot 2
  self = RefOf (0 ∷ []) tt (plain (λ _. refusing.the_row (param 0 Z.row))) (λ _. tt)

  -- where the backing lies in what is lent
  abbrev pub backing_in : Bor (refusing.the_row Z.row).Denot → ℕ × ℕ
  backing_in r = (r.ref_ptr.0, r.ref_ptr.1 + up (align (α Z)) 0)

-- the layout that the caller names is that of a type
abbrev pub Laid : ℕ → ℕ → Ty → Type 0
Laid n a τ = (capped (size τ) ≡ n) × (capped (align τ) ≡ a)
