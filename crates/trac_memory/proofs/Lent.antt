-- The allocator with a limit, as its methods are lent it, and the layout that they are given.
use Rattle.trac_memory.proofs.Steps.{◌≡◌, ℕ, ◌+◌, [], ◌∷◌, Bor, Ty, Args, a_type, dnil, dcons, size, align, capped, up, RattleType, RefOf, bounded, param, Slot, plain}
use Rattle.std.proofs.alloc.Calls.{Al, α}
use Rattle.trac_memory.specs.contracts.limited.Limited as limited

module _ (Z : Al) where
  -- they are made for any backing, and `grow` and `shrink` for any values
  abbrev pub args : Args
  args = bounded (a_type ∷ []) (Z.row, tt) (dcons Z.d (dcons Z.drops dnil))

  abbrev pub args_at : RattleType → Args
  args_at X = bounded (a_type ∷ a_type ∷ []) (Z.row, (X, tt)) (dcons Z.d (dcons Z.drops dnil))

  abbrev pub self : Slot 2
  self = RefOf (0 ∷ []) tt (plain (λ _. limited.the_row (param 0 Z.row))) (λ _. tt)

  abbrev pub self_at : Slot 3
  self_at = RefOf (0 ∷ []) tt (plain (λ _. limited.the_row (param 0 Z.row))) (λ _. tt)

  -- where the backing and the room lie in what is lent
  abbrev pub backing_in : Bor (limited.the_row Z.row).Denot → ℕ × ℕ
  backing_in r = (r.ref_ptr.0, r.ref_ptr.1 + up (align (α Z)) 0)

  abbrev pub room_in : Bor (limited.the_row Z.row).Denot → ℕ × ℕ
  room_in r = (r.ref_ptr.0, r.ref_ptr.1 + up 8 (up (align (α Z)) 0 + size (α Z)))

-- the layout that the caller names is that of a type
abbrev pub Laid : ℕ → ℕ → Ty → Type 0
Laid n a τ = (capped (size τ) ≡ n) × (capped (align τ) ≡ a)
