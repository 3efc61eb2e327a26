-- A `&` to a row of places can be made where a `&` to each item can. Assumes `Logic`.
use Prim.Native.Nat.{ℕ, ◌+◌}
use Rattle.std.specs.Prelude.{List, [], ◌∷◌, Option, Some, None}
use Rattle.std.specs.Mem.{type_size}
use seplogic.Ra.Ura.{Ura}
use base.Fml.{Lft, Incl, ftrue, ffalse}
use types.Logic.{Logic}
use denote.RattleType.{RattleType, RowLaws}
use denote.Param.Laws.{Laws}
use denote.RawPtr.{Ptr, block_ptr, null_ptr}
use denote.Sharing.{ShrLaws, said}
use denote.SharingLaws.{beside_shr_laws, nothing_shr_laws, said_shr_laws}
use denote.Shares.{Shares-less}
use denote.Struct.Lending.{Lends, Lends-both, Lends-nothing, Lends-said, Lends-false}
use Rattle.trac_gap.specs.Ownership.{place_owns, row_owns, place_lent, row_lent, fits, places_own, places_lent}

-- what a `&` holds lasts, as it does for one item
module _ (R : RattleType) (L : RowLaws R) where
  place_lasts : (b o : ℕ) (c : Option R.Denot) → ShrLaws (place_lent R b o c)
  place_lasts b o None = nothing_shr_laws
  place_lasts b o (Some x) = L x b o

  row_lasts : (b o : ℕ) (cs : List (Option R.Denot)) → ShrLaws (row_lent R b o cs)
  row_lasts b o [] = nothing_shr_laws
  row_lasts b o (c ∷ cs) = beside_shr_laws _ _ (place_lasts b o c) (row_lasts b (o + type_size R) cs)

  pub places_last : (p : Ptr) (cs : List (Option R.Denot)) → ShrLaws (places_lent R p cs)
  places_last null_ptr cs = said_shr_laws ffalse tt
  places_last (block_ptr b o) cs = beside_shr_laws _ _ (said_shr_laws (fits R cs) tt) (row_lasts b o cs)

-- what is owned can be lent, for any lifetime within the item's
module _ {M : Type 1} {𝓤 : Ura M} (𝓛 : Logic 𝓤) (l : Lft) (R : RattleType) (L : Laws R) (inc : Incl l R.lives) where
  lends_place : (b o : ℕ) (c : Option R.Denot) → Lends 𝓛 (place_owns R b o c) (place_lent R b o c) l
  lends_place b o None = Lends-nothing 𝓛 (place_owns R b o None) l
  lends_place b o (Some x) = λ κ ts. Shares-less 𝓛 R R.lives l inc (L.shares 𝓛) x κ ts b o

  lends_row : (b o : ℕ) (cs : List (Option R.Denot)) → Lends 𝓛 (row_owns R b o cs) (row_lent R b o cs) l
  lends_row b o [] = Lends-nothing 𝓛 ftrue l
  lends_row b o (c ∷ cs) = let next = o + type_size R in
      Lends-both 𝓛 (place_owns R b o c) (row_owns R b next cs) (place_lent R b o c) (row_lent R b next cs) l (lends_place b o c) (lends_row b next cs)

  pub lends_places : (p : Ptr) (cs : List (Option R.Denot)) → Lends 𝓛 (places_own R p cs) (places_lent R p cs) l
  lends_places null_ptr cs = Lends-false 𝓛 (said ffalse) l
  lends_places (block_ptr b o) cs =
      Lends-both 𝓛 (fits R cs) (row_owns R b o cs) (said (fits R cs)) (row_lent R b o cs) l (Lends-said 𝓛 (fits R cs) tt l) (lends_row b o cs)
