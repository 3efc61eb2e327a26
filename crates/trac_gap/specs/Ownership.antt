-- What a row of places and the right to free it own and lend, at items of the row R.
use Rattle.std.specs.Prelude.{ℕ, ◌+◌, ◌*◌, ◌^◌, List, [], ◌∷◌, length, Option, Some, None}
use Rattle.std.specs.Mem.{type_size}
use base.Fraction.{full_share}
use base.Fml.{Lft, Fml, ftrue, ffalse, fsep, flt, froom}
use mir.Syntax.{Ty, ty_array}
use mir.Raw.{raw}
use denote.RattleType.{RattleType}
use denote.Memory.{lone, part_at, shared_of}
use denote.Sharing.{nothing, said, beside}
use denote.RawPtr.{Ptr, block_ptr, null_ptr}

module _ (R : RattleType) where
  -- one place, at the byte o of the block b: an item, or room for one
  abbrev pub place_owns : ℕ → ℕ → Option R.Denot → Fml
  place_owns b o None = froom (raw (lone R.mir)) b o
  place_owns b o (Some x) = part_at R full_share x b o

  -- places side by side
  abbrev pub row_owns : ℕ → ℕ → List (Option R.Denot) → Fml
  row_owns b o [] = ftrue
  row_owns b o (c ∷ cs) = fsep (place_owns b o c) (row_owns b (o + type_size R) cs)

  -- the same if they are lent for the lifetime
  abbrev pub place_lent : ℕ → ℕ → Option R.Denot → Lft → Fml
  place_lent b o None = nothing
  place_lent b o (Some x) = shared_of R x b o

  abbrev pub row_lent : ℕ → ℕ → List (Option R.Denot) → Lft → Fml
  row_lent b o [] = nothing
  row_lent b o (c ∷ cs) = beside (place_lent b o c) (row_lent b (o + type_size R) cs)

  -- the places take fewer than 2 ^ 63 bytes
  abbrev pub fits : List (Option R.Denot) → Fml
  fits cs = flt (length cs * type_size R) (2 ^ 63)

  -- a row that begins at a pointer, which is not null
  abbrev pub places_own : Ptr → List (Option R.Denot) → Fml
  places_own (block_ptr b o) cs = fsep (fits cs) (row_owns b o cs)
  places_own null_ptr cs = ffalse

  abbrev pub places_lent : Ptr → List (Option R.Denot) → Lft → Fml
  places_lent (block_ptr b o) cs = beside (said (fits cs)) (row_lent b o cs)
  places_lent null_ptr cs = said ffalse

  -- the allocator's token for a block of n places
  abbrev pub lease_owns : (Ty → Ptr → Fml) → Ptr → ℕ → Fml
  lease_owns token p n = token (raw (ty_array (lone R.mir) n)) p
