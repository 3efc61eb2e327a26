-- How two lists lie in one block: the left one at its start, the right one at its end, the gap between.
use Rattle.std.specs.Prelude.{◌≡◌, ℕ, ◌^◌, ◌<◌, ◌≤◌, length, take, drop, Option, Some, None}
use denote.RawPtr.{Ptr}
use Rattle.trac_gap.specs.Ends.{Ends}
use Rattle.trac_gap.specs.Slots.{items_of, IsFull}
use Rattle.trac_gap.specs.declared.slots.Lease.{Lease}
use Rattle.trac_gap.specs.declared.gap_buf.GapBuf.TheInside.{Inside}

module _ {T A : Type 0} where
  -- the lists that the fields of a buffer stand for
  abbrev pub buffer_ends : Inside T A → Ends T
  buffer_ends b = record {
    left = items_of (take b.gap_start b.places.slots);
    right = items_of (drop b.gap_end b.places.slots);
    capacity = b.capacity;
  }

  -- a lease is that of these places; without one there are none
  abbrev pub HasItsLease : Ptr → ℕ → A → Option (Lease T A) → Type 0
  HasItsLease p n a None = n ≡ 0
  HasItsLease p n a (Some l) = (l.at ≡ p) × (l.count ≡ n) × (l.alloc ≡ a)

  -- the pointer, the places and the right to give them back belong together, and only the gap may be empty
  pub record IsLaidOut (b : Inside T A) : Type 0 where
    pub places_at : b.places.at ≡ b.start.ptr
    pub lease : HasItsLease b.start.ptr b.capacity b.alloc b.lease
    pub places_count : length b.places.slots ≡ b.capacity
    pub gap : b.gap_start ≤ b.gap_end
    pub within : b.gap_end ≤ b.capacity
    pub fits : b.capacity < 2 ^ 64
    pub left_full : IsFull (take b.gap_start b.places.slots)
    pub right_full : IsFull (drop b.gap_end b.places.slots)
