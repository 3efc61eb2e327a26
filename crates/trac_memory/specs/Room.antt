-- What blocks take of a limit on memory.
use Rattle.std.specs.Prelude.{ℕ, zero, suc, ◌+◌, ◌-◌, ◌^◌, min}
use Rattle.trac_memory.specs.declared.room.TheConstants.{BLOCK_COST}

-- what a block of so many bytes takes; of no bytes there is none
abbrev pub room_of : ℕ → ℕ
room_of zero = 0
room_of (suc n) = min (suc n + BLOCK_COST) (2 ^ 64 - 1)

-- the room that there is once a block of so many bytes is given back
abbrev pub room_with : ℕ → ℕ → ℕ
room_with room old = min (room + room_of old) (2 ^ 64 - 1)
