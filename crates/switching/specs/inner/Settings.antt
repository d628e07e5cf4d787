-- The bits of a setting's number (01, "Settings and placement").
-- Assumes nothing.
use Rattle.std.specs.Prelude.{ℕ, ◌-◌, ◌/◌, ◌%◌, ◌^◌}

-- "a number below 2^k whose highest bit belongs to the lowest-numbered reticulation, 1 meaning the secondary parent": the bit of the reticulation that
-- has j lower-numbered ones in its component
unfoldable pub bit_of : (x k j : ℕ) → ℕ
bit_of x k j = x / 2 ^ (k - 1 - j) % 2
