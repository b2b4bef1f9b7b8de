-- What holds of the fields of a buffer.
use Rattle.std.specs.Prelude.{◌≡◌, ℕ, ◌+◌, ◌⊎◌, ◌-◌, ◌^◌, ◌<◌, ◌≤◌, List, length}
use Rattle.gap_list.specs.Inside.Places.{somes, laid}
use Rattle.gap_list.specs.declared.buffer.GapBuffer.{GapBuffer}

module _ {X : Type 0} where
  -- the items, in their order
  unfoldable pub buffer_items : GapBuffer X → List X
  buffer_items r = somes r.block.slots

  pub record IsBuffer (r : GapBuffer X) : Type 0 where
    pub block : (r.block.at ≡ r.start.ptr) × (r.block.alloc ≡ r.alloc)
    pub within : (r.size ≤ r.capacity) × (r.capacity < 2 ^ 63)
    pub gap : r.front ≤ r.size
    pub size : r.size ≡ length (buffer_items r)
    pub laid : r.block.slots ≡ laid r.front (r.capacity - r.size) (buffer_items r)

  -- s is a buffer of r's capacity, with the items xs
  abbrev pub Becomes : GapBuffer X → GapBuffer X → List X → Type 0
  Becomes r s xs = IsBuffer s × (s.capacity ≡ r.capacity) × (buffer_items s ≡ xs)

  -- item k of a buffer is at this place
  abbrev pub IsPlace : GapBuffer X → ℕ → ℕ → Type 0
  IsPlace r k p = ((k < r.front) × (p ≡ k)) ⊎ ((r.front ≤ k) × (p ≡ k + (r.capacity - r.size)))
