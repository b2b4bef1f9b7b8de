-- What a handle owns.
-- Source: own.
use Rattle.std.specs.Prelude.{ℕ, Option, Some, None}
use base.Fml.{Fml, ftrue, fex}
use denote.RawPtr.{Ptr}
use Rattle.std.specs.declared.alloc.Global.{Global}
use Rattle.std.specs.contracts.impls.GlobalAllocator.TheImpl.{ghosts}
use Rattle.std_alloc.specs.Box.Ownership.{box_owns}
use Rattle.library_answers.specs.Talk.{Talk}
use Rattle.library_answers.specs.contracts.conversation.Conversation.{the_row}

-- the box at an address, with the session in it, where one is open; the heap that it came from is the one of the process, by whatever handle
abbrev pub owned : Ptr → Option Talk → Fml
owned at (Some talk) = fex Global (λ heap. box_owns (ghosts.dealloc_token heap) the_row at talk)
owned at None = ftrue

-- what says that a session is open, and that none is
abbrev pub flag_of : Option Talk → ℕ
flag_of (Some talk) = 1
flag_of None = 0
