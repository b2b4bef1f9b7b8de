-- The bytes of an argument, however they are kept.
use Rattle.std.specs.Prelude.{ℕ, ⊤, ◌+◌, ◌-◌, ◌≤◌, List, length, slice_range}
use Rattle.pickle_ops.specs.declared.arg_bytes.ArgBytes.{ArgBytes}
use Rattle.pickle_ops.specs.declared.arg_bytes.ArgBytes.TheVariants as arg_bytes
use Rattle.pickle_ops.specs.declared.payload.Part.{Part}
use Rattle.pickle_ops.specs.declared.payload.Part.TheVariants as part

abbrev pub kept_bytes : ArgBytes → List ℕ
kept_bytes (arg_bytes.Inline bytes) = bytes
kept_bytes (arg_bytes.Shared bytes) = bytes

-- a part of them
abbrev pub part_bytes : Part → List ℕ
part_bytes (part.Inline bytes) = bytes
part_bytes (part.Shared before behind argument) = slice_range argument before (length argument - behind)

abbrev pub IsInside : Part → Type 0
IsInside (part.Inline bytes) = ⊤
IsInside (part.Shared before behind argument) = before + behind ≤ length argument
