-- The laws.
-- Source: own.
use Rattle.std.specs.Prelude.{◌≡◌, ℕ, if◌then◌else◌, List, [], Some, None, Ok}
use Rattle.npy_form.specs.declared.array.Held.{Held}
use Rattle.npy_form.specs.declared.array.Held.TheVariants as held
use Rattle.npy_form.specs.Npy.{behind_header, read_array}
use Rattle.npy_laws.specs.Written.{Array, IsNpy}
use Rattle.npy_laws.specs.Numpy.{Loaded, numpy_reads}

-- one header, one type and shape, and one place where the numbers or the pickle begin
abbrev pub OneNpy : Type 0
OneNpy = (bytes : List ℕ) (a b : Array) → IsNpy bytes a → IsNpy bytes b → a ≡ b

-- numpy gives what is behind the header to an unpickler if the items are objects, and only then
abbrev pub loaded_of : Array → Loaded
loaded_of a =
    record {
      descr = a.descr;
      fortran_order = a.fortran_order;
      shape = a.shape;
      size = a.size;
      unpickled = if a.is_object then Some a.content else None;
      items = if a.is_object then [] else a.content;
    }

abbrev pub NumpyAgrees : Type 0
NumpyAgrees = (bytes : List ℕ) (a : Array) → IsNpy bytes a → numpy_reads bytes ≡ Some (loaded_of a)

-- what the reader takes for an array in form is one
abbrev pub held_of : Array → Held
held_of a = if a.is_object then held.Pickle else held.Numbers

pub record IsRead (bytes : List ℕ) (found : Held) : Type 0 where
  pub array : Array
  pub written : IsNpy bytes array
  pub kind : found ≡ held_of array
  pub behind : behind_header bytes ≡ array.content

abbrev pub WhatIsReadIsWritten : Type 0
WhatIsReadIsWritten = (bytes : List ℕ) (found : Held) → read_array bytes ≡ Ok found → IsRead bytes found
