-- Which acts of CPython's unpickler a list permits.
-- Source: own. The acts are those of `Environment`, and what is found for names is what `find_class` finds.
use Rattle.std.specs.Prelude.{ℕ, ◌&&◌, ◌||◌, not, Bool, true, false, List, [], ◌∷◌, ◌++◌, Option, Some, None}
use Rattle.std.specs.Option.{option_map}
use Rattle.pickle_loader.specs.Environment.{Value, Plain, Own, Foreign, is_elsewhere, Name, Line, Given, Act, Make, Find, Extension, Call, New, NewEx, Instance, SetState, Fill, Persist, NextBuffer, View, Method}
use Rattle.pickle_loader.specs.FindClass.{find_class}
use Rattle.pickle_allow.specs.declared.list.Use.{Use}
use Rattle.pickle_allow.specs.declared.list.Use.TheVariants as use_of
use Rattle.pickle_allow.specs.declared.list.Entry.{Entry}
use Rattle.pickle_allow.specs.Allow.{Source, is_in, may_find, may_use}
use Rattle.pickle_allow.specs.Source.{line_text, literal_text, dotted, extension_word, persistent_word, buffer_word, itself, made_of, source_at}

-- ---- names

-- the text of a name that is asked for, if it can be read
abbrev pub name_text : Name → Option (List ℕ)
name_text (Line bytes) = line_text bytes
name_text (Given (Plain k)) = literal_text k
name_text (Given (Own t n)) = None
name_text (Given (Foreign t n)) = None

-- what find_class finds, as module, point and member
abbrev pub found_by : ℕ → Option (List ℕ) → Option (List ℕ) → Option (List ℕ)
found_by proto (Some from) (Some name) = Some (dotted (find_class proto from name))
found_by proto (Some from) None = None
found_by proto None name = None

abbrev pub found : ℕ → Name → Name → Option (List ℕ)
found proto module_name member_name = found_by proto (name_text module_name) (name_text member_name)

-- ---- values

-- what a value comes of, by what the answers to the acts so far come of
abbrev pub value_source : List (Option Source) → Value → Option Source
value_source before (Plain k) = None
value_source before (Own t n) = None
value_source before (Foreign t n) = source_at before n

-- what the answer to an act comes of: the import that it is, or that whose call made it; what INST makes has no name, nor has what answers nothing
abbrev pub answer_source : List (Option Source) → Act → Option Source
answer_source before (Find proto m n) = option_map itself (found proto m n)
answer_source before (Extension code) = Some (itself (extension_word code))
answer_source before (Persist id) = Some (itself persistent_word)
answer_source before (NextBuffer n) = Some (itself buffer_word)
answer_source before (Call f args) = made_of (value_source before f)
answer_source before (New cls args) = made_of (value_source before cls)
answer_source before (NewEx cls args keywords) = made_of (value_source before cls)
answer_source before (Instance (Some cls) args) = made_of (value_source before cls)
answer_source before (Instance None args) = None
answer_source before _ = None

-- ---- acts

-- an act behind others: what it imports is in the list, and what it does with what came from elsewhere is a use that the list grants to the name
-- that this comes of. What the unpickler makes and fills itself, and methods that run unseen, are no acts that are listed
abbrev pub permits : List Entry → List (Option Source) → Act → Bool
permits list before (Find proto m n) = may_find list (found proto m n)
permits list before (Extension code) = is_in list (extension_word code)
permits list before (Persist id) = is_in list persistent_word
permits list before (NextBuffer n) = is_in list buffer_word
permits list before (Call f args) = may_use list use_of.Call (value_source before f)
permits list before (New cls args) = may_use list use_of.New (value_source before cls)
permits list before (NewEx cls args keywords) = may_use list use_of.New (value_source before cls)
permits list before (Instance (Some cls) args) = may_use list use_of.Call (value_source before cls)
permits list before (Instance None args) = false
permits list before (SetState target state) = may_use list use_of.State (value_source before target)
permits list before (Fill how target items) = not (is_elsewhere target) || may_use list use_of.Fill (value_source before target)
permits list before (Make t items) = true
permits list before (View v) = true
permits list before Method = true

-- each of these acts, one after another; act n is the one before which n are
abbrev pub permits_all : List Entry → List (Option Source) → List Act → Bool
permits_all list before [] = true
permits_all list before (a ∷ acts) = permits list before a && permits_all list (before ++ answer_source before a ∷ []) acts

-- ---- what is done with what

-- a use of a value
pub record Deed : Type 0 where
  pub what : Use
  pub on : Value

abbrev pub deed_of : Act → Option Deed
deed_of (Call f args) = Some (record { what = use_of.Call; on = f })
deed_of (New cls args) = Some (record { what = use_of.New; on = cls })
deed_of (NewEx cls args keywords) = Some (record { what = use_of.New; on = cls })
deed_of (Instance (Some cls) args) = Some (record { what = use_of.Call; on = cls })
deed_of (SetState target state) = Some (record { what = use_of.State; on = target })
deed_of (Fill how target items) = Some (record { what = use_of.Fill; on = target })
deed_of _ = None
