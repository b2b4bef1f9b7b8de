-- Fields by how deep the arrays and objects in their values nest: a line of such fields is read back, and is one line.
use Rattle.std.proofs.Common.{◌≡◌, ◌≤◌, ℕ, suc, Bool, true, false, List, [], ◌∷◌, refl, arith}
use Rattle.std.specs.Prelude.{codes, map, if◌then◌else◌}
use Rattle.std.specs.List.{list_all}
use Rattle.std.specs.Str.{IsUtf8}
use Rattle.std.proofs.lemmas.Str.{IsUtf8-from_ascii}
use Rattle.json.specs.Json.{Json, string, boolean, array}
use Rattle.json.specs.Tree.{depth, items_depth, members_depth}
use Rattle.json.specs.Value.{items_of}
use Rattle.json_lines.specs.Json.{is_plain}
use Rattle.json_lines.specs.Line.{Field, field, ◌⊕◌, members_of, whole, bytes_field, numbers_json, line_object, line}
use Rattle.json_lines.specs.Readable.{HasTexts, ItemsHaveTexts, MembersHaveTexts, ArePlain, ReadsBackAs}
use Rattle.json_lines.proofs.Strings.{plain_ascii}
use Rattle.json_lines.proofs.Fields.{fields_are_plain, plain_texts, plain_depth, plain_lines_read_back}
use Rattle.json_lines.proofs.Trees.{lines_read_back}
use Rattle.json_lines.proofs.Printing.{lines_end_once}

-- ---- plain fields

-- words of characters that stand for themselves
pub word : (s : List ℕ) → list_all is_plain s ≡ true → IsUtf8 s
word s h = IsUtf8-from_ascii s (plain_ascii s h)

pub number : (name : List ℕ) (n : ℕ) → list_all is_plain name ≡ true → ArePlain (field name (whole n))
number name n h = fields_are_plain.wholes name n (word name h)

pub text : (name words : List ℕ) → list_all is_plain name ≡ true → list_all is_plain words ≡ true → ArePlain (field name (string words))
text name words h k = fields_are_plain.texts name words (word name h) (word words k)

pub truth : (name : List ℕ) (b : Bool) → list_all is_plain name ≡ true → ArePlain (field name (boolean b))
unfolding field
truth name b h = (record { name = word name h; value = tt; flat = refl }, tt)

pub held : (name hex_name bytes : List ℕ) → list_all is_plain name ≡ true → list_all is_plain hex_name ≡ true → ArePlain (bytes_field name hex_name bytes)
held name hex_name bytes h k = fields_are_plain.bytes name hex_name bytes (word name h) (word hex_name k)

pub both : (xs ys : List Field) → ArePlain xs → ArePlain ys → ArePlain (xs ⊕ ys)
both xs ys p q = fields_are_plain.joined xs ys p q

pub either : (b : Bool) (xs ys : List Field) → ArePlain xs → ArePlain ys → ArePlain (if b then xs else ys)
either true xs ys p q = p
either false xs ys p q = q

-- ---- values and fields of a depth

pub record Fits (n : ℕ) (v : Json) : Type 0 where
  pub texts : HasTexts v
  pub shallow : depth v ≤ n

pub record Deep (n : ℕ) (fs : List Field) : Type 0 where
  pub texts : MembersHaveTexts (members_of fs)
  pub shallow : members_depth (members_of fs) ≤ n

pub wider : (n k : ℕ) (v : Json) → n ≤ k → Fits n v → Fits k v
wider n k v h f = record { texts = f.texts; shallow = omega (arith, h, f.shallow) }

pub deeper : (n k : ℕ) (fs : List Field) → n ≤ k → Deep n fs → Deep k fs
deeper n k fs h d = record { texts = d.texts; shallow = omega (arith, h, d.shallow) }

pub of_plain : (n : ℕ) (fs : List Field) → ArePlain fs → Deep n fs
of_plain n fs p = record { texts = plain_texts fs p; shallow = omega (arith, plain_depth fs p) }

texts_joined : (xs ys : List Field) → MembersHaveTexts (members_of xs) → MembersHaveTexts (members_of ys) → MembersHaveTexts (members_of (xs ⊕ ys))
unfolding ◌⊕◌
texts_joined [] ys p q = q
texts_joined (x ∷ xs) ys p q = (p.0, (p.1.0, texts_joined xs ys p.1.1 q))

depth_joined : (n : ℕ) (xs ys : List Field) → members_depth (members_of xs) ≤ n → members_depth (members_of ys) ≤ n → members_depth (members_of (xs ⊕ ys)) ≤ n
unfolding ◌⊕◌
depth_joined n [] ys p q = q
depth_joined n (x ∷ xs) ys p q =
    let rest : members_depth (members_of xs) ≤ n = omega (arith, p) in
    omega (arith, p, depth_joined n xs ys rest q)

pub joined : (n : ℕ) (xs ys : List Field) → Deep n xs → Deep n ys → Deep n (xs ⊕ ys)
joined n xs ys p q = record { texts = texts_joined xs ys p.texts q.texts; shallow = depth_joined n xs ys p.shallow q.shallow }

pub alone : (n : ℕ) (name : List ℕ) (v : Json) → list_all is_plain name ≡ true → Fits n v → Deep n (field name v)
unfolding field
alone n name v h f = record { texts = (word name h, (f.texts, tt)); shallow = omega (arith, f.shallow) }

-- an object with a kind and such fields
pub object_fits : (n : ℕ) (kind : List ℕ) (fs : List Field) → list_all is_plain kind ≡ true → Deep n fs → Fits (suc n) (line_object kind fs)
unfolding field ◌⊕◌
object_fits n kind fs h d = record { texts = (word (codes "kind") refl, (word kind h, d.texts)); shallow = omega (arith, d.shallow) }

-- what is said of each of some things
module _ {X : Type 0} where
  mapped_texts : (n : ℕ) (json : X → Json) (xs : List X) → ((x : X) → Fits n (json x)) → ItemsHaveTexts (items_of (map json xs))
  mapped_texts n json [] f = tt
  mapped_texts n json (x ∷ xs) f = ((f x).texts, mapped_texts n json xs f)

  mapped_depth : (n : ℕ) (json : X → Json) (xs : List X) → ((x : X) → Fits n (json x)) → items_depth (items_of (map json xs)) ≤ n
  mapped_depth n json [] f = omega arith
  mapped_depth n json (x ∷ xs) f = omega (arith, (f x).shallow, mapped_depth n json xs f)

  pub mapped : (n : ℕ) (json : X → Json) (xs : List X) → ((x : X) → Fits n (json x)) → Fits (suc n) (array (items_of (map json xs)))
  mapped n json xs f = record { texts = mapped_texts n json xs f; shallow = omega (arith, mapped_depth n json xs f) }

-- numbers
pub number_fits : (n : ℕ) → Fits 0 (whole n)
unfolding field
number_fits n =
    let f = number (codes "n") n refl in
    record { texts = f.0.value; shallow = omega (arith, f.0.flat) }

pub numbers_fit : (ns : List ℕ) → Fits 1 (numbers_json ns)
unfolding numbers_json
numbers_fit ns = mapped 0 whole ns number_fits

-- ---- lines

pub line_reads : (kind : List ℕ) (fs : List Field) → list_all is_plain kind ≡ true → Deep 8 fs → ReadsBackAs (line kind fs) kind fs
unfolding field ◌⊕◌
line_reads kind fs h d =
    record {
      read = lines_read_back kind fs (word kind h) d.texts (omega (arith, d.shallow));
      one = lines_end_once kind fs (word kind h) d.texts;
    }

pub plain_line_reads : (kind : List ℕ) (fs : List Field) → list_all is_plain kind ≡ true → ArePlain fs → ReadsBackAs (line kind fs) kind fs
plain_line_reads kind fs h p =
    record {
      read = plain_lines_read_back kind fs (word kind h) p;
      one = lines_end_once kind fs (word kind h) (plain_texts fs p);
    }
