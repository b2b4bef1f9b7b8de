-- Characters read in turn.
use Rattle.std.proofs.Common.{◌≡◌, ℕ, zero, suc, ◌+◌, ◌-◌, ◌<◌, ◌≤◌, Bool, true, false, List, [], ◌∷◌, ◌++◌, length, drop, Option, Some, None, refl, sym, ap, subst, ◌∙◌, append_assoc, arith}
use Rattle.std.specs.Prelude.{take}
use Rattle.std.proofs.lemmas.List.{append-nil, take-append-drop, length-append, take-append-le, take_all}
use Rattle.pickle_names.specs.declared.coding.Coding.{Coding}
use Rattle.pickle_names.specs.declared.coding.Piece.{Piece}
use Rattle.pickle_names.specs.declared.value.Reading.{Reading}
use Rattle.pickle_names.specs.Coding.{front_of}
use Rattle.std.specs.Prelude.{nat_le, if◌then◌else◌}
use Rattle.std.proofs.lemmas.Bool.{le-leb, lt-leb}
use Rattle.pickle_names.specs.Value.{if_short, short_value, Decoded, piece_text, piece_size, nothing, after, after_front, front_size, decode}
use Rattle.pickle_names.specs.Reading.{Says, IsReading}
use Rattle.pickle_io.specs.Text.{quoted_bytes}
use Rattle.pickle_io.specs.Device.{Told, Wrote, Broke}
use Rattle.pickle_io.proofs.Devices.{Wrote-none, Wrote-trans, Broke-after, Broke-more}
use Rattle.pickle_names.proofs.Quotes.{quoted-append}

-- i characters are read of at most `most`, this is left of the bytes, and what was read is the bytes before it, or may be another
pub record Reads (c : Coding) (most i : ℕ) (bytes rest : List ℕ) (plain : Bool) : Type 0 where
  pub done : List ℕ
  pub joins : decode c most bytes ≡ after done (decode c (most - i) rest)
  pub same : plain ≡ true → bytes ≡ done ++ rest

pub reads-none : (c : Coding) (most : ℕ) (bytes : List ℕ) → Reads c most 0 bytes bytes true
reads-none c most bytes = let z : most - 0 ≡ most = omega arith in record { done = []; joins = ap (λ (k : ℕ). after [] (decode c k bytes)) (sym z); same = λ _. refl }

one : (c : Coding) (m : ℕ) (b : ℕ) (more : List ℕ) (p : Piece) → front_of c b more ≡ Some p
    → decode c (suc m) (b ∷ more) ≡ after (piece_text p (b ∷ more)) (decode c m (drop (piece_size p) (b ∷ more)))
one c m b more p e = ap (λ (x : Option Piece). after_front x (b ∷ more) (decode c m (drop (front_size x) (b ∷ more)))) e

bad : (c : Coding) (m : ℕ) (b : ℕ) (more : List ℕ) → front_of c b more ≡ None → decode c (suc m) (b ∷ more) ≡ nothing (b ∷ more) false
bad c m b more e = ap (λ (x : Option Piece). after_front x (b ∷ more) (decode c m (drop (front_size x) (b ∷ more)))) e

twice : (x y : List ℕ) (d : Decoded) → after x (after y d) ≡ after (x ++ y) d
twice x y d = ap (λ (v : List ℕ). record d { value = v }) (sym (append_assoc x y d.value))

-- one character more
pub reads-next : (c : Coding) (most i b : ℕ) (bytes rest more : List ℕ) (plain : Bool) (p : Piece) (now : Bool) → i < most → rest ≡ b ∷ more → front_of c b more ≡ Some p
    → (now ≡ true → plain ≡ true) → (now ≡ true → piece_text p rest ≡ take (piece_size p) rest)
    → Reads c most i bytes rest plain → Reads c most (i + 1) bytes (drop (piece_size p) rest) now
reads-next c most i b bytes rest more plain p now h r e before as_is w =
    let m : ℕ = most - (i + 1) in
    let n : most - i ≡ suc m = omega (arith, h) in
    let here : decode c (most - i) rest ≡ after (piece_text p rest) (decode c m (drop (piece_size p) rest)) =
    ap (λ (k : ℕ). decode c k rest) n ∙ subst (λ (xs : List ℕ). decode c (suc m) xs ≡ after (piece_text p xs) (decode c m (drop (piece_size p) xs))) (sym r) (one c m b more p e) in
    record {
      done = w.done ++ piece_text p rest;
      joins = w.joins ∙ ap (after w.done) here ∙ twice w.done (piece_text p rest) (decode c m (drop (piece_size p) rest));
      same = λ t. w.same (before t) ∙ ap (λ (xs : List ℕ). w.done ++ xs) (sym (take-append-drop (piece_size p) rest) ∙ ap (λ (xs : List ℕ). xs ++ drop (piece_size p) rest) (sym (as_is t)))
          ∙ sym (append_assoc w.done (piece_text p rest) (drop (piece_size p) rest));
    }

-- ---- ends

ends : (c : Coding) (most i : ℕ) (bytes rest : List ℕ) (plain good : Bool) (left : ℕ) → Reads c most i bytes rest plain → decode c (most - i) rest ≡ nothing rest good → left ≡ length rest
    → Says bytes (decode c most bytes) (record { left = left; good = good; plain = plain })
ends c most i bytes rest plain good left w e l =
    let all : decode c most bytes ≡ record { value = w.done; rest = rest; good = good } = w.joins ∙ ap (after w.done) e ∙ ap (λ (v : List ℕ). record { value = v; rest = rest; good = good }) (append-nil w.done) in
    subst (λ (d : Decoded). Says bytes d (record { left = left; good = good; plain = plain })) (sym all) (record { left = l; good = refl; plain = w.same })

none_left : (c : Coding) (n : ℕ) → decode c n [] ≡ nothing [] true
none_left c zero = refl
none_left c (suc n) = refl

-- no byte is left
pub reads-all : (c : Coding) (most i : ℕ) (bytes rest : List ℕ) (plain : Bool) → rest ≡ [] → Reads c most i bytes rest plain
    → Says bytes (decode c most bytes) (record { left = 0; good = true; plain = plain })
reads-all c most i bytes rest plain e w =
    ends c most i bytes rest plain true 0 w (subst (λ (xs : List ℕ). decode c (most - i) xs ≡ nothing xs true) (sym e) (none_left c (most - i))) (ap length (sym e))

-- enough characters are read
pub reads-enough : (c : Coding) (most i : ℕ) (bytes rest : List ℕ) (plain : Bool) (left : ℕ) → most ≤ i → left ≡ length rest → Reads c most i bytes rest plain
    → Says bytes (decode c most bytes) (record { left = left; good = true; plain = plain })
reads-enough c most i bytes rest plain left h l w =
    let z : most - i ≡ 0 = omega (arith, h) in
    ends c most i bytes rest plain true left w (ap (λ (k : ℕ). decode c k rest) z) l

-- what is next cannot be read
pub reads-bad : (c : Coding) (most i b : ℕ) (bytes rest more : List ℕ) (plain : Bool) (left : ℕ) → i < most → rest ≡ b ∷ more → front_of c b more ≡ None → left ≡ length rest → Reads c most i bytes rest plain
    → Says bytes (decode c most bytes) (record { left = left; good = false; plain = plain })
reads-bad c most i b bytes rest more plain left h r e l w =
    let n : most - i ≡ suc (most - (i + 1)) = omega (arith, h) in
    let here : decode c (most - i) rest ≡ nothing rest false =
    ap (λ (k : ℕ). decode c k rest) n ∙ subst (λ (xs : List ℕ). decode c (suc (most - (i + 1))) xs ≡ nothing xs false) (sym r) (bad c (most - (i + 1)) b more e) in
    ends c most i bytes rest plain false left w here l

-- ---- writing

-- what was read was written
pub record Writing (c : Coding) (most i : ℕ) (bytes rest : List ℕ) (old new : Told) : Type 0 where
  pub reads : Reads c most i bytes rest false
  pub wrote : Wrote old new (quoted_bytes reads.done)

no_quotes : quoted_bytes [] ≡ []
unfolding quoted_bytes
no_quotes = refl

pub writing-none : (c : Coding) (most : ℕ) (bytes : List ℕ) (a : Told) → Writing c most 0 bytes bytes a a
unfolding reads-none
writing-none c most bytes a =
    let r = reads-none c most bytes in
    record { reads = record { done = r.done; joins = r.joins; same = λ (t : false ≡ true). absurd cc }; wrote = rw no_quotes (Wrote-none a) }

pub writing-next : (c : Coding) (most i b : ℕ) (bytes rest more : List ℕ) (p : Piece) (x y z : Told) → i < most → rest ≡ b ∷ more → front_of c b more ≡ Some p
    → Wrote y z (quoted_bytes (piece_text p rest)) → Writing c most i bytes rest x y → Writing c most (i + 1) bytes (drop (piece_size p) rest) x z
unfolding reads-next
writing-next c most i b bytes rest more p x y z h r e q w = record {
  reads = reads-next c most i b bytes rest more false p false h r e (λ t. t) (λ (t : false ≡ true). absurd cc) w.reads;
  wrote = rw (quoted-append w.reads.done (piece_text p rest)) (Wrote-trans x y z (quoted_bytes w.reads.done) (quoted_bytes (piece_text p rest)) w.wrote q);
}

whole_by : (c : Coding) (most i : ℕ) (bytes rest : List ℕ) (good : Bool) (x y : Told) → decode c (most - i) rest ≡ nothing rest good → Writing c most i bytes rest x y
    → Wrote x y (quoted_bytes (decode c most bytes).value)
whole_by c most i bytes rest good x y e w =
    let all : (decode c most bytes).value ≡ w.reads.done =
    ap (λ (d : Decoded). d.value) (w.reads.joins ∙ ap (after w.reads.done) e) ∙ append-nil w.reads.done in
    rw all w.wrote

pub writing-all : (c : Coding) (most i : ℕ) (bytes rest : List ℕ) (x y : Told) → rest ≡ [] → Writing c most i bytes rest x y → Wrote x y (quoted_bytes (decode c most bytes).value)
writing-all c most i bytes rest x y e w =
    whole_by c most i bytes rest true x y (subst (λ (xs : List ℕ). decode c (most - i) xs ≡ nothing xs true) (sym e) (none_left c (most - i))) w

pub writing-enough : (c : Coding) (most i : ℕ) (bytes rest : List ℕ) (x y : Told) → most ≤ i → Writing c most i bytes rest x y → Wrote x y (quoted_bytes (decode c most bytes).value)
writing-enough c most i bytes rest x y h w =
    let z : most - i ≡ 0 = omega (arith, h) in
    whole_by c most i bytes rest true x y (ap (λ (k : ℕ). decode c k rest) z) w

pub writing-bad : (c : Coding) (most i b : ℕ) (bytes rest more : List ℕ) (x y : Told) → i < most → rest ≡ b ∷ more → front_of c b more ≡ None → Writing c most i bytes rest x y
    → Wrote x y (quoted_bytes (decode c most bytes).value)
writing-bad c most i b bytes rest more x y h r e w =
    let n : most - i ≡ suc (most - (i + 1)) = omega (arith, h) in
    let here : decode c (most - i) rest ≡ nothing rest false =
    ap (λ (k : ℕ). decode c k rest) n ∙ subst (λ (xs : List ℕ). decode c (suc (most - (i + 1))) xs ≡ nothing xs false) (sym r) (bad c (most - (i + 1)) b more e) in
    whole_by c most i bytes rest false x y here w

pub writing-stopped : (c : Coding) (most i b : ℕ) (bytes rest more : List ℕ) (p : Piece) (x y z : Told) → i < most → rest ≡ b ∷ more → front_of c b more ≡ Some p
    → Broke y z (quoted_bytes (piece_text p rest)) → Writing c most i bytes rest x y → Broke x z (quoted_bytes (decode c most bytes).value)
writing-stopped c most i b bytes rest more p x y z h r e q w =
    let m : ℕ = most - (i + 1) in
    let n : most - i ≡ suc m = omega (arith, h) in
    let here : decode c (most - i) rest ≡ after (piece_text p rest) (decode c m (drop (piece_size p) rest)) =
    ap (λ (k : ℕ). decode c k rest) n ∙ subst (λ (xs : List ℕ). decode c (suc m) xs ≡ after (piece_text p xs) (decode c m (drop (piece_size p) xs))) (sym r) (one c m b more p e) in
    let last : List ℕ = (decode c m (drop (piece_size p) rest)).value in
    let all : (decode c most bytes).value ≡ (w.reads.done ++ piece_text p rest) ++ last =
    ap (λ (d : Decoded). d.value) (w.reads.joins ∙ ap (after w.reads.done) here) ∙ sym (append_assoc w.reads.done (piece_text p rest) last) in
    let text : quoted_bytes (decode c most bytes).value ≡ (quoted_bytes w.reads.done ++ quoted_bytes (piece_text p rest)) ++ quoted_bytes last =
    ap quoted_bytes all ∙ quoted-append (w.reads.done ++ piece_text p rest) last ∙ ap (λ (t : List ℕ). t ++ quoted_bytes last) (quoted-append w.reads.done (piece_text p rest)) in
    rw text (Broke-more x z (quoted_bytes w.reads.done ++ quoted_bytes (piece_text p rest)) (quoted_bytes last)
    (Broke-after x y z (quoted_bytes w.reads.done) (quoted_bytes (piece_text p rest)) w.wrote q))

pub ruleset writing_steps = (writing-none, writing-all, writing-enough, writing-bad)

-- ---- a text whose value is its bytes

pub plain_value : (c : Coding) (most : ℕ) (bytes : List ℕ) (r : Reading) → IsReading c most bytes r → r.plain ≡ true → take (length bytes - r.left) bytes ≡ (decode c most bytes).value
plain_value c most bytes r w t =
    let d : Decoded = decode c most bytes in
    let all : bytes ≡ d.value ++ d.rest = w.plain t in
    let n : length bytes - r.left ≡ length d.value = omega (arith, w.left, ap length all, length-append d.value d.rest) in
    ap (λ (k : ℕ). take k bytes) n ∙ ap (take (length d.value)) all ∙ take-append-le (length d.value) d.value d.rest (omega arith) ∙ take_all (length d.value) d.value (omega arith)

-- ---- a short value

-- what was read is kept
pub record Holding (c : Coding) (most i : ℕ) (bytes rest held : List ℕ) : Type 0 where
  pub joins : decode c most bytes ≡ after held (decode c (most - i) rest)

pub holding-none : (c : Coding) (most : ℕ) (bytes held : List ℕ) → held ≡ [] → Holding c most 0 bytes bytes held
holding-none c most bytes held e =
    let z : most - 0 ≡ most = omega arith in
    record { joins = ap (λ (k : ℕ). after [] (decode c k bytes)) (sym z) ∙ ap (λ (t : List ℕ). after t (decode c (most - 0) bytes)) (sym e) }

step_is : (c : Coding) (most i b : ℕ) (rest more : List ℕ) (p : Piece) → i < most → rest ≡ b ∷ more → front_of c b more ≡ Some p
    → decode c (most - i) rest ≡ after (piece_text p rest) (decode c (most - (i + 1)) (drop (piece_size p) rest))
step_is c most i b rest more p h r e =
    let m : ℕ = most - (i + 1) in
    let n : most - i ≡ suc m = omega (arith, h) in
    ap (λ (k : ℕ). decode c k rest) n ∙ subst (λ (xs : List ℕ). decode c (suc m) xs ≡ after (piece_text p xs) (decode c m (drop (piece_size p) xs))) (sym r) (one c m b more p e)

pub holding-next : (c : Coding) (most i b : ℕ) (bytes rest more held now : List ℕ) (p : Piece) → i < most → rest ≡ b ∷ more → front_of c b more ≡ Some p
    → now ≡ held ++ piece_text p rest → Holding c most i bytes rest held → Holding c most (i + 1) bytes (drop (piece_size p) rest) now
holding-next c most i b bytes rest more held now p h r e is w =
    let later : Decoded = decode c (most - (i + 1)) (drop (piece_size p) rest) in
    record { joins = w.joins ∙ ap (after held) (step_is c most i b rest more p h r e) ∙ twice held (piece_text p rest) later ∙ ap (λ (t : List ℕ). after t later) (sym is) }

held_by : (c : Coding) (most i : ℕ) (bytes rest held : List ℕ) (good : Bool) → decode c (most - i) rest ≡ nothing rest good → Holding c most i bytes rest held
    → decode c most bytes ≡ record { value = held; rest = rest; good = good }
held_by c most i bytes rest held good e w = w.joins ∙ ap (after held) e ∙ ap (λ (v : List ℕ). record { value = v; rest = rest; good = good }) (append-nil held)

short_of : (d : Decoded) (held rest : List ℕ) → d ≡ record { value = held; rest = rest; good = true } → length held ≤ 32 → Some held ≡ if_short d
short_of d held rest e h = sym (ap if_short e ∙ ap (λ (b : Bool). if b then Some held else None) (le-leb (length held) 32 h))

pub holding-all : (c : Coding) (bytes : List ℕ) (i : ℕ) (rest held : List ℕ) → rest ≡ [] → length held ≤ 32 → Holding c (length bytes) i bytes rest held → Some held ≡ short_value c bytes
unfolding short_value
holding-all c bytes i rest held e h w =
    short_of (decode c (length bytes) bytes) held rest
    (held_by c (length bytes) i bytes rest held true (subst (λ (xs : List ℕ). decode c (length bytes - i) xs ≡ nothing xs true) (sym e) (none_left c (length bytes - i))) w) h

pub holding-enough : (c : Coding) (bytes : List ℕ) (i : ℕ) (rest held : List ℕ) → length bytes ≤ i → length held ≤ 32 → Holding c (length bytes) i bytes rest held → Some held ≡ short_value c bytes
unfolding short_value
holding-enough c bytes i rest held e h w =
    let z : length bytes - i ≡ 0 = omega (arith, e) in
    short_of (decode c (length bytes) bytes) held rest (held_by c (length bytes) i bytes rest held true (ap (λ (k : ℕ). decode c k rest) z) w) h

pub holding-bad : (c : Coding) (bytes : List ℕ) (i b : ℕ) (rest more held : List ℕ) → i < length bytes → rest ≡ b ∷ more → front_of c b more ≡ None → Holding c (length bytes) i bytes rest held
    → None ≡ short_value c bytes
unfolding short_value
holding-bad c bytes i b rest more held h r e w =
    let n : length bytes - i ≡ suc (length bytes - (i + 1)) = omega (arith, h) in
    let here : decode c (length bytes - i) rest ≡ nothing rest false =
    ap (λ (k : ℕ). decode c k rest) n ∙ subst (λ (xs : List ℕ). decode c (suc (length bytes - (i + 1))) xs ≡ nothing xs false) (sym r) (bad c (length bytes - (i + 1)) b more e) in
    sym (ap if_short (held_by c (length bytes) i bytes rest held false here w))

too_long : (d : Decoded) → 32 < length d.value → None ≡ if_short d
too_long d h = go d.good
  where
    go : (g : Bool) → None ≡ (if g then (if nat_le (length d.value) 32 then Some d.value else None) else None)
    go true = sym (ap (λ (b : Bool). if b then Some d.value else None) (lt-leb (length d.value) 32 h))
    go false = refl

pub holding-over : (c : Coding) (bytes : List ℕ) (i b : ℕ) (rest more held : List ℕ) (p : Piece) → i < length bytes → rest ≡ b ∷ more → front_of c b more ≡ Some p
    → 32 < length held + length (piece_text p rest) → Holding c (length bytes) i bytes rest held → None ≡ short_value c bytes
unfolding short_value
holding-over c bytes i b rest more held p h r e big w =
    let later : Decoded = decode c (length bytes - (i + 1)) (drop (piece_size p) rest) in
    let all : (decode c (length bytes) bytes).value ≡ held ++ (piece_text p rest ++ later.value) =
    ap (λ (d : Decoded). d.value) (w.joins ∙ ap (after held) (step_is c (length bytes) i b rest more p h r e)) in
    too_long (decode c (length bytes) bytes) (omega (arith, big, ap length all, length-append held (piece_text p rest ++ later.value), length-append (piece_text p rest) later.value))

pub ruleset holding_steps = (holding-none, holding-all, holding-enough, holding-bad)
