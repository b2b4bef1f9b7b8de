-- What `read_array` finds in form is an array as numpy writes it.
use Rattle.std.proofs.Common.{◌≡◌, ℕ, zero, suc, ◌+◌, ◌-◌, ◌*◌, ◌<◌, ◌≤◌, inl, inr, Bool, true, false, List, [], ◌∷◌, ◌++◌, length, drop, get_or, Ok, Err, refl, sym, ap, subst, ◌∙◌, arith, length-append}
use Rattle.std.specs.Prelude.{Result, ◌⊎◌, ◌==◌, eqb, nat_lt, if◌then◌else◌}
use Rattle.std.specs.List.{list_all, starts_with}
use Rattle.std.proofs.lemmas.Bool.{and_parts, and_from, eqb-true, eqb-false, cases_lt}
use Rattle.std.proofs.lemmas.List.{append_assoc, drop_at, drop-drop, drop_more, get_or_past}
use Rattle.npy_form.specs.declared.reason.Reason.TheVariants as reason
use Rattle.npy_form.specs.declared.reason.Refusal.{Refusal}
use Rattle.npy_form.specs.Outcome.{◌>>=◌, refused, refusal_at}
use Rattle.npy_form.specs.Text.{word_at, is_digit, most, number, digits, number_at}
use Rattle.npy_form.specs.Item.{is_word, unit_end, behind_unit}
use Rattle.npy_laws.specs.Written.{IsDecimal, value_behind, ends_unit, is_unit}

-- ---- steps that answer a value

pub bind_ok : {A B : Type 0} (r : Result A Refusal) (f : A → Result B Refusal) (x : B) → (r >>= f) ≡ Ok x → (a : A) × (r ≡ Ok a) × (f a ≡ Ok x)
bind_ok (Ok a) f x e = (a, refl, e)
bind_ok (Err e') f x e = absurd cc

pub ok_same : {A : Type 0} (a b : A) → ◌≡◌ {A = Result A Refusal} (Ok a) (Ok b) → a ≡ b
ok_same a b e = cc

pub no_value : {A : Type 0} (e : Refusal) (a : A) → ◌≡◌ {A = Result A Refusal} (Err e) (Ok a) → ⊥
no_value e a h = absurd cc

pub passed : {A : Type 0} (t : Bool) (e : Refusal) (r : Result A Refusal) (a : A) → (if t then r else Err e) ≡ Ok a → (t ≡ true) × (r ≡ Ok a)
passed true e r a h = (refl, h)
passed false e r a h = absurd (no_value e a h)

pub passed_by : {A : Type 0} (t : Bool) (e : Refusal) (r : Result A Refusal) (a : A) → (if t then Err e else r) ≡ Ok a → (t ≡ false) × (r ≡ Ok a)
passed_by true e r a h = absurd (no_value e a h)
passed_by false e r a h = (refl, h)

-- ---- a text that stands at a place

pub record Stands (bytes : List ℕ) (at : ℕ) (text : List ℕ) (end : ℕ) : Type 0 where
  pub place : end ≡ at + length text
  pub cut : drop at bytes ≡ text ++ drop end bytes

pub stands_from : (bytes : List ℕ) (at : ℕ) (text rest : List ℕ) (end : ℕ) → drop at bytes ≡ text ++ rest → end ≡ at + length text → Stands bytes at text end
stands_from bytes at text rest end cut place =
    let behind : drop end bytes ≡ rest = ap (λ (n : ℕ). drop n bytes) place ∙ sym (drop-drop (length text) at bytes) ∙ ap (drop (length text)) cut ∙ drop_at text rest (length text) refl in
    record { place = place; cut = cut ∙ ap (λ (x : List ℕ). text ++ x) (sym behind) }

pub joined : (bytes : List ℕ) (at mid end : ℕ) (s t : List ℕ) → Stands bytes at s mid → Stands bytes mid t end → Stands bytes at (s ++ t) end
joined bytes at mid end s t p q =
    record {
      place = omega (arith, p.place, q.place, length-append s t);
      cut = p.cut ∙ ap (λ (x : List ℕ). s ++ x) q.cut ∙ sym (append_assoc s t (drop end bytes));
    }

pub nothing_stands : (bytes : List ℕ) (at : ℕ) → Stands bytes at [] at
nothing_stands bytes at = record { place = omega arith; cut = refl }

pub begins_so : (xs word : List ℕ) → starts_with eqb xs word ≡ true → xs ≡ word ++ drop (length word) xs
begins_so xs [] is = refl
begins_so [] (w ∷ ws) is = absurd cc
begins_so (x ∷ xs) (w ∷ ws) is =
    let parts = and_parts (eqb w x) (starts_with eqb xs ws) is in
    ap (λ (y : ℕ). y ∷ xs) (sym (eqb-true w x parts.0)) ∙ ap (λ (ys : List ℕ). w ∷ ys) (begins_so xs ws parts.1)

pub word_stands : (bytes : List ℕ) (at : ℕ) (word : List ℕ) (end : ℕ) → word_at bytes at word ≡ Ok end → Stands bytes at word end
unfolding word_at
word_stands bytes at word end is =
    let p = passed (starts_with eqb (drop at bytes) word) (refusal_at reason.Text at) (Ok (at + length word)) end is in
    stands_from bytes at word (drop (length word) (drop at bytes)) end (begins_so (drop at bytes) word p.0) (sym (ok_same (at + length word) end p.1))

-- a byte that is not 0
pub byte_stands : (bytes : List ℕ) (at byte : ℕ) → get_or bytes at 0 ≡ byte → 0 < byte → Stands bytes at (byte ∷ []) (at + 1)
byte_stands bytes at byte is some = by (cases_lt at (length bytes))
  where
    by : ((at < length bytes) ⊎ (length bytes ≤ at)) → Stands bytes at (byte ∷ []) (at + 1)
    by (inl inside) = record { place = omega arith; cut = drop_more bytes at 0 inside ∙ ap (λ (x : ℕ). x ∷ drop (at + 1) bytes) is }
    by (inr past) = absurd (omega (arith, get_or_past bytes at 0 past, is, some))

-- ---- numbers

pub record DigitsRead (xs : List ℕ) (at v value end : ℕ) : Type 0 where
  pub text : List ℕ
  pub rest : List ℕ
  pub cut : xs ≡ text ++ rest
  pub digits : list_all is_digit text ≡ true
  pub told : value_behind v text ≡ value
  pub place : end ≡ at + length text

digits_more : (b : ℕ) (bs : List ℕ) (at v : ℕ) (n : _) → (digits bs (at + 1) (v * 10 + (b - 48)) ≡ Ok n → DigitsRead bs (at + 1) (v * 10 + (b - 48)) n.value n.end)
    → (d : Bool) → is_digit b ≡ d
    → (if d then (if nat_lt most (v * 10 + (b - 48)) then refused reason.Number at else digits bs (at + 1) (v * 10 + (b - 48))) else Ok (number v at)) ≡ Ok n
    → DigitsRead (b ∷ bs) at v n.value n.end
digits_more b bs at v n others true digit e =
    let r = others (passed_by (nat_lt most (v * 10 + (b - 48))) (refusal_at reason.Number at) (digits bs (at + 1) (v * 10 + (b - 48))) n e).1 in
    record {
      text = b ∷ r.text;
      rest = r.rest;
      cut = ap (λ (x : List ℕ). b ∷ x) r.cut;
      digits = and_from (is_digit b) (list_all is_digit r.text) digit r.digits;
      told = r.told;
      place = omega (arith, r.place);
    }
digits_more b bs at v n others false digit e =
    let same = ok_same (number v at) n e in
    record { text = []; rest = b ∷ bs; cut = refl; digits = refl; told = ap (λ x. x.value) same; place = sym (ap (λ x. x.end) same) ∙ omega arith }

digits_read : (xs : List ℕ) (at v : ℕ) (n : _) → digits xs at v ≡ Ok n → DigitsRead xs at v n.value n.end
unfolding digits
digits_read [] at v n is =
    let e = ok_same (number v at) n is in
    record { text = []; rest = []; cut = refl; digits = refl; told = ap (λ x. x.value) e; place = sym (ap (λ x. x.end) e) ∙ omega arith }
digits_read (b ∷ bs) at v n is = digits_more b bs at v n (digits_read bs (at + 1) (v * 10 + (b - 48)) n) (is_digit b) refl is

behind_first : (b : ℕ) (bs : List ℕ) (at : ℕ) (n : _) → is_digit b ≡ true → digits (b ∷ bs) at 0 ≡ Ok n → digits bs (at + 1) (b - 48) ≡ Ok n
unfolding digits
behind_first b bs at n digit is =
    let value : 0 * 10 + (b - 48) ≡ b - 48 = omega arith in
    let e = rw digit at is in
    ap (digits bs (at + 1)) (sym value) ∙ (passed_by (nat_lt most (0 * 10 + (b - 48))) (refusal_at reason.Number at) (digits bs (at + 1) (0 * 10 + (b - 48))) n e).1

pub record NumberRead (bytes : List ℕ) (at value end : ℕ) : Type 0 where
  pub text : List ℕ
  pub stands : Stands bytes at text end
  pub decimal : IsDecimal text value

zero_is : IsDecimal (48 ∷ []) 0
zero_is = record { first = 48; others = []; spelled = refl; digit = refl; digits = refl; plain = λ _. refl; value = refl }

digit_is_some : (b : ℕ) → is_digit b ≡ true → 0 < b
digit_is_some zero digit = absurd cc
digit_is_some (suc b) digit = omega arith

other_number : (bytes : List ℕ) (at : ℕ) (n : _) → (get_or bytes at 0 == 48) ≡ false → is_digit (get_or bytes at 0) ≡ true → digits (drop at bytes) at 0 ≡ Ok n → NumberRead bytes at n.value n.end
other_number bytes at n other digit is =
    let b : ℕ = get_or bytes at 0 in
    let here = byte_stands bytes at b refl (digit_is_some b digit) in
    let whole : digits (b ∷ drop (at + 1) bytes) at 0 ≡ Ok n = ap (λ (x : List ℕ). digits x at 0) (sym here.cut) ∙ is in
    let r = digits_read (drop (at + 1) bytes) (at + 1) (b - 48) n (behind_first b (drop (at + 1) bytes) at n digit whole) in
    record {
      text = b ∷ r.text;
      stands = stands_from bytes at (b ∷ r.text) r.rest n.end (here.cut ∙ ap (λ (x : List ℕ). b ∷ x) r.cut) (omega (arith, r.place));
      decimal = record { first = b; others = r.text; spelled = refl; digit = digit; digits = r.digits; plain = λ e. absurd (eqb-false b 48 other e); value = r.told };
    }

number_by : (bytes : List ℕ) (at : ℕ) (n : _) (zero : Bool) → (get_or bytes at 0 == 48) ≡ zero
    → (if zero then Ok (number 0 (at + 1)) else (if is_digit (get_or bytes at 0) then digits (drop at bytes) at 0 else refused reason.Text at)) ≡ Ok n
    → NumberRead bytes at n.value n.end
number_by bytes at n true is e =
    let same = ok_same (number 0 (at + 1)) n e in
    let base : NumberRead bytes at 0 (at + 1) = record { text = 48 ∷ []; stands = byte_stands bytes at 48 (eqb-true (get_or bytes at 0) 48 is) (omega arith); decimal = zero_is } in
    subst (λ x. NumberRead bytes at x.value x.end) same base
number_by bytes at n false is e =
    let p = passed (is_digit (get_or bytes at 0)) (refusal_at reason.Text at) (digits (drop at bytes) at 0) n e in
    other_number bytes at n is p.0 p.1

pub number_read : (bytes : List ℕ) (at : ℕ) (n : _) → number_at bytes at ≡ Ok n → NumberRead bytes at n.value n.end
unfolding number_at
number_read bytes at n is = number_by bytes at n (get_or bytes at 0 == 48) refl is

-- ---- units

pub record UnitRead (xs : List ℕ) (at end : ℕ) : Type 0 where
  pub text : List ℕ
  pub rest : List ℕ
  pub cut : xs ≡ text ++ rest
  pub ends : ends_unit text ≡ true
  pub place : end ≡ at + length text

one_more : (b : ℕ) (text : List ℕ) → is_word b ≡ true → ends_unit text ≡ true → ends_unit (b ∷ text) ≡ true
one_more b [] word ends = absurd cc
one_more b (c ∷ cs) word ends = and_from (is_word b) (ends_unit (c ∷ cs)) word ends

unit_more : (b : ℕ) (bs : List ℕ) (at end : ℕ) → (unit_end bs (at + 1) ≡ Ok end → UnitRead bs (at + 1) end) → (closes : Bool) → (b == 93) ≡ closes
    → (if closes then Ok (at + 1) else (if is_word b then unit_end bs (at + 1) else refused reason.Item at)) ≡ Ok end → UnitRead (b ∷ bs) at end
unit_more b bs at end others true closes e = record { text = b ∷ []; rest = bs; cut = refl; ends = closes; place = sym (ok_same (at + 1) end e) }
unit_more b bs at end others false closes e =
    let p = passed (is_word b) (refusal_at reason.Item at) (unit_end bs (at + 1)) end e in
    let r = others p.1 in
    record { text = b ∷ r.text; rest = r.rest; cut = ap (λ (x : List ℕ). b ∷ x) r.cut; ends = one_more b r.text p.0 r.ends; place = omega (arith, r.place) }

unit_read : (xs : List ℕ) (at end : ℕ) → unit_end xs at ≡ Ok end → UnitRead xs at end
unfolding unit_end
unit_read [] at end is = absurd (no_value (refusal_at reason.Item at) end is)
unit_read (b ∷ bs) at end is = unit_more b bs at end (unit_read bs (at + 1) end) (b == 93) refl is

pub record BehindRead (bytes : List ℕ) (at end : ℕ) : Type 0 where
  pub text : List ℕ
  pub stands : Stands bytes at text end
  pub unit : (text ≡ []) ⊎ (is_unit text ≡ true)

behind_by : (bytes : List ℕ) (at end : ℕ) (opens : Bool) → (get_or bytes at 0 == 91) ≡ opens
    → (if opens then unit_end (drop (at + 1) bytes) (at + 1) else Ok at) ≡ Ok end → BehindRead bytes at end
behind_by bytes at end true opens e =
    let r = unit_read (drop (at + 1) bytes) (at + 1) end e in
    let here = byte_stands bytes at 91 (eqb-true (get_or bytes at 0) 91 opens) (omega arith) in
    record { text = 91 ∷ r.text; stands = joined bytes at (at + 1) end (91 ∷ []) r.text here (stands_from bytes (at + 1) r.text r.rest end r.cut r.place); unit = inr r.ends }
behind_by bytes at end false opens e = record { text = []; stands = subst (Stands bytes at []) (ok_same at end e) (nothing_stands bytes at); unit = inl refl }

pub behind_read : (bytes : List ℕ) (at end : ℕ) → behind_unit bytes at ≡ Ok end → BehindRead bytes at end
behind_read bytes at end is = behind_by bytes at end (get_or bytes at 0 == 91) refl is
