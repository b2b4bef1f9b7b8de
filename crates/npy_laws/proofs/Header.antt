-- What `read_array` finds in form is an array as numpy writes it.
use Rattle.std.proofs.Common.{◌≡◌, ℕ, zero, suc, ◌+◌, ◌-◌, ◌*◌, ◌%◌, ◌<◌, ◌≤◌, inl, inr, Bool, true, false, List, [], ◌∷◌, ◌++◌, length, take, drop, get_or, Ok, refl, sym, ap, subst, ◌∙◌, arith}
use Rattle.std.specs.Prelude.{Result, ◌⊎◌, ◌==◌, ◌&&◌, ◌||◌, eqb, nat_lt, if◌then◌else◌}
use Rattle.std.specs.List.{fold, list_all, starts_with}
use Rattle.std.proofs.lemmas.Bool.{and_parts, or_cases, eqb-true, ltb-true, ltb-false}
use Rattle.std.proofs.lemmas.List.{append_assoc, append-nil, drop-drop, drop_more, take-append-drop, length-drop, length-take-le}
use Rattle.npy_form.specs.declared.reason.Reason.TheVariants as reason
use Rattle.npy_form.specs.declared.reason.Refusal.{Refusal}
use Rattle.npy_form.specs.declared.array.Held.{Held}
use Rattle.npy_form.specs.declared.array.Held.TheVariants as held
use Rattle.npy_form.specs.Outcome.{◌>>=◌, refused, refusal_at}
use Rattle.npy_form.specs.Text.{word_at, most, number, number_at}
use Rattle.npy_form.specs.Item.{item, is_order, is_plain, is_time, behind_unit, sized, timed, plain_item, item_at}
use Rattle.npy_form.specs.Shape.{times, axis, ended, next_axis, axes_from, first_axis, shape_at}
use Rattle.npy_form.specs.Npy.{begins_as_array, is_version, text_start, header_size, front_word, order_word, true_word, false_word, shape_word, back_word, flag_at, quote_at, items_at, literal, literal_at, header_end, is_padded, content, read_array}
use Rattle.npy_laws.specs.Written.{Array, IsDecimal, IsSized, IsDescr, AreAxes, IsShape, count_of, flag_word, literal_of, IsFilled}
use Rattle.npy_laws.specs.Laws.{IsRead}
use Rattle.npy_laws.proofs.Agreeing.{of_order, of_plain, of_time}
use Rattle.npy_laws.proofs.Reading.{bind_ok, ok_same, no_value, passed, passed_by, Stands, stands_from, joined, begins_so, word_stands, byte_stands, number_read, behind_read}

-- ---- items

pub record ItemRead (bytes : List ℕ) (at size : ℕ) (is_object : Bool) (end : ℕ) : Type 0 where
  pub descr : List ℕ
  pub stands : Stands bytes at descr end
  pub is : IsDescr descr size is_object

-- an order and a kind, and a number of which this is said
plain_so : (bytes : List ℕ) (at n end size : ℕ) (digits behind : List ℕ) → is_order (get_or bytes at 0) ≡ true → 0 < get_or bytes (at + 1) 0
    → Stands bytes (at + 2) (digits ++ behind) end → IsDecimal digits n → IsSized (get_or bytes (at + 1) 0) n behind size → ItemRead bytes at size false end
plain_so bytes at n end size digits behind ordered some stands decimal sized =
    let order = byte_stands bytes at (get_or bytes at 0) refl (of_order (λ (b : ℕ). 0 < b) (omega arith) (omega arith) (omega arith) (get_or bytes at 0) ordered) in
    let kind = byte_stands bytes (at + 1) (get_or bytes (at + 1) 0) refl some in
    let two : at + 2 ≡ at + 1 + 1 = omega arith in
    let rest : Stands bytes (at + 1 + 1) (digits ++ behind) end = subst (λ (p : ℕ). Stands bytes p (digits ++ behind) end) two stands in
    record {
      descr = get_or bytes at 0 ∷ get_or bytes (at + 1) 0 ∷ (digits ++ behind);
      stands = joined bytes at (at + 1) end (get_or bytes at 0 ∷ []) (get_or bytes (at + 1) 0 ∷ (digits ++ behind)) order
          (joined bytes (at + 1) (at + 1 + 1) end (get_or bytes (at + 1) 0 ∷ []) (digits ++ behind) kind rest);
      is = record {
        order = get_or bytes at 0;
        kind = get_or bytes (at + 1) 0;
        digits = digits;
        behind = behind;
        told = n;
        spelled = refl;
        ordered = ordered;
        number = decimal;
        sized = sized;
      };
    }

timed_so : (bytes : List ℕ) (at : ℕ) (n i : _) → is_order (get_or bytes at 0) ≡ true → is_time (get_or bytes (at + 1) 0) ≡ true → number_at bytes (at + 2) ≡ Ok n → timed bytes n ≡ Ok i
    → ItemRead bytes at i.size i.is_object i.end
timed_so bytes at n i ordered time number is =
    let r = number_read bytes (at + 2) n number in
    let b = bind_ok (behind_unit bytes n.end) (λ end. Ok (item n.value false end)) i is in
    let u = behind_read bytes n.end b.0 b.1 in
    let some : 0 < get_or bytes (at + 1) 0 = of_time (λ (x : ℕ). 0 < x) (omega arith) (omega arith) (get_or bytes (at + 1) 0) time in
    let base : ItemRead bytes at n.value false b.0 =
    plain_so bytes at n.value b.0 n.value r.text u.text ordered some (joined bytes (at + 2) n.end b.0 r.text u.text r.stands u.stands) r.decimal (inr (inr (time, (u.unit, refl)))) in
    subst (λ x. ItemRead bytes at x.size x.is_object x.end) (ok_same (item n.value false b.0) i b.2) base

unit_less : (bytes : List ℕ) (at end : ℕ) (digits : List ℕ) → Stands bytes at digits end → Stands bytes at (digits ++ []) end
unit_less bytes at end digits s = subst (λ (x : List ℕ). Stands bytes at x end) (sym (append-nil digits)) s

sized_by : (bytes : List ℕ) (at kind : ℕ) (n i : _) (texts : Bool) → (kind == 85) ≡ texts → is_order (get_or bytes at 0) ≡ true → get_or bytes (at + 1) 0 ≡ kind
    → ((is_plain kind ≡ true) ⊎ (kind ≡ 85)) → number_at bytes (at + 2) ≡ Ok n
    → (if texts then (if nat_lt most (n.value * 4) then refused reason.Number n.end else Ok (item (n.value * 4) false n.end)) else Ok (item n.value false n.end)) ≡ Ok i
    → ItemRead bytes at i.size i.is_object i.end
sized_by bytes at kind n i true texts ordered kind_is known number is =
    let r = number_read bytes (at + 2) n number in
    let p = passed_by (nat_lt most (n.value * 4)) (refusal_at reason.Number n.end) (Ok (item (n.value * 4) false n.end)) i is in
    let here : get_or bytes (at + 1) 0 ≡ 85 = kind_is ∙ eqb-true kind 85 texts in
    let base : ItemRead bytes at (n.value * 4) false n.end =
    plain_so bytes at n.value n.end (n.value * 4) r.text [] ordered (omega (arith, here)) (unit_less bytes (at + 2) n.end r.text r.stands) r.decimal (inr (inl (here, (refl, refl)))) in
    subst (λ x. ItemRead bytes at x.size x.is_object x.end) (ok_same (item (n.value * 4) false n.end) i p.1) base
sized_by bytes at kind n i false texts ordered kind_is (inr known) number is = absurd cc
sized_by bytes at kind n i false texts ordered kind_is (inl known) number is =
    let r = number_read bytes (at + 2) n number in
    let here : is_plain (get_or bytes (at + 1) 0) ≡ true = ap is_plain kind_is ∙ known in
    let some : 0 < get_or bytes (at + 1) 0 =
    of_plain (λ (x : ℕ). 0 < x) (omega arith) (omega arith) (omega arith) (omega arith) (omega arith) (omega arith) (omega arith) (get_or bytes (at + 1) 0) here in
    let base : ItemRead bytes at n.value false n.end =
    plain_so bytes at n.value n.end n.value r.text [] ordered some (unit_less bytes (at + 2) n.end r.text r.stands) r.decimal (inl (here, (refl, refl))) in
    subst (λ x. ItemRead bytes at x.size x.is_object x.end) (ok_same (item n.value false n.end) i is) base

kind_known : (kind : ℕ) → is_time kind ≡ false → (is_plain kind || (kind == 85 || is_time kind)) ≡ true → ((is_plain kind ≡ true) ⊎ (kind ≡ 85))
kind_known kind no_time is = first (or_cases (is_plain kind) (kind == 85 || is_time kind) is)
  where
    second : (((kind == 85) ≡ true) ⊎ (is_time kind ≡ true)) → ((is_plain kind ≡ true) ⊎ (kind ≡ 85))
    second (inl e) = inr (eqb-true kind 85 e)
    second (inr e) = absurd cc

    first : ((is_plain kind ≡ true) ⊎ ((kind == 85 || is_time kind) ≡ true)) → ((is_plain kind ≡ true) ⊎ (kind ≡ 85))
    first (inl e) = inl e
    first (inr e) = second (or_cases (kind == 85) (is_time kind) e)

kind_by : (bytes : List ℕ) (at : ℕ) (n i : _) (time : Bool) → is_time (get_or bytes (at + 1) 0) ≡ time → is_order (get_or bytes at 0) ≡ true
    → (is_plain (get_or bytes (at + 1) 0) || (get_or bytes (at + 1) 0 == 85 || is_time (get_or bytes (at + 1) 0))) ≡ true → number_at bytes (at + 2) ≡ Ok n
    → (if time then timed bytes n else sized (get_or bytes (at + 1) 0) n) ≡ Ok i → ItemRead bytes at i.size i.is_object i.end
kind_by bytes at n i true time ordered known number is = timed_so bytes at n i ordered time number is
kind_by bytes at n i false time ordered known number is =
    sized_by bytes at (get_or bytes (at + 1) 0) n i (get_or bytes (at + 1) 0 == 85) refl ordered refl (kind_known (get_or bytes (at + 1) 0) time known) number is

plain_read : (bytes : List ℕ) (at : ℕ) (i : _) → plain_item bytes at ≡ Ok i → ItemRead bytes at i.size i.is_object i.end
unfolding plain_item
plain_read bytes at i is =
    let kind : ℕ = get_or bytes (at + 1) 0 in
    let p = passed (is_order (get_or bytes at 0) && (is_plain kind || (kind == 85 || is_time kind))) (refusal_at reason.Item at)
    (number_at bytes (at + 2) >>= λ n. if is_time kind then timed bytes n else sized kind n) i is in
    let both = and_parts (is_order (get_or bytes at 0)) (is_plain kind || (kind == 85 || is_time kind)) p.0 in
    let b = bind_ok (number_at bytes (at + 2)) (λ n. if is_time kind then timed bytes n else sized kind n) i p.1 in
    kind_by bytes at b.0 i (is_time kind) refl both.0 both.1 b.1 b.2

object_by : (bytes : List ℕ) (at : ℕ) (i : _) (object : Bool) → (get_or bytes at 0 == 124 && get_or bytes (at + 1) 0 == 79) ≡ object
    → (if object then Ok (item 0 true (at + 2)) else plain_item bytes at) ≡ Ok i → ItemRead bytes at i.size i.is_object i.end
object_by bytes at i true object is =
    let both = and_parts (get_or bytes at 0 == 124) (get_or bytes (at + 1) 0 == 79) object in
    let bar = byte_stands bytes at 124 (eqb-true (get_or bytes at 0) 124 both.0) (omega arith) in
    let letter = byte_stands bytes (at + 1) 79 (eqb-true (get_or bytes (at + 1) 0) 79 both.1) (omega arith) in
    let two : at + 1 + 1 ≡ at + 2 = omega arith in
    let base : ItemRead bytes at 0 true (at + 2) =
    record { descr = 124 ∷ 79 ∷ []; stands = subst (Stands bytes at (124 ∷ 79 ∷ [])) two (joined bytes at (at + 1) (at + 1 + 1) (124 ∷ []) (79 ∷ []) bar letter); is = (refl, refl) } in
    subst (λ x. ItemRead bytes at x.size x.is_object x.end) (ok_same (item 0 true (at + 2)) i is) base
object_by bytes at i false object is = plain_read bytes at i is

item_read : (bytes : List ℕ) (at : ℕ) (i : _) → item_at bytes at ≡ Ok i → ItemRead bytes at i.size i.is_object i.end
unfolding item_at
item_read bytes at i is =
    let object : Bool = get_or bytes at 0 == 124 && get_or bytes (at + 1) 0 == 79 in
    object_by bytes at i object refl (passed_by (nat_lt (length bytes - at) 3) (refusal_at reason.Item at) (if object then Ok (item 0 true (at + 2)) else plain_item bytes at) i is).1

-- ---- the shape

times_is : (count n at all : ℕ) → times count n at ≡ Ok all → all ≡ count * n
times_is count n at all is = sym (ok_same (count * n) all (passed_by (nat_lt most (count * n)) (refusal_at reason.Number at) (Ok (count * n)) all is).1)

abbrev closing : Bool → ℕ
closing last = if last then 41 else 44

pub record AxisRead (bytes : List ℕ) (at count all end : ℕ) (last : Bool) : Type 0 where
  pub digits : List ℕ
  pub n : ℕ
  pub stands : Stands bytes at (32 ∷ (digits ++ (closing last ∷ []))) end
  pub decimal : IsDecimal digits n
  pub product : all ≡ count * n

pub record EndRead (bytes : List ℕ) (at count all end : ℕ) (last : Bool) : Type 0 where
  pub stands : Stands bytes at (closing last ∷ []) end
  pub same : all ≡ count

end_by : (bytes : List ℕ) (at count : ℕ) (a : _) (last : Bool) → (get_or bytes at 0 == 41) ≡ last
    → (if last then Ok (axis count (at + 1) true) else (word_at bytes at (44 ∷ []) >>= λ end. Ok (axis count end false))) ≡ Ok a → EndRead bytes at count a.count a.end a.last
end_by bytes at count a true last is =
    let base : EndRead bytes at count count (at + 1) true = record { stands = byte_stands bytes at 41 (eqb-true (get_or bytes at 0) 41 last) (omega arith); same = refl } in
    subst (λ x. EndRead bytes at count x.count x.end x.last) (ok_same (axis count (at + 1) true) a is) base
end_by bytes at count a false last is =
    let b = bind_ok (word_at bytes at (44 ∷ [])) (λ end. Ok (axis count end false)) a is in
    let base : EndRead bytes at count count b.0 false = record { stands = word_stands bytes at (44 ∷ []) b.0 b.1; same = refl } in
    subst (λ x. EndRead bytes at count x.count x.end x.last) (ok_same (axis count b.0 false) a b.2) base

axis_read : (bytes : List ℕ) (at count : ℕ) (a : _) → next_axis bytes at count ≡ Ok a → AxisRead bytes at count a.count a.end a.last
unfolding next_axis
axis_read bytes at count a is =
    let b = bind_ok (word_at bytes at (32 ∷ [])) (λ start. number_at bytes start >>= λ n. times count n.value n.end >>= λ all. ended bytes n.end all) a is in
    let c = bind_ok (number_at bytes b.0) (λ n. times count n.value n.end >>= λ all. ended bytes n.end all) a b.2 in
    let d = bind_ok (times count c.0.value c.0.end) (λ all. ended bytes c.0.end all) a c.2 in
    let n = number_read bytes b.0 c.0 c.1 in
    let e = end_by bytes c.0.end d.0 a (get_or bytes c.0.end 0 == 41) refl d.2 in
    record {
      digits = n.text;
      n = c.0.value;
      stands = joined bytes at b.0 a.end (32 ∷ []) (n.text ++ (closing a.last ∷ [])) (word_stands bytes at (32 ∷ []) b.0 b.1) (joined bytes b.0 c.0.end a.end n.text (closing a.last ∷ []) n.stands e.stands);
      decimal = n.decimal;
      product = e.same ∙ times_is count c.0.value c.0.end d.0 d.1;
    }

pub record AxesRead (bytes : List ℕ) (at count value end : ℕ) : Type 0 where
  pub text : List ℕ
  pub first : ℕ
  pub others : List ℕ
  pub stands : Stands bytes at (text ++ (41 ∷ [])) end
  pub axes : AreAxes (44 ∷ text) (first ∷ others)
  pub product : fold (λ c n. c * n) count (first ∷ others) ≡ value

axes_by : (k : ℕ) (bytes : List ℕ) (at count all end : ℕ) (n : _) (last : Bool) → AxisRead bytes at count all end last
    → (axes_from k bytes end all ≡ Ok n → AxesRead bytes end all n.value n.end) → (if last then Ok (number all end) else axes_from k bytes end all) ≡ Ok n → AxesRead bytes at count n.value n.end
axes_by k bytes at count all end n true a others is =
    let base : AxesRead bytes at count all end =
    record {
      text = 32 ∷ a.digits;
      first = a.n;
      others = [];
      stands = a.stands;
      axes = (a.digits, [], ap (λ (x : List ℕ). 44 ∷ 32 ∷ x) (sym (append-nil a.digits)), a.decimal, refl);
      product = sym a.product;
    } in
    subst (λ x. AxesRead bytes at count x.value x.end) (ok_same (number all end) n is) base
axes_by k bytes at count all end n false a others is =
    let r = others is in
    let text : List ℕ = 32 ∷ (a.digits ++ (44 ∷ r.text)) in
    let whole : (32 ∷ (a.digits ++ (44 ∷ []))) ++ (r.text ++ (41 ∷ [])) ≡ text ++ (41 ∷ []) =
    ap (λ (x : List ℕ). 32 ∷ x) (append_assoc a.digits (44 ∷ []) (r.text ++ (41 ∷ [])) ∙ sym (append_assoc a.digits (44 ∷ r.text) (41 ∷ []))) in
    record {
      text = text;
      first = a.n;
      others = r.first ∷ r.others;
      stands = subst (λ (x : List ℕ). Stands bytes at x n.end) whole (joined bytes at end n.end (32 ∷ (a.digits ++ (44 ∷ []))) (r.text ++ (41 ∷ [])) a.stands r.stands);
      axes = (a.digits, 44 ∷ r.text, refl, a.decimal, r.axes);
      product = ap (λ (c : ℕ). fold (λ c n. c * n) c (r.first ∷ r.others)) (sym a.product) ∙ r.product;
    }

axes_read : (k : ℕ) (bytes : List ℕ) (at count : ℕ) (n : _) → axes_from k bytes at count ≡ Ok n → AxesRead bytes at count n.value n.end
unfolding axes_from
axes_read zero bytes at count n is = absurd (no_value (refusal_at reason.Axes at) n is)
axes_read (suc k) bytes at count n is =
    let b = bind_ok (next_axis bytes at count) (λ a. if a.last then Ok (number a.count a.end) else axes_from k bytes a.end a.count) n is in
    axes_by k bytes at count b.0.count b.0.end n b.0.last (axis_read bytes at count b.0 b.1) (axes_read k bytes b.0.end b.0.count n) b.2

pub record ShapeRead (bytes : List ℕ) (at value end : ℕ) : Type 0 where
  pub axes : List ℕ
  pub shape : List ℕ
  pub stands : Stands bytes at (axes ++ (41 ∷ [])) end
  pub is : IsShape axes shape
  pub count : count_of shape ≡ value

-- a number and a comma, and a bracket if it is alone
pub record FirstRead (bytes : List ℕ) (at count end : ℕ) (last : Bool) : Type 0 where
  pub digits : List ℕ
  pub stands : Stands bytes at (digits ++ (44 ∷ (if last then 41 ∷ [] else []))) end
  pub decimal : IsDecimal digits count

abbrev answer : {A : Type 0} → A → Result A Refusal
answer x = Ok x

first_by : (bytes : List ℕ) (at count comma : ℕ) (a : _) (digits : List ℕ) (last : Bool) → Stands bytes at (digits ++ (44 ∷ [])) comma → IsDecimal digits count → (get_or bytes comma 0 == 41) ≡ last
    → (if last then answer (axis count (comma + 1) true) else answer (axis count comma false)) ≡ answer a → FirstRead bytes at a.count a.end a.last
first_by bytes at count comma a digits true s d last is =
    let bracket = byte_stands bytes comma 41 (eqb-true (get_or bytes comma 0) 41 last) (omega arith) in
    let base : FirstRead bytes at count (comma + 1) true =
    record {
      digits = digits;
      stands = subst (λ (x : List ℕ). Stands bytes at x (comma + 1)) (append_assoc digits (44 ∷ []) (41 ∷ [])) (joined bytes at comma (comma + 1) (digits ++ (44 ∷ [])) (41 ∷ []) s bracket);
      decimal = d;
    } in
    subst (λ x. FirstRead bytes at x.count x.end x.last) (ok_same (axis count (comma + 1) true) a is) base
first_by bytes at count comma a digits false s d last is =
    let base : FirstRead bytes at count comma false = record { digits = digits; stands = s; decimal = d } in
    subst (λ x. FirstRead bytes at x.count x.end x.last) (ok_same (axis count comma false) a is) base

first_read : (bytes : List ℕ) (at : ℕ) (a : _) → first_axis bytes at ≡ Ok a → FirstRead bytes at a.count a.end a.last
unfolding first_axis
first_read bytes at a is =
    let b = bind_ok (number_at bytes at) (λ n. word_at bytes n.end (44 ∷ []) >>= λ end. if get_or bytes end 0 == 41 then Ok (axis n.value (end + 1) true) else Ok (axis n.value end false)) a is in
    let c = bind_ok (word_at bytes b.0.end (44 ∷ [])) (λ end. if get_or bytes end 0 == 41 then Ok (axis b.0.value (end + 1) true) else Ok (axis b.0.value end false)) a b.2 in
    let n = number_read bytes at b.0 b.1 in
    first_by bytes at b.0.value c.0 a n.text (get_or bytes c.0 0 == 41) (joined bytes at b.0.end c.0 n.text (44 ∷ []) n.stands (word_stands bytes b.0.end (44 ∷ []) c.0 c.1)) n.decimal refl c.2

one_count : (count : ℕ) → 1 * count ≡ count
one_count count = omega arith

shape_by : (bytes : List ℕ) (at count end : ℕ) (n : _) (last : Bool) → FirstRead bytes at count end last → (if last then Ok (number count end) else axes_from 63 bytes end count) ≡ Ok n
    → ShapeRead bytes at n.value n.end
shape_by bytes at count end n true f is =
    let base : ShapeRead bytes at count end =
    record {
      axes = f.digits ++ (44 ∷ []);
      shape = count ∷ [];
      stands = subst (λ (x : List ℕ). Stands bytes at x end) (sym (append_assoc f.digits (44 ∷ []) (41 ∷ []))) f.stands;
      is = (f.digits, refl, f.decimal);
      count = one_count count;
    } in
    subst (λ x. ShapeRead bytes at x.value x.end) (ok_same (number count end) n is) base
shape_by bytes at count end n false f is =
    let r = axes_read 63 bytes end count n is in
    let whole : (f.digits ++ (44 ∷ [])) ++ (r.text ++ (41 ∷ [])) ≡ (f.digits ++ (44 ∷ r.text)) ++ (41 ∷ []) =
    append_assoc f.digits (44 ∷ []) (r.text ++ (41 ∷ [])) ∙ sym (append_assoc f.digits (44 ∷ r.text) (41 ∷ [])) in
    record {
      axes = f.digits ++ (44 ∷ r.text);
      shape = count ∷ r.first ∷ r.others;
      stands = subst (λ (x : List ℕ). Stands bytes at x n.end) whole (joined bytes at end n.end (f.digits ++ (44 ∷ [])) (r.text ++ (41 ∷ [])) f.stands r.stands);
      is = (f.digits, 44 ∷ r.text, refl, f.decimal, r.axes);
      count = ap (λ (c : ℕ). fold (λ c n. c * n) c (r.first ∷ r.others)) (one_count count) ∙ r.product;
    }

empty_by : (bytes : List ℕ) (at : ℕ) (n : _) (none : Bool) → (get_or bytes at 0 == 41) ≡ none
    → (if none then Ok (number 1 (at + 1)) else (first_axis bytes at >>= λ a. if a.last then Ok (number a.count a.end) else axes_from 63 bytes a.end a.count)) ≡ Ok n
    → ShapeRead bytes at n.value n.end
empty_by bytes at n true none is =
    let base : ShapeRead bytes at 1 (at + 1) = record { axes = []; shape = []; stands = byte_stands bytes at 41 (eqb-true (get_or bytes at 0) 41 none) (omega arith); is = refl; count = refl } in
    subst (λ x. ShapeRead bytes at x.value x.end) (ok_same (number 1 (at + 1)) n is) base
empty_by bytes at n false none is =
    let b = bind_ok (first_axis bytes at) (λ a. if a.last then Ok (number a.count a.end) else axes_from 63 bytes a.end a.count) n is in
    shape_by bytes at b.0.count b.0.end n b.0.last (first_read bytes at b.0 b.1) b.2

shape_read : (bytes : List ℕ) (at : ℕ) (n : _) → shape_at bytes at ≡ Ok n → ShapeRead bytes at n.value n.end
unfolding shape_at
shape_read bytes at n is = empty_by bytes at n (get_or bytes at 0 == 41) refl is

-- ---- the literal

pub record FlagRead (bytes : List ℕ) (at end : ℕ) : Type 0 where
  pub flag : Bool
  pub stands : Stands bytes at (flag_word flag) end

flag_by : (bytes : List ℕ) (at end : ℕ) (flag : Bool) → starts_with eqb (drop at bytes) true_word ≡ flag → (if flag then Ok (at + 4) else word_at bytes at false_word) ≡ Ok end → FlagRead bytes at end
flag_by bytes at end true flag is =
    record { flag = true; stands = stands_from bytes at true_word (drop (length true_word) (drop at bytes)) end (begins_so (drop at bytes) true_word flag) (sym (ok_same (at + 4) end is)) }
flag_by bytes at end false flag is = record { flag = false; stands = word_stands bytes at false_word end is }

quote_read : (bytes : List ℕ) (at end : ℕ) → quote_at bytes at ≡ Ok end → Stands bytes at (39 ∷ []) end
quote_read bytes at end is =
    let p = passed (get_or bytes at 0 == 39) (refusal_at reason.Item at) (Ok (at + 1)) end is in
    subst (Stands bytes at (39 ∷ [])) (ok_same (at + 1) end p.1) (byte_stands bytes at 39 (eqb-true (get_or bytes at 0) 39 p.0) (omega arith))

-- the items in quotes, and the words on either side
pub record ItemsRead (bytes : List ℕ) (at size : ℕ) (is_object : Bool) (end : ℕ) : Type 0 where
  pub descr : List ℕ
  pub stands : Stands bytes at (front_word ++ (39 ∷ (descr ++ order_word))) end
  pub is : IsDescr descr size is_object

items_read : (bytes : List ℕ) (at : ℕ) (i : _) → items_at bytes at ≡ Ok i → ItemsRead bytes at i.size i.is_object i.end
items_read bytes at i is =
    let b = bind_ok (word_at bytes at front_word) (λ front. quote_at bytes front >>= λ quote. item_at bytes quote >>= λ told. word_at bytes told.end order_word >>= λ end. Ok (item told.size told.is_object end)) i is in
    let c = bind_ok (quote_at bytes b.0) (λ quote. item_at bytes quote >>= λ told. word_at bytes told.end order_word >>= λ end. Ok (item told.size told.is_object end)) i b.2 in
    let d = bind_ok (item_at bytes c.0) (λ told. word_at bytes told.end order_word >>= λ end. Ok (item told.size told.is_object end)) i c.2 in
    let e = bind_ok (word_at bytes d.0.end order_word) (λ end. Ok (item d.0.size d.0.is_object end)) i d.2 in
    let r = item_read bytes c.0 d.0 d.1 in
    let base : ItemsRead bytes at d.0.size d.0.is_object e.0 =
    record {
      descr = r.descr;
      stands = joined bytes at b.0 e.0 front_word (39 ∷ (r.descr ++ order_word)) (word_stands bytes at front_word b.0 b.1)
          (joined bytes b.0 c.0 e.0 (39 ∷ []) (r.descr ++ order_word) (quote_read bytes b.0 c.0 c.1)
          (joined bytes c.0 d.0.end e.0 r.descr order_word r.stands (word_stands bytes d.0.end order_word e.0 e.1)));
      is = r.is;
    } in
    subst (λ x. ItemsRead bytes at x.size x.is_object x.end) (ok_same (item d.0.size d.0.is_object e.0) i e.2) base

pub record LiteralRead (bytes : List ℕ) (at size : ℕ) (is_object : Bool) (count end : ℕ) : Type 0 where
  pub descr : List ℕ
  pub flag : Bool
  pub axes : List ℕ
  pub shape : List ℕ
  pub stands : Stands bytes at (literal_of descr flag axes) end
  pub items : IsDescr descr size is_object
  pub shaped : IsShape axes shape
  pub counted : count_of shape ≡ count

literal_whole : (descr : List ℕ) (flag : Bool) (axes : List ℕ)
    → (front_word ++ (39 ∷ (descr ++ order_word))) ++ (flag_word flag ++ (shape_word ++ ((axes ++ (41 ∷ [])) ++ back_word))) ≡ literal_of descr flag axes
literal_whole descr flag axes =
    ap (λ (x : List ℕ). front_word ++ (39 ∷ x)) (append_assoc descr order_word (flag_word flag ++ (shape_word ++ ((axes ++ (41 ∷ [])) ++ back_word)))
    ∙ ap (λ (x : List ℕ). descr ++ (order_word ++ (flag_word flag ++ (shape_word ++ x)))) (append_assoc axes (41 ∷ []) back_word))

literal_read : (bytes : List ℕ) (at : ℕ) (l : _) → literal_at bytes at ≡ Ok l → LiteralRead bytes at l.item.size l.item.is_object l.count l.end
unfolding literal_at
literal_read bytes at l is =
    let b = bind_ok (items_at bytes at) (λ told. flag_at bytes told.end >>= λ flag. word_at bytes flag shape_word >>= λ shape. shape_at bytes shape >>= λ count. word_at bytes count.end back_word >>= λ back. Ok (literal told count.value back)) l is in
    let c = bind_ok (flag_at bytes b.0.end) (λ flag. word_at bytes flag shape_word >>= λ shape. shape_at bytes shape >>= λ count. word_at bytes count.end back_word >>= λ back. Ok (literal b.0 count.value back)) l b.2 in
    let d = bind_ok (word_at bytes c.0 shape_word) (λ shape. shape_at bytes shape >>= λ count. word_at bytes count.end back_word >>= λ back. Ok (literal b.0 count.value back)) l c.2 in
    let e = bind_ok (shape_at bytes d.0) (λ count. word_at bytes count.end back_word >>= λ back. Ok (literal b.0 count.value back)) l d.2 in
    let f = bind_ok (word_at bytes e.0.end back_word) (λ back. Ok (literal b.0 e.0.value back)) l e.2 in
    let items = items_read bytes at b.0 b.1 in
    let flag = flag_by bytes b.0.end c.0 (starts_with eqb (drop b.0.end bytes) true_word) refl c.1 in
    let shape = shape_read bytes d.0 e.0 e.1 in
    let all = joined bytes at b.0.end f.0 (front_word ++ (39 ∷ (items.descr ++ order_word))) (flag_word flag.flag ++ (shape_word ++ ((shape.axes ++ (41 ∷ [])) ++ back_word))) items.stands
    (joined bytes b.0.end c.0 f.0 (flag_word flag.flag) (shape_word ++ ((shape.axes ++ (41 ∷ [])) ++ back_word)) flag.stands
    (joined bytes c.0 d.0 f.0 shape_word ((shape.axes ++ (41 ∷ [])) ++ back_word) (word_stands bytes c.0 shape_word d.0 d.1)
    (joined bytes d.0 e.0.end f.0 (shape.axes ++ (41 ∷ [])) back_word shape.stands (word_stands bytes e.0.end back_word f.0 f.1)))) in
    let base : LiteralRead bytes at b.0.size b.0.is_object e.0.value f.0 =
    record {
      descr = items.descr;
      flag = flag.flag;
      axes = shape.axes;
      shape = shape.shape;
      stands = subst (λ (x : List ℕ). Stands bytes at x f.0) (literal_whole items.descr flag.flag shape.axes) all;
      items = items.is;
      shaped = shape.is;
      counted = shape.count;
    } in
    subst (λ x. LiteralRead bytes at x.item.size x.item.is_object x.count x.end) (ok_same (literal b.0 e.0.value f.0) l f.2) base

-- ---- the file

-- the version and the size of the header
pub record FrontRead (bytes : List ℕ) (end : ℕ) : Type 0 where
  pub long : 12 ≤ length bytes
  pub begins : begins_as_array bytes ≡ true
  pub version : is_version (get_or bytes 6 0) (get_or bytes 7 0) ≡ true
  pub within : header_size bytes ≤ length bytes
  pub even : header_size bytes % 16 ≡ 0
  pub end_is : end ≡ header_size bytes

front_read : (bytes : List ℕ) (end : ℕ) → header_end bytes ≡ Ok end → FrontRead bytes end
unfolding header_end
front_read bytes end is =
    let sized : Result ℕ Refusal = if header_size bytes % 16 == 0 then Ok (header_size bytes) else refused reason.Length 8 in
    let within : Result ℕ Refusal = if nat_lt (length bytes) (header_size bytes) then refused reason.Cut (length bytes) else sized in
    let known : Bool = begins_as_array bytes && is_version (get_or bytes 6 0) (get_or bytes 7 0) in
    let a = passed_by (nat_lt (length bytes) 12) (refusal_at reason.Cut (length bytes)) (if known then within else refused reason.Version 6) end is in
    let b = passed known (refusal_at reason.Version 6) within end a.1 in
    let c = passed_by (nat_lt (length bytes) (header_size bytes)) (refusal_at reason.Cut (length bytes)) sized end b.1 in
    let d = passed (header_size bytes % 16 == 0) (refusal_at reason.Length 8) (Ok (header_size bytes)) end c.1 in
    let both = and_parts (begins_as_array bytes) (is_version (get_or bytes 6 0) (get_or bytes 7 0)) b.0 in
    record {
      long = ltb-false (length bytes) 12 a.0;
      begins = both.0;
      version = both.1;
      within = ltb-false (length bytes) (header_size bytes) c.0;
      even = eqb-true (header_size bytes % 16) 0 d.0;
      end_is = sym (ok_same (header_size bytes) end d.1);
    }

-- blanks and a newline up to a place
pub record PaddingRead (bytes : List ℕ) (at end : ℕ) : Type 0 where
  pub blanks : List ℕ
  pub all : list_all (eqb 32) blanks ≡ true
  pub size : at + (length blanks + 1) ≡ end
  pub cut : drop at bytes ≡ blanks ++ (10 ∷ drop end bytes)

padding_read : (bytes : List ℕ) (at end : ℕ) → end ≤ length bytes → is_padded bytes at end ≡ true → PaddingRead bytes at end
padding_read bytes at end within is =
    let k : ℕ = end - 1 - at in
    let rest : List ℕ = drop at bytes in
    let a = and_parts (nat_lt at end) (get_or bytes (end - 1) 0 == 10 && list_all (eqb 32) (take k rest)) is in
    let b = and_parts (get_or bytes (end - 1) 0 == 10) (list_all (eqb 32) (take k rest)) a.1 in
    let before : at < end = ltb-true at end a.0 in
    let newline : get_or bytes (end - 1) 0 ≡ 10 = eqb-true (get_or bytes (end - 1) 0) 10 b.0 in
    let here : at + k ≡ end - 1 = omega arith in
    let next : end - 1 + 1 ≡ end = omega arith in
    let last : drop (end - 1) bytes ≡ 10 ∷ drop end bytes =
    drop_more bytes (end - 1) 0 (omega arith) ∙ ap (λ (x : ℕ). x ∷ drop (end - 1 + 1) bytes) newline ∙ ap (λ (n : ℕ). 10 ∷ drop n bytes) next in
    let behind : drop k rest ≡ 10 ∷ drop end bytes = drop-drop k at bytes ∙ ap (λ (n : ℕ). drop n bytes) here ∙ last in
    record {
      blanks = take k rest;
      all = b.1;
      size = omega (arith, length-take-le k rest (omega (arith, length-drop at bytes)));
      cut = sym (take-append-drop k rest) ∙ ap (λ (x : List ℕ). take k rest ++ x) behind;
    }

-- what is behind the header is what the literal tells
pub record ContentRead (bytes : List ℕ) (size : ℕ) (is_object : Bool) (count end : ℕ) (found : Held) : Type 0 where
  pub kind : found ≡ (if is_object then held.Pickle else held.Numbers)
  pub filled : is_object ≡ false → length (drop end bytes) ≡ count * size

content_by : (bytes : List ℕ) (size count end : ℕ) (is_object : Bool) (found : Held)
    → (if is_object then Ok held.Pickle else (times count size end >>= λ all. if length bytes - end == all then Ok held.Numbers else refused reason.Size end)) ≡ Ok found
    → ContentRead bytes size is_object count end found
content_by bytes size count end true found is = record { kind = sym (ok_same held.Pickle found is); filled = λ e. absurd cc }
content_by bytes size count end false found is =
    let b = bind_ok (times count size end) (λ all. if length bytes - end == all then Ok held.Numbers else refused reason.Size end) found is in
    let p = passed (length bytes - end == b.0) (refusal_at reason.Size end) (Ok held.Numbers) found b.2 in
    record {
      kind = sym (ok_same held.Numbers found p.1);
      filled = λ e. length-drop end bytes ∙ eqb-true (length bytes - end) b.0 p.0 ∙ times_is count size end b.0 b.1;
    }

start_bound : (bytes : List ℕ) → text_start bytes ≤ 12
start_bound bytes = by (get_or bytes 6 0 == 1) refl
  where
    by : (one : Bool) → (get_or bytes 6 0 == 1) ≡ one → (if one then 10 else 12) ≤ 12
    by true e = omega arith
    by false e = omega arith

filled_so : (a : Array) (o : Bool) → (o ≡ false → length a.content ≡ count_of a.shape * a.size) → IsFilled o a
filled_so a true f = tt
filled_so a false f = f refl

pub what_is_read_is_written : (bytes : List ℕ) (found : Held) → read_array bytes ≡ Ok found → IsRead bytes found
unfolding read_array
what_is_read_is_written bytes found is =
    let b = bind_ok (header_end bytes) (λ end. literal_at bytes (text_start bytes) >>= λ l. if is_padded bytes l.end end then content bytes l end else refused reason.Text l.end) found is in
    let end : ℕ = b.0 in
    let c = bind_ok (literal_at bytes (text_start bytes)) (λ l. if is_padded bytes l.end end then content bytes l end else refused reason.Text l.end) found b.2 in
    let l = c.0 in
    let p = passed (is_padded bytes l.end end) (refusal_at reason.Text l.end) (content bytes l end) found c.2 in
    let f = front_read bytes end b.1 in
    let r = literal_read bytes (text_start bytes) l c.1 in
    let padding = padding_read bytes l.end end (omega (arith, f.within, f.end_is)) p.0 in
    let held = content_by bytes l.item.size l.count end l.item.is_object found p.1 in
    let start : ℕ = text_start bytes in
    let front : List ℕ = take start bytes in
    let front_long : length front ≡ start = length-take-le start bytes (omega (arith, start_bound bytes, f.long)) in
    let text : List ℕ = literal_of r.descr r.flag r.axes in
    let array : Array =
    record { descr = r.descr; size = l.item.size; is_object = l.item.is_object; fortran_order = r.flag; shape = r.shape; content = drop end bytes } in
    record {
      array = array;
      written = record {
        front = front;
        axes = r.axes;
        blanks = padding.blanks;
        spelled = sym (take-append-drop start bytes) ∙ ap (λ (x : List ℕ). front ++ x) (r.stands.cut ∙ ap (λ (x : List ℕ). text ++ x) padding.cut);
        begins = f.begins;
        version = f.version;
        front_size = front_long;
        size_told = added start (length text) (length padding.blanks) l.end end (length front) (header_size bytes) front_long r.stands.place padding.size f.end_is;
        even = f.even;
        items = r.items;
        shaped = r.shaped;
        blank = padding.all;
        filled = filled_so array l.item.is_object (λ e. held.filled e ∙ ap (λ (n : ℕ). n * l.item.size) (sym r.counted));
      };
      kind = held.kind;
      behind = ap (λ (n : ℕ). drop n bytes) (sym f.end_is);
    }
  where
    added : (s t k e n f h : ℕ) → f ≡ s → e ≡ s + t → e + (k + 1) ≡ n → n ≡ h → f + (t + (k + 1)) ≡ h
    added s t k e n f h p q r u = omega arith
