-- The axes behind the first, one after another.
use Rattle.std.proofs.Common.{◌≡◌, ℕ, zero, suc, ◌+◌, ◌-◌, ◌<◌, ◌≤◌, Bool, true, false, List, Ok, Err, refl, sym, ap, subst, ◌∙◌, arith}
use Rattle.std.specs.Prelude.{Result, if◌then◌else◌}
use Rattle.npy_form.specs.declared.reason.Reason.TheVariants as reason
use Rattle.npy_form.specs.declared.reason.Refusal.{Refusal}
use Rattle.npy_form.specs.declared.text.Number.{Number}
use Rattle.npy_form.specs.declared.shape.Axis.{Axis}
use Rattle.npy_form.specs.Outcome.{◌>>=◌, refused}
use Rattle.npy_form.specs.Text.{number}
use Rattle.npy_form.specs.Shape.{next_axis, axes_from}

-- with this axis
abbrev with_axis : ℕ → List ℕ → Axis → Result Number Refusal
with_axis k bytes a = if a.last then Ok (number a.count a.end) else axes_from k bytes a.end a.count

one_more : (k : ℕ) (bytes : List ℕ) (at count : ℕ) → axes_from (suc k) bytes at count ≡ (next_axis bytes at count >>= λ a. with_axis k bytes a)
unfolding axes_from
one_more k bytes at count = refl

step : (i : ℕ) (bytes : List ℕ) (at count : ℕ) → i < 63 → axes_from (63 - i) bytes at count ≡ (next_axis bytes at count >>= λ a. with_axis (63 - (i + 1)) bytes a)
step i bytes at count below =
    let next : 63 - i ≡ suc (63 - (i + 1)) = omega arith in
    ap (λ (k : ℕ). axes_from k bytes at count) next ∙ one_more (63 - (i + 1)) bytes at count

after : (i : ℕ) (bytes : List ℕ) (at count : ℕ) (r : Result Axis Refusal) → i < 63 → r ≡ next_axis bytes at count
    → axes_from (63 - i) bytes at count ≡ (r >>= λ a. with_axis (63 - (i + 1)) bytes a)
after i bytes at count r below is = step i bytes at count below ∙ ap (λ (s : Result Axis Refusal). s >>= λ a. with_axis (63 - (i + 1)) bytes a) (sym is)

-- the whole is what is left
pub fails_at : (i : ℕ) (bytes : List ℕ) (at count : ℕ) (e : Refusal) (whole : Result Number Refusal) → axes_from (63 - i) bytes at count ≡ whole → i < 63
    → Err e ≡ next_axis bytes at count → Err e ≡ whole
fails_at i bytes at count e whole left below is = sym (after i bytes at count (Err e) below is) ∙ left

pub ends_at : (i : ℕ) (bytes : List ℕ) (at count : ℕ) (a : Axis) (whole : Result Number Refusal) → axes_from (63 - i) bytes at count ≡ whole → i < 63
    → Ok a ≡ next_axis bytes at count → a.last ≡ true → Ok (number a.count a.end) ≡ whole
ends_at i bytes at count a whole left below is last =
    sym (after i bytes at count (Ok a) below is ∙ ap (λ (b : Bool). if b then Ok (number a.count a.end) else axes_from (63 - (i + 1)) bytes a.end a.count) last) ∙ left

pub goes_at : (i : ℕ) (bytes : List ℕ) (at count : ℕ) (a : Axis) (whole : Result Number Refusal) → axes_from (63 - i) bytes at count ≡ whole → i < 63
    → Ok a ≡ next_axis bytes at count → a.last ≡ false → axes_from (63 - (i + 1)) bytes a.end a.count ≡ whole
goes_at i bytes at count a whole left below is last =
    sym (after i bytes at count (Ok a) below is ∙ ap (λ (b : Bool). if b then Ok (number a.count a.end) else axes_from (63 - (i + 1)) bytes a.end a.count) last) ∙ left

none_so : (bytes : List ℕ) (at count : ℕ) → axes_from 0 bytes at count ≡ refused reason.Axes at
unfolding axes_from
none_so bytes at count = refl

pub none_left : (i : ℕ) (bytes : List ℕ) (at count : ℕ) (whole : Result Number Refusal) → axes_from (63 - i) bytes at count ≡ whole → 63 ≤ i → refused reason.Axes at ≡ whole
none_left i bytes at count whole left all =
    let none : 63 - i ≡ 0 = omega (arith, all) in
    sym (ap (λ (k : ℕ). axes_from k bytes at count) none ∙ none_so bytes at count) ∙ left
