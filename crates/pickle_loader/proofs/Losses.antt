-- The search for the first item that loses bytes.
use Rattle.std.proofs.Common.{◌≡◌, ℕ, zero, suc, Bool, true, false, Option, Some, None, refl, sym, ap, ◌∙◌, arith}
use Rattle.std.specs.Prelude.{is_some, if◌then◌else◌}
use Rattle.pickle_text.specs.declared.closing.Closing.{Closing}
use Rattle.pickle_further.specs.declared.seek.Sought.TheVariants as sought
use Rattle.pickle_further.specs.declared.way.Way.{Way}
use Rattle.pickle_further.specs.Going.{Standing, going, stands_after, search}
use Rattle.pickle_loader.specs.Onward.{stands_behind, stands_on, stands, NoneLost, IsFound, LossIsFound}

-- ---- from the item behind

pub shifted : (w : Way) (p r : Standing) (j : ℕ) → stands_behind p (going w p) ≡ Some r → stands w p (suc j) ≡ stands w r j
unfolding stands
shifted w p r zero e = e
shifted w p r (suc j) e = ap (stands_on w) (shifted w p r j e)

pub over : (w : Way) (p : Standing) (j : ℕ) → stands_behind p (going w p) ≡ None → stands w p (suc j) ≡ None
unfolding stands
over w p zero e = e
over w p (suc j) e = ap (stands_on w) (over w p j e)

pub first_is : (w : Way) (p q : Standing) → stands w p 0 ≡ Some q → p ≡ q
unfolding stands
first_is w p q e = cc

-- the first item loses nothing, and none behind it
none_more : (w : Way) (p r : Standing) (n : ℕ) → (going w p).gone.lost ≡ false → stands_behind p (going w p) ≡ Some r → NoneLost w r n → NoneLost w p (suc n)
none_more w p r n kept leads none zero q less e = ap (λ (x : Standing). (going w x).gone.lost) (sym (first_is w p q e)) ∙ kept
none_more w p r n kept leads none (suc j) q less e = none j q (omega (arith, less)) (sym (shifted w p r j leads) ∙ e)

none_over : (w : Way) (p : Standing) (n : ℕ) → (going w p).gone.lost ≡ false → stands_behind p (going w p) ≡ None → NoneLost w p n
none_over w p n kept ends zero q less e = ap (λ (x : Standing). (going w x).gone.lost) (sym (first_is w p q e)) ∙ kept
none_over w p n kept ends (suc j) q less e = let bad : None ≡ Some q = sym (over w p j ends) ∙ e in absurd cc

-- ---- the search

found_here : (w : Way) (p : Standing) (n : ℕ) → (going w p).gone.lost ≡ true → IsFound w p n (Some p)
unfolding stands
found_here w p n lost = (0, refl, (λ j q less e. absurd (omega (arith, less))), lost)

found_behind : (w : Way) (p r : Standing) (n : ℕ) (x : Option Standing) → (going w p).gone.lost ≡ false → stands_behind p (going w p) ≡ Some r → IsFound w r n x → IsFound w p (suc n) x
found_behind w p r n None kept leads none = none_more w p r n kept leads none
found_behind w p r n (Some q) kept leads (k, there, none, lost) = (suc k, shifted w p r k leads ∙ there, none_more w p r k kept leads none, lost)

found_on : (w : Way) (p : Standing) (n : ℕ) (b : Bool) (c : Option Closing) (more : Option Standing) → (going w p).gone.lost ≡ b → (going w p).gone.closing ≡ c → IsFound w (stands_after p (going w p)) n more
    → IsFound w p (suc n) (if b then Some p else (if is_some c then None else more))
found_on w p n true c more lost is found = found_here w p (suc n) lost
found_on w p n false (Some c) more kept is found = none_over w p (suc n) kept (ap (λ (x : Option Closing). if is_some x then None else Some (stands_after p (going w p))) is)
found_on w p n false None more kept is found = found_behind w p (stands_after p (going w p)) n more kept (ap (λ (x : Option Closing). if is_some x then None else Some (stands_after p (going w p))) is) found

pub loss_is_found : LossIsFound
unfolding search
loss_is_found zero w p = λ j q less e. absurd (omega (arith, less))
loss_is_found (suc n) w p =
    found_on w p n (going w p).gone.lost (going w p).gone.closing (search sought.Lost n w (stands_after p (going w p))) refl refl (loss_is_found n w (stands_after p (going w p)))
