-- What the code takes from a part that it read or that stopped, and from a byte that it tested.
use mathlib.Core.Path.{◌≡◌, refl, sym, ap, subst, ◌∙◌}
use mathlib.Core.Bool.{Bool, true, false, cond, ◌&&◌}
use mathlib.Core.List.{List}
use Prim.Native.Nat.{ℕ, ◌+◌, ◌*◌, ◌<◌}
use native.Mathlib.Omega.{arith}
use lib.Dec.{eqb}
use lib.ListN.{get_or}
use borrow.Author.Tests.{eq-eqb, ne_eqb}
use Rattle.std.specs.Prelude.{Some, None, Result, Ok, Err, IsErrAnd}
use Rattle.std.proofs.lemmas.Result.{err_from_is_err_and}
use Rattle.form.specs.declared.Stop.{Stop}
use Rattle.form.specs.Verdict.{stops_at}
use Rattle.datetime.specs.Plain.{is_digit, pair, pair_at}
use Rattle.datetime.specs.Reading.{and_then, within, two, pair_stop, two_digits}
use Rattle.datetime.specs.Instant.{digit_of}
use Rattle.datetime.proofs.Onward.{in_range}

module _ {A B : Type 0} (f : A → Result B Stop) {r v : Result A Stop} (e : r ≡ v) where
  pub went : {a : A} {x : Result B Stop} → r ≡ Ok a → x ≡ f a → x ≡ and_then v f
  went w g = g ∙ sym (ap (λ (q : Result A Stop). and_then q f) (sym e ∙ w))

  pub halts : {y : Stop} {out : Result B Stop} → IsErrAnd out (λ x. x ≡ y) → r ≡ Err y → out ≡ and_then v f
  halts {y} {out} o w =
      let p = err_from_is_err_and out o in
      p.1 ∙ ap (λ (x : Stop). Err x) p.2 ∙ sym (ap (λ (q : Result A Stop). and_then q f) (sym e ∙ w))

-- the code's test of a byte, or of a length, is the definition's
module _ {r e j : ℕ} (is-e : r ≡ e) where
  pub stands : r ≡ j → eqb e j ≡ true
  stands f = eq-eqb e j (sym is-e ∙ f)

  pub lacks : (r ≡ j → ⊥) → eqb e j ≡ false
  lacks n = ne_eqb e j (λ f. n (is-e ∙ f))

-- two digits, by what the code finds of their bytes
two_some : (a b v : ℕ) → two a b ≡ Some v → v ≡ pair a b
two_some a b v = go (is_digit a && is_digit b) refl
  where
    go : (t : Bool) → (is_digit a && is_digit b) ≡ t → cond t (Some (pair a b)) None ≡ Some v → v ≡ pair a b
    go true e h = cc
    go false e h = absurd (let z : ◌≡◌ {A = ℕ} 0 1 = cc in omega arith)

above : (least most : ℕ) → most < 100 → within least most 255 ≡ false
above least most m = go (within least most 255) refl
  where
    go : (w : Bool) → within least most 255 ≡ w → w ≡ false
    go true e = absurd (omega (arith, (in_range least most 255 e).1))
    go false e = refl

pub two_none : (a b least most : ℕ) → most < 100 → two a b ≡ None → within least most (pair a b) ≡ false
two_none a b least most m = go (is_digit a && is_digit b)
  where
    go : (t : Bool) → cond t (Some (pair a b)) None ≡ None → within least most (cond t (digit_of a * 10 + digit_of b) 255) ≡ false
    go true e = absurd (let z : ◌≡◌ {A = ℕ} 0 1 = cc in omega arith)
    go false e = above least most m

module _ (s : List ℕ) (i least most : ℕ) where
  pub found : (v : ℕ) → two (get_or s i 0) (get_or s (i + 1) 0) ≡ Some v → within least most v ≡ true → Ok v ≡ two_digits s i least most
  unfolding two_digits
  found v e w =
      let p = two_some (get_or s i 0) (get_or s (i + 1) 0) v e in
      ap (λ (x : ℕ). Ok x) p ∙ sym (rw (subst (λ (x : ℕ). within least most x ≡ true) p w))

  pub missed : (n : ℕ) → within least most (pair_at s i) ≡ false → n ≡ pair_stop s i least most → stops_at n ≡ two_digits s i least most
  unfolding two_digits
  missed n w e = ap (λ (k : ℕ). stops_at {A = ℕ} k) e ∙ sym (rw w)

  pub not_in : (v : ℕ) → two (get_or s i 0) (get_or s (i + 1) 0) ≡ Some v → within least most v ≡ false → within least most (pair_at s i) ≡ false
  not_in v e w = subst (λ (x : ℕ). within least most x ≡ false) (two_some (get_or s i 0) (get_or s (i + 1) 0) v e) w
