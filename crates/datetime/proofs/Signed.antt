-- Signed milliseconds: the machine's difference and sum of two counts are the integers'; what writing answers.
use mathlib.Core.Path.{◌≡◌, refl, sym, ap, subst⁻¹, ◌∙◌}
use mathlib.Core.Bool.{Bool, true, false, cond, ◌&&◌}
use Prim.Native.Nat.{ℕ, zero, suc, ◌+◌, ◌-◌, ◌≤◌, ◌<◌}
use native.Mathlib.Omega.{arith}
use lib.Dec.{ltb, leb}
use lib.ListN.{length}
use lib.IntN.{ℤ, pos, negsuc, ◌+ℤ◌, ◌-ℤ◌, sub_ℕ, nat_abs}
use mir.Syntax.{w64}
use mir.Val.{SFits, to_z, of_z}
use mir.Facts.{to_z-of_z}
use borrow.Author.Tests.{lt-ltb, le-ltb, leb-true}
use Rattle.datetime.specs.Calendar.{before}
use Rattle.form.specs.Writing.{into_room}
use Rattle.form.specs.declared.Unwritten.TheVariants.{OutsideYears, NoRoom}
use Rattle.std.specs.Prelude.{Ok, Err}
use Rattle.datetime.specs.Instant.{epoch, in_years, date_time_text, write_date_time}

pub epoch-is : epoch ≡ 62167219200000
unfolding epoch before
epoch-is = refl

-- the difference of two naturals
pub minus : (a b : ℕ) → pos a -ℤ pos b ≡ sub_ℕ a b
minus a zero = simp (le-ltb a 0 (omega arith)) (ap pos (omega arith))
minus a (suc b) = refl

-- an instant that the writer takes, from the year 0 on
pub record Since (z : ℤ) : Type 0 where
  pub count : ℕ
  pub sum : z +ℤ pos 62167219200000 ≡ pos count
  pub least : 31556995200000 ≤ count
  pub most : count < 315569520000000
  pub back : sub_ℕ count 62167219200000 ≡ z

pub since : (z : ℤ) → in_years z ≡ true → Since z
since (pos n) e =
    let b : n ≤ 253402300799999 = leb-true n 253402300799999 e in
    record {
      count = n + 62167219200000;
      sum = refl;
      least = omega arith;
      most = omega arith;
      back = simp (le-ltb (n + 62167219200000) 62167219200000 (omega arith)) (ap pos (omega arith));
    }
since (negsuc n) e =
    let b : n ≤ 30610223999999 = leb-true n 30610223999999 (early (leb n 30610223999999) e) in
    let l : 62167219200000 - suc n < 62167219200000 = omega arith in
    record {
      count = 62167219200000 - suc n;
      sum = simp (le-ltb 62167219200000 (suc n) (omega arith));
      least = omega arith;
      most = omega arith;
      back = simp (lt-ltb (62167219200000 - suc n) 62167219200000 l) (ap negsuc (omega arith));
    }
  where
    early : (b : Bool) → (b && true) ≡ true → b ≡ true
    early true h = refl
    early false h = h

pub count-is : (z : ℤ) (s : Since z) → s.count ≡ nat_abs (z +ℤ pos epoch)
count-is z s = ap nat_abs (sym s.sum ∙ ap (λ (e : ℕ). z +ℤ pos e) (sym epoch-is))

module _ (z : ℤ) (f : SFits w64 z) (s : Since z) where
  sum_is : to_z w64 (of_z w64 z) +ℤ pos 62167219200000 ≡ pos s.count
  sum_is = ap (λ (x : ℤ). x +ℤ pos 62167219200000) (to_z-of_z f) ∙ s.sum

  pub sum_fits : SFits w64 (to_z w64 (of_z w64 z) +ℤ pos 62167219200000)
  sum_fits = subst⁻¹ (SFits w64) sum_is (record { sfits = omega (arith, s.most) })

  moved : to_z w64 (of_z w64 (to_z w64 (of_z w64 z) +ℤ pos 62167219200000)) ≡ pos s.count
  moved = to_z-of_z sum_fits ∙ sum_is

  pub moved-is : nat_abs (to_z w64 (of_z w64 (to_z w64 (of_z w64 z) +ℤ pos 62167219200000))) ≡ s.count
  moved-is = ap nat_abs moved

-- what writing answers
module _ (z : ℤ) where
  pub text_long : length (date_time_text z) ≡ 24
  unfolding date_time_text
  text_long = refl

  module _ (room : ℕ) where
    pub outside : in_years z ≡ false → Err OutsideYears ≡ write_date_time z room
    unfolding write_date_time
    outside e = sym (ap (λ (b : Bool). cond b (into_room (date_time_text z) room) (Err OutsideYears)) e)

    module _ (e : in_years z ≡ true) where
      inside : into_room (date_time_text z) room ≡ write_date_time z room
      unfolding write_date_time
      inside = sym (ap (λ (b : Bool). cond b (into_room (date_time_text z) room) (Err OutsideYears)) e)

      by_length : cond (ltb room 24) (Err NoRoom) (Ok 24) ≡ write_date_time z room
      by_length = sym (ap (λ (n : ℕ). cond (ltb room n) (Err NoRoom) (Ok n)) text_long) ∙ inside

      pub no_room : room < 24 → Err NoRoom ≡ write_date_time z room
      no_room h = sym (ap (λ (b : Bool). cond b (Err NoRoom) (Ok 24)) (lt-ltb room 24 h)) ∙ by_length

      pub written : 24 ≤ room → Ok 24 ≡ write_date_time z room
      written h = sym (ap (λ (b : Bool). cond b (Err NoRoom) (Ok 24)) (le-ltb room 24 h)) ∙ by_length
