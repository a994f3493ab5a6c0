-- What the writer answers, in each of its cases.
use Rattle.std.specs.Prelude.{Ok, Err}
use mathlib.Core.Path.{◌≡◌, sym, ap, ◌∙◌}
use mathlib.Core.Bool.{false, ◌||◌}
use mathlib.Core.List.{List, ◌++◌}
use Prim.Native.Nat.{ℕ, ◌+◌, ◌^◌, ◌≤◌, ◌<◌}
use native.Mathlib.Omega.{arith}
use lib.Dec.{leb}
use lib.ListN.{length, length-append}
use lib.Seq.{sets}
use borrow.Author.Tests.{lt-ltb, le-ltb, le-leb, lt-leb}
use Rattle.form.specs.Writing.{into_room, buffer_after}
use Rattle.form.specs.declared.Unwritten.TheVariants.{NotInForm, NoRoom}
use Rattle.amount.specs.Amount.{whole_text, fraction_text, amount_text, write_amount}
use Rattle.amount.specs.Digits.{pointed}
use Rattle.amount.specs.declared.Amount.{Amount}
use Rattle.octets.specs.Decimal.{in_digits}
use Rattle.octets.proofs.Lists.{sets-start}
use Rattle.amount.proofs.Digits.{length_last}

pub many_units : (a : Amount) (room : ℕ) → 10 ^ 18 ≤ a.units → Err NotInForm ≡ write_amount a room
unfolding write_amount
many_units a room h = simp (le-leb (10 ^ 18) a.units h)

pub large_remainder : (a : Amount) (room : ℕ) → a.units < 10 ^ 18 → 10 ^ 4 ≤ a.remainder → Err NotInForm ≡ write_amount a room
unfolding write_amount
large_remainder a room h k = simp (lt-leb (10 ^ 18) a.units h, le-leb (10 ^ 4) a.remainder k)

-- both tests at once
pub in_form : (a : Amount) (room : ℕ) → (leb (10 ^ 18) a.units || leb (10 ^ 4) a.remainder) ≡ false →
    write_amount a room ≡ into_room (amount_text a) room
unfolding write_amount
in_form a room e = simp e

pub in_range : (a : Amount) (room : ℕ) → a.units < 10 ^ 18 → a.remainder < 10 ^ 4 → write_amount a room ≡ into_room (amount_text a) room
unfolding write_amount
in_range a room h k = simp (lt-leb (10 ^ 18) a.units h, lt-leb (10 ^ 4) a.remainder k)

-- an amount in range, and what its text is made of: so many digits before the point and after it, and its length
pub record Measured (a : Amount) (whole count number size : ℕ) : Type 0 where
  pub fits : (leb (10 ^ 18) a.units || leb (10 ^ 4) a.remainder) ≡ false
  pub digits : whole_text 18 a.units ≡ in_digits whole a.units
  pub fraction : fraction_text a.remainder ≡ pointed count number
  pub sum : size ≡ whole + length (pointed count number)

module _ {a : Amount} {whole count number size : ℕ} where
  text : Measured a whole count number size → amount_text a ≡ in_digits whole a.units ++ pointed count number
  unfolding amount_text
  text m = rw (m.digits, m.fraction)

  long : Measured a whole count number size → length (amount_text a) ≡ size
  long m = ap length (text m) ∙ simp (length-append, length_last) (sym m.sum)

  pub no_room : Measured a whole count number size → (room : ℕ) → room < size → Err NoRoom ≡ write_amount a room
  no_room m room h =
      rw (in_form a room m.fits) (simp (lt-ltb room (length (amount_text a)) (omega (arith, long m))))

  pub written : Measured a whole count number size → (old out : List ℕ) → size ≤ length old →
      out ≡ sets old 0 (in_digits whole a.units ++ pointed count number) →
      (Ok size ≡ write_amount a (length old)) × (out ≡ buffer_after (Ok size) (amount_text a) old)
  written m old out h e =
      let k : length (amount_text a) ≤ length old = omega (arith, long m) in
      let l = long m in (
        rw (in_form a (length old) m.fits)
            (simp (le-ltb (length old) (length (amount_text a)) k) (ap Ok (sym l))),
        e ∙ ap (sets old 0) (sym (text m)) ∙ sets-start (amount_text a) old k ∙ ap (λ (j : ℕ). buffer_after (Ok j) (amount_text a) old) l,
      )
