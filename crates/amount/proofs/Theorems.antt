-- What a reader can rely on: the form, the range, the way there and back, and that the written text is the only one.
use mathlib.Core.Path.{◌≡◌, refl, sym, ap, ◌∙◌}
use mathlib.Core.Logic.{◌↔◌}
use mathlib.Core.List.{List}
use mathlib.Core.Bool.{Bool, true, false, cond}
use Prim.Native.Nat.{ℕ, ◌^◌, ◌<◌}
use native.Mathlib.Omega.{arith}
use native.Mathlib.Decide.{dec_lt}
use lib.Dec.{ltb}
use lib.ListN.{length}
use Rattle.form.specs.Regex.{judge}
use Rattle.form.specs.Listings.{amount_form}
use Rattle.form.specs.Writing.{number}
use Rattle.form.specs.Verdict.{Verdict, of_form, value_by}
use Rattle.form.specs.declared.Unwritten.TheVariants.{NoRoom}
use Rattle.amount.specs.Amount.{read_amount, amount_of, ten_thousandths, amount_text, write_amount}
use Rattle.amount.specs.declared.Amount.{Amount}
use Rattle.std.specs.Prelude.{Ok, Err}
use Rattle.amount.proofs.Round.{read_back}
use Rattle.amount.proofs.Unique.{spelled, refusal}
use Rattle.amount.proofs.Writing.{in_range, many_units, large_remainder}

-- 01: whole units of at most 18 digits, "and a remainder 0 to 9,999"
abbrev pub InRange : Amount → Type 0
InRange a = (a.units < 10 ^ 18) × (a.remainder < 10 ^ 4)

fits_of : (v : Verdict) (x a : Amount) → value_by v x ≡ Ok a → v ≡ of_form
fits_of (Ok tt) x a e = refl
fits_of (Err n) x a e = absurd (refusal n.at (Err n) refl e)

-- a text has a value exactly if it is of the form, and the value is in range
pub form : (s : List ℕ) → judge amount_form s ≡ of_form ↔ ((a : Amount) × (read_amount s ≡ Ok a) × InRange a)
unfolding read_amount
form s = (value, λ r. fits_of (judge amount_form s) (amount_of (ten_thousandths s)) r.0 r.1)
  where
    value : judge amount_form s ≡ of_form → (a : Amount) × (read_amount s ≡ Ok a) × InRange a
    value e =
        let r : read_amount s ≡ Ok (amount_of (ten_thousandths s)) = ap (λ (v : Verdict). value_by v (amount_of (ten_thousandths s))) e in
        (amount_of (ten_thousandths s), r, (spelled s (amount_of (ten_thousandths s)) r).0)

-- what is written of an amount in range is of the form and reads back
pub round : (a : Amount) → InRange a → (judge amount_form (amount_text a) ≡ of_form) × (read_amount (amount_text a) ≡ Ok a)
round a h = let r = read_back a h.0 h.1 in ((form (amount_text a)).1 (a, r, h), r)

-- the written text is the only one that reads to its amount
pub unique : (s : List ℕ) (a : Amount) → read_amount s ≡ Ok a → s ≡ amount_text a
unique s a e = (spelled s a e).1

-- the writer answers 1 exactly for an amount that no text reads to
pub refused : (a : Amount) (room : ℕ) → number (write_amount a room) ≡ 1 ↔ ((s : List ℕ) → read_amount s ≡ Ok a → ⊥)
refused a room = (
  (λ e s f. let r = (spelled s a f).0 in fits_in (ltb room (length (amount_text a))) (ap number (sym (in_range a room r.0 r.1)) ∙ e)),
  (λ h. elim (dec_lt a.units (10 ^ 18)) [
    | no u ↦ ap number (sym (many_units a room (omega arith)))
    | yes u ↦ elim (dec_lt a.remainder (10 ^ 4))
        [ no r ↦ ap number (sym (large_remainder a room u (omega arith))) | yes r ↦ absurd (h (amount_text a) (read_back a u r)) ]
  ]),
)
  where
    fits_in : (b : Bool) → number (cond b (Err NoRoom) (Ok (length (amount_text a)))) ≡ 1 → ⊥
    fits_in true e = omega arith
    fits_in false e = omega arith
