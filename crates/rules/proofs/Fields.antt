-- What a reader's answer tells of a field's text: a value is that of a text in form, and a refusal is of a text that is not.
use mathlib.Core.Path.{◌≡◌, refl}
use mathlib.Core.Bool.{true, false, false≢true}
use Prim.Native.Nat.{ℕ}
use native.Mathlib.Omega.{arith}
use lib.IntN.{ℤ}
use mathlib.Core.List.{List}
use Rattle.std.specs.Prelude.{Ok, Err, is_ok}
use Rattle.form.specs.Regex.{Re, judge}
use Rattle.form.specs.Listings.{amount_form, id_form, date_time_form, condition_form, code_form}
use Rattle.form.specs.Verdict.{Verdict, of_form, value_by}
use Rattle.form.specs.declared.Stop.{Stop}
use Rattle.amount.specs.declared.Amount.{Amount}
use Rattle.amount.specs.Amount.{ten_thousandths, amount_of, read_amount}
use Rattle.uuid_text.specs.Id.{id_of, read_id}
use Rattle.datetime.specs.Instant.{instant_of, read_date_time}
use Rattle.base64url.specs.Condition.{read_condition}
use Rattle.tokens.specs.Code.{read_code}
use Rattle.rules.specs.Calls.{Text, is_of, condition_of, code_of}

pub fits_form : (v : Verdict) → is_ok v ≡ true → v ≡ of_form
fits_form (Ok tt) e = refl
fits_form (Err n) e = absurd (false≢true e)

-- the law of every reader
told : {A : Type 0} (v : Verdict) (x a : A) → value_by v x ≡ Ok a → (is_ok v ≡ true) × (x ≡ a)
told (Ok u) x a e = (refl, cc)
told (Err n) x a e = let z : ◌≡◌ {A = ℕ} 0 1 = cc in absurd (omega arith)

not_told : {A : Type 0} (v : Verdict) (x : A) (n : Stop) → value_by v x ≡ Err n → is_ok v ≡ false
not_told (Ok u) x n e = let z : ◌≡◌ {A = ℕ} 0 1 = cc in absurd (omega arith)
not_told (Err m) x n e = refl

module _ (s : Text) where
  pub amount-value : (a : Amount) → read_amount s ≡ Ok a → (is_of amount_form s ≡ true) × (amount_of (ten_thousandths s) ≡ a)
  unfolding read_amount
  amount-value a e = told (judge amount_form s) _ a e

  pub amount_refused : (n : Stop) → read_amount s ≡ Err n → is_of amount_form s ≡ false
  unfolding read_amount
  amount_refused n e = not_told (judge amount_form s) _ n e

  pub instant_value : (t : ℤ) → read_date_time s ≡ Ok t → (is_of date_time_form s ≡ true) × (instant_of s ≡ t)
  unfolding read_date_time
  instant_value t e = told (judge date_time_form s) _ t e

  pub instant_refused : (n : Stop) → read_date_time s ≡ Err n → is_of date_time_form s ≡ false
  unfolding read_date_time
  instant_refused n e = not_told (judge date_time_form s) _ n e

  pub code-value : (n : ℕ) → read_code s ≡ Ok n → (is_of code_form s ≡ true) × (code_of s ≡ n)
  unfolding read_code
  code-value n e = told (judge code_form s) _ n e

  pub code_refused : (n : Stop) → read_code s ≡ Err n → is_of code_form s ≡ false
  unfolding read_code
  code_refused n e = not_told (judge code_form s) _ n e

  pub id-value : (b : List ℕ) → read_id s ≡ Ok b → (is_of id_form s ≡ true) × (id_of s ≡ b)
  unfolding read_id
  id-value b e = told (judge id_form s) _ b e

  pub id_refused : (n : Stop) → read_id s ≡ Err n → is_of id_form s ≡ false
  unfolding read_id
  id_refused n e = not_told (judge id_form s) _ n e

  pub condition-value : (b : List ℕ) → read_condition s ≡ Ok b → (is_of condition_form s ≡ true) × (condition_of s ≡ b)
  unfolding read_condition
  condition-value b e = told (judge condition_form s) _ b e

  pub condition_refused : (n : Stop) → read_condition s ≡ Err n → is_of condition_form s ≡ false
  unfolding read_condition
  condition_refused n e = not_told (judge condition_form s) _ n e
