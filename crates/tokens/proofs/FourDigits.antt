-- The value of an abort code, at its four places.
use mathlib.Core.Path.{◌≡◌, refl, ap, ◌∙◌}
use mathlib.Core.List.{List, [], ◌∷◌}
use Prim.Native.Nat.{ℕ, zero, suc, ◌+◌, ◌-◌, ◌*◌, ◌≤◌, ◌<◌}
use native.Mathlib.Omega.{arith}
use lib.ListN.{length, take, get_or}
use Rattle.octets.specs.Decimal.{decimal}
use Rattle.form.specs.Regex.{judge}
use Rattle.form.specs.Listings.{code_form}
use Rattle.form.specs.Matches.{Matches, nothing, one, joined}
use Rattle.form.proofs.Meaning.{fits}
use Rattle.form.specs.Verdict.{of_form}

-- four digits, the first not 0
pub record FourDigits (s : List ℕ) : Type 0 where
  pub a : ℕ
  pub b : ℕ
  pub c : ℕ
  pub d : ℕ
  pub text : s ≡ a ∷ b ∷ c ∷ d ∷ []
  pub first : (49 ≤ a) × (a ≤ 57)
  pub others : (48 ≤ b) × (b ≤ 57) × (48 ≤ c) × (c ≤ 57) × (48 ≤ d) × (d ≤ 57)

matched : {s : List ℕ} → Matches code_form s → FourDigits s
matched (joined u v e (one a h₁ k₁) (joined x y f (one b h₂ k₂) (joined z w g (one c h₃ k₃) (joined p q i (one d h₄ k₄) nothing)))) =
    record {
      a = a;
      b = b;
      c = c;
      d = d;
      text = e ∙ ap (λ (l : List ℕ). a ∷ l) (f ∙ ap (λ (l : List ℕ). b ∷ l) (g ∙ ap (λ (l : List ℕ). c ∷ l) i));
      first = (h₁, k₁);
      others = (h₂, k₂, h₃, k₃, h₄, k₄);
    }

module _ (s : List ℕ) (e : judge code_form s ≡ of_form) where
  pub digits : FourDigits s
  digits = matched ((fits code_form s).0 e)

  -- the value of a text of the form lies from 1000 to 9999
  pub in_range : (1000 ≤ decimal s) × (decimal s ≤ 9999)
  in_range = let f = digits in rw f.text (omega (arith, f.first, f.others))

  pub four_long : length s ≡ 4
  four_long = ap length digits.text

-- one digit more: it is a digit, the number so far has less than four, and they make the next number
pub record Digit (s : List ℕ) (i : ℕ) : Type 0 where
  pub above : 48 ≤ get_or s i 0
  pub below : get_or s i 0 ≤ 57
  pub small : decimal (take i s) ≤ 999
  pub next : decimal (take (i + 1) s) ≡ decimal (take i s) * 10 + (get_or s i 0 - 48)

digit_of : (s : List ℕ) → FourDigits s → (i : ℕ) → i < 4 → Digit s i
digit_of s f zero h = rw f.text (record { above = omega (arith, f.first); below = f.first.1; small = omega arith; next = refl })
digit_of s f (suc zero) h = rw f.text (record { above = f.others.0; below = f.others.1; small = omega (arith, f.first); next = refl })
digit_of s f (suc (suc zero)) h =
    rw f.text (record { above = f.others.2; below = f.others.3; small = omega (arith, f.first, f.others); next = refl })
digit_of s f (suc (suc (suc zero))) h =
    rw f.text (record { above = f.others.4; below = f.others.5; small = omega (arith, f.first, f.others); next = refl })
digit_of s f (suc (suc (suc (suc i)))) h = absurd (omega arith)

pub digit_at : (s : List ℕ) → judge code_form s ≡ of_form → (i : ℕ) → i < length s → Digit s i
digit_at s e i h = digit_of s (digits s e) i (omega (arith, four_long s e))
