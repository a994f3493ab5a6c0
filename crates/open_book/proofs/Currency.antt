-- A currency in form has three bytes.
use Prim.Native.Nat.{ℕ}
use mathlib.Core.Path.{◌≡◌, ap, ◌∙◌}
use mathlib.Core.List.{List, ◌∷◌}
use lib.ListN.{length}
use Rattle.form.specs.Regex.{judge}
use Rattle.form.specs.Listings.{currency_form}
use Rattle.form.specs.Matches.{Matches, nothing, one, joined}
use Rattle.form.specs.Verdict.{of_form}
use Rattle.form.proofs.Meaning.{fits}

three : {s : List ℕ} → Matches currency_form s → length s ≡ 3
three (joined u v e (one a h₁ k₁) (joined x y f (one b h₂ k₂) (joined z w g (one c h₃ k₃) nothing))) =
    ap length (e ∙ ap (λ (l : List ℕ). a ∷ l) (f ∙ ap (λ (l : List ℕ). b ∷ l) g))

pub three_long : (s : List ℕ) → judge currency_form s ≡ of_form → length s ≡ 3
three_long s e = three ((fits currency_form s).0 e)
