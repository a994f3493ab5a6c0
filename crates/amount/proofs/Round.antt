-- What was written reads back.
use mathlib.Core.Path.{◌≡◌, refl, sym, ap, ◌∙◌}
use mathlib.Core.List.{List, [], ◌∷◌, ◌++◌}
use Prim.Native.Nat.{ℕ, zero, suc, ◌+◌, ◌-◌, ◌*◌, ◌/◌, ◌%◌, ◌^◌, ◌≤◌, ◌<◌}
use native.Mathlib.Omega.{arith}
use native.Mathlib.Nat.{pow-suc, one-le-pow, mod-lt, div-add-mod', mul-le-mul_right, div-lt_iff_lt-mul, zero-mul}
use native.Mathlib.Decide.{dec_lt, ℕ_discrete}
use lib.Seq.{append_snoc}
use borrow.Author.Tests.{eq-eqb, ne_eqb}
use Rattle.octets.specs.Decimal.{in_digits}
use Rattle.amount.specs.Amount.{read_amount, digit, whole_text, places, fraction_text, amount_text}
use Rattle.amount.specs.Rest.{whole_rest, places_rest}
use Rattle.amount.specs.declared.Amount.{Amount}
use Rattle.amount.specs.Amount.{AmountRead}
use Rattle.std.specs.Prelude.{Ok}
use Rattle.amount.proofs.Digits.{width, places-none, places_some}
use Rattle.amount.proofs.Steps.{first-zero, first-digit, whole-digit, whole_point, whole-end, places-digit, places-end}

-- a number that is not 0 has a first digit
abbrev pub Size : ℕ → ℕ → Type 0
Size k n = (c : ℕ) × (c < k) × (10 ^ c ≤ n) × (n < 10 ^ suc c)

pub size : (k n : ℕ) → 1 ≤ n → n < 10 ^ k → Size k n
size zero n a b = absurd (omega arith)
size (suc k) n a b = go (dec_lt n (10 ^ k)) (size k n a)
  where
    go : Dec (n < 10 ^ k) → (n < 10 ^ k → Size k n) → Size (suc k) n
    go (yes l) f = let r = f l in let x = r.1 in (r.0, omega arith, r.2, r.3)
    go (no l) f = (k, omega arith, omega arith, b)

-- the digits of a whole number, and then f
digits_read : (c n : ℕ) (f : List ℕ) → c ≤ 17 → 10 ^ c ≤ n → n < 10 ^ suc c →
    read_amount (in_digits (suc c) n ++ f) ≡ whole_rest (17 - c) (suc c) n f
digits_read zero n f l a b =
    let e : 48 + n % 10 - 48 ≡ n = omega arith in
    first-digit (48 + n % 10) f (omega arith) (omega arith) ∙ ap (λ (u : ℕ). whole_rest 17 1 u f) e
digits_read (suc c) n f l a b =
    let g : 10 ^ c * 10 ≤ n = rw (pow-suc 10 c) at a in
    let h : n < 10 ^ suc c * 10 = rw (pow-suc 10 (suc c)) at b in
    let k : 17 - c ≡ suc (17 - suc c) = omega arith in
    let e : n / 10 * 10 + (48 + n % 10 - 48) ≡ n = omega arith in
    rw (append_snoc (in_digits (suc c) (n / 10)) (digit (n % 10)) f)
    (digits_read c (n / 10) (digit (n % 10) ∷ f) (omega arith) (omega arith) (omega arith)
    ∙ ap (λ (j : ℕ). whole_rest j (suc c) (n / 10) (digit (n % 10) ∷ f)) k
    ∙ whole-digit (suc c) (n / 10) (17 - suc c) (48 + n % 10) f (omega arith) (omega arith)
    ∙ ap (λ (u : ℕ). whole_rest (17 - suc c) (suc (suc c)) u f) e)

pub nought : whole_text 18 0 ≡ 48 ∷ []
unfolding whole_text
nought = refl

pub whole_read : (n : ℕ) (f : List ℕ) → n < 10 ^ 18 → (k : ℕ) × (m : ℕ) × (read_amount (whole_text 18 n ++ f) ≡ whole_rest k m n f)
whole_read zero f h = (0, 1, ap (λ (s : List ℕ). read_amount (s ++ f)) nought ∙ first-zero f)
whole_read (suc n) f h =
    let r = size 18 (suc n) (omega arith) h in (
      17 - r.0,
      suc r.0,
      ap (λ (s : List ℕ). read_amount (s ++ f)) (width 17 r.0 (suc n) (λ z. r.2) r.3 (let x = r.1 in omega arith))
          ∙ digits_read r.0 (suc n) f (let x = r.1 in omega arith) r.2 r.3,
    )

-- the places after the point
lead : (q w : ℕ) → (q ≡ 0 → ⊥) → q % w ≡ 0 → 0 < q / w
lead q w h e = go (q / w) (div-add-mod' q w)
  where
    go : (d : ℕ) → d * w + q % w ≡ q → 0 < d
    go zero f = absurd (h (omega (arith, zero-mul w)))
    go (suc d) f = omega arith

module _ (u : ℕ) where
  abbrev value : ℕ → AmountRead
  value p = Ok (record { units = u; remainder = p })

  none_read : (k q last n p : ℕ) → q ≡ 0 → p < 10000 → 48 < last → places_rest k last n u p (places k q) ≡ value (p + q)
  none_read k q last n p e b h = ap (places_rest k last n u p) (places-none k q e) ∙ places-end last n u p k h b ∙ ap value (omega arith)

  places-read : (k q last n p : ℕ) → k ≤ 4 → q < 10 ^ k → p + 10 ^ k ≤ 10000 → (q ≡ 0 → 48 < last) →
      places_rest k last n u p (places k q) ≡ value (p + q)
  places-read zero q last n p l b c h = let e : q ≡ 0 = omega arith in none_read zero q last n p e (omega arith) (h e)
  places-read (suc k) q last n p l b c h = elim (ℕ_discrete q 0) [
    | yes e ↦ none_read (suc k) q last n p e (omega (arith, one-le-pow (suc k) 10 (omega arith))) (h e)
    | no e ↦ (
        let w = 10 ^ k in
        let o = one-le-pow k 10 (omega arith) in
        let d = div-add-mod' q w in
        let g : q < w * 10 = rw (pow-suc 10 k) at b in
        let x : p + w * 10 ≤ 10000 = rw (pow-suc 10 k) at c in
        let t : q / w < 10 = (div-lt_iff_lt-mul {k = w} {x = q} {y = 10} o).1 (omega arith) in
        let m = mul-le-mul_right {m = q / w} {n = 9} w (omega arith) in
        let y : 48 + q / w - 48 ≡ q / w = omega arith in
        let first : k ≡ 0 → 48 < 48 + q / w = (λ z. let v : q % w ≡ 0 = rw z (omega arith) in let f = lead q w e v in omega arith) in
        let later : q % w ≡ 0 → 48 < 48 + q / w = (λ z. let f = lead q w e z in omega arith) in
        ap (places_rest (suc k) last n u p) (places_some k q e)
        ∙ places-digit last n u p k (48 + q / w) (places k (q % w)) (omega arith) (omega arith) (omega arith) first
        ∙ places-read k (q % w) (48 + q / w) (suc n) (p + (48 + q / w - 48) * w) (omega arith) (mod-lt q o) (rw y (omega arith)) later
        ∙ ap value (rw y (omega arith)))
  ]

fraction_read : (u r k n : ℕ) → r < 10000 → whole_rest k n u (fraction_text r) ≡ Ok (record { units = u; remainder = r })
unfolding fraction_text
fraction_read u r k n b = elim (ℕ_discrete r 0) [
  | yes e ↦ simp (eq-eqb r 0 e) (whole-end n u k ∙ ap (value u) (sym e))
  | no e ↦ simp (ne_eqb r 0 e)
      (let r' = places-read u 4 r 46 (suc n) 0 (omega arith) b (omega arith) (λ z. absurd (e z)) in
      whole_point n u k (places 4 r) ∙ r' ∙ ap (value u) (omega arith))
]

pub read_back : (a : Amount) → a.units < 10 ^ 18 → a.remainder < 10 ^ 4 → read_amount (amount_text a) ≡ Ok a
unfolding amount_text
read_back a h b =
    let w = whole_read a.units (fraction_text a.remainder) h in w.2 ∙ fraction_read a.units a.remainder w.0 w.1 b
