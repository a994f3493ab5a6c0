-- A text that reads to an amount is the text that is written of it, and the amount is in range.
use Rattle.form.specs.Verdict.{value_by}
use mathlib.Core.Path.{◌≡◌, refl, sym, ap, subst, ◌∙◌}
use mathlib.Core.List.{List, [], ◌∷◌, ◌++◌}
use Prim.Native.Nat.{ℕ, zero, suc, ◌+◌, ◌-◌, ◌*◌, ◌/◌, ◌%◌, ◌^◌, ◌≤◌, ◌<◌}
use native.Mathlib.Omega.{arith}
use native.Mathlib.Nat.{zero-add, pow-suc, pow-le-pow_right, one-le-pow, lt_of_lt_of_le, mul-le-mul_right}
use native.Mathlib.Decide.{dec_lt, ℕ_discrete}
use lib.ListN.{take, length-append}
use lib.Seq.{append_snoc}
use borrow.Author.Tests.{lt-ltb, ne_eqb}
use Rattle.octets.specs.Ascii.{ascii}
use Rattle.form.specs.Regex.{judge_from}
use Rattle.form.specs.Verdict.{Verdict}
use Rattle.form.specs.Verdict.{stops_at}
use Rattle.octets.specs.Decimal.{decimal, in_digits}
use Rattle.amount.specs.Amount.{read_amount, amount_of, digit, whole_text, places, fraction_text, amount_text}
use Rattle.amount.specs.Rest.{whole_rest, places_rest, left}
use Rattle.amount.specs.declared.Amount.{Amount}
use Rattle.amount.specs.Amount.{AmountRead}
use Rattle.std.specs.Prelude.{Ok, Err}
use Rattle.form.specs.Verdict.{stops_at}
use Rattle.amount.proofs.Digits.{width, split, places-none, places_some}
use Rattle.amount.proofs.Steps.{held, zeros, first-place, first-zero, first-digit, first-other}
use Rattle.amount.proofs.Steps.{whole-digit, whole_stop, whole-other, whole_point, whole-end}
use Rattle.amount.proofs.Steps.{places-full, places-other, places-zero, places-digit, places_open}
use Rattle.amount.proofs.Round.{size}

-- a refusal is no value
pub refusal : {a : Amount} (n : ℕ) (x : AmountRead) → x ≡ stops_at n → x ≡ Ok a → ⊥
refusal n x e f = let z : ◌≡◌ {A = ℕ} 0 1 = cc in omega arith

-- a digit more
text-more : (u c : ℕ) → 1 ≤ u → u < 10 ^ 17 → 48 ≤ c → c ≤ 57 → whole_text 18 (u * 10 + (c - 48)) ≡ whole_text 18 u ++ (c ∷ [])
text-more u c a b l h =
    let r = size 17 u a b in
    let k = r.0 in
    let x = r.1 in
    let y = r.2 in
    let z = r.3 in
    let n = u * 10 + (c - 48) in
    let e : n / 10 ≡ u = omega arith in
    let f : digit (n % 10) ≡ c = omega arith in
    width 17 (suc k) n (λ _. rw (pow-suc 10 k) (omega arith)) (rw (pow-suc 10 (suc k)) (omega arith)) (omega arith)
    ∙ (λ i. in_digits (suc k) (e i) ++ (f i ∷ [])) ∙ ap (λ (s : List ℕ). s ++ (c ∷ [])) (sym (width 17 k u (λ _. y) z (omega arith)))

-- the kinds of a byte
data Kind (c : ℕ) : Type 0 where
  point : c ≡ 46 → Kind c
  figure : 48 ≤ c → c ≤ 57 → Kind c
  other : (c ≡ 46 → ⊥) → (48 ≤ c → 57 < c) → Kind c

kind : (c : ℕ) → Kind c
kind c = elim (ℕ_discrete c 46) [
  | yes e ↦ point e
  | no e ↦ elim (dec_lt c 48) [
    | yes a ↦ other e (omega arith)
    | no a ↦ elim (dec_lt 57 c) [ yes b ↦ other e (omega arith) | no b ↦ figure (omega arith) (omega arith) ]
  ]
]

-- what the places after the point count for
abbrev worth : ℕ → List ℕ → ℕ
worth k t = decimal (take k (t ++ ascii "0000"))

abbrev Places : ℕ → ℕ → List ℕ → Type 0
Places k last t = (worth k t < 10 ^ k) × (t ≡ places k (worth k t)) × (last ≤ 48 → worth k t ≡ 0 → ⊥)

digit-spelled : (k last c : ℕ) (t : List ℕ) → k ≤ 3 → 48 ≤ c → c ≤ 57 → Places k c t → Places (suc k) last (c ∷ t)
digit-spelled k last c t l a b (small, same, some) =
    let w = 10 ^ k in
    let v = worth k t in
    let o = one-le-pow k 10 (omega arith) in
    let z = length-append t (ascii "0000") in
    let e : worth (suc k) (c ∷ t) ≡ (c - 48) * w + v = first-place k c (t ++ ascii "0000") (omega arith) in
    let m = mul-le-mul_right {m = c - 48} {n = 9} w (omega arith) in
    let d = split (c - 48) w v small in
    let head : digit (((c - 48) * w + v) / w) ≡ c = (let x = d.0 in omega arith) in
    let tail : places k (((c - 48) * w + v) % w) ≡ t = ap (places k) d.1 ∙ sym same in
    let more : (c - 48) * w + v ≡ 0 → ⊥ =
    (λ x. elim (dec_lt 48 c)
    [ yes y ↦ (let h = mul-le-mul_right {m = 1} {n = c - 48} w (omega arith) in omega arith) | no y ↦ some (omega arith) (omega arith) ]) in
    rw e (rw (pow-suc 10 k) (omega arith), sym (places_some k ((c - 48) * w + v) more ∙ (λ i. head i ∷ tail i)), λ _. more)

places-spelled : (t : List ℕ) (k last n u p : ℕ) (a : Amount) → k ≤ 4 → places_rest k last n u p t ≡ Ok a → Places k last t
places-spelled [] k last n u p a l e = elim (dec_lt 48 last) [
  | yes h ↦ (omega (arith, zeros k, one-le-pow k 10 (omega arith)), sym (places-none k (worth k []) (zeros k)), λ x. absurd (omega arith))
  | no h ↦ absurd (refusal n (places_rest k last n u p []) (places_open last n u p k (omega arith)) e)
]
places-spelled (c ∷ t) zero last n u p a l e = absurd (refusal n (places_rest zero last n u p (c ∷ t)) (places-full last n u p c t) e)
places-spelled (c ∷ t) (suc k) last n u p a l e =
    go (kind c) (places-spelled t k c (suc n) u (p + (c - 48) * 10 ^ k) a (omega arith))
  where
    none : places_rest (suc k) last n u p (c ∷ t) ≡ stops_at n → Places (suc k) last (c ∷ t)
    none r = absurd (refusal n (places_rest (suc k) last n u p (c ∷ t)) r e)

    go : Kind c → (places_rest k c (suc n) u (p + (c - 48) * 10 ^ k) t ≡ Ok a → Places k c t) → Places (suc k) last (c ∷ t)
    go (point x) f = none (places-other last n u p k c t (omega arith))
    go (other x y) f = none (places-other last n u p k c t y)
    go (figure x y) f = elim (ℕ_discrete (k + (c - 48)) 0) [
      | yes z ↦ (let z0 : k ≡ 0 = omega arith in let z1 : c ≡ 48 = omega arith in none (rw (z0, z1) (places-zero last n u p t)))
      | no z ↦ digit-spelled k last c t (omega arith) x y (f (sym (places-digit last n u p k c t (omega arith) x y (λ h. omega arith)) ∙ e))
    ]

-- in range, with this text
abbrev pub Spelled : List ℕ → Amount → Type 0
Spelled s a = ((a.units < 10 ^ 18) × (a.remainder < 10 ^ 4)) × (s ≡ amount_text a)

in_all : (u k : ℕ) → u < 10 ^ (18 - k) → u < 10 ^ 18
in_all u k b = lt_of_lt_of_le b (pow-le-pow_right {n = 10} (omega arith) (let w : 18 - k ≤ 18 = omega arith in w))

-- the parts of an amount that was read
answered : (v : Verdict) (x a : Amount) → value_by v x ≡ Ok a → x ≡ a
answered (Ok u) x a e = cc
answered (Err n) x a e = absurd (refusal n.at (Err n) refl e)

parts : (u p : ℕ) (f : List ℕ) (a : Amount) → u < 10 ^ 18 → p < 10000 → f ≡ fraction_text p → record { units = u; remainder = p } ≡ a →
    Spelled (whole_text 18 u ++ f) a
unfolding amount_text
parts u p f a h k e g = subst (Spelled (whole_text 18 u ++ f)) g ((h, k), ap (λ (t : List ℕ). whole_text 18 u ++ t) e)

after_point_lem : (t : List ℕ) (n u : ℕ) (a : Amount) → u < 10 ^ 18 → places_rest 4 46 n u 0 t ≡ Ok a → Spelled (whole_text 18 u ++ (46 ∷ t)) a
unfolding places_rest fraction_text
after_point_lem t n u a h e =
    let s = places-spelled t 4 46 n u 0 a (omega arith) e in
    let w : worth 4 t < 10000 = s.0 in
    let z = zero-add (worth 4 t) in
    parts u (worth 4 t) (46 ∷ t) a h w (simp (ne_eqb (worth 4 t) 0 (s.2 (omega arith))) (ap (λ (l : List ℕ). 46 ∷ l) s.1))
    (sym (held u (worth 4 t) w) ∙ ap (λ (v : ℕ). amount_of (u * 10000 + v)) (sym z)
    ∙ answered (judge_from (left 4 46) n t) (amount_of (u * 10000 + (0 + worth 4 t))) a e)

fraction_none : [] ≡ fraction_text 0
unfolding fraction_text
fraction_none = refl

whole-spelled : (t : List ℕ) (k n u : ℕ) (a : Amount) → k ≤ 17 → (0 < k → 1 ≤ u) → u < 10 ^ (18 - k) → whole_rest k n u t ≡ Ok a →
    Spelled (whole_text 18 u ++ t) a
whole-spelled [] k n u a l h b e = parts u 0 [] a (in_all u k b) (omega arith) fraction_none (let x = whole-end n u k in cc)
whole-spelled (c ∷ t) k n u a l h b e = go k (kind c) h b l e (λ (j : ℕ). whole-spelled t j (suc n) (u * 10 + (c - 48)) a)
  where
    go : (k : ℕ) → Kind c → (0 < k → 1 ≤ u) → u < 10 ^ (18 - k) → k ≤ 17 → whole_rest k n u (c ∷ t) ≡ Ok a →
        ((j : ℕ) → j ≤ 17 → (0 < j → 1 ≤ u * 10 + (c - 48)) → u * 10 + (c - 48) < 10 ^ (18 - j) →
        whole_rest j (suc n) (u * 10 + (c - 48)) t ≡ Ok a → Spelled (whole_text 18 (u * 10 + (c - 48)) ++ t) a) →
        Spelled (whole_text 18 u ++ (c ∷ t)) a
    go k (point x) h b l e f =
        rw x (after_point_lem t (suc n) u a (in_all u k b) (sym (whole_point n u k t) ∙ (rw x at e)))
    go k (other x y) h b l e f = absurd (refusal n (whole_rest k n u (c ∷ t)) (whole_stop n u k c t y ∙ whole-other n u c t x) e)
    go zero (figure x y) h b l e f = absurd (refusal n (whole_rest zero n u (c ∷ t)) (whole-other n u c t (omega arith)) e)
    go (suc k) (figure x y) h b l e f =
        let v = h (omega arith) in
        let g : u < 10 ^ 17 = lt_of_lt_of_le b (pow-le-pow_right {n = 10} (omega arith) (let w : 18 - suc k ≤ 17 = omega arith in w)) in
        let d : 18 - k ≡ suc (18 - suc k) = omega arith in
        let q : u * 10 + (c - 48) < 10 ^ (18 - k) = rw (d, pow-suc 10 (18 - suc k)) (omega arith) in
        let z = f k (omega arith) (λ _. omega arith) q (sym (whole-digit n u k c t x y) ∙ e) in
        (z.0, sym (append_snoc (whole_text 18 u) c t) ∙ ap (λ (s : List ℕ). s ++ t) (sym (text-more u c v g x y)) ∙ z.1)

one-digit : (n : ℕ) → n < 10 → whole_text 18 n ≡ digit n ∷ []
unfolding whole_text
one-digit n h = simp (lt-ltb n 10 h)

no_text : read_amount [] ≡ stops_at 0
unfolding read_amount
no_text = refl

pub spelled : (s : List ℕ) (a : Amount) → read_amount s ≡ Ok a → Spelled s a
spelled [] a e = absurd (refusal 0 (read_amount []) no_text e)
spelled (c ∷ t) a e = go (kind c)
  where
    none : read_amount (c ∷ t) ≡ stops_at 0 → Spelled (c ∷ t) a
    none r = absurd (refusal 0 (read_amount (c ∷ t)) r e)

    begun : (u k : ℕ) → digit u ≡ c → u < 10 → k ≤ 17 → (0 < k → 1 ≤ u) → read_amount (c ∷ t) ≡ whole_rest k 1 u t → Spelled (c ∷ t) a
    begun u k d h l f r =
        let o = one-le-pow (17 - k) 10 (omega arith) in
        let m : 18 - k ≡ suc (17 - k) = omega arith in
        let z = whole-spelled t k 1 u a l f (rw (m, pow-suc 10 (17 - k)) (omega arith)) (sym r ∙ e) in
        (z.0, (λ i. sym d i ∷ t) ∙ ap (λ (s : List ℕ). s ++ t) (sym (one-digit u h)) ∙ z.1)

    go : Kind c → Spelled (c ∷ t) a
    go (point x) = none (first-other c t (omega arith))
    go (other x y) = none (first-other c t y)
    go (figure x y) = elim (ℕ_discrete c 48) [
      | yes z ↦ begun 0 0 (sym z) (omega arith) (omega arith) (λ h. absurd (omega arith)) (rw z (first-zero t))
      | no z ↦ begun (c - 48) 17 (omega arith) (omega arith) (omega arith) (λ _. omega arith) (first-digit c t (omega arith) y)
    ]
