-- The digits of a number, from the front as the text has them and from the back as the writer fills them.
use mathlib.Core.Path.{◌≡◌, refl, sym, ap, ◌∙◌}
use mathlib.Core.Bool.{Bool}
use mathlib.Core.List.{List, [], ◌∷◌, ◌++◌, append-nil}
use Prim.Native.Nat.{ℕ, zero, suc, ◌+◌, ◌-◌, ◌*◌, ◌/◌, ◌%◌, ◌^◌, ◌≤◌, ◌<◌}
use native.Mathlib.Omega.{arith}
use native.Mathlib.Nat.{add-zero, pow-suc, pow-le-pow_right, one-le-pow}
use native.Mathlib.Nat.{mod-lt, mod-eq_of_lt, div-eq_of_lt, mul-add-div_right, mul-add-mod_self_right, div-add-mod'}
use native.Mathlib.Decide.{ℕ_discrete, dec_lt}
use native.Mathlib.Numerals.{add-one}
use lib.Dec.{T, eqb, eqb→eq}
use lib.Pow.{pow-add}
use lib.ListN.{length, set, get_or, length-append}
use Rattle.octets.specs.Decimal.{in_digits}
use Rattle.octets.proofs.Lists.{sets-append}
use Rattle.octets.proofs.Computed.{below, below_at}
use lib.Seq.{sets, set_comm}
use borrow.Author.Tests.{lt-ltb, le-ltb, eq-eqb, ne_eqb}
use Rattle.amount.specs.Amount.{digit, whole_text, places}
use Rattle.amount.specs.Digits.{pointed, Tables}

pub length_last : (k n : ℕ) → length (in_digits k n) ≡ k
length_last zero n = refl
length_last (suc k) n = simp (length-append, length_last k (n / 10)) (omega arith)

-- a run of stores, the last one first
sets_last : (xs : List ℕ) (x : ℕ) (l : List ℕ) (i : ℕ) → sets l i (xs ++ (x ∷ [])) ≡ sets (set l (i + length xs) x) i xs
sets_last [] x l i = rw add-zero
sets_last (y ∷ ys) x l i =
    let e : suc i + length ys ≡ i + suc (length ys) = omega arith in
    sets_last ys x (set l i y) (suc i)
    ∙ ap (λ (m : List ℕ). sets m (suc i) ys)
    (ap (λ (j : ℕ). set (set l i y) j x) e ∙ set_comm l i (i + suc (length ys)) y x (omega arith))

pub fill_step : (l : List ℕ) (i k n : ℕ) → sets (set l (i + k) (48 + n % 10)) i (in_digits k (n / 10)) ≡ sets l i (in_digits (suc k) n)
fill_step l i k n =
    sym (sets_last (in_digits k (n / 10)) (digit (n % 10)) l i
    ∙ ap (λ (j : ℕ). sets (set l (i + j) (48 + n % 10)) i (in_digits k (n / 10))) (length_last k (n / 10)))

-- a number of suc c digits, the first not 0
pub width : (k c n : ℕ) → (0 < c → 10 ^ c ≤ n) → n < 10 ^ suc c → c ≤ k → whole_text (suc k) n ≡ in_digits (suc c) n
unfolding whole_text
width k zero n a b l =
    let h : n < 10 = omega arith in
    let e : n ≡ n % 10 = omega arith in
    simp (lt-ltb n 10 h) (ap (λ (d : ℕ). digit d ∷ []) e)
width zero (suc c) n a b l = absurd (omega arith)
width (suc k) (suc c) n a b l =
    let g : 10 ^ c * 10 ≤ n = rw (pow-suc 10 c) at (a (omega arith)) in
    let h : n < 10 ^ suc c * 10 = rw (pow-suc 10 (suc c)) at b in
    let o = one-le-pow c 10 (omega arith) in
    simp (le-ltb n 10 (omega arith))
    (ap (λ (s : List ℕ). s ++ (digit (n % 10) ∷ [])) (width k c (n / 10) (λ z. omega arith) (omega arith) (omega arith)))

-- division with rest by ten times w
pub split : (a w r : ℕ) → r < w → ((a * w + r) / w ≡ a) × ((a * w + r) % w ≡ r)
split a w r h = (
  mul-add-div_right {m = w} (omega arith) a r ∙ (rw (div-eq_of_lt h) (add-zero a)),
  mul-add-mod_self_right a w r ∙ mod-eq_of_lt h,
)

pub tens : (n w : ℕ) → 0 < w → (n / (w * 10) ≡ n / 10 / w) × (n % (w * 10) ≡ n / 10 % w * 10 + n % 10)
tens n w z =
    let x = n / 10 in
    let b : x % w < w = mod-lt x z in
    let e : n ≡ x / w * (w * 10) + (x % w * 10 + n % 10) = omega (arith, div-add-mod' x w) in
    let p = split (x / w) (w * 10) (x % w * 10 + n % 10) (omega arith) in
    (ap (λ (m : ℕ). m / (w * 10)) e ∙ p.0, ap (λ (m : ℕ). m % (w * 10)) e ∙ p.1)

-- the first of k + 1 digits
front : (k n : ℕ) → n < 10 ^ suc k → in_digits (suc k) n ≡ digit (n / 10 ^ k) ∷ in_digits k (n % 10 ^ k)
front zero n h = ap (λ (d : ℕ). digit d ∷ []) (omega arith)
front (suc k) n h =
    let g : n < 10 ^ suc k * 10 = rw (pow-suc 10 (suc k)) at h in
    let t = tens n (10 ^ k) (one-le-pow k 10 (omega arith)) in
    let q : n / 10 ^ suc k ≡ n / 10 / 10 ^ k = rw (pow-suc 10 k) t.0 in
    let r : n % 10 ^ suc k ≡ n / 10 % 10 ^ k * 10 + n % 10 = rw (pow-suc 10 k) t.1 in
    let x : n / 10 % 10 ^ k ≡ n % 10 ^ suc k / 10 = omega arith in
    let y : n % 10 ≡ n % 10 ^ suc k % 10 = omega arith in
    ap (λ (s : List ℕ). s ++ (digit (n % 10) ∷ [])) (front k (n / 10) (omega arith))
    ∙ (λ i. digit (sym q i) ∷ (in_digits k (x i) ++ (digit (y i) ∷ [])))

-- the places after the point: none where nothing is left
pub places-none : (k n : ℕ) → n ≡ 0 → places k n ≡ []
unfolding places
places-none zero n e = refl
places-none (suc k) n e = simp (eq-eqb n 0 e)

pub places_some : (k n : ℕ) → (n ≡ 0 → ⊥) → places (suc k) n ≡ digit (n / 10 ^ k) ∷ places k (n % 10 ^ k)
unfolding places
places_some k n h = simp (ne_eqb n 0 h)

-- a last digit 0 is not written
pub trim : (k n : ℕ) → n % 10 ≡ 0 → n < 10 ^ suc k → places (suc k) n ≡ places k (n / 10)
trim zero n e h = places-none 1 n (omega arith) ∙ sym (places-none 0 (n / 10) (omega arith))
trim (suc k) n e h =
    let t = tens n (10 ^ k) (one-le-pow k 10 (omega arith)) in
    let q : n / 10 ^ suc k ≡ n / 10 / 10 ^ k = rw (pow-suc 10 k) t.0 in
    let r : n % 10 ^ suc k ≡ n / 10 % 10 ^ k * 10 + n % 10 = rw (pow-suc 10 k) t.1 in
    let x : n % 10 ^ suc k / 10 ≡ n / 10 % 10 ^ k = omega arith in
    let m = trim k (n % 10 ^ suc k) (omega arith) (mod-lt n (one-le-pow (suc k) 10 (omega arith))) in
    elim (ℕ_discrete n 0) [
      | yes z ↦ places-none (suc (suc k)) n z ∙ sym (places-none (suc k) (n / 10) (omega arith))
      | no z ↦ places_some (suc k) n z ∙ (λ i. digit (q i) ∷ (m ∙ ap (places k) x) i) ∙ sym (places_some k (n / 10) (omega arith))
    ]

-- a last digit that is not 0: all are written
pub full : (k n : ℕ) → (n % 10 ≡ 0 → ⊥) → n < 10 ^ k → places k n ≡ in_digits k n
unfolding places
full zero n e h = absurd (e (omega arith))
full (suc zero) n e h = let d : n / 1 ≡ n % 10 = omega arith in simp (ne_eqb n 0 (omega arith)) (ap (λ (d : ℕ). digit d ∷ []) d)
full (suc (suc k)) n e h =
    let t = tens n (10 ^ k) (one-le-pow k 10 (omega arith)) in
    let r : n % 10 ^ suc k ≡ n / 10 % 10 ^ k * 10 + n % 10 = rw (pow-suc 10 k) t.1 in
    let m = full (suc k) (n % 10 ^ suc k) (omega arith) (mod-lt n (one-le-pow (suc k) 10 (omega arith))) in
    places_some (suc k) n (omega arith) ∙ ap (λ (s : List ℕ). digit (n / 10 ^ suc k) ∷ s) m ∙ sym (front (suc k) n h)

-- the steps of the writer's loops
pub fill_at : (l : List ℕ) (from k n : ℕ) → from < k →
    sets (set l (k - 1) (digit (n % 10))) from (in_digits (k - 1 - from) (n / 10)) ≡ sets l from (in_digits (k - from) n)
fill_at l from k n h =
    let e : k - from ≡ suc (k - 1 - from) = omega arith in
    let f : k - 1 ≡ from + (k - 1 - from) = omega arith in
    rw e (ap (λ (j : ℕ). sets (set l j (digit (n % 10))) from (in_digits (k - 1 - from) (n / 10))) f ∙ fill_step l from (k - 1 - from) n)

pub fill_pair : (l : List ℕ) (from k n : ℕ) → 1 < k - from →
    sets (set (set l (k - 1) (digit (n % 100 % 10))) (k - 1 - 1) (digit (n % 100 / 10))) from (in_digits (k - 1 - 1 - from) (n / 100))
    ≡ sets l from (in_digits (k - from) n)
fill_pair l from k n h =
    let x : n % 100 % 10 ≡ n % 10 = omega arith in
    let y : n % 100 / 10 ≡ n / 10 % 10 = omega arith in
    let z : n / 100 ≡ n / 10 / 10 = omega arith in
    (λ i. sets (set (set l (k - 1) (digit (x i))) (k - 1 - 1) (digit (y i))) from (in_digits (k - 1 - 1 - from) (z i)))
    ∙ fill_at (set l (k - 1) (digit (n % 10))) from (k - 1) (n / 10) (omega arith) ∙ fill_at l from k n (omega arith)

pub fill_last : (l : List ℕ) (from k n : ℕ) → from < k → k - from ≤ 1 → set l from (digit (n % 10)) ≡ sets l from (in_digits (k - from) n)
fill_last l from k n h b = let e : k - from ≡ 1 = omega arith in rw e

pub fill_none : (l : List ℕ) (from k n : ℕ) → k ≤ from → l ≡ sets l from (in_digits (k - from) n)
fill_none l from k n h = let e : k - from ≡ 0 = omega arith in rw e

pub trim_step : (k n : ℕ) → 0 < n → n % 10 ≡ 0 → n < 10 ^ k → (0 < k) × (n / 10 < 10 ^ (k - 1)) × (places k n ≡ places (k - 1) (n / 10))
trim_step zero n z e h = absurd (omega arith)
trim_step (suc k) n z e h =
    let f : suc k - 1 ≡ k = omega arith in
    let g : n < 10 ^ k * 10 = rw (pow-suc 10 k) at h in
    rw f (omega arith, omega arith, trim k n e h)

module _ (n count power : ℕ) (a : 1 ≤ count) (e : power ≡ 10 ^ (count - 1)) where
  pub count_short : power ≤ n → n < 10 ^ 18 → count ≤ 18
  count_short h l = elim (dec_lt 18 count) [
    | yes b ↦ (let d : 18 ≤ count - 1 = omega arith in absurd (omega (arith, pow-le-pow_right {n = 10} (omega arith) d)))
    | no b ↦ omega arith
  ]

  pub count-step : (k : ℕ) → power * 10 ^ k ≡ 10 ^ (count + k - 1)
  count-step k = let f : count + k - 1 ≡ count - 1 + k = omega arith in rw (f, pow-add 10 (count - 1) k, e)

  pub counted : count ≤ 18 → (1 < count → power ≤ n) → n / 10 < power → whole_text 18 n ≡ in_digits count n
  counted b l h =
      let f : suc (count - 1) ≡ count = omega arith in
      let g : n < 10 ^ suc (count - 1) = rw (pow-suc 10 (count - 1)) (omega arith) in
      width 17 (count - 1) n (λ z. let x = l (omega arith) in omega arith) g (omega arith) ∙ ap (λ (k : ℕ). in_digits k n) f

-- all places from the first
pub from_start : (l : List ℕ) (k n : ℕ) → sets l 0 (in_digits (k - 0) n) ≡ sets l 0 (in_digits k n)
from_start l k n = let e : k - 0 ≡ k = omega arith in rw e

-- the parts of a text, one after the other
pub length_none : (k n : ℕ) → k ≡ 0 → length (pointed k n) ≡ 0
unfolding pointed
length_none k n e = simp (eq-eqb k 0 e)

pub length_some : (k n : ℕ) → (k ≡ 0 → ⊥) → length (pointed k n) ≡ 1 + k
unfolding pointed
length_some k n h = simp (ne_eqb k 0 h, length_last k n) (omega arith)

module _ (out x : List ℕ) (whole units count number : ℕ) (e : x ≡ sets out 0 (in_digits whole units)) where
  pub text-whole : count ≡ 0 → x ≡ sets out 0 (in_digits whole units ++ pointed count number)
  unfolding pointed
  text-whole z = simp (eq-eqb count 0 z, append-nil) e

  pub text-pointed : (y : List ℕ) → (count ≡ 0 → ⊥) →
      y ≡ sets (set x whole 46) (whole + 1) (in_digits (whole + 1 + count - (whole + 1)) number) →
      y ≡ sets out 0 (in_digits whole units ++ pointed count number)
  unfolding pointed
  text-pointed y z f =
      let c : whole + 1 + count - (whole + 1) ≡ count = omega arith in
      let l : 0 + length (in_digits whole units) ≡ whole = omega (arith, length_last whole units) in
      f ∙ rw (c, add-one whole, e)
      (simp (ne_eqb count 0 z) (sym (sets-append out 0 (in_digits whole units) (46 ∷ in_digits count number)
      ∙ ap (λ (j : ℕ). sets (sets out 0 (in_digits whole units)) j (46 ∷ in_digits count number)) l)))

-- two tables that pass the test at each number below 100
abbrev agrees : List ℕ → (ℕ → ℕ) → ℕ → Bool
agrees table f q = eqb (get_or table q 0) (digit (f q))

agreed : (table : List ℕ) (f : ℕ → ℕ) → T (below 100 (agrees table f)) → (q : ℕ) → q < 100 → get_or table q 0 ≡ digit (f q)
agreed table f t q h = eqb→eq (get_or table q 0) (digit (f q)) (below_at 100 (agrees table f) t q h)

pub tables : {tens ones : List ℕ} → length tens ≡ 100 → length ones ≡ 100 →
    T (below 100 (agrees tens (λ (q : ℕ). q / 10))) → T (below 100 (agrees ones (λ (q : ℕ). q % 10))) → Tables tens ones
tables {tens} {ones} l m t o =
    record { tens_long = l; ones_long = m; ten = agreed tens (λ (q : ℕ). q / 10) t; one = agreed ones (λ (q : ℕ). q % 10) o }
