-- A form that is a row of classes, one for each byte: its verdict is the first place whose byte is not of its class, or where the text or
-- the row ends before the other.
use mathlib.Core.Path.{◌≡◌, refl, sym, ap, ◌∙◌}
use mathlib.Core.Bool.{Bool, true, false, not, cond}
use mathlib.Core.List.{List, [], ◌∷◌}
use Prim.Native.Nat.{ℕ, zero, suc, ◌+◌, ◌≤◌, ◌<◌}
use native.Mathlib.Omega.{arith}
use native.Mathlib.Nat.{add-zero, add-suc, suc-add}
use lib.Dec.{T}
use lib.ListN.{length, get_or}
use Rattle.octets.specs.Bytes.{Bytes}
use Rattle.octets.proofs.Computed.{both, both_left, both_right, below, below_at}
use Rattle.octets.proofs.Tests.{is_false}
use Rattle.form.specs.Regex.{Re, nullable, alive, deriv, judge_from}
use Rattle.form.specs.Verdict.{Verdict, of_form, stops_at}
use Rattle.form.proofs.Same.{same, same-eq}
use Rattle.form.proofs.Steps.{is_true}

-- the class of each place, and whether a byte is of it
abbrev pub Row : Type 0
Row = ℕ → ℕ → Bool

abbrev next : Row → Row
next p = λ i. p (suc i)

-- m places are to come, after n bytes
abbrev pub row_from : Row → ℕ → ℕ → List ℕ → Verdict
row_from p zero n [] = of_form
row_from p zero n (c ∷ cs) = stops_at n
row_from p (suc m) n [] = stops_at n
row_from p (suc m) n (c ∷ cs) = cond (p 0 c) (row_from (next p) m (suc n) cs) (stops_at n)

-- a byte of the class leads to what is left after it, and no other goes on
abbrev leads_by : Bool → Re → Re → Bool
leads_by t d rest = cond t (both (alive d) (same d rest)) (not (alive d))

abbrev at_place : Row → Re → Re → Bool
at_place p r rest = both (not (nullable r)) (below 256 (λ c. leads_by (p 0 c) (deriv c r) rest))

abbrev at_end : Re → Bool
at_end r = both (nullable r) (below 256 (λ c. not (alive (deriv c r))))

-- the test: r is the row, and these forms are left after each of its places
abbrev pub is_row : Row → Re → List Re → Bool
is_row p r [] = at_end r
is_row p r (rest ∷ more) = both (at_place p r rest) (is_row (next p) rest more)

step : (t : Bool) (d rest : Re) (n : ℕ) (cs : List ℕ) (v : Verdict) → T (leads_by t d rest) → judge_from rest (suc n) cs ≡ v →
    cond (alive d) (judge_from d (suc n) cs) (stops_at n) ≡ cond t v (stops_at n)
step true d rest n cs v x e =
    rw (is_true (alive d) (both_left (alive d) (same d rest) x))
    (ap (λ (z : Re). judge_from z (suc n) cs) (same-eq d rest (both_right (alive d) (same d rest) x)) ∙ e)
step false d rest n cs v x e = rw (is_false (alive d) x) refl

-- where the test passes, the form judges as the row does
pub judges_as : (p : Row) (n : ℕ) (r : Re) (rs : List Re) → T (is_row p r rs) → (s : List ℕ) → Bytes s →
    judge_from r n s ≡ row_from p (length rs) n s
judges_as p n r [] t [] b = rw (is_true (nullable r) (both_left (nullable r) _ t)) refl
judges_as p n r [] t (c ∷ cs) b =
    let dead = below_at 256 (λ x. not (alive (deriv x r))) (both_right (nullable r) _ t) c b.0 in
    rw (is_false (alive (deriv c r)) dead) refl
judges_as p n r (rest ∷ more) t [] b =
    let here = both_left (at_place p r rest) (is_row (next p) rest more) t in
    rw (is_false (nullable r) (both_left (not (nullable r)) _ here)) refl
judges_as p n r (rest ∷ more) t (c ∷ cs) b =
    let here = both_left (at_place p r rest) (is_row (next p) rest more) t in
    let byte = below_at 256 (λ x. leads_by (p 0 x) (deriv x r) rest) (both_right (not (nullable r)) _ here) c b.0 in
    step (p 0 c) (deriv c r) rest n cs _ byte
    (judges_as (next p) (suc n) rest more (both_right (at_place p r rest) (is_row (next p) rest more) t) cs b.1)

-- the bytes before the place k are of their classes
abbrev pub Passed : Row → ℕ → List ℕ → Type 0
Passed p k s = (i : ℕ) → i < k → p i (get_or s i 0) ≡ true

module _ (p : Row) (k c : ℕ) (cs : List ℕ) where
  later : Passed p (suc k) (c ∷ cs) → Passed (next p) k cs
  later f i h = f (suc i) (omega arith)

  and-later : p 0 c ≡ true → Passed (next p) k cs → Passed p (suc k) (c ∷ cs)
  and-later e f zero h = e
  and-later e f (suc i) h = f i (omega arith)

pub row_fits : (p : Row) (m n : ℕ) (s : List ℕ) → length s ≡ m → Passed p m s → row_from p m n s ≡ of_form
row_fits p zero n [] e f = refl
row_fits p zero n (c ∷ cs) e f = absurd (omega arith)
row_fits p (suc m) n [] e f = absurd (omega arith)
row_fits p (suc m) n (c ∷ cs) e f =
    rw (f 0 (omega arith)) (row_fits (next p) m (suc n) cs (omega arith) (later p m c cs f))

pub row-passed : (p : Row) (m n : ℕ) (s : List ℕ) → row_from p m n s ≡ of_form → (length s ≡ m) × Passed p m s
row-passed p zero n [] e = (refl, λ i h. absurd (omega arith))
row-passed p zero n (c ∷ cs) e = absurd (let z : ◌≡◌ {A = ℕ} 0 1 = cc in omega arith)
row-passed p (suc m) n [] e = absurd (let z : ◌≡◌ {A = ℕ} 0 1 = cc in omega arith)
row-passed p (suc m) n (c ∷ cs) e = go (p 0 c) refl (row-passed (next p) m (suc n) cs) e
  where
    go : (t : Bool) → p 0 c ≡ t → (row_from (next p) m (suc n) cs ≡ of_form → (length cs ≡ m) × Passed (next p) m cs) →
        cond t (row_from (next p) m (suc n) cs) (stops_at n) ≡ of_form → (length (c ∷ cs) ≡ suc m) × Passed p (suc m) (c ∷ cs)
    go true f ih g = let r = ih g in (ap suc r.0, and-later p m c cs f r.1)
    go false f ih g = absurd (let z : ◌≡◌ {A = ℕ} 0 1 = cc in omega arith)

-- k is the first place at which the text does not go on
pub row-stops : (p : Row) (m n k : ℕ) (s : List ℕ) → k ≤ m → k ≤ length s → Passed p k s →
    (k < m → k < length s → p k (get_or s k 0) ≡ false) → ((k ≡ m) → (length s ≡ m) → ⊥) → row_from p m n s ≡ stops_at (n + k)
row-stops p zero n zero [] h l f w e = absurd (e refl refl)
row-stops p zero n zero (c ∷ cs) h l f w e = ap (λ (k : ℕ). stops_at k) (sym (add-zero n))
row-stops p (suc m) n zero [] h l f w e = ap (λ (k : ℕ). stops_at k) (sym (add-zero n))
row-stops p (suc m) n zero (c ∷ cs) h l f w e = rw (w (omega arith) (omega arith)) (ap (λ (k : ℕ). stops_at k) (sym (add-zero n)))
row-stops p zero n (suc k) s h l f w e = absurd (omega arith)
row-stops p (suc m) n (suc k) [] h l f w e = absurd (omega arith)
row-stops p (suc m) n (suc k) (c ∷ cs) h l f w e =
    rw (f 0 (omega arith))
    (row-stops (next p) m (suc n) k cs (omega arith) (omega arith) (later p k c cs f) (λ x y. w (omega arith) (omega arith))
    (λ x y. e (ap suc x) (ap suc y))
    ∙ ap (λ (k : ℕ). stops_at k) (suc-add n k ∙ sym (add-suc n k)))
