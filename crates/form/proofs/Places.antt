-- Forms in which the state counts the bytes passed (UUID, abort code, currency): what a text of the form has at each place.
use mathlib.Core.Path.{◌≡◌, refl, sym, ap, subst, ◌∙◌}
use mathlib.Core.Bool.{Bool, true, false, cond, not}
use mathlib.Core.List.{List, [], ◌∷◌, map}
use Prim.Native.Nat.{ℕ, zero, suc, ◌+◌, ◌<◌}
use native.Mathlib.Omega.{arith}
use native.Mathlib.Nat.{add-zero, add-suc, suc-add}
use lib.Dec.{T, ltb, ltb→lt}
use lib.ListN.{length, get_or}
use Rattle.octets.specs.Bytes.{Bytes}
use Rattle.octets.proofs.Computed.{both, both_left, both_right, below, below_at}
use Rattle.octets.proofs.Lists.{bytes-append}
use Rattle.form.specs.Regex.{Re, none, empty, range, seq, alt, upto, nullable, alive, deriv, judge_from, judge}
use Rattle.form.specs.Matches.{Matches, nothing, one, joined, left, right, stop, again}
use Rattle.form.specs.Verdict.{Verdict, of_form, stops_at}
use Rattle.form.proofs.Same.{same, same-eq}
use Rattle.form.proofs.Meaning.{fits, stops-fits}
use Rattle.form.proofs.Steps as steps

-- every character of the form is a byte
abbrev pub of_bytes : Re → Bool
of_bytes none = true
of_bytes empty = true
of_bytes (range a b) = ltb b 256
of_bytes (seq p q) = both (of_bytes p) (of_bytes q)
of_bytes (alt p q) = both (of_bytes p) (of_bytes q)
of_bytes (upto n r) = of_bytes r

pub matched_bytes : {r : Re} {s : List ℕ} → Matches r s → T (of_bytes r) → Bytes s
matched_bytes nothing t = tt
matched_bytes (one {b = b} c h k) t = (omega (arith, ltb→lt b 256 t), tt)
matched_bytes (joined {p = p} {q = q} u v e m w) t =
    subst Bytes (sym e) (bytes-append u v (matched_bytes m (both_left (of_bytes p) (of_bytes q) t)) (matched_bytes w (both_right
    (of_bytes p) (of_bytes q) t)))
matched_bytes (left {p = p} {q = q} m) t = matched_bytes m (both_left (of_bytes p) (of_bytes q) t)
matched_bytes (right {p = p} {q = q} m) t = matched_bytes m (both_right (of_bytes p) (of_bytes q) t)
matched_bytes stop t = tt
matched_bytes (again u v e m w) t = subst Bytes (sym e) (bytes-append u v (matched_bytes m t) (matched_bytes w t))

-- the place q of the form r: a byte after which something is left passes the rule p there, and leaves what the next place begins with
abbrev place_row : (ℕ → ℕ → Bool) → ℕ → Re → Re → Bool
place_row p q r next = both (not (nullable r)) (below 256 (λ c. cond (alive (deriv c r)) (both (p q c) (same (deriv c r) next)) true))

-- the places from q on; at the last the text may end, and nothing goes on
abbrev pub placed : (ℕ → ℕ → Bool) → ℕ → Re → List Re → Bool
placed p q r [] = both (nullable r) (below 256 (λ c. not (alive (deriv c r))))
placed p q r (next ∷ more) = both (place_row p q r next) (placed p (suc q) next more)

-- the form after each of these texts
abbrev pub after : Re → List (List ℕ) → List Re
after r words = map (steps.left r) words

-- what is known of a text of the form, from the place q on
pub record Placed (p : ℕ → ℕ → Bool) (q m : ℕ) (s : List ℕ) : Type 0 where
  pub long : length s ≡ m
  pub at : (i : ℕ) → i < length s → T (p (q + i) (get_or s i 0))

absurd_not : {A : Type 0} (b : Bool) → T (not b) → b ≡ true → A
absurd_not true t e = absurd t
absurd_not false t e = absurd (let z : ◌≡◌ {A = ℕ} 0 1 = cc in omega arith)

pass : (p : ℕ → ℕ → Bool) (q c : ℕ) (d next : Re) (b : Bool) → b ≡ true → T (cond b (both (p q c) (same d next)) true) → T (both (p q c)
    (same d next))
pass p q c d next true e t = t
pass p q c d next false e t = absurd (let z : ◌≡◌ {A = ℕ} 0 1 = cc in omega arith)

fits-alive : (b : Bool) (v : Verdict) (n : ℕ) → cond b v (stops_at n) ≡ of_form → (b ≡ true) × (v ≡ of_form)
fits-alive true v n e = (refl, e)
fits-alive false v n e = stops-fits e

fits_null : (b : Bool) (n : ℕ) → cond b of_form (stops_at n) ≡ of_form → b ≡ true
fits_null true n e = refl
fits_null false n e = stops-fits e

placed-cons : (p : ℕ → ℕ → Bool) (q m c : ℕ) (cs : List ℕ) → T (p q c) → Placed p (suc q) m cs → Placed p q (suc m) (c ∷ cs)
placed-cons p q m c cs t l = record { long = ap suc l.long; at = each }
  where
    each : (i : ℕ) → i < length (c ∷ cs) → T (p (q + i) (get_or (c ∷ cs) i 0))
    each zero h = subst (λ (k : ℕ). T (p k c)) (sym (add-zero q)) t
    each (suc i) h = subst (λ (k : ℕ). T (p k (get_or cs i 0))) (suc-add q i ∙ sym (add-suc q i)) (l.at i (omega arith))

place_law : (p : ℕ → ℕ → Bool) (q n : ℕ) (r : Re) (rs : List Re) → T (placed p q r rs) → (s : List ℕ) → Bytes s → judge_from r n s ≡ of_form →
    Placed p q (length rs) s
place_law p q n r [] t [] b e = record { long = refl; at = λ i h. absurd (omega arith) }
place_law p q n r [] t (c ∷ cs) b e =
    absurd_not (alive (deriv c r))
    (below_at 256 (λ x. not (alive (deriv x r))) (both_right (nullable r) (below 256 (λ x. not (alive (deriv x r)))) t) c b.0)
    (fits-alive (alive (deriv c r)) (judge_from (deriv c r) (suc n) cs) n e).0
place_law p q n r (next ∷ more) t [] b e =
    let x = both_left (place_row p q r next) (placed p (suc q) next more) t in
    absurd_not (nullable r) (both_left (not (nullable r)) (below 256 (λ c. cond (alive (deriv c r)) (both (p q c) (same (deriv c r)
    next)) true)) x)
    (fits_null (nullable r) n e)
place_law p q n r (next ∷ more) t (c ∷ cs) b e =
    let rule : ℕ → Bool = λ x. cond (alive (deriv x r)) (both (p q x) (same (deriv x r) next)) true in
    let x = both_left (place_row p q r next) (placed p (suc q) next more) t in
    let f = fits-alive (alive (deriv c r)) (judge_from (deriv c r) (suc n) cs) n e in
    let g = pass p q c (deriv c r) next (alive (deriv c r)) f.0 (below_at 256 rule (both_right (not (nullable r)) (below 256 rule) x)
    c b.0) in
    let d = same-eq (deriv c r) next (both_right (p q c) (same (deriv c r) next) g) in
    placed-cons p q (length more) c cs (both_left (p q c) (same (deriv c r) next) g)
    (place_law p (suc q) (suc n) next more (both_right (place_row p q r next) (placed p (suc q) next more) t) cs b.1
    (subst (λ (z : Re). judge_from z (suc n) cs ≡ of_form) d f.1))

-- where the test over all places and bytes passes, a text of the form has its length and at each place what the rule allows
pub places : (p : ℕ → ℕ → Bool) (r : Re) (words : List (List ℕ)) → T (both (of_bytes r) (placed p 0 r (after r words))) → (s : List ℕ) →
    judge r s ≡ of_form → Placed p 0 (length (after r words)) s
places p r words t s e =
    place_law p 0 0 r (after r words) (both_right (of_bytes r) (placed p 0 r (after r words)) t) s
    (matched_bytes ((fits r s).0 e) (both_left (of_bytes r) (placed p 0 r (after r words)) t)) e
