-- The three forms are rows: at each place the form goes on by the row's bytes and no other, and may end where the row may.
use mathlib.Core.Path.{◌≡◌, refl, ap, ◌∙◌, sym}
use mathlib.Core.Bool.{Bool, true, false, not, cond}
use mathlib.Core.List.{List, [], ◌∷◌}
use Prim.Native.Nat.{ℕ, zero, suc, ◌+◌, ◌<◌, ◌≤◌}
use native.Mathlib.Decide.{ℕ_discrete}
use native.Mathlib.Omega.{arith}
use native.Mathlib.Numerals.{add-one}
use lib.Dec.{T, ltb}
use lib.ListN.{length, get_or, drop}
use lib.Seq.{drop-cons, drop-length}
use borrow.Author.Tests.{lt-ltb, le-ltb}
use Rattle.octets.specs.Bytes.{Bytes}
use Rattle.std.proofs.Common.{Fits, w8}
use Rattle.octets.proofs.Lists.{bytes}
use Rattle.octets.proofs.Computed.{both, both_left, both_right, below, below_at}
use Rattle.octets.proofs.Tests.{is_false}
use Rattle.form.specs.Regex.{Re, none, nullable, alive, deriv, judge_from, judge}
use Rattle.form.specs.Listings.{name_form, currency_form, code_form}
use Rattle.form.specs.Verdict.{Verdict, of_form, stops_at}
use Rattle.form.proofs.Same.{same, same-eq}
use Rattle.form.proofs.Steps.{is_true}
use Rattle.tokens.specs.Row.{may_stand, judge_row}
use Rattle.tokens.specs.declared.Row.{Row}
use Rattle.tokens.specs.declared.TheConstants.{NAME, CURRENCY, CODE}

-- the form may end here exactly if the text may (e), and goes on by this byte, to this rest, exactly if the byte may stand (t)
abbrev ends_by : Bool → Re → Bool
ends_by e r = cond e (not (nullable r)) (nullable r)

abbrev goes_by : Bool → Re → Re → Bool
goes_by t d rest = cond t (both (alive d) (same d rest)) (not (alive d))

abbrev at_place : Row → ℕ → Re → Re → Bool
at_place p n r rest = both (ends_by (ltb n p.fewest) r) (below 256 (λ c. goes_by (may_stand p n c) (deriv c r) rest))

-- the test: after n bytes r is left, and these forms after each byte more
abbrev is_row : Row → ℕ → Re → List Re → Bool
is_row p n r [] = at_place p n r none
is_row p n r (rest ∷ more) = both (at_place p n r rest) (is_row p (suc n) rest more)

ends : (e : Bool) (r : Re) (n : ℕ) → T (ends_by e r) → cond (nullable r) of_form (stops_at n) ≡ cond e (stops_at n) of_form
ends true r n t = rw (is_false (nullable r) t) refl
ends false r n t = rw (is_true (nullable r) t) refl

goes : (t : Bool) (d rest : Re) (n : ℕ) (cs : List ℕ) (v : Verdict) → T (goes_by t d rest) → (T (alive rest) → judge_from rest (suc n) cs ≡ v) →
    cond (alive d) (judge_from d (suc n) cs) (stops_at n) ≡ cond t v (stops_at n)
goes false d rest n cs v x e = rw (is_false (alive d) x) refl
goes true d rest n cs v x e =
    let a = both_left (alive d) (same d rest) x in
    let q = same-eq d rest (both_right (alive d) (same d rest) x) in
    rw (is_true (alive d) a) (ap (λ (z : Re). judge_from z (suc n) cs) q ∙ e (rw q at a))

judged : (p : Row) (n : ℕ) (r : Re) (rs : List Re) → T (is_row p n r rs) → (s : List ℕ) → Bytes s → judge_from r n s ≡ judge_row p n s
unfolding judge_row
judged p n r [] t [] b = ends (ltb n p.fewest) r n (both_left (ends_by (ltb n p.fewest) r) _ t)
judged p n r (rest ∷ more) t [] b =
    let here = both_left (at_place p n r rest) _ t in
    ends (ltb n p.fewest) r n (both_left (ends_by (ltb n p.fewest) r) _ here)
judged p n r [] t (c ∷ cs) b =
    let byte = below_at 256 (λ x. goes_by (may_stand p n x) (deriv x r) none) (both_right (ends_by (ltb n p.fewest) r) _ t) c b.0 in
    goes (may_stand p n c) (deriv c r) none n cs _ byte (λ a. absurd a)
judged p n r (rest ∷ more) t (c ∷ cs) b =
    let here = both_left (at_place p n r rest) _ t in
    let byte = below_at 256 (λ x. goes_by (may_stand p n x) (deriv x r) rest) (both_right (ends_by (ltb n p.fewest) r) _ here) c b.0 in
    goes (may_stand p n c) (deriv c r) rest n cs _ byte
    (λ a. judged p (suc n) rest more (both_right (at_place p n r rest) (is_row p (suc n) rest more) t) cs b.1)

-- what is left of a form after one, two and more of a byte
abbrev forms : ℕ → ℕ → Re → List Re
forms zero c r = []
forms (suc n) c r = deriv c r ∷ forms n c (deriv c r)

name_row : T (is_row NAME 0 name_form (forms 32 33 name_form))
unfolding same ℕ_discrete
name_row = tt

currency_row : T (is_row CURRENCY 0 currency_form (forms 3 65 currency_form))
unfolding same ℕ_discrete
currency_row = tt

code_row : T (is_row CODE 0 code_form (forms 4 49 code_form))
unfolding same ℕ_discrete
code_row = tt

module _ (s : List ℕ) (small : (k : ℕ) → Fits w8 (get_or s k 0)) where
  bytes_of : Bytes s
  bytes_of = bytes s (λ k. (small k).fits)

  pub name_judged : judge_row NAME 0 s ≡ judge name_form s
  name_judged = sym (judged NAME 0 name_form (forms 32 33 name_form) name_row s bytes_of)

  pub currency_judged : judge_row CURRENCY 0 s ≡ judge currency_form s
  currency_judged = sym (judged CURRENCY 0 currency_form (forms 3 65 currency_form) currency_row s bytes_of)

  pub code_judged : judge_row CODE 0 s ≡ judge code_form s
  code_judged = sym (judged CODE 0 code_form (forms 4 49 code_form) code_row s bytes_of)

-- what the loop steps by: the verdict on the bytes to come is the verdict on the whole
module _ (p : Row) (s : List ℕ) (i : ℕ) (whole : Verdict) (inv : judge_row p i (drop i s) ≡ whole) where
  module _ (h : i < length s) where
    turn : judge_row p i (drop i s) ≡ cond (may_stand p i (get_or s i 0)) (judge_row p (i + 1) (drop (i + 1) s)) (stops_at i)
    unfolding judge_row
    turn = rw (drop-cons s i 0 h, add-one)

    pub stops_here : may_stand p i (get_or s i 0) ≡ false → stops_at i ≡ whole
    stops_here f = sym (turn ∙ rw f refl) ∙ inv

    pub goes_on : may_stand p i (get_or s i 0) ≡ true → judge_row p (i + 1) (drop (i + 1) s) ≡ whole
    goes_on f = sym (turn ∙ rw f refl) ∙ inv

  module _ (h : length s ≤ i) (k : i ≤ length s) where
    end : cond (ltb (length s) p.fewest) (stops_at (length s)) of_form ≡ whole
    unfolding judge_row
    end = let e : i ≡ length s = omega arith in rw (e, drop-length s) at inv

    pub too_short : length s < p.fewest → stops_at (length s) ≡ whole
    too_short l = rw (lt-ltb (length s) p.fewest l) at end

    pub long_enough : p.fewest ≤ length s → of_form ≡ whole
    long_enough l = rw (le-ltb (length s) p.fewest l) at end
