-- A table judges as its form does, where one computed test passes: at each state, for the end of the text and for each byte, the table
-- stops where nothing is left of the form, and else goes to the state of what is left.
use mathlib.Core.Path.{◌≡◌, refl, sym, ap, subst, ◌∙◌}
use mathlib.Core.Bool.{Bool, true, false, not, cond}
use mathlib.Core.List.{List, [], ◌∷◌, map}
use Prim.Native.Nat.{ℕ, zero, suc, ◌+◌, ◌*◌, ◌<◌, ◌≤◌}
use native.Mathlib.Omega.{arith}
use native.Mathlib.Numerals.{add-one}
use lib.Dec.{T, eqb, ltb, ltb→lt, eqb→eq}
use lib.ListN.{length, get_or, drop, get_or-eq_default}
use lib.Seq.{drop-cons, drop-drop, drop-length, get_or-drop}
use borrow.Author.Tests.{eq-eqb, ne_eqb}
use Rattle.octets.specs.Bytes.{Bytes}
use Rattle.octets.proofs.Lists.{default}
use Rattle.octets.proofs.Computed.{both, both_left, both_right, every, every_at}
use Rattle.form.specs.Regex.{Re, none, empty, range, seq, alt, upto, alive, nullable, deriv, is_none, judge_from, judge}
use Rattle.form.specs.Machine.{entry, machine}
use Rattle.form.specs.Verdict.{Verdict, of_form, stops_at}
use Rattle.form.proofs.Same.{same, same-eq}
use Rattle.form.proofs.Steps.{left, is_true}

-- one step: to t, where d is left
abbrev goes_at : List Re → Re → ℕ → Bool
goes_at rs d t = cond (eqb t 255) (is_none d) (both (ltb t (length rs)) (both (same d (get_or rs t none)) (alive d)))

abbrev ends_at : Re → ℕ → Bool
ends_at r t = cond (eqb t 255) (not (nullable r)) (nullable r)

-- the row of a state with r left: the end of the text, and each byte by its class
abbrev row : List ℕ → List Re → Re → List ℕ → Bool
row class rs r line = both (ends_at r (get_or line 0 255)) (every (λ c k. goes_at rs (deriv c r) (get_or line k 255)) 0 class)

-- the rows of the states, in order
abbrev rows : List ℕ → List Re → List Re → List ℕ → Bool
rows class rs [] next = true
rows class rs (r ∷ more) next = both (row class rs r next) (rows class rs more (drop 32 next))

-- the test, where each word leads to a state
abbrev pub goes : Re → List ℕ → List ℕ → List (List ℕ) → Bool
goes r class next words = both (eqb (length class) 256) (rows class (map (left r) words) (map (left r) words) next)

end_law : (x y : Bool) (n : ℕ) → T (cond x (not y) y) → cond x (stops_at n) of_form ≡ cond y of_form (stops_at n)
end_law true true n t = absurd t
end_law true false n t = refl
end_law false true n t = refl
end_law false false n t = absurd t

none_dead : (r : Re) → T (is_none r) → alive r ≡ false
none_dead none t = refl
none_dead empty t = absurd t
none_dead (range a b) t = absurd t
none_dead (seq p q) t = absurd t
none_dead (alt p q) t = absurd t
none_dead (upto n r) t = absurd t

step_law : (x : Bool) (rs : List Re) (d : Re) (t n : ℕ) (m : Verdict) (cs : List ℕ) →
    T (cond x (is_none d) (both (ltb t (length rs)) (both (same d (get_or rs t none)) (alive d)))) →
    (t < length rs → m ≡ judge_from (get_or rs t none) (suc n) cs) →
    cond x (stops_at n) m ≡ cond (alive d) (judge_from d (suc n) cs) (stops_at n)
step_law true rs d t n m cs h k = simp (none_dead d h)
step_law false rs d t n m cs h k =
    let a = both_left (ltb t (length rs)) (both (same d (get_or rs t none)) (alive d)) h in
    let b = both_right (ltb t (length rs)) (both (same d (get_or rs t none)) (alive d)) h in
    let e = same-eq d (get_or rs t none) (both_left (same d (get_or rs t none)) (alive d) b) in
    let l = is_true (alive d) (both_right (same d (get_or rs t none)) (alive d) b) in
    rw l (k (ltb→lt t (length rs) a) ∙ ap (λ (r : Re). judge_from r (suc n) cs) (sym e))

row_at : (class : List ℕ) (rs : List Re) (qs : List Re) (next : List ℕ) → T (rows class rs qs next) → (q : ℕ) → q < length qs →
    T (row class rs (get_or qs q none) (drop (q * 32) next))
row_at class rs [] next t q h = absurd (omega arith)
row_at class rs (r ∷ more) next t zero h = both_left (row class rs r next) (rows class rs more (drop 32 next)) t
row_at class rs (r ∷ more) next t (suc q) h =
    let e : 32 + q * 32 ≡ suc q * 32 = omega arith in
    subst (λ (l : List ℕ). T (row class rs (get_or more q none) l)) (drop-drop (q * 32) 32 next ∙ ap (λ (k : ℕ). drop k next) e)
    (row_at class rs more (drop 32 next) (both_right (row class rs r next) (rows class rs more (drop 32 next)) t) q (omega arith))

module _ (class next : List ℕ) (rs : List Re) (all : length class ≡ 256) (ok : T (rows class rs rs next)) where
  abbrev at-end : ℕ → Bool
  at-end q = ends_at (get_or rs q none) (entry next q 0)

  abbrev at_byte : ℕ → ℕ → ℕ → Bool
  at_byte q c k = goes_at rs (deriv c (get_or rs q none)) (entry next q k)

  pub law : (s : List ℕ) → Bytes s → (n q : ℕ) → q < length rs → machine class next n q s ≡ judge_from (get_or rs q none) n s
  unfolding machine
  law [] b n q h =
      end_law (eqb (entry next q 0) 255) (nullable (get_or rs q none)) n
      (both_left (at-end q) (every (at_byte q) 0 class) (row_at class rs rs next ok q h))
  law (c ∷ cs) b n q h =
      step_law (eqb (entry next q (get_or class c 0)) 255) rs (deriv c (get_or rs q none)) (entry next q (get_or class c 0)) n _ cs
      (every_at (at_byte q) class (both_right (at-end q) (every (at_byte q) 0 class) (row_at class rs rs next ok q h)) c (omega
      (arith, b.0)))
      (law cs b.1 (suc n) (entry next q (get_or class c 0)))

-- where the words after the empty one lead to the other states, the table judges as the form does
pub judges : (r : Re) (words : List (List ℕ)) (v : Verdict) (class next s : List ℕ) → v ≡ machine class next 0 0 s → Bytes s →
    T (goes r class next ([] ∷ words)) → v ≡ judge r s
judges r words v class next s e b ok =
    let rs = map (left r) ([] ∷ words) in
    let x = eqb (length class) 256 in
    e ∙ law class next rs (eqb→eq (length class) 256 (both_left x (rows class rs rs next) ok)) (both_right x (rows class rs rs next) ok)
    s b 0 0 (omega arith)

-- an entry, read at its place in the whole table
pub entry_in : (next : List ℕ) (q k : ℕ) → q * 32 + k < length next → get_or next (q * 32 + k) 0 ≡ entry next q k
entry_in next q k h = default next (q * 32 + k) 0 255 h ∙ sym (get_or-drop (q * 32) next k 255)

pub entry_past : (next : List ℕ) (q k : ℕ) → length next ≤ q * 32 + k → 255 ≡ entry next q k
entry_past next q k h = sym (get_or-drop (q * 32) next k 255 ∙ get_or-eq_default next 255 h)

-- what the loops step by: the verdict on the bytes to come is the verdict on the whole, and the entry t decides
module _ (class next s : List ℕ) (i q t : ℕ) (whole : Verdict) (inv : machine class next i q (drop i s) ≡ whole) where
  module _ (h : i < length s) (e : t ≡ entry next q (get_or class (get_or s i 0) 0)) where
    turn : machine class next i q (drop i s) ≡ cond (eqb t 255) (stops_at i) (machine class next (i + 1) t (drop (i + 1) s))
    unfolding machine
    turn = rw (drop-cons s i 0 h, add-one, e)

    pub stop_at : t ≡ 255 → stops_at i ≡ whole
    stop_at f = sym (turn ∙ simp (eq-eqb t 255 f)) ∙ inv

    pub go_on : (t ≡ 255 → ⊥) → machine class next (i + 1) t (drop (i + 1) s) ≡ whole
    go_on f = sym (turn ∙ simp (ne_eqb t 255 f)) ∙ inv

  module _ (h : i ≤ length s) (k : length s ≤ i) (e : t ≡ entry next q 0) where
    ends : machine class next i q (drop i s) ≡ cond (eqb t 255) (stops_at i) of_form
    unfolding machine
    ends =
        let l : i ≡ length s = omega arith in
        ap (λ (z : List ℕ). machine class next i q z) (ap (λ (x : ℕ). drop x s) l ∙ drop-length s) ∙ rw e refl

    pub stop_end : t ≡ 255 → stops_at (length s) ≡ whole
    stop_end f =
        let l : i ≡ length s = omega arith in
        ap (λ (n : ℕ). stops_at n) (sym l) ∙ sym (ends ∙ simp (eq-eqb t 255 f)) ∙ inv

    pub fit-end : (t ≡ 255 → ⊥) → of_form ≡ whole
    fit-end f = sym (ends ∙ simp (ne_eqb t 255 f)) ∙ inv
