-- An account place as an array of 64 bytes: what is read of it is what is read of the head at the place.
use Rattle.std.proofs.Common.{ℕ, zero, suc, ◌≡◌, ◌+◌, ◌*◌, ◌-◌, ◌/◌, ◌<◌, ◌≤◌, Bool, true, false, cond, ◌&&◌, List, [], refl, sym, ap, ◌∙◌, length, take, drop, get_or, ltb, add-one, add-zero, arith}
use Rattle.std.proofs.lemmas.List.{length-drop, drop-drop, drop-take, get_or-take, get_or-drop, take-take, take_all}
use Rattle.std.proofs.Common.{to_z}
use Rattle.std.specs.Int.{w64}
use Rattle.std.proofs.lemmas.Bool.{le-leb, lt-leb, le-ltb, lt-ltb}
use native.Mathlib.Decide.{dec_le}
use Rattle.std.specs.Array.{IsFromFnResultFrom}
use Rattle.std.specs.Fn.{Called}
use Rattle.std.specs.List.{enumerate_from, list_all}
use Rattle.std.specs.Simd.{first_chunks}
use denote.Param.Members.{Mut}
use Rattle.octets.specs.Build.{build}
use Rattle.octets.specs.Numbers.{number}
use Rattle.octets.specs.Parts.{part, all_zero}
use Rattle.octets.proofs.Built.{build-all}
use Rattle.octets.proofs.Tests.{and-true}
use Rattle.head_form.specs.Form.{account_from, number_at, place_at, place_formed, places_formed}
use Rattle.head_form.proofs.Fields.{account_is}

pub chunk_at : (n count k : ℕ) (xs : List ℕ) → k < count → get_or (first_chunks n count xs) k [] ≡ take n (drop (k * n) xs)
chunk_at n zero k xs h = absurd (omega arith)
chunk_at n (suc count) zero xs h = let z : 0 ≡ 0 * n = omega arith in ap (λ (j : ℕ). take n (drop j xs)) z
chunk_at n (suc count) (suc k) xs h =
    let e : suc k * n ≡ n + k * n = omega arith in
    chunk_at n count k (drop n xs) (omega arith) ∙ rw (e, drop-drop (k * n) n xs)

-- the account places of a head, cut from the bytes behind its front
module _ (b rest : List ℕ) (ps : List (List ℕ)) (long : length b ≡ 2080) (behind : rest ≡ take (length b - 32) (drop 32 b))
    (cut : ps ≡ first_chunks 64 (length rest / 64) rest) where
  pub places_cut : ps ≡ first_chunks 64 32 (drop 32 b)
  places_cut =
      let all : rest ≡ drop 32 b = behind ∙ take_all (length b - 32) (drop 32 b) (simp length-drop (omega arith)) in
      cut ∙ rw (all, length-drop, long)

  pub place_cut : (k : ℕ) → k < 32 → get_or ps k [] ≡ part b (place_at k) 64
  place_cut k h = rw (places_cut, chunk_at 64 32 k (drop 32 b) h, drop-drop (k * 64) 32 b)

-- a part of a part
pub part_in : (b : List ℕ) (at w i v : ℕ) → i + v ≤ w → part (part b at w) i v ≡ part b (at + i) v
part_in b at w i v h =
    let e : w ≡ i + (w - i) = omega arith in
    rw (e, drop-take i (w - i) (drop at b), take-take v (w - i) (drop i (drop at b)) (omega arith), drop-drop i at b)

pub byte_in : (b : List ℕ) (at w i : ℕ) → i < w → get_or (part b at w) i 0 ≡ get_or b (at + i) 0
byte_in b at w i h = get_or-take w (drop at b) i 0 h ∙ get_or-drop at b i 0

pub account_in : (b : List ℕ) (at : ℕ) → account_from (part b at 64) 0 ≡ account_from b at
unfolding account_from
account_in b at =
    let n : (i w : ℕ) → i + w ≤ 64 → number_at (part b at 64) i w ≡ number_at b (at + i) w = λ i w h. ap number (part_in b at 64 i w h) in
    account_is b at (take-take 32 64 (drop at b) (omega arith)) (byte_in b at 64 52 (omega arith)) (n 32 8 (omega arith))
    (n 48 2 (omega arith)) (ap (to_z w64) (n 40 8 (omega arith))) (n 50 2 (omega arith))

-- calls at each number in turn, each of which leaves the closure as it was
module _ {F B : Type 0} (g : Mut F (ℕ × Unit {0}) B) (p : F) (f : ℕ → B) (d : B) (m : ℕ)
    (calls : (i : ℕ) (y : B) (q : F) → i < m → Called g p (i, tt) y q → (q ≡ p) × (y ≡ f i)) where
  made_from : (ys : List B) (i n : ℕ) → i + n ≤ m → IsFromFnResultFrom g p ys i n → (k : ℕ) → i ≤ k → k < i + n → f k ≡ get_or ys k d
  made_from ys i zero b h k low high = absurd (omega arith)
  made_from ys i (suc n) b h k low high =
      let c = calls i h.1 h.0 (omega arith) h.3 in elim (dec_le k i) [
        | yes e ↦ let here : k ≡ i = omega arith in rw here (sym c.1 ∙ sym (h.2.1 d))
        | no l ↦ made_from ys (i + 1) n (omega arith) (rw c.0 at h.4) k (omega arith) (omega arith)
      ]

  pub made : (ys : List B) → length ys ≡ m → IsFromFnResultFrom g p ys 0 m → ys ≡ build m f
  made ys l h =
      sym (take_all m ys (omega arith)) ∙ sym (build-all f d ys (λ k b. made_from ys 0 m (omega arith) h k (omega arith) (omega arith)) m (omega arith))

-- the verdict on a place: whether it is in use, and what is zero in it
abbrev pub place_test : ℕ → ℕ × List ℕ → Bool
place_test count p = let n = get_or p.1 52 0 in
    cond (ltb p.0 count) (all_zero (part p.1 n (32 - n)) && all_zero (part p.1 53 11)) (all_zero p.1)

name_in : (b : List ℕ) (at n : ℕ) → part (part b at 64) n (32 - n) ≡ part b (at + n) (32 - n)
name_in b at n = elim (dec_le n 32) [
  | yes short ↦ part_in b at 64 n (32 - n) (omega arith)
  | no long ↦ let none : 32 - n ≡ 0 = omega arith in rw none
]

place_tested : (b : List ℕ) (count k : ℕ) → place_test count (k, part b (place_at k) 64) ≡ place_formed b count k
unfolding place_formed
place_tested b count k = elim (dec_le count k) [
  | yes past ↦ rw (le-ltb k count past, le-leb count k past)
  | no used ↦
      let n = get_or b (place_at k + 52) 0 in
      rw (
        lt-ltb k count (omega arith),
        lt-leb count k (omega arith),
        byte_in b (place_at k) 64 52 (omega arith),
        name_in b (place_at k) n,
        part_in b (place_at k) 64 53 11 (omega arith),
      )
]

turned : (t r p : Bool) → (t && r) && p ≡ r && (p && t)
turned true true true = refl
turned true true false = refl
turned true false p = refl
turned false true true = refl
turned false true false = refl
turned false false p = refl

tested_from : (b : List ℕ) (count i n : ℕ) →
    list_all (place_test count) (enumerate_from i (first_chunks 64 n (drop (place_at i) b))) && places_formed b count i ≡ places_formed b count (i + n)
unfolding places_formed
tested_from b count i zero = ap (places_formed b count) (sym (add-zero i))
tested_from b count i (suc n) =
    let all : ℕ → List ℕ → Bool = λ j l. list_all (place_test count) (enumerate_from j (first_chunks 64 n l)) in
    let next : place_at i + 64 ≡ place_at (suc i) = omega arith in
    let moved : drop 64 (drop (place_at i) b) ≡ drop (place_at (suc i)) b = drop-drop 64 (place_at i) b ∙ ap (λ (j : ℕ). drop j b) next in
    let more : suc i + n ≡ i + suc n = omega arith in
    turned _ (all (i + 1) (drop 64 (drop (place_at i) b))) (places_formed b count i)
    ∙ ap (λ (t : Bool). all (i + 1) (drop 64 (drop (place_at i) b)) && (places_formed b count i && t)) (place_tested b count i)
    ∙ ap (λ (l : List ℕ). all (i + 1) l && places_formed b count (suc i)) moved
    ∙ ap (λ (j : ℕ). all j (drop (place_at (suc i)) b) && places_formed b count (suc i)) (add-one i)
    ∙ tested_from b count (suc i) n ∙ ap (places_formed b count) more

pub places_tested : (b : List ℕ) (count : ℕ) → list_all (place_test count) (enumerate_from 0 (first_chunks 64 32 (drop 32 b))) ≡ places_formed b count 32
unfolding places_formed
places_tested b count = sym (and-true _) ∙ tested_from b count 0 32
