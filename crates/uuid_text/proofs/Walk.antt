-- The reader's steps: one place more, the place where the walk stopped, and one byte more.
use mathlib.Core.Logic.{◌⊎◌, inl, inr}
use mathlib.Core.Path.{◌≡◌, refl, sym, ap, subst⁻¹, ◌∙◌}
use mathlib.Core.Bool.{Bool, true, false, cond}
use mathlib.Core.List.{List}
use Prim.Native.Nat.{ℕ, ◌+◌, ◌*◌, ◌%◌, ◌≤◌, ◌<◌, min}
use native.Mathlib.Decide.{dec_lt}
use native.Mathlib.Omega.{arith}
use native.Mathlib.Nat.{zero-add}
use lib.Dec.{T, ltb, eqb, ltb→lt, eqb→eq}
use lib.ListN.{length, get_or}
use Rattle.octets.specs.Bytes.{Bytes}
use Rattle.form.specs.Regex.{judge}
use Rattle.form.specs.Listings.{id_form}
use Rattle.form.specs.Verdict.{of_form, stops_at}
use Rattle.octets.proofs.Computed.{both, both_left, both_right, below, below_at}
use Rattle.octets.proofs.Lists.{byte-at}
use Rattle.uuid_text.specs.Id.{place_of, byte_at}
use Rattle.uuid_text.specs.Row.{may_stand, Walked, StopsAt, digit_of}
use Rattle.uuid_text.specs.declared.TheConstants.{PLACES}
use Rattle.uuid_text.proofs.Hex.{value-is, value_small}
use Rattle.uuid_text.proofs.Row.{row_fits, row-stops}
use Rattle.uuid_text.proofs.Letters.{id_row, form_bytes, letters, high_hex, low_hex}

-- no place is looked at yet, and one place more is
pub begun : (s : List ℕ) (start : ℕ) → Walked s start start 36
begun s start = record { within = omega arith; before = λ j h l. absurd (omega arith); wrong = λ h. absurd (omega arith) }

-- what the test of a place finds
pub found_by : (b : Bool) (i found : ℕ) → ((b ≡ true) × (found ≡ 36)) ⊎ ((b ≡ false) × (found ≡ i)) → found ≡ cond b 36 i
found_by b i found (inl e) = rw e.0 e.1
found_by b i found (inr e) = rw e.0 e.1

pub onward : (s : List ℕ) (start i k found first : ℕ) → Walked s start i k → found ≡ cond (may_stand i (get_or s i 0)) 36 i →
    first ≡ min k found → Walked s start (i + 1) first
onward s start i k found first w f m = subst⁻¹ (Walked s start (i + 1)) (m ∙ ap (min k) f) (go (may_stand i (get_or s i 0)) refl)
  where
    right : may_stand i (get_or s i 0) ≡ true → (j : ℕ) → start ≤ j → j < i + 1 → j < k → may_stand j (get_or s j 0) ≡ true
    right e j h l m = elim (dec_lt j i) [ yes x ↦ w.before j h x m | no x ↦ (let y : j ≡ i = omega arith in rw y e) ]

    go : (t : Bool) → may_stand i (get_or s i 0) ≡ t → Walked s start (i + 1) (min k (cond t 36 i))
    go true e =
        let m : min k 36 ≡ k = omega (arith, w.within) in
        rw m (record { within = w.within; before = right e; wrong = w.wrong })
    go false e = elim (dec_lt k i) [
      | yes x ↦
          (let m : min k i ≡ k = omega arith in
          rw m (record { within = w.within; before = λ j h l y. w.before j h (omega arith) y; wrong = w.wrong }))
      | no x ↦
          (let m : min k i ≡ i = omega arith in
          rw m
          (record { within = omega (arith, w.within); before = λ j h l y. w.before j h (omega arith) (omega arith); wrong = λ y. e }))
    ]

-- two walks, one behind the other
pub joined : (s : List ℕ) (start middle end front back first : ℕ) → Walked s start middle front → Walked s middle end back →
    first ≡ min front back → Walked s start end first
joined s start middle end front back first v w m =
    record {
      within = omega (arith, v.within);
      before = λ j h l y. elim (dec_lt j middle) [
        | yes x ↦ v.before j h x (omega arith)
        | no x ↦ w.before j (omega arith) l (omega arith)
      ];
      wrong = λ h. elim (dec_lt front back) [
        | yes x ↦ (let e : first ≡ front = omega arith in rw e (v.wrong (omega arith)))
        | no x ↦ (let e : first ≡ back = omega arith in rw e (w.wrong (omega arith)))
      ];
    }

-- a walk over all places that the text and the form have
pub stopped : (s : List ℕ) (n k first : ℕ) → Walked s 0 n k → n ≡ min (length s) 36 → first ≡ min k n → StopsAt s first
stopped s n k first w m f =
    record {
      in_form_lem = omega (arith, w.within);
      in_text = omega arith;
      before = λ j l. w.before j (omega arith) (omega arith) (omega arith);
      wrong = λ l h. (let e : first ≡ k = omega arith in rw e (w.wrong (omega arith)));
    }

-- the verdict, by the reader's tests
module _ (s : List ℕ) (b : Bytes s) (k : ℕ) (w : StopsAt s k) where
  pub goes_through : 36 ≤ k → length s ≡ 36 → judge id_form s ≡ of_form
  goes_through h l = id_row s b ∙ row_fits may_stand 36 0 s l (λ i m. w.before i (omega arith))

  pub stops_there : (k < 36) ⊎ ((36 ≤ k) × (length s ≡ 36 → ⊥)) → stops_at k ≡ judge id_form s
  stops_there e =
      sym (id_row s b ∙ row-stops may_stand 36 0 k s w.in_form_lem w.in_text w.before w.wrong (ends e) ∙ ap (λ (n : ℕ). stops_at n) (zero-add k))
    where
      ends : (k < 36) ⊎ ((36 ≤ k) × (length s ≡ 36 → ⊥)) → k ≡ 36 → length s ≡ 36 → ⊥
      ends (inl h) f l = omega arith
      ends (inr n) f l = n.1 l

-- the places of the digits, which lie in the text
place_test : ℕ → Bool
place_test k = both (eqb (get_or PLACES k 0) (place_of k)) (ltb (place_of k) 35)

places-tested : T (below 16 place_test)
unfolding place_test
places-tested = tt

pub place-is : (k : ℕ) → k < 16 → (get_or PLACES k 0 ≡ place_of k) × (place_of k < 35)
unfolding place_test
place-is k h =
    let t = below_at 16 place_test places-tested k h in (
      eqb→eq (get_or PLACES k 0) (place_of k) (both_left (eqb (get_or PLACES k 0) (place_of k)) _ t),
      ltb→lt (place_of k) 35 (both_right (eqb (get_or PLACES k 0) (place_of k)) _ t),
    )

pub place_in : (s : List ℕ) → judge id_form s ≡ of_form → (k : ℕ) → k < 16 → get_or PLACES k 0 + 1 < length s
place_in s e k h = omega (arith, place-is k h, (letters s e).0)

-- a byte of a text of the form
pub pair_is : (s : List ℕ) → judge id_form s ≡ of_form → (k : ℕ) → k < 16 →
    digit_of (get_or s (get_or PLACES k 0) 0) % 16 * 16 + digit_of (get_or s (get_or PLACES k 0 + 1) 0) % 16 ≡ byte_at s k
unfolding byte_at
pair_is s e k h =
    let high = get_or s (place_of k) 0 in
    let low = get_or s (place_of k + 1) 0 in
    let a : high < 256 = byte-at s (form_bytes s e) (place_of k) in
    let b : low < 256 = byte-at s (form_bytes s e) (place_of k + 1) in
    let x = high_hex s e k h in
    let y = low_hex s e k h in
    rw ((place-is k h).0, value-is high a x, value-is low b y) (omega (arith, value_small high a x, value_small low b y))
