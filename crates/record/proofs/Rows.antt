-- A book as a list of records: its rows one by one, after a store, and as a first part and the rest; and one record lent from it.
use Prim.Native.Nat.{ℕ, zero, suc, ◌+◌, ◌*◌, ◌-◌, ◌<◌, ◌≤◌}
use mathlib.Core.Path.{◌≡◌, refl, ap, ap₂, sym, ◌∙◌}
use mathlib.Core.Bool.{Bool, true, false, not, ◌&&◌}
use Rattle.std.proofs.Math.Bool.{and_comm}
use mathlib.Core.List.{List, [], ◌∷◌, ◌++◌}
use native.Mathlib.Omega.{arith}
use native.Mathlib.Nat.{zero-add, suc-add}
use lib.Dec.{leb, ltb, eqb}
use lib.Pointwise.{pointwise}
use Rattle.std.specs.Prelude.{◌/◌, cond, Some, None, position}
use Rattle.std.specs.List.{position_or_len}
use Rattle.std.proofs.Math.Numerals.{one-add}
use Rattle.std.proofs.lemmas.List.Recursion.{is_position_or_len}
use lib.ListN.{length, take, drop, get_or, set, length-drop}
use lib.Seq.{sets, length-sets, take_at, drop_at, drop-drop, get_or-take, get_or-drop}
use borrow.Author.Tests.{leb-true, leb-false}
use borrow.Rule.Slice.PartMut.{put_mid}
use Rattle.octets.specs.Lists.{index}
use Rattle.octets.specs.Numbers.{number_from}
use Rattle.octets.specs.Parts.{part, same, zeros}
use Rattle.octets.proofs.Lists.{sets-start}
use Rattle.octets.proofs.Equal.{same_by_pairs}
use Rattle.octets.proofs.Stores.{length-zeros}
use Rattle.octets.proofs.Parts.{length_part, take-sets, drop-sets-add, part_stored, part-before, part-behind, part_home, sets_over}
use Rattle.record.specs.Layout.{Row, get, num, id_field, state_field, is_free, new_row}
use Rattle.record.specs.declared.Content.{Content}
use Rattle.record.specs.Rows.{rows, row, holds}
use Rattle.record.proofs.Fields.{num_byte, Sized, new_state}

pub length-rows : (n : ℕ) (b : List ℕ) → length (rows n b) ≡ n
length-rows zero b = refl
length-rows (suc n) b = ap suc (length-rows n (drop 160 b))

-- what lies k records and one further on
later : (k : ℕ) (b : List ℕ) → drop (k * 160) (drop 160 b) ≡ drop (suc k * 160) b
later k b = let e : 160 + k * 160 ≡ suc k * 160 = omega arith in drop-drop (k * 160) 160 b ∙ ap (λ (i : ℕ). drop i b) e

pub rows_at : (n k : ℕ) (b : List ℕ) (d : Row) → k < n → get_or (rows n b) k d ≡ row b k
rows_at zero k b d h = absurd (omega arith)
rows_at (suc n) zero b d h = refl
rows_at (suc n) (suc k) b d h = rows_at n k (drop 160 b) d (omega arith) ∙ ap (take 160) (later k b)

-- a record's bytes, after a store of that record or of another
pub length-row : (b : List ℕ) (k : ℕ) → k * 160 + 160 ≤ length b → length (row b k) ≡ 160
length-row b k h = length_part b (k * 160) 160 h

pub row_same : (b v : List ℕ) (k : ℕ) → length v ≡ 160 → k * 160 + 160 ≤ length b → row (sets b (k * 160) v) k ≡ v
row_same b v k e h = ap (part (sets b (k * 160) v) (k * 160)) (sym e) ∙ part_stored b v (k * 160) (omega arith)

pub row_other : (b v : List ℕ) (k j : ℕ) → length v ≡ 160 → (j ≡ k → ⊥) → row (sets b (k * 160) v) j ≡ row b j
row_other b v k j e h = go (leb k j) refl
  where
    go : (t : Bool) → leb k j ≡ t → row (sets b (k * 160) v) j ≡ row b j
    go true p = let l : k ≤ j = leb-true k j p in part-behind b v (k * 160) (j * 160) 160 (omega arith)
    go false p = let l : j < k = leb-false k j p in part-before b v (k * 160) (j * 160) 160 (omega arith)

-- a first part and the rest
pub rows-add : (k n : ℕ) (b : List ℕ) → rows (k + n) b ≡ rows k b ++ rows n (drop (k * 160) b)
rows-add zero n b = rw zero-add
rows-add (suc k) n b =
    ap (λ (m : ℕ). rows m b) (suc-add k n)
    ∙ ap (◌∷◌ (take 160 b)) (rows-add k n (drop 160 b) ∙ ap (λ (l : List ℕ). rows k (drop 160 b) ++ rows n l) (later k b))

pub rows_split : (k n : ℕ) (b : List ℕ) → k ≤ n → rows n b ≡ rows k b ++ rows (n - k) (drop (k * 160) b)
rows_split k n b h = let e : n ≡ k + (n - k) = omega arith in ap (λ (m : ℕ). rows m b) e ∙ rows-add k (n - k) b

pub rows_snoc : (n : ℕ) (b : List ℕ) → rows (suc n) b ≡ rows n b ++ (row b n ∷ [])
rows_snoc n b = let e : suc n ≡ n + 1 = omega arith in ap (λ (m : ℕ). rows m b) e ∙ rows-add n 1 b

pub take-rows : (k n : ℕ) (b : List ℕ) → k ≤ n → take k (rows n b) ≡ rows k b
take-rows k n b h = ap (take k) (rows_split k n b h) ∙ take_at (rows k b) (rows (n - k) (drop (k * 160) b)) k (length-rows k b)

pub drop-rows : (k n : ℕ) (b : List ℕ) → k ≤ n → drop k (rows n b) ≡ rows (n - k) (drop (k * 160) b)
drop-rows k n b h = ap (drop k) (rows_split k n b h) ∙ drop_at (rows k b) (rows (n - k) (drop (k * 160) b)) k (length-rows k b)

-- a store one record further on keeps the first row, and is a store into the rest
module _ (b v : List ℕ) (k : ℕ) where
  first-kept : take 160 (sets b (suc k * 160) v) ≡ take 160 b
  first-kept = take-sets b v 160 (suc k * 160) (omega arith)

  into_rest : drop 160 (sets b (suc k * 160) v) ≡ sets (drop 160 b) (k * 160) v
  into_rest =
      let e : suc k * 160 ≡ 160 + k * 160 = omega arith in
      ap (λ (i : ℕ). drop 160 (sets b i v)) e ∙ drop-sets-add b v 160 (k * 160)

-- one record written: that row is new, and the others are kept
pub rows-set : (n k : ℕ) (b v : List ℕ) → length v ≡ 160 → n * 160 ≤ length b → k < n → rows n (sets b (k * 160) v) ≡ set (rows n b) k v
rows-set zero k b v e h g = absurd (omega arith)
rows-set (suc n) zero b v e h g =
    ap (rows (suc n)) (sets-start v b (omega arith))
    ∙ ap₂ ◌∷◌ (take_at v (drop (length v) b) 160 e) (ap (rows n) (drop_at v (drop (length v) b) 160 e ∙ ap (λ (i : ℕ). drop i b) e))
rows-set (suc n) (suc k) b v e h g =
    let long : n * 160 ≤ length (drop 160 b) = simp length-drop (omega arith) in
    ap₂ ◌∷◌ (first-kept b v k) (ap (rows n) (into_rest b v k) ∙ rows-set n k (drop 160 b) v e long (omega arith))

-- rows before the place that is written
pub rows_before : (n k : ℕ) (b v : List ℕ) → n ≤ k → rows n (sets b (k * 160) v) ≡ rows n b
rows_before zero k b v h = refl
rows_before (suc n) zero b v h = absurd (omega arith)
rows_before (suc n) (suc k) b v h =
    ap₂ ◌∷◌ (first-kept b v k) (ap (rows n) (into_rest b v k) ∙ rows_before n k (drop 160 b) v (omega arith))

-- one record more, behind the n that are there
pub rows_more : (n : ℕ) (b v : List ℕ) → length v ≡ 160 → n * 160 + 160 ≤ length b →
    rows (suc n) (sets b (n * 160) v) ≡ rows n b ++ (v ∷ [])
rows_more n b v e h =
    rows_snoc n (sets b (n * 160) v)
    ∙ ap₂ (λ (rs : List Row) (r : Row). rs ++ (r ∷ [])) (rows_before n n b v (omega arith)) (row_same b v n e h)

-- a record's own bytes, as a call is lent them, and what is left in the book when they come home
abbrev pub lent : List ℕ → ℕ → List ℕ
lent b k = part b (k * 160) (k * 160 + 160 - k * 160)

pub lent_row : (b : List ℕ) (k : ℕ) → lent b k ≡ row b k
lent_row b k = let e : k * 160 + 160 - k * 160 ≡ 160 = omega arith in ap (part b (k * 160)) e

pub row_home : (b v : List ℕ) (k : ℕ) → k * 160 + 160 ≤ length b → length v ≡ 160 →
    put_mid (k * 160) (k * 160 + 160 - k * 160) b v ≡ sets b (k * 160) v
row_home b v k h e = part_home b v (k * 160) (k * 160 + 160) (omega arith) h (omega arith)

-- a slot that is cleared
pub row_cleared : (b v : List ℕ) (k : ℕ) → k * 160 + 160 ≤ length b → v ≡ zeros (length (lent b k)) →
    put_mid (k * 160) (k * 160 + 160 - k * 160) b v ≡ sets b (k * 160) (zeros 160)
row_cleared b v k h e =
    let z : v ≡ zeros 160 = e ∙ ap zeros (ap length (lent_row b k) ∙ length-row b k h) in
    row_home b v k h (ap length z ∙ length-zeros 160) ∙ ap (sets b (k * 160)) z

-- a record that is stored in a place and then set anew there
pub row_anew : (b o v r : List ℕ) (k : ℕ) (anew : Row → Row) → k * 160 + 160 ≤ length b → length r ≡ 160 → o ≡ sets b (k * 160) r →
    length v ≡ length (lent o k) → v ≡ anew (lent o k) → put_mid (k * 160) (k * 160 + 160 - k * 160) o v ≡ sets b (k * 160) (anew r)
row_anew b o v r k anew h n e l f =
    let long : k * 160 + 160 ≤ length o = rw (e, length-sets) h in
    let m : length v ≡ 160 = l ∙ ap length (lent_row o k) ∙ length-row o k long in
    let g : v ≡ anew r = f ∙ ap anew (lent_row o k ∙ ap (λ (l : List ℕ). row l k) e ∙ row_same b r k n h) in
    row_home o v k long m ∙ ap (λ (l : List ℕ). sets l (k * 160) v) e ∙ sets_over b r v (k * 160) (omega arith) (omega arith)
    ∙ ap (sets b (k * 160)) g

-- the place that the library finds is the index, where there is one
index-library : (q : Row → Bool) (rs : List Row) → index q rs ≡ position_or_len q rs
index-library q rs = is_position_or_len (index q) q refl (λ r more. rw one-add) rs

pub position-index : (q : Row → Bool) (rs : List Row) → position q rs ≡ cond (ltb (index q rs) (length rs)) (Some (index q rs)) None
position-index q rs = rw (index-library q rs)

-- what is found among the first n records of a book, and one record of a book
module _ (b : List ℕ) where
  whole : (n : ℕ) → n * 160 ≤ length b → n ≤ length b / 160
  whole n h = omega arith

  pub first_rows : (n : ℕ) → n * 160 ≤ length b → take n (rows (length b / 160) b) ≡ rows n b
  first_rows n h = take-rows n (length b / 160) b (whole n h)

  pub position-first : (q : Row → Bool) (n : ℕ) → n * 160 ≤ length b →
      position q (take n (rows (length b / 160) b)) ≡ cond (ltb (index q (rows n b)) n) (Some (index q (rows n b))) None
  position-first q n h = rw (first_rows n h, position-index q (rows n b), length-rows n b)

  pub record_at : (k : ℕ) (d : Row) → k * 160 + 160 ≤ length b → get_or (rows (length b / 160) b) k d ≡ row b k
  record_at k d h = rows_at (length b / 160) k b d (omega arith)

-- the byte that tells a free slot
pub state_of_lem : (b : List ℕ) (k : ℕ) → k * 160 + 160 ≤ length b → num state_field (row b k) ≡ get_or b (k * 160 + 16) 0
state_of_lem b k h =
    num_byte 16 (row b k) (omega (arith, length-row b k h)) ∙ get_or-take 160 (drop (k * 160) b) 16 0 (omega arith)
    ∙ get_or-drop (k * 160) b 16 0

-- what is found by an id, as the library compares it
pub holds_by_bytes : (id : List ℕ) (r : Row) → 16 < length r →
    holds id r ≡ pointwise eqb (take 16 r) id && not (eqb (get_or r 16 0) 0)
unfolding holds get
holds_by_bytes id r h =
    rw (num_byte 16 r h, same_by_pairs (take 16 r) id) (and_comm (not (eqb (get_or r 16 0) 0)) (same (take 16 r) id))

-- which records are found by an id: a free slot never, and any other by the id that it holds
pub free_held : (id : List ℕ) (r : Row) → is_free r ≡ true → holds id r ≡ false
unfolding holds
free_held id r e = rw e

pub used_held : (id : List ℕ) (r : Row) → is_free r ≡ false → holds id r ≡ same (get id_field r) id
unfolding holds
used_held id r e = rw e

-- a slot that was cleared is free, and a new record is not
pub zeros_free : is_free (zeros 160) ≡ true
unfolding get zeros number_from
zeros_free = refl

pub new_used : (c : Content) (payer payee n : ℕ) → Sized c → is_free (new_row c payer payee n) ≡ false
new_used c payer payee n sized = rw (new_state c payer payee n sized)
