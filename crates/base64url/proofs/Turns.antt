-- One turn of the reader's and of the writer's loop, and what is left after ten.
use mathlib.Core.Path.{◌≡◌, refl, sym, ap, ◌∙◌}
use mathlib.Core.Bool.{Bool, true, false, ◌&&◌}
use mathlib.Core.List.{List, [], ◌∷◌, ◌++◌, map, append_assoc, append-nil}
use Prim.Native.Nat.{ℕ, zero, suc, min, ◌+◌, ◌-◌, ◌*◌, ◌/◌, ◌%◌, ◌≤◌, ◌<◌}
use native.Mathlib.Omega.{arith}
use lib.ListN.{length, get_or, take, drop, drop_of_length-le, length-append, length-take, length-drop}
use lib.Seq.{drop-cons, drop-drop, drop-length}
use borrow.Rule.Slice.PartMut.{put_mid}
use Rattle.std.specs.Prelude.{Option, Some, None, Result, Ok, Err}
use Rattle.std.specs.Simd.{first_chunks}
use Rattle.std.specs.Option.{MatchOption}
use Rattle.std.specs.Result.{IsErrAnd}
use Rattle.std.proofs.lemmas.Slice.{take-put_mid}
use Rattle.base64url.specs.Letters.{alphabet, place_from, letter_of, value_of, is_letter}
use Rattle.base64url.specs.Condition.{bytes_of, four_values, values_of, condition_text}
use Rattle.base64url.specs.Scan.{four_letters, bytes_of_four, group_of, all_letters}

-- the next elements of a list
module _ (l : List ℕ) (i : ℕ) where
  next-two : i + 2 ≤ length l → drop i l ≡ get_or l i 0 ∷ get_or l (i + 1) 0 ∷ drop (i + 2) l
  next-two h =
      let e : i + 1 ≡ suc i = omega arith in
      let f : i + 2 ≡ suc (suc i) = omega arith in
      rw (e, f) (drop-cons l i 0 (omega arith) ∙ ap (λ (z : List ℕ). get_or l i 0 ∷ z) (drop-cons l (suc i) 0 (omega arith)))

  next_three : i + 3 ≤ length l → drop i l ≡ get_or l i 0 ∷ get_or l (i + 1) 0 ∷ get_or l (i + 2) 0 ∷ drop (i + 3) l
  next_three h =
      let f : i + 3 ≡ suc (i + 2) = omega arith in
      rw f (next-two (omega arith) ∙ ap (λ (z : List ℕ). get_or l i 0 ∷ get_or l (i + 1) 0 ∷ z) (drop-cons l (i + 2) 0 (omega arith)))

  pub next_four : i + 4 ≤ length l → drop i l ≡ get_or l i 0 ∷ get_or l (i + 1) 0 ∷ get_or l (i + 2) 0 ∷ get_or l (i + 3) 0 ∷ drop (i + 4) l
  next_four h =
      let f : i + 4 ≡ suc (i + 3) = omega arith in
      rw f
      (next_three (omega arith)
      ∙ ap (λ (z : List ℕ). get_or l i 0 ∷ get_or l (i + 1) 0 ∷ get_or l (i + 2) 0 ∷ z) (drop-cons l (i + 3) 0 (omega arith)))

-- four elements, and the chunk that has them
abbrev pub four_from : List ℕ → ℕ → List ℕ
four_from l i = get_or l i 0 ∷ get_or l (i + 1) 0 ∷ get_or l (i + 2) 0 ∷ get_or l (i + 3) 0 ∷ []

chunk_at : (n count k : ℕ) (l : List ℕ) → k < count → get_or (first_chunks n count l) k [] ≡ take n (drop (k * n) l)
chunk_at n zero k l h = absurd (omega arith)
chunk_at n (suc count) zero l h = let z : 0 ≡ 0 * n = omega arith in ap (λ (j : ℕ). take n (drop j l)) z
chunk_at n (suc count) (suc k) l h =
    let e : suc k * n ≡ n + k * n = omega arith in
    chunk_at n count k (drop n l) (omega arith) ∙ rw (e, drop-drop (k * n) n l)

pub chunk_of_four : (l : List ℕ) (cs : List (List ℕ)) (k : ℕ) → cs ≡ first_chunks 4 (length l / 4) l → k < length l / 4 →
    get_or cs k [] ≡ four_from l (k * 4)
chunk_of_four l cs k e h = rw e (chunk_at 4 (length l / 4) k l h ∙ ap (take 4) (next_four l (k * 4) (omega arith)))

pub chunk_of_three : (l : List ℕ) (cs : List (List ℕ)) (k : ℕ) → cs ≡ first_chunks 3 (length l / 3) l → k < length l / 3 →
    get_or cs k [] ≡ get_or l (k * 3) 0 ∷ get_or l (k * 3 + 1) 0 ∷ get_or l (k * 3 + 2) 0 ∷ []
chunk_of_three l cs k e h = rw e (chunk_at 3 (length l / 3) k l h ∙ ap (take 3) (next_three l (k * 3) (omega arith)))

-- a row of tests, from the right and from the left
all_five : (a b c d e : Bool) → a && (b && (c && (d && e))) ≡ a && b && c && d && e
all_five true true true true e = refl
all_five true true true false e = refl
all_five true true false d e = refl
all_five true false c d e = refl
all_five false b c d e = refl

-- a part written behind what stands in front of it
front_put : (x vs rest whole : List ℕ) (at n m : ℕ) → m ≡ at + length vs → at ≤ length x → take at x ++ (vs ++ rest) ≡ whole →
    take m (put_mid at n x vs) ++ rest ≡ whole
front_put x vs rest whole at n m e h f = rw (take-put_mid at n x vs m e h) (append_assoc (take at x) vs rest ∙ f)

pub length_put : (x vs : List ℕ) (at n : ℕ) → length vs ≡ length (take n (drop at x)) → at + n ≤ length x → length (put_mid at n x vs) ≡ length x
length_put x vs at n e h =
    let f : length vs ≡ min n (length x - at) = simp (length-take, length-drop) at e in
    simp (length-append, length-take, length-drop) (omega arith)

pub put_last : (x vs : List ℕ) (at n : ℕ) → length x ≡ at + n → put_mid at n x vs ≡ take at x ++ vs
put_last x vs at n e =
    let none : drop n (drop at x) ≡ [] = drop-drop n at x ∙ rw (sym e) (drop-length x) in
    ap (λ (z : List ℕ). take at x ++ (vs ++ z)) none ∙ ap (λ (z : List ℕ). take at x ++ z) (append-nil vs)

-- the letters of the k-th three bytes
abbrev letters_at : List ℕ → ℕ → List ℕ
letters_at b k = map letter_of (four_values (get_or b (k * 3) 0) (get_or b (k * 3 + 1) 0) (get_or b (k * 3 + 2) 0))

-- the writer: the letters written so far, and the text of the bytes to come
module _ (b o whole : List ℕ) (long : length b ≡ 32) (room : length o ≡ 43) where
  pub write_turn : (k n : ℕ) (four : List ℕ) → k < 10 → four ≡ letters_at b k → take (k * 4) o ++ condition_text (drop (k * 3) b) ≡ whole →
      take ((k + 1) * 4) (put_mid (k * 4) n o four) ++ condition_text (drop ((k + 1) * 3) b) ≡ whole
  unfolding condition_text values_of
  write_turn k n four h f e =
      let q : (k + 1) * 3 ≡ k * 3 + 3 = omega arith in
      rw (f, q)
      (front_put o (letters_at b k) (condition_text (drop (k * 3 + 3) b)) whole (k * 4) n ((k + 1) * 4) (omega arith) (omega arith)
      (ap (λ (z : List ℕ). take (k * 4) o ++ condition_text z) (sym (next_three b (k * 3) (omega arith))) ∙ e))

  pub write_end : (last : List ℕ) → last ≡ map letter_of (four_values (get_or b 30 0) (get_or b 31 0) 0) →
      take 40 o ++ condition_text (drop 30 b) ≡ whole → take 40 o ++ take 3 last ≡ whole
  unfolding condition_text values_of
  write_end last f e =
      let l : drop 30 b ≡ get_or b 30 0 ∷ get_or b 31 0 ∷ [] =
      next-two b 30 (omega arith) ∙ ap (λ (z : List ℕ). get_or b 30 0 ∷ get_or b 31 0 ∷ z) (drop_of_length-le b {i = 32} (omega arith)) in
      let z : get_or b 31 0 % 16 * 4 + 0 / 64 ≡ get_or b 31 0 % 16 * 4 = omega arith in
      rw (f, z) (ap (λ (z : List ℕ). take 40 o ++ condition_text z) (sym l) ∙ e)

-- an option that `ok_or_else` turned into a result
module _ {A E : Type 0} (o : Option A) (r : Result A E) (P : E → Type 0) (m : MatchOption o (IsErrAnd r P) (λ x. r ≡ Ok x)) where
  pub was_none : (e : E) → r ≡ Err e → (o ≡ None) × P e
  was_none e f = go o refl
    where
      go : (q : Option A) → o ≡ q → (o ≡ None) × P e
      go None g = (g, let n : IsErrAnd r P = rw g at m in rw f at n)
      go (Some x) g = absurd (let n : r ≡ Ok x = rw g at m in let z : ◌≡◌ {A = ℕ} 0 1 = cc in omega arith)

  pub was_some : (x : A) → r ≡ Ok x → o ≡ Some x
  was_some x f = go o refl
    where
      go : (q : Option A) → o ≡ q → o ≡ Some x
      go None g = absurd (let n : IsErrAnd r P = rw g at m in rw f at n)
      go (Some y) g = let n : r ≡ Ok y = rw g at m in let h : y ≡ x = cc in g ∙ ap Some h

pub passed_on : {A E : Type 0} (r a : Result A E) (P : E → Type 0) → IsErrAnd r P → ((e : E) → P e → Err e ≡ a) → r ≡ a
passed_on (Ok x) a P h f = absurd h
passed_on (Err e) a P h f = f e h

-- what a group says of its four characters
module _ (f : List ℕ) where
  pub made : (t : List ℕ) → group_of f ≡ Some t → (four_letters f ≡ true) × (t ≡ bytes_of_four f)
  unfolding group_of
  made t e = go (four_letters f) refl
    where
      go : (x : Bool) → four_letters f ≡ x → (four_letters f ≡ true) × (t ≡ bytes_of_four f)
      go true g = let h = rw g at e in (g, cc)
      go false g = let h = rw g at e in absurd (let z : ◌≡◌ {A = ℕ} 0 1 = cc in omega arith)

  pub missing : group_of f ≡ None → four_letters f ≡ false
  unfolding group_of
  missing e = go (four_letters f) refl
    where
      go : (x : Bool) → four_letters f ≡ x → four_letters f ≡ false
      go true g = let h = rw g at e in absurd (let z : ◌≡◌ {A = ℕ} 0 1 = cc in omega arith)
      go false g = g

-- the reader: the bytes taken so far, and those of the letters to come
-- the reader: the bytes taken so far, and those of the letters to come
module _ (s x : List ℕ) (long : length s ≡ 43) (room : length x ≡ 32) where
  pub letters_turn : (k : ℕ) (v : Bool) → k < 10 → all_letters (drop (k * 4) s) ≡ v →
      four_letters (four_from s (k * 4))
      && all_letters (drop ((k + 1) * 4) s) ≡ v
  unfolding all_letters
  letters_turn k v h e =
      let p : (k + 1) * 4 ≡ k * 4 + 4 = omega arith in
      rw p
      (sym
      (all_five (is_letter (get_or s (k * 4) 0))
      (is_letter (get_or s (k * 4 + 1) 0)) (is_letter (get_or s (k * 4 + 2) 0)) (is_letter (get_or s (k * 4 + 3) 0))
      (all_letters (drop (k * 4 + 4) s)))
      ∙ ap all_letters (sym (next_four s (k * 4) (omega arith))) ∙ e)

  last_three : drop 40 s ≡ get_or s 40 0 ∷ get_or s 41 0 ∷ get_or s 42 0 ∷ []
  last_three =
      next_three s 40 (omega arith) ∙ ap (λ (z : List ℕ). get_or s 40 0 ∷ get_or s 41 0 ∷ get_or s 42 0 ∷ z)
      (drop_of_length-le s {i = 43} (omega arith))

  pub letters_end : (v : Bool) → all_letters (drop 40 s) ≡ v → is_letter (get_or s 40 0) && is_letter (get_or s 41 0) && is_letter
      (get_or s 42 0) && true ≡ v
  unfolding all_letters
  letters_end v e =
      sym (all_five true (is_letter (get_or s 40 0)) (is_letter (get_or s 41 0)) (is_letter (get_or s 42 0)) true) ∙ ap all_letters (sym last_three)
      ∙ e

  module _ (k : ℕ) (h : k < 10) (a : all_letters (drop (k * 4) s) ≡ all_letters s) where
    abbrev group_at : Option (List ℕ)
    group_at = group_of (four_from s (k * 4))

    pub turn_missing : group_at ≡ None → all_letters s ≡ false
    turn_missing e = sym (letters_turn k (all_letters s) h a) ∙ rw (missing _ e)

    module _ (three : List ℕ) (e : group_at ≡ Some three) where
      pub turn_letters : all_letters (drop ((k + 1) * 4) s) ≡ all_letters s
      turn_letters = rw (made _ three e).0 at (letters_turn k (all_letters s) h a)

      pub turn_bytes : (n : ℕ) (whole : List ℕ) → take (k * 3) x ++ bytes_of (map value_of (drop (k * 4) s)) ≡ whole →
          take ((k + 1) * 3) (put_mid (k * 3) n x three) ++ bytes_of (map value_of (drop ((k + 1) * 4) s)) ≡ whole
      unfolding bytes_of
      turn_bytes n whole f =
          let q : (k + 1) * 4 ≡ k * 4 + 4 = omega arith in
          rw ((made _ three e).1, q)
          (front_put x (bytes_of_four (four_from s (k * 4))) (bytes_of (map value_of (drop (k * 4 + 4) s))) whole (k * 3) n ((k + 1) * 3) (omega arith) (omega arith)
          (ap (λ (z : List ℕ). take (k * 3) x ++ bytes_of (map value_of z)) (sym (next_four s (k * 4) (omega arith))) ∙ f))

  -- the last three letters, as a group with an A, of value 0
  module _ (a : all_letters (drop 40 s) ≡ all_letters s) where
    pub end_missing : group_of (get_or s 40 0 ∷ get_or s 41 0 ∷ get_or s 42 0 ∷ 65 ∷ []) ≡ None → all_letters s ≡ false
    unfolding value_of place_from alphabet
    end_missing e = sym (letters_end (all_letters s) a) ∙ missing _ e

    module _ (last : List ℕ) (e : group_of (get_or s 40 0 ∷ get_or s 41 0 ∷ get_or s 42 0 ∷ 65 ∷ []) ≡ Some last) where
      pub end_letters : all_letters s ≡ true
      unfolding value_of place_from alphabet
      end_letters = sym (letters_end (all_letters s) a) ∙ (made _ last e).0

      pub end_bytes : (whole : List ℕ) → take 30 x ++ bytes_of (map value_of (drop 40 s)) ≡ whole → take 30 x ++ take 2 last ≡ whole
      unfolding bytes_of
      end_bytes whole f =
          rw (made _ last e).1 (ap (λ (z : List ℕ). take 30 x ++ bytes_of (map value_of z)) (sym last_three) ∙ f)
