-- What reader and writer promise together: form, range, round trip, uniqueness, and what the writer refuses.
use mathlib.Core.Path.{◌≡◌, refl, sym, ap, subst, subst⁻¹, ◌∙◌}
use mathlib.Core.Bool.{Bool, true, false, cond, ◌&&◌}
use mathlib.Core.List.{List, [], ◌∷◌, ◌++◌, append-nil, append_assoc}
use mathlib.Core.Logic.{◌↔◌}
use Prim.Native.Nat.{ℕ, zero, suc, ◌+◌, ◌-◌, ◌/◌, ◌%◌, ◌≤◌, ◌<◌}
use native.Mathlib.Decide.{ℕ_discrete, dec_lt}
use native.Mathlib.Omega.{arith}
use native.Mathlib.Nat.{zero-add}
use native.Mathlib.Numerals.{add-one}
use lib.Dec.{T, ltb, leb, eqb, eqb→eq, leb→le}
use lib.ListN.{length, take, drop, get_or, length-append, get_or-eq_default}
use borrow.Author.Tests.{eq-eqb}
use lib.Seq.{take-add, drop-cons, take_all, get_or-append-add, ext_get_or}
use Rattle.octets.specs.Ascii.{ascii}
use Rattle.octets.specs.Bytes.{Bytes}
use Rattle.octets.specs.Build.{build}
use Rattle.octets.proofs.Computed.{implies, implied, below, below_at}
use Rattle.octets.proofs.Built.{length-build, build_at}
use Rattle.octets.proofs.Lists.{bytes, byte-at}
use Rattle.octets.proofs.Tests.{both}
use Rattle.form.specs.Regex.{Re, judge}
use Rattle.form.specs.Listings.{id_form}
use Rattle.form.specs.Matches.{Matches}
use Rattle.form.specs.Writing.{into_room}
use Rattle.form.specs.Verdict.{Verdict, of_form, value_by}
use Rattle.std.specs.Prelude.{Ok, Err}
use Rattle.form.specs.Writing.{Written}
use Rattle.form.specs.declared.Unwritten.TheVariants.{NotInForm, NoRoom}
use Rattle.form.proofs.Meaning.{fits}
use Rattle.form.proofs.Same.{same}
use Rattle.form.proofs.Steps.{left, leads, Ends, on, is_true}
use Rattle.uuid_text.specs.Id.{
  dash_before,
  place_of,
  hex_value,
  hex_char,
  byte_at,
  id_of,
  read_id,
  pair_text,
  byte_text,
  text_before,
  id_text,
  in_form,
  write_id,
}
use Rattle.uuid_text.proofs.Tests.{only_if, to_test}
use Rattle.uuid_text.proofs.Hex.{char-value, value_small, value-char}
use Rattle.uuid_text.proofs.Letters.{
  form_bytes,
  letters,
  high_hex,
  low_hex,
  sofar,
  version_rule,
  variant_rule,
  dash_at,
  version_at,
  variant_at,
}
use Rattle.uuid_text.proofs.Spelled.{step}

abbrev Reads : List ℕ → List ℕ → Type 0
Reads s b = read_id s ≡ Ok b

-- the written text is of the form: what is left of it after the text of each byte
abbrev left_at : ℕ → Re
left_at k = left id_form (take (sofar k) (ascii "00000000-0000-1000-8000-000000000000"))

-- the version and the variant
abbrev byte_rule : ℕ → ℕ → Bool
byte_rule k x = cond (eqb k 6) (leb 1 (x / 16) && leb (x / 16) 5) (cond (eqb k 8) (leb 8 (x / 16) && leb (x / 16) 11) true)

abbrev leads_on : ℕ → Re → Re → Bool
leads_on k r q = below 256 (λ x. implies (byte_rule k x) (leads r (byte_text k x) q))

each-leads : T (below 16 (λ k. leads_on k (left_at k) (left_at (suc k))))
unfolding text_before same ℕ_discrete
each-leads = tt

-- the text from byte k on
abbrev text_from : ℕ → ℕ → List ℕ → List ℕ
text_from zero k b = []
text_from (suc j) k b = byte_text k (get_or b k 0) ++ text_from j (suc k) b

text-from : (b : List ℕ) → id_text b ≡ text_from 16 0 b
unfolding id_text text_before
text-from b = refl

ends_from : (b : List ℕ) → Bytes b → ((k : ℕ) → T (byte_rule k (get_or b k 0))) → (j k : ℕ) → j + k ≡ 16 → Ends (left_at k) (text_from j k b)
unfolding text_before
ends_from b small ok zero k e = subst⁻¹ (λ (i : ℕ). Ends (left_at i) []) (sym (zero-add k) ∙ e) (λ n. refl)
ends_from b small ok (suc j) k e =
    let x = get_or b k 0 in
    let h : k < 16 = omega arith in
    on (byte_text k x) (text_from j (suc k) b) (left_at k) (left_at (suc k))
    (implied (byte_rule k x) (leads (left_at k) (byte_text k x) (left_at (suc k)))
    (below_at 256 (λ y. implies (byte_rule k y) (leads (left_at k) (byte_text k y) (left_at (suc k))))
    (below_at 16 (λ i. leads_on i (left_at i) (left_at (suc i))) each-leads k h) x (byte-at b small k))
    (ok k))
    (ends_from b small ok j (suc k) (omega arith))

-- a list of bytes that the writer takes has its version and variant
module _ (b : List ℕ) (e : in_form b ≡ true) where
  tests : (leb 1 (get_or b 6 0 / 16) && leb (get_or b 6 0 / 16) 5) && leb 8 (get_or b 8 0 / 16) && leb (get_or b 8 0 / 16) 11 ≡ true
  tests = (only_if (eqb (length b) 16) _ e).1

  version : leb 1 (get_or b 6 0 / 16) && leb (get_or b 6 0 / 16) 5 ≡ true
  version = (both _ (leb 8 (get_or b 8 0 / 16)) (both _ (leb (get_or b 8 0 / 16) 11) tests).0).0

  variant : leb 8 (get_or b 8 0 / 16) && leb (get_or b 8 0 / 16) 11 ≡ true
  variant =
      let x = both _ (leb (get_or b 8 0 / 16) 11) tests in
      rw (both (leb 1 (get_or b 6 0 / 16) && leb (get_or b 6 0 / 16) 5) (leb 8 (get_or b 8 0 / 16)) x.0).1 x.1

  rules : (k : ℕ) → T (byte_rule k (get_or b k 0))
  rules k = go (eqb k 6) refl (eqb k 8) refl
    where
      go : (p : Bool) → eqb k 6 ≡ p → (q : Bool) → eqb k 8 ≡ q →
          T (cond p (leb 1 (get_or b k 0 / 16) && leb (get_or b k 0 / 16) 5) (cond q (leb 8 (get_or b k 0 / 16) && leb (get_or b k 0 / 16) 11)
          true))
      go true f q g = subst⁻¹ (λ (i : ℕ). T (leb 1 (get_or b i 0 / 16) && leb (get_or b i 0 / 16) 5)) (eqb→eq k 6 (to_test f)) (to_test version)
      go false f true g = subst⁻¹ (λ (i : ℕ). T (leb 8 (get_or b i 0 / 16) && leb (get_or b i 0 / 16) 11)) (eqb→eq k 8 (to_test g))
          (to_test variant)
      go false f false g = tt

  pub text-fits : Bytes b → judge id_form (id_text b) ≡ of_form
  unfolding text_before
  text-fits small = ap (judge id_form) (text-from b) ∙ ends_from b small rules 16 0 refl 0

-- where the text of byte k stands in the whole
split : (b : List ℕ) (j k : ℕ) → j + k ≡ 16 → id_text b ≡ text_before k b ++ text_from j k b
unfolding id_text
split b zero k e = sym (append-nil (text_before k b) ∙ ap (λ (i : ℕ). text_before i b) (sym (zero-add k) ∙ e))
split b (suc j) k e =
    split b j (suc k) (omega arith)
    ∙ ap (λ (t : List ℕ). t ++ text_from j (suc k) b) (step b k) ∙ append_assoc (text_before k b) (byte_text k (get_or b k 0)) (text_from j
    (suc k) b)

byte_long : (k x y : ℕ) → length (byte_text k x) ≡ length (byte_text k y)
byte_long k x y = go (dash_before k)
  where
    go : (d : Bool) → length (cond d (45 ∷ pair_text x) (pair_text x)) ≡ length (cond d (45 ∷ pair_text y) (pair_text y))
    go true = refl
    go false = refl

long_same : (b : List ℕ) (k : ℕ) → length (text_before k b) ≡ sofar k
unfolding text_before
long_same b zero = refl
long_same b (suc k) =
    length-append (text_before k b) (byte_text k (get_or b k 0))
    ∙ (λ i. long_same b k i + byte_long k (get_or b k 0) (get_or [] k 0) i)
    ∙ sym (length-append (text_before k []) (byte_text k (get_or [] k 0)))

abbrev dash : ℕ → ℕ
dash k = cond (dash_before k) 1 0

places_are : T (below 16 (λ k. eqb (place_of k) (sofar k + dash k)))
unfolding text_before
places_are = tt

place_is : (k : ℕ) → k < 16 → place_of k ≡ sofar k + dash k
place_is k h = eqb→eq (place_of k) (sofar k + dash k) (below_at 16 (λ i. eqb (place_of i) (sofar i + dash i)) places_are k h)

in_byte : (k x : ℕ) (r : List ℕ) (i : ℕ) → i < 2 → get_or (byte_text k x ++ r) (dash k + i) 0 ≡ get_or (pair_text x) i 0
in_byte k x r i h = go (dash_before k) i h
  where
    go : (d : Bool) (i : ℕ) → i < 2 → get_or (cond d (45 ∷ pair_text x) (pair_text x) ++ r) (cond d 1 0 + i) 0 ≡ get_or (pair_text x) i 0
    go true zero h = refl
    go true (suc zero) h = refl
    go true (suc (suc i)) h = absurd (omega arith)
    go false zero h = refl
    go false (suc zero) h = refl
    go false (suc (suc i)) h = absurd (omega arith)

digit_at : (b : List ℕ) (k : ℕ) → k < 16 → (i : ℕ) → i < 2 → get_or (id_text b) (place_of k + i) 0 ≡ get_or (pair_text (get_or b k 0)) i 0
digit_at b k h i l =
    let j = 16 - suc k in
    let e : suc j + k ≡ 16 = omega arith in
    let p : place_of k + i ≡ length (text_before k b) + (dash k + i) = omega (arith, place_is k h, long_same b k) in
    ap (λ (n : ℕ). get_or (id_text b) n 0) p
    ∙ ap (λ (t : List ℕ). get_or t (length (text_before k b) + (dash k + i)) 0) (split b (suc j) k e)
    ∙ get_or-append-add (text_before k b) (text_from (suc j) k b) (dash k + i) 0
    ∙ in_byte k (get_or b k 0) (text_from j (suc k) b) i l

-- a byte written and read
byte_back : (b : List ℕ) → Bytes b → (k : ℕ) → k < 16 → byte_at (id_text b) k ≡ get_or b k 0
unfolding byte_at
byte_back b small k h =
    let x = get_or b k 0 in
    let s : x < 256 = byte-at b small k in
    let p : place_of k ≡ place_of k + 0 = omega arith in
    let high : hex_value (get_or (id_text b) (place_of k) 0) ≡ x / 16 =
    ap (λ (n : ℕ). hex_value (get_or (id_text b) n 0)) p ∙ ap hex_value (digit_at b k h 0 (omega arith)) ∙ value-char (x / 16) (omega arith) in
    let low : hex_value (get_or (id_text b) (place_of k + 1) 0) ≡ x % 16 =
    ap hex_value (digit_at b k h 1 (omega arith)) ∙ value-char (x % 16) (omega arith) in
    omega arith

value_back : (b : List ℕ) → length b ≡ 16 → Bytes b → id_of (id_text b) ≡ b
unfolding id_of
value_back b l small =
    let f = byte_at (id_text b) in
    ext_get_or 0 (build 16 f) b (length-build f 16 ∙ sym l)
    (λ i h. let k : i < 16 = omega (arith, length-build f 16) in build_at f 16 i k ∙ byte_back b small i k)

-- what the reader makes of the verdict
reads_fits : (s b : List ℕ) → Reads s b → (judge id_form s ≡ of_form) × (id_of s ≡ b)
unfolding read_id
reads_fits s b e = go (judge id_form s) refl e
  where
    go : (v : Verdict) → judge id_form s ≡ v → value_by v (id_of s) ≡ Ok b →
        (judge id_form s ≡ of_form) × (id_of s ≡ b)
    go (Ok u) f g = (f, cc)
    go (Err e) f g = absurd (let z : ◌≡◌ {A = ℕ} 0 1 = cc in omega arith)

fits_reads : (s : List ℕ) → judge id_form s ≡ of_form → Reads s (id_of s)
unfolding read_id
fits_reads s e = ap (λ (v : Verdict). value_by v (id_of s)) e

-- what a text of the form says of the bytes
module _ (s : List ℕ) (e : judge id_form s ≡ of_form) where
  halves : (k : ℕ) → k < 16 → (byte_at s k / 16 ≡ hex_value (get_or s (place_of k) 0)) × (byte_at s k % 16 ≡ hex_value (get_or s (place_of k + 1)
      0)) × (byte_at s k < 256)
  unfolding byte_at
  halves k h =
      let x = hex_value (get_or s (place_of k) 0) in
      let y = hex_value (get_or s (place_of k + 1) 0) in
      let a : x < 16 = value_small (get_or s (place_of k) 0) (byte-at s (form_bytes s e) (place_of k)) (high_hex s e k h) in
      let b : y < 16 = value_small (get_or s (place_of k + 1) 0) (byte-at s (form_bytes s e) (place_of k + 1)) (low_hex s e k h) in
      (omega arith, omega arith, omega arith)

  at : (k : ℕ) → k < 16 → get_or (id_of s) k 0 ≡ byte_at s k
  unfolding id_of
  at k h = build_at (byte_at s) 16 k h

  pub id_long : length (id_of s) ≡ 16
  unfolding id_of
  id_long = length-build (byte_at s) 16

  pub id_bytes : Bytes (id_of s)
  id_bytes = bytes (id_of s) each
    where
      each : (k : ℕ) → get_or (id_of s) k 0 < 256
      each k = elim (dec_lt k 16) [
        | yes h ↦ rw (at k h) (halves k h).2
        | no h ↦ (let l : length (id_of s) ≤ k = omega (arith, id_long) in rw (get_or-eq_default (id_of s) 0 l) (omega arith))
      ]

  first-digit : (n : ℕ) → n < 16 → get_or (id_of s) n 0 / 16 ≡ hex_value (get_or s (place_of n) 0)
  first-digit n h = ap (λ (x : ℕ). x / 16) (at n h) ∙ (halves n h).0

  pub id_in_form : in_form (id_of s) ≡ true
  id_in_form =
      let v = both (leb 1 (hex_value (get_or s 14 0))) (leb (hex_value (get_or s 14 0)) 5) (is_true (version_rule (get_or s 14 0))
      (version_at s e)) in
      let u = both (leb 8 (hex_value (get_or s 19 0))) (leb (hex_value (get_or s 19 0)) 11) (is_true (variant_rule (get_or s 19 0))
      (variant_at s e)) in
      rw (eq-eqb (length (id_of s)) 16 id_long, first-digit 6 (omega arith), first-digit 8 (omega arith), v.0, v.1, u.0, u.1)

  -- the text of byte k is what stands in the text there
  pair_here : (k : ℕ) → k < 16 → pair_text (byte_at s k) ≡ get_or s (place_of k) 0 ∷ get_or s (place_of k + 1) 0 ∷ []
  pair_here k h =
      let v = halves k h in
      let high : hex_char (byte_at s k / 16) ≡ get_or s (place_of k) 0 = ap hex_char v.0 ∙ char-value (get_or s (place_of k) 0)
      (byte-at s (form_bytes s e) (place_of k)) (high_hex s e k h) in
      let low : hex_char (byte_at s k % 16) ≡ get_or s (place_of k + 1) 0 = ap hex_char v.1 ∙ char-value (get_or s (place_of k + 1) 0)
      (byte-at s (form_bytes s e) (place_of k + 1)) (low_hex s e k h) in
      λ i. high i ∷ low i ∷ []

  two_here : (n : ℕ) → n + 2 ≤ 36 → take 2 (drop n s) ≡ get_or s n 0 ∷ get_or s (n + 1) 0 ∷ []
  two_here n h =
      let a : n < length s = omega (arith, (letters s e).0) in
      let b : suc n < length s = omega (arith, (letters s e).0) in
      rw (drop-cons s n 0 a, drop-cons s (suc n) 0 b, add-one n)

  three_here : (n : ℕ) → n + 3 ≤ 36 → take 3 (drop n s) ≡ get_or s n 0 ∷ get_or s (n + 1) 0 ∷ get_or s (n + 2) 0 ∷ []
  three_here n h =
      let a : n < length s = omega (arith, (letters s e).0) in
      let l : suc n ≡ n + 1 = omega arith in
      let m : n + 1 + 1 ≡ n + 2 = omega arith in
      rw (drop-cons s n 0 a)
      (ap (λ (z : List ℕ). get_or s n 0 ∷ z) (ap (λ (i : ℕ). take 2 (drop i s)) l ∙ two_here (n + 1) (omega arith)
      ∙ ap (λ (i : ℕ). get_or s (n + 1) 0 ∷ get_or s i 0 ∷ []) m))

  rooms : T (below 16 (λ k. leb (sofar k + length (byte_text k 0)) 36))
  unfolding text_before
  rooms = tt

  piece : (k : ℕ) → k < 16 → take (length (byte_text k 0)) (drop (sofar k) s) ≡ byte_text k (byte_at s k)
  piece k h =
      go (dash_before k) (sofar k) (dash_at s e k h) (place_is k h) (leb→le (sofar k + length (byte_text k 0)) 36 (below_at 16 (λ i. leb
      (sofar i + length (byte_text i 0)) 36) rooms k h))
    where
      go : (d : Bool) (n : ℕ) → T (implies d (eqb (get_or s n 0) 45)) → place_of k ≡ n + cond d 1 0 → n + length (cond d (45 ∷ pair_text 0)
          (pair_text 0)) ≤ 36 →
          take (length (cond d (45 ∷ pair_text 0) (pair_text 0))) (drop n s) ≡ cond d (45 ∷ pair_text (byte_at s k)) (pair_text (byte_at s k))
      go true n t p l =
          let q : place_of k + 1 ≡ n + 2 = omega arith in
          three_here n l
          ∙ (λ i. eqb→eq (get_or s n 0) 45 t i ∷ get_or s (sym p i) 0 ∷ get_or s (sym q i) 0 ∷ []) ∙ sym (ap (λ (z : List ℕ). 45 ∷ z)
          (pair_here k h))
      go false n t p l =
          let a : n ≡ place_of k = omega arith in
          two_here n l ∙ (λ i. get_or s (a i) 0 ∷ get_or s (a i + 1) 0 ∷ []) ∙ sym (pair_here k h)

  text_so_far : (k : ℕ) → k ≤ 16 → text_before k (id_of s) ≡ take (sofar k) s
  unfolding text_before
  text_so_far zero h = refl
  text_so_far (suc k) h =
      let m = length (byte_text k 0) in
      (λ i. text_so_far k (omega arith) i ++ byte_text k (at k (omega arith) i))
      ∙ ap (λ (z : List ℕ). take (sofar k) s ++ z) (sym (piece k (omega arith)))
      ∙ sym (take-add (sofar k) m s)
      ∙ ap (λ (n : ℕ). take n s) (sym (length-append (text_before k []) (byte_text k 0)))

  pub text-is : id_text (id_of s) ≡ s
  unfolding id_text text_before
  text-is = text_so_far 16 (omega arith) ∙ take_all 36 s (omega (arith, (letters s e).0))

-- form: the reader gives bytes exactly if the listing matches, and they are 16 bytes with a version 1 to 5 and a variant 8 to b
pub form : (s : List ℕ) → (((b : List ℕ) × Reads s b) ↔ Matches id_form s)
form s =
    ((λ r. (fits id_form s).0 (reads_fits s r.0 r.1).0), (λ m. (id_of s, fits_reads s ((fits id_form s).1 m))))

pub range : (s b : List ℕ) → Reads s b → (in_form b ≡ true) × Bytes b
range s b r =
    let f = reads_fits s b r in
    subst (λ (x : List ℕ). (in_form x ≡ true) × Bytes x) f.1 (id_in_form s f.0, id_bytes s f.0)

-- round: the text written of bytes in form reads back as those bytes, and matches the listing
pub round : (b : List ℕ) → in_form b ≡ true → Bytes b → Reads (id_text b) b × Matches id_form (id_text b)
round b e small =
    let f = text-fits b e small in
    let l : length b ≡ 16 = eqb→eq (length b) 16 (to_test (only_if (eqb (length b) 16) _ e).0) in
    (fits_reads (id_text b) f ∙ ap Ok (value_back b l small), (fits id_form (id_text b)).0 f)

-- unique: the written text is the only one that reads to its bytes
pub unique : (s b : List ℕ) → Reads s b → s ≡ id_text b
unique s b r = let f = reads_fits s b r in sym (text-is s f.0) ∙ ap id_text f.1

-- refused: the writer refuses with 1 exactly the bytes that no text reads to
pub refused : (b : List ℕ) → Bytes b → (room : ℕ) → ((write_id b room ≡ Err NotInForm) ↔ ((s : List ℕ) → Reads s b → ⊥))
unfolding write_id
refused b small room = go (in_form b) refl
  where
    go : (t : Bool) → in_form b ≡ t → ((cond t (into_room (id_text b) room) (Err NotInForm) ≡ Err NotInForm) ↔ ((s : List ℕ) → Reads s b → ⊥))
    go true e = ((λ w. absurd (taken w)), (λ n. absurd (n (id_text b) (round b e small).0)))
      where
        taken : into_room (id_text b) room ≡ Err NotInForm → ⊥
        taken w = room_not (ltb room (length (id_text b))) w
          where
            room_not : (t : Bool) → ◌≡◌ {A = Written} (cond t (Err NoRoom) (Ok (length (id_text b)))) (Err NotInForm) → ⊥
            room_not true w = let z : ◌≡◌ {A = ℕ} 0 1 = cc in omega arith
            room_not false w = let z : ◌≡◌ {A = ℕ} 0 1 = cc in omega arith
    go false e = ((λ w s r. let z : ◌≡◌ {A = ℕ} 0 1 = cc (range s b r).0 in omega arith), (λ n. refl))
