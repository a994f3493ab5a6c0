-- What a caller of the readers and of the writer can rely on: theorems about the definitions that their promises cite.
use mathlib.Core.Path.{◌≡◌, refl, sym, ap, subst, ◌∙◌}
use mathlib.Core.Bool.{Bool, true, false}
use mathlib.Core.List.{List, [], ◌∷◌, ◌++◌, map, map-append}
use mathlib.Core.Logic.{⊎_elim, ◌↔◌}
use Prim.Native.Nat.{ℕ, zero, suc, ◌+◌, ◌*◌, ◌/◌, ◌%◌, ◌<◌}
use native.Mathlib.Omega.{arith}
use lib.Dec.{ltb}
use lib.ListN.{length, get_or, take, length-append, length-map}
use lib.Seq.{take-suc, take_all, take_at, get_or_at, length-take-le}
use borrow.Author.Tests.{lt-ltb, ltb-true, ltb-false}
use Rattle.octets.specs.Bytes.{Bytes}
use Rattle.form.specs.Regex.{judge}
use Rattle.form.specs.Listings.{condition_form}
use Rattle.form.specs.Matches.{Matches}
use Rattle.form.specs.Writing.{number}
use Rattle.std.specs.Prelude.{Ok, Err}
use Rattle.form.specs.Verdict.{Verdict, of_form, value_by}
use Rattle.form.proofs.Meaning.{fits, stops-fits}
use Rattle.form.proofs.Places.{matched_bytes}
use Rattle.base64url.specs.Letters.{letter_of, value_of, is_letter}
use Rattle.base64url.specs.Condition.{bytes_of, values_of, read_condition, condition_text, write_condition}
use Rattle.base64url.proofs.Table.{letter_byte, value-letter, letter-value}
use Rattle.base64url.specs.Scan.{all_letters}
use Rattle.base64url.proofs.Run.{and-true, judged_condition}
use Rattle.base64url.proofs.Groups.{Values, values_small, bytes_small, back, length-bytes, length-values, dropped, cleared}
use Rattle.base64url.proofs.Read.{fitted}
use Rattle.base64url.proofs.Write.{not_32, no_room, room_enough}

-- the letters of values: bytes, all letters, and the values again
letters_bytes : (v : List ℕ) → Values v → Bytes (map letter_of v)
letters_bytes [] h = tt
letters_bytes (a ∷ v) h = (letter_byte a h.0, letters_bytes v h.1)

letters_all : (v : List ℕ) → Values v → all_letters (map letter_of v) ≡ true
unfolding all_letters
letters_all [] h = refl
letters_all (a ∷ v) h = rw (value-letter a h.0, lt-ltb a 64 h.0, letters_all v h.1)

letters_read : (v : List ℕ) → Values v → map value_of (map letter_of v) ≡ v
letters_read [] h = refl
letters_read (a ∷ v) h = rw (value-letter a h.0, letters_read v h.1)

-- the values of letters: below 64, and the letters again
values-below : (s : List ℕ) → all_letters s ≡ true → Values (map value_of s)
unfolding all_letters
values-below [] e = tt
values-below (c ∷ s) e = let x = and-true (is_letter c) (all_letters s) e in (ltb-true (value_of c) 64 x.0, values-below s x.1)

values_written : (s : List ℕ) → Bytes s → all_letters s ≡ true → s ≡ map letter_of (map value_of s)
unfolding all_letters
values_written [] b e = refl
values_written (c ∷ s) b e =
    let x = and-true (is_letter c) (all_letters s) e in
    rw (letter-value c b.0 x.0) (ap (λ (z : List ℕ). c ∷ z) (values_written s b.1 x.1))

-- a text that reads is the letters of 43 values, and its bytes are theirs; and the other way round
pub record Spelled (s b v : List ℕ) : Type 0 where
  pub below : Values v
  pub long : length v ≡ 43
  pub text : s ≡ map letter_of v
  pub bytes : bytes_of v ≡ b

abbrev ReadsTo : List ℕ → List ℕ → Type 0
ReadsTo s b = read_condition s ≡ Ok b

-- a text with a value is of the form, and the value is its bytes
has_value : (v : Verdict) (x b : List ℕ) → value_by v x ≡ Ok b → (v ≡ of_form) × (x ≡ b)
has_value (Ok u) x b e = (refl, cc)
has_value (Err n) x b e = absurd (let z : ◌≡◌ {A = ℕ} 0 1 = cc in omega arith)

reads_fits : (s b : List ℕ) → ReadsTo s b → (judge condition_form s ≡ of_form) × (bytes_of (map value_of s) ≡ b)
unfolding read_condition
reads_fits s b e = has_value (judge condition_form s) (bytes_of (map value_of s)) b e

spelled : (s b : List ℕ) → ReadsTo s b → Spelled s b (map value_of s)
spelled s b r =
    let e = reads_fits s b r in
    let small = matched_bytes ((fits condition_form s).0 e.0) tt in
    ⊎_elim
    (λ w. record {
      below = values-below s w.letters;
      long = length-map s value_of ∙ w.long;
      text = values_written s small w.letters;
      bytes = e.1;
    })
    (λ w. stops-fits (sym w.stops ∙ e.0)) (judged_condition s small)

reads : (v : List ℕ) → Values v → length v ≡ 43 → ReadsTo (map letter_of v) (bytes_of v)
reads v h l =
    sym
    (ap (λ (x : List ℕ). Ok (bytes_of x)) (sym (letters_read v h))
    ∙ fitted (map letter_of v) (letters_bytes v h) (length-map v letter_of ∙ l) (letters_all v h))

-- 01: a text has a value exactly if the listing matches; ..
pub form : (s : List ℕ) → (((b : List ℕ) × ReadsTo s b) ↔ Matches condition_form s)
unfolding read_condition
form s = (
  λ r. (fits condition_form s).0 (reads_fits s r.0 r.1).0,
  λ m. (bytes_of (map value_of s), ap (λ (v : Verdict). value_by v (bytes_of (map value_of s))) ((fits condition_form s).1 m)),
)

-- .. and what is given are 32 bytes, each below 256
abbrev pub Holds : List ℕ → Type 0
Holds b = (length b ≡ 32) × Bytes b

pub held : (s b : List ℕ) → ReadsTo s b → Holds b
held s b r =
    let w = spelled s b r in
    subst Holds w.bytes (length-bytes 10 (map value_of s) w.long, bytes_small (map value_of s) w.below)

-- for every 32 bytes their text is of the form and reads to them
module _ (b : List ℕ) (long : length b ≡ 32) (small : Bytes b) where
  pub round : ReadsTo (condition_text b) b × Matches condition_form (condition_text b)
  unfolding condition_text
  round =
      let e = reads (values_of b) (values_small b small) (length-values 10 b long) ∙ ap
      Ok (back b small) in
      (e, (form (condition_text b)).0 (b, e))

-- the writer refuses with 1 exactly what no text reads to
pub refused : (b : List ℕ) (room : ℕ) → Bytes b → (number (write_condition b room) ≡ 1) ↔ ((s : List ℕ) → ReadsTo s b → ⊥)
refused b room small = (unread, unwritten)
  where
    unread : number (write_condition b room) ≡ 1 → (s : List ℕ) → ReadsTo s b → ⊥
    unread e s r =
        let l = (held s b r).0 in
        never (ltb room 43) refl l e
      where
        never : (x : Bool) → ltb room 43 ≡ x → length b ≡ 32 → number (write_condition b room) ≡ 1 → ⊥
        never true f l g = let z : ◌≡◌ {A = ℕ} 23 1 = ap number (no_room b room l (ltb-true room 43 f)) ∙ g in omega arith
        never false f l g = let z : ◌≡◌ {A = ℕ} 0 1 = ap number (room_enough b room l (ltb-false room 43 f)) ∙ g in omega arith

    unwritten : ((s : List ℕ) → ReadsTo s b → ⊥) → number (write_condition b room) ≡ 1
    unwritten f = sym (ap number (not_32 b room (λ l. f (condition_text b) (round b l small).0)))

-- exactly four texts read to each value: its text, with the last letter's two low bits as they like
abbrev pub last_of : List ℕ → ℕ
last_of b = value_of (get_or (condition_text b) 42 0)

abbrev pub text_of : List ℕ → ℕ → List ℕ
text_of b k = take 42 (condition_text b) ++ (letter_of (last_of b + k) ∷ [])

-- 43 values, the last apart
split : (v : List ℕ) → length v ≡ 43 → v ≡ take 42 v ++ (get_or v 42 0 ∷ [])
split v long = sym (take_all 43 v (omega arith)) ∙ take-suc v 42 0 (omega arith)

module _ (w : List ℕ) (u : ℕ) (long : length w ≡ 42) where
  letters_joined : map letter_of (w ++ (u ∷ [])) ≡ map letter_of w ++ (letter_of u ∷ [])
  letters_joined = map-append letter_of w (u ∷ [])

  letters_long : length (map letter_of w) ≡ 42
  letters_long = length-map w letter_of ∙ long

  -- a value whose text is that of these values: the first 42 letters, the last value, and so each of its texts
  module _ (b : List ℕ) (below : u < 64) (e : condition_text b ≡ map letter_of (w ++ (u ∷ []))) where
    front-is : take 42 (condition_text b) ≡ map letter_of w
    front-is = rw (e, letters_joined) (take_at (map letter_of w) (letter_of u ∷ []) 42 letters_long)

    last-is : last_of b ≡ u
    last-is = rw (e, letters_joined, get_or_at (map letter_of w) (letter_of u) [] 0 42 letters_long) (value-letter u below)

    text-is : (k : ℕ) → text_of b k ≡ map letter_of (w ++ ((u + k) ∷ []))
    text-is k = rw (front-is, last-is) (sym (map-append letter_of w ((u + k) ∷ [])))

values-take : (n : ℕ) (v : List ℕ) → Values v → Values (take n v)
values-take zero v h = tt
values-take (suc n) [] h = tt
values-take (suc n) (a ∷ v) h = (h.0, values-take n v h.1)

values_at : (v : List ℕ) → Values v → (i : ℕ) → get_or v i 0 < 64
values_at [] h i = omega arith
values_at (a ∷ v) h zero = h.0
values_at (a ∷ v) h (suc i) = values_at v h.1 i

values-joined : (w : List ℕ) (u : ℕ) → Values w → u < 64 → Values (w ++ (u ∷ []))
values-joined [] u h k = (k, tt)
values-joined (a ∷ w) u h k = (h.0, values-joined w u h.1 k)

module _ (b : List ℕ) (long : length b ≡ 32) (small : Bytes b) where
  -- a text that reads to b is one of the four ..
  among : (s : List ℕ) → ReadsTo s b → (k : ℕ) × (k < 4) × (s ≡ text_of b k)
  unfolding condition_text
  among s r =
      let p = spelled s b r in
      let v = map value_of s in
      let w = take 42 v in
      let u = get_or v 42 0 in
      let l : length w ≡ 42 = length-take-le 42 v (omega (arith, p.long)) in
      let c : v ≡ w ++ (u ∷ []) = split v p.long in
      let h = values_at v p.below 42 in
      let e : condition_text b ≡ map letter_of (w ++ (u / 4 * 4 ∷ [])) =
      ap (λ (x : List ℕ). map letter_of x)
      (ap values_of (sym p.bytes ∙ ap bytes_of c) ∙ cleared 10 w u l (values-take 42 v p.below) h) in
      let k : u / 4 * 4 + u % 4 ≡ u = omega arith in (
        u % 4,
        omega arith,
        p.text ∙ ap (λ (x : List ℕ). map letter_of x) (c ∙ ap (λ (x : ℕ). w ++ (x ∷ [])) (sym k))
            ∙ sym (text-is w (u / 4 * 4) l b (omega arith) e (u % 4)),
      )

  -- the values of b's text, the last apart: its two low bits are zero
  abbrev front : List ℕ
  front = take 42 (values_of b)

  abbrev end : ℕ
  end = get_or (values_of b) 42 0

  front_long : length front ≡ 42
  front_long = length-take-le 42 (values_of b) (omega (arith, length-values 10 b long))

  cut : values_of b ≡ front ++ (end ∷ [])
  cut = split (values_of b) (length-values 10 b long)

  front_below : Values front
  front_below = values-take 42 (values_of b) (values_small b small)

  end_below : end < 64
  end_below = values_at (values_of b) (values_small b small) 42

  end-zero : end ≡ end / 4 * 4
  end-zero =
      let e = sym cut ∙ ap values_of (sym (back b small) ∙ ap bytes_of cut) ∙ cleared 10 front end front_long front_below end_below in
      sym (get_or_at front end [] 0 42 front_long) ∙ ap (λ (x : List ℕ). get_or x 42 0) e ∙ get_or_at front (end / 4 * 4) [] 0 42 front_long

  spelt : condition_text b ≡ map letter_of (front ++ (end ∷ []))
  unfolding condition_text
  spelt = ap (map letter_of) cut

  -- .. and each of the four reads to b
  each : (k : ℕ) → k < 4 → ReadsTo (text_of b k) b
  each k h =
      let n : length (front ++ ((end + k) ∷ [])) ≡ 43 = rw length-append (omega (arith, front_long)) in
      let q : end + k < 64 = omega (arith, end-zero, end_below) in
      let d : (end + k) / 4 ≡ end / 4 = omega (arith, end-zero) in
      ap read_condition (text-is front end front_long b end_below spelt k)
      ∙ reads (front ++ ((end + k) ∷ [])) (values-joined front (end + k) front_below q) n
      ∙ ap Ok
      (dropped 10 front (end + k) end front_long d ∙ ap bytes_of (sym cut) ∙ back b small)

  pub four : (s : List ℕ) → ReadsTo s b ↔ ((k : ℕ) × (k < 4) × (s ≡ text_of b k))
  four s = (among s, λ p. rw p.2 (each p.0 p.1))

  -- and the four are four
  pub differ : (j k : ℕ) → j < 4 → k < 4 → text_of b j ≡ text_of b k → j ≡ k
  differ j k h i e =
      let at : (m : ℕ) → m < 4 → value_of (get_or (text_of b m) 42 0) ≡ end + m =
      λ m l. ap (λ (t : List ℕ). value_of (get_or t 42 0))
      (text-is front end front_long b end_below spelt m ∙ letters_joined front (end + m) front_long)
      ∙ ap value_of (get_or_at (map letter_of front) (letter_of (end + m)) [] 0 42 (letters_long front end front_long))
      ∙ value-letter (end + m) (omega (arith, end-zero, end_below)) in
      omega (arith, sym (at j h) ∙ ap (λ (t : List ℕ). value_of (get_or t 42 0)) e ∙ at k i)
