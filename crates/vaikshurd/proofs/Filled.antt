-- What the form asks of a head beside the shape: every field in its width, zeros after a name and in the account places not in use. The
-- head of bytes of the form is such a one.
use Prim.Native.Nat.{ℕ, zero, suc, ◌+◌, ◌-◌, ◌<◌, ◌≤◌, ◌^◌}
use mathlib.Core.Path.{◌≡◌, refl, ap, sym, ◌∙◌}
use mathlib.Core.Bool.{true}
use mathlib.Core.List.{List, [], ◌∷◌, ◌++◌}
use native.Mathlib.Decide.{dec_le}
use native.Mathlib.Omega.{arith}
use lib.IntN.{pos}
use lib.ListN.{length, take, drop, get_or, take-append-drop}
use lib.Seq.{drop-drop, take-nil}
use mir.Syntax.{w64}
use mir.Val.{SFits}
use Rattle.octets.specs.Bytes.{Bytes}
use Rattle.octets.specs.Numbers.{number_from}
use Rattle.octets.specs.Parts.{part, zeros, all_zero}
use Rattle.octets.proofs.Integers.{mag_split, fits_split}
use Rattle.octets.proofs.Stores.{length-zeros}
use Rattle.account.specs.declared.Account.{Account}
use Rattle.account.specs.declared.Head.{Head}
use Rattle.account.specs.Head.{account_at, no_account}
use Rattle.shape.specs.Reading.{Book}
use Rattle.shape.specs.Sound.{Sound}
use Rattle.head_form.specs.Fits.{AccountFits, Fits}
use Rattle.head_form.specs.Form.{account_from, head_from}
use Rattle.head_form.specs.Form.{place_at, place_formed, places_formed, is_formed}
use Rattle.octets.proofs.Built.{built_at}
use Rattle.head_form.proofs.Encoded.{formed_facts, head-fits, place-past, place_used, zeros-kept}
use Rattle.head_form.proofs.Fields.{account_shift}
use Rattle.octets.proofs.Tests.{both as both_true}
use Rattle.open_book.specs.Effect.{blank_account}

-- a name in its 32 bytes, zeros after it
pub record Padded (a : Account) : Type 0 where
  pub long : length a.name ≡ 32
  pub rest : all_zero (drop a.length a.name) ≡ true

pub record Filled (h : Head) : Type 0 where
  pub time : SFits w64 h.time
  pub currency : length h.currency ≡ 3
  pub all : length h.accounts ≡ 32
  pub used : (k : ℕ) → k < h.count → k < 32 → Padded (account_at h k)
  pub free : (k : ℕ) → h.count ≤ k → k < 32 → account_at h k ≡ blank_account

blank_fits : AccountFits blank_account
blank_fits = record {
  name = length-zeros 32;
  byte = omega arith;
  cap = (omega arith, omega arith);
  position = (fits_split (pos 0) (omega arith) (omega arith), omega arith);
}

-- with the shape's bounds every field fits its bytes
module _ (b : Book) (s : Sound b) (f : Filled b.head) where
  account_fits : (k : ℕ) → k < 32 → AccountFits (account_at b.head k)
  account_fits k h = elim (dec_le b.head.count k) [
    | yes past ↦ rw (f.free k past h) blank_fits
    | no used ↦
        let i : k < b.head.count = omega arith in
        let a = s.account k i in
        let m = mag_split (account_at b.head k).position.units (2 ^ 62) (s.units k i) in
        record {
          name = (f.used k i h).long;
          byte = omega (arith, a.short);
          cap = (omega (arith, a.cap), omega (arith, a.cap_remainder));
          position = (
            fits_split (account_at b.head k).position.units (omega (arith, m.0)) (omega (arith, m.1)),
            omega (arith, a.remainder),
          );
        }
  ]

  pub sound_fits : Fits b.head
  sound_fits = record {
    time = f.time;
    currency = f.currency;
    count = omega (arith, s.few);
    slots = omega (arith, s.lengths.few_slots);
    places = omega (arith, s.lengths.few_places);
    finished = omega (arith, s.room, s.lengths.few_places);
    all = f.all;
    each = account_fits;
  }

-- the end of a front part
drop-take : {A : Type 0} (n m : ℕ) (l : List A) → drop n (take m l) ≡ take (m - n) (drop n l)
drop-take zero m l = let e : m - 0 ≡ m = omega arith in rw e
drop-take (suc n) zero l = let e : 0 - suc n ≡ 0 = omega arith in rw e
drop-take (suc n) (suc m) [] = sym (take-nil (suc m - suc n))
drop-take (suc n) (suc m) (x ∷ l) = let e : suc m - suc n ≡ m - n = omega arith in rw e (drop-take n m l)

-- from the bytes of the form
zero_account : (rest : List ℕ) → account_from (zeros 64 ++ rest) 0 ≡ blank_account
unfolding account_from zeros number_from
zero_account rest = refl

-- the first n account places are of the form where each is
module _ (b : List ℕ) (count : ℕ) where
  place_formed_lem : (n k : ℕ) → places_formed b count n ≡ true → k < n → place_formed b count k ≡ true
  unfolding places_formed
  place_formed_lem zero k e h = absurd (omega arith)
  place_formed_lem (suc n) k e h =
      let both = both_true (places_formed b count n) (place_formed b count n) e in
      elim (dec_le n k) [
        | yes last ↦ let here : k ≡ n = omega arith in rw here both.1
        | no early ↦ place_formed_lem n k both.0 (omega arith)
      ]

  pub places_formed_lem : (n : ℕ) → ((k : ℕ) → k < n → place_formed b count k ≡ true) → places_formed b count n ≡ true
  unfolding places_formed
  places_formed_lem zero each = refl
  places_formed_lem (suc n) each = rw (places_formed_lem n (λ k h. each k (omega arith)), each n (omega arith))

module _ (b : List ℕ) where
  pub count_here : (head_from b).count ≡ get_or b 11 0
  unfolding head_from
  count_here = refl

  pub account_here : (k : ℕ) → k < 32 → account_at (head_from b) k ≡ account_from b (place_at k)
  unfolding head_from
  account_here k h = built_at (λ j. account_from b (place_at j)) no_account 32 k h

  -- the bytes of a name past its length
  pub name_rest : (at : ℕ) → drop (account_from b at).length (account_from b at).name
      ≡ part b (at + get_or b (at + 52) 0) (32 - get_or b (at + 52) 0)
  unfolding account_from
  name_rest at =
      let n = get_or b (at + 52) 0 in
      drop-take n 32 (drop at b) ∙ ap (take (32 - n)) (drop-drop n at b)

  account_free : (at : ℕ) → at + 64 ≤ length b → all_zero (part b at 64) ≡ true → account_from b at ≡ blank_account
  account_free at h z =
      account_shift b at ∙ ap (λ (l : List ℕ). account_from l 0) (sym (take-append-drop 64 (drop at b)))
      ∙ rw (← zeros-kept b at 64 h z) (zero_account (drop 64 (drop at b)))

-- the head of bytes of the form
pub formed_filled : (b : List ℕ) → Bytes b → is_formed b ≡ true → Filled (head_from b)
formed_filled b bytes e =
    let facts = formed_facts b e in
    let fits = head-fits b bytes facts.0 in
    let count = get_or b 11 0 in
    let place : (k : ℕ) → k < 32 → place_formed b count k ≡ true = λ k h. place_formed_lem b count 32 k facts.2 h in
    record {
      time = fits.time;
      currency = fits.currency;
      all = fits.all;
      used = λ k i h. record {
        long = (fits.each k h).name;
        rest = rw (account_here b k h, name_rest b (place_at k)) (place_used b count k (place k h) (omega (arith, count_here b))).0;
      };
      free = λ k i h.
          account_here b k h
          ∙ account_free b (place_at k) (omega (arith, facts.0)) (place-past b count k (place k h) (omega (arith, count_here b)));
    }
