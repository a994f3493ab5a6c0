-- Encode of decode: the bytes of a slice of the form are those written of its head, and the fields of its head fit their places.
use Prim.Native.Nat.{ℕ, zero, suc, ◌+◌, ◌-◌, ◌*◌, ◌<◌, ◌≤◌, ◌^◌}
use mathlib.Core.Bool.{Bool, true, false, false≢true, cond, ◌&&◌}
use mathlib.Core.Path.{◌≡◌, refl, ap, sym, ◌∙◌}
use mathlib.Core.List.{List, [], ◌∷◌, ◌++◌, append-nil}
use native.Mathlib.Decide.{dec_le}
use native.Mathlib.Omega.{arith}
use lib.Dec.{eqb}
use lib.ListN.{length, take, drop, get_or, length-drop}
use lib.Seq.{drop-cons, drop-drop, take-add, take_all}
use borrow.Author.Tests.{eqb-true, le-leb, lt-leb}
use mir.Facts.{of_z-to_z, sfits_to_z}
use mir.Syntax.{w64}
use mir.Val.{SFits, of_z, to_z}
use Rattle.octets.specs.Build.{build}
use Rattle.octets.specs.Bytes.{Bytes}
use Rattle.octets.specs.Numbers.{big_endian}
use Rattle.octets.specs.Parts.{part, zeros, all_zero}
use Rattle.octets.proofs.Equal.{zero-zeros}
use Rattle.octets.proofs.Lists.{byte-at}
use Rattle.octets.proofs.Built.{length-build, built_at}
use Rattle.octets.proofs.Round.{bytes_of-number, number_fits}
use Rattle.octets.proofs.Tests.{both}
use Rattle.octets.proofs.Parts.{bytes_drop, bytes-part, length_part}
use Rattle.octets.proofs.Zeros.{zero-both}
use Rattle.account.specs.declared.Account.{Account}
use Rattle.account.specs.Head.{no_account}
use Rattle.head_form.specs.Fits.{AccountFits, Fits}
use Rattle.head_form.specs.Form.{account_bytes, accounts_bytes, front_bytes, head_bytes, account_from, head_from, number_at}
use Rattle.head_form.specs.Form.{place_at, place_formed, places_formed, is_formed}
use Rattle.head_form.proofs.Fields.{account_shift}
use Rattle.head_form.proofs.Stores.{accounts_append}

-- numbers read from a list of bytes
module _ (b : List ℕ) (bytes : Bytes b) where
  number-below : (at w : ℕ) → at + w ≤ length b → number_at b at w < 256 ^ w
  number-below at w h = number_fits (part b at w) w (bytes-part b at w bytes) (length_part b at w h)

  signed-fits : (at : ℕ) → at + 8 ≤ length b → SFits w64 (to_z w64 (number_at b at 8))
  signed-fits at h = sfits_to_z (record { fits = number-below at 8 h })

  number-kept : (at w : ℕ) → at + w ≤ length b → big_endian w (number_at b at w) ≡ part b at w
  number-kept at w h = bytes_of-number w (part b at w) (bytes-part b at w bytes) (length_part b at w h)

  signed-kept : (at : ℕ) → at + 8 ≤ length b → big_endian 8 (of_z w64 (to_z w64 (number_at b at 8))) ≡ part b at 8
  signed-kept at h = ap (big_endian 8) (of_z-to_z {w = w64} (record { fits = number-below at 8 h })) ∙ number-kept at 8 h

pub zeros-kept : (b : List ℕ) (at w : ℕ) → at + w ≤ length b → all_zero (part b at w) ≡ true → zeros w ≡ part b at w
zeros-kept b at w h z = sym (zero-zeros (part b at w) z ∙ ap zeros (length_part b at w h))

byte_kept : (b : List ℕ) (at w : ℕ) → at < length b → get_or b at 0 ∷ part b (suc at) w ≡ part b at (suc w)
byte_kept b at w h = rw (drop-cons b at 0 h)

-- an account place at the front of a list: its fields, one behind the other, are its 64 bytes
place_kept : (q : List ℕ) → Bytes q → 64 ≤ length q → all_zero (part q 53 11) ≡ true → account_bytes (account_from q 0) ≡ take 64 q
unfolding account_bytes account_from
place_kept q bytes h z = rw (
  number-kept q bytes 32 8 (omega arith),
  signed-kept q bytes 40 (omega arith),
  number-kept q bytes 48 2 (omega arith),
  number-kept q bytes 50 2 (omega arith),
  zeros-kept q 53 11 (omega arith) z,
  byte_kept q 52 11 (omega arith),
  ← take-add 32 8 q,
  ← take-add 40 8 q,
  ← take-add 48 2 q,
  ← take-add 50 2 q,
  ← take-add 52 12 q,
)

-- the 32 bytes before the accounts: "the bytes 18 to 31 are zero"
pub front_kept : (b : List ℕ) → Bytes b → 32 ≤ length b → all_zero (part b 18 14) ≡ true → front_bytes (head_from b) ≡ take 32 b
unfolding front_bytes head_from
front_kept b bytes h z = rw (
  signed-kept b bytes 0 (omega arith),
  byte_kept b 11 0 (omega arith),
  number-kept b bytes 12 2 (omega arith),
  number-kept b bytes 14 2 (omega arith),
  number-kept b bytes 16 2 (omega arith),
  zeros-kept b 18 14 (omega arith) z,
  ← take-add 8 3 b,
  ← take-add 11 1 b,
  ← take-add 12 2 b,
  ← take-add 14 2 b,
  ← take-add 16 2 b,
  ← take-add 18 14 b,
)

-- what is zero in an account place past the accounts, and in one that is in use
module _ (b : List ℕ) (count k : ℕ) (e : place_formed b count k ≡ true) where
  pub place-past : count ≤ k → all_zero (part b (place_at k) 64) ≡ true
  unfolding place_formed
  place-past h = rw (le-leb count k h) at e

  pub place_used : k < count →
      (all_zero (part b (place_at k + get_or b (place_at k + 52) 0) (32 - get_or b (place_at k + 52) 0)) ≡ true)
      × (all_zero (part b (place_at k + 53) 11) ≡ true)
  unfolding place_formed
  place_used h =
      let n = get_or b (place_at k + 52) 0 in
      both (all_zero (part b (place_at k + n) (32 - n))) (all_zero (part b (place_at k + 53) 11)) (rw (lt-leb count k h) at e)

  -- "the bytes 53 to 63 of each account place"
  pub tail-zero : all_zero (part b (place_at k + 53) 11) ≡ true
  tail-zero = elim (dec_le count k) [
    | yes past ↦
        let q = drop (place_at k) b in
        let cut : all_zero (take 53 q ++ take 11 (drop 53 q)) ≡ true = rw (take-add 53 11 q) at (place-past past) in
        rw (drop-drop 53 (place_at k) b) at (zero-both (take 53 q) (take 11 (drop 53 q)) cut).1
    | no used ↦ (place_used (omega arith)).1
  ]

-- an account place anywhere
pub account_kept : (b : List ℕ) → Bytes b → (at : ℕ) → at + 64 ≤ length b → all_zero (part b (at + 53) 11) ≡ true →
    account_bytes (account_from b at) ≡ part b at 64
account_kept b bytes at h z =
    let long : 64 ≤ length (drop at b) = simp length-drop (omega arith) in
    ap account_bytes (account_shift b at) ∙ place_kept (drop at b) (bytes_drop at b bytes) long (rw (drop-drop 53 at b) z)

-- one account place more
pub places-next : (b : List ℕ) (n : ℕ) → part b 32 (suc n * 64) ≡ part b 32 (n * 64) ++ part b (place_at n) 64
places-next b n =
    let more : suc n * 64 ≡ n * 64 + 64 = omega arith in
    rw (more, take-add (n * 64) 64 (drop 32 b), drop-drop (n * 64) 32 b)

-- the first n account places
accounts_kept : (b : List ℕ) → Bytes b → (count n : ℕ) → 32 + n * 64 ≤ length b → places_formed b count n ≡ true →
    accounts_bytes (build n (λ k. account_from b (place_at k))) ≡ part b 32 (n * 64)
unfolding build accounts_bytes places_formed
accounts_kept b bytes count zero h e = refl
accounts_kept b bytes count (suc n) h e =
    let f : ℕ → Account = λ k. account_from b (place_at k) in
    let both = both (places_formed b count n) (place_formed b count n) e in
    accounts_append (build n f) (f n ∷ []) ∙ rw (
      places-next b n,
      accounts_kept b bytes count n (omega arith) both.0,
      append-nil (account_bytes (f n)),
      account_kept b bytes (place_at n) (omega arith) (tail-zero b count n both.1),
    )

-- what the verdict says
pub formed_facts : (b : List ℕ) → is_formed b ≡ true →
    (length b ≡ 2080) × (all_zero (part b 18 14) ≡ true) × (places_formed b (get_or b 11 0) 32 ≡ true)
unfolding is_formed
formed_facts b = go (eqb (length b) 2080) refl
  where
    go : (t : Bool) → eqb (length b) 2080 ≡ t →
        cond t (all_zero (part b 18 14) && places_formed b (get_or b 11 0) 32) false ≡ true →
        (length b ≡ 2080) × (all_zero (part b 18 14) ≡ true) × (places_formed b (get_or b 11 0) 32 ≡ true)
    go true l e = let both = both (all_zero (part b 18 14)) _ e in (eqb-true (length b) 2080 l, both.0, both.1)
    go false l e = absurd (false≢true e)

pub head-kept : (b : List ℕ) → Bytes b → is_formed b ≡ true → head_bytes (head_from b) ≡ b
unfolding head_bytes head_from
head-kept b bytes e =
    let facts = formed_facts b e in
    let accounts = accounts_kept b bytes (get_or b 11 0) 32 (omega (arith, facts.0)) facts.2 in
    rw (front_kept b bytes (omega (arith, facts.0)) facts.1, accounts)
    (sym (take-add 32 2048 b) ∙ take_all 2080 b (omega (arith, facts.0)))

account_fits : (b : List ℕ) → Bytes b → (at : ℕ) → at + 64 ≤ length b → AccountFits (account_from b at)
unfolding account_from
account_fits b bytes at h = record {
  name = length_part b at 32 (omega arith);
  byte = byte-at b bytes (at + 52);
  cap = (number-below b bytes (at + 32) 8 (omega arith), number-below b bytes (at + 48) 2 (omega arith));
  position = (signed-fits b bytes (at + 40) (omega arith), number-below b bytes (at + 50) 2 (omega arith));
}

pub head-fits : (b : List ℕ) → Bytes b → length b ≡ 2080 → Fits (head_from b)
unfolding head_from
head-fits b bytes long = record {
  time = signed-fits b bytes 0 (omega arith);
  currency = length_part b 8 3 (omega arith);
  count = byte-at b bytes 11;
  slots = number-below b bytes 12 2 (omega arith);
  places = number-below b bytes 14 2 (omega arith);
  finished = number-below b bytes 16 2 (omega arith);
  all = length-build (λ k. account_from b (place_at k)) 32;
  each = λ k h. rw (built_at (λ j. account_from b (place_at j)) no_account 32 k h) (account_fits b bytes (place_at k) (omega (arith, h)));
}
