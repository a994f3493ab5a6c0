-- The bytes of a head that is filled as the form asks are of the form.
use Prim.Native.Nat.{ℕ, zero, suc, ◌+◌, ◌-◌, ◌*◌, ◌<◌}
use mathlib.Core.Path.{◌≡◌, refl, ap, sym, ◌∙◌}
use mathlib.Core.Bool.{true, ◌&&◌}
use mathlib.Core.List.{List, [], ◌∷◌, ◌++◌, append_assoc}
use native.Mathlib.Decide.{dec_le}
use native.Mathlib.Omega.{arith}
use lib.ListN.{length, take, drop, get_or, length-append}
use lib.Seq.{drop-append-add, drop-cons, drop-drop, drop-nil, take_at}
use borrow.Author.Tests.{eq-eqb, le-leb, lt-leb}
use mir.Syntax.{w64}
use mir.Val.{of_z}
use Rattle.octets.specs.Numbers.{big_endian}
use Rattle.octets.specs.Parts.{part, zeros, all_zero}
use Rattle.octets.proofs.Equal.{zeros-zero}
use Rattle.octets.proofs.Numbers.{length-big_endian}
use Rattle.octets.proofs.Stores.{length-zeros}
use Rattle.account.specs.declared.Account.{Account}
use Rattle.account.specs.declared.Head.{Head}
use Rattle.account.specs.Head.{account_at, no_account}
use Rattle.head_form.specs.Fits.{Fits}
use Rattle.head_form.specs.Form.{account_bytes, accounts_bytes, front_bytes, head_bytes, account_from}
use Rattle.head_form.specs.Form.{place_at, place_formed, is_formed}
use Rattle.head_form.proofs.Decoded.{head_read}
use Rattle.head_form.proofs.Pieces.{laid, piece}
use Rattle.head_form.proofs.Stores.{length_account, length_front}
use Rattle.open_book.specs.Effect.{blank_account}
use Rattle.vaikshurd.proofs.Filled.{Padded, Filled, places_formed_lem, count_here, account_here, name_rest}

-- the fields of an account place and of the front, in their order, the zeros apart
abbrev account_pieces : Account → List (List ℕ)
account_pieces a =
    a.name ∷ big_endian 8 a.cap.units ∷ big_endian 8 (of_z w64 a.position.units) ∷ big_endian 2 a.cap.remainder
    ∷ big_endian 2 a.position.remainder ∷ (a.length ∷ []) ∷ zeros 11 ∷ []

abbrev front-pieces : Head → List (List ℕ)
front-pieces h =
    big_endian 8 (of_z w64 h.time) ∷ h.currency ∷ (h.count ∷ []) ∷ big_endian 2 h.slots ∷ big_endian 2 h.places
    ∷ big_endian 2 h.finished ∷ zeros 14 ∷ []

account_laid : (a : Account) (rest : List ℕ) → account_bytes a ++ rest ≡ laid (account_pieces a) rest
unfolding account_bytes
account_laid a rest = simp append_assoc

front-laid : (h : Head) (rest : List ℕ) → front_bytes h ++ rest ≡ laid (front-pieces h) rest
unfolding front_bytes
front-laid h rest = simp append_assoc

account_tail : (a : Account) (rest : List ℕ) → length a.name ≡ 32 → part (account_bytes a ++ rest) 53 11 ≡ zeros 11
account_tail a rest n =
    rw (account_laid a rest)
    (piece (account_pieces a) rest 6 53 (omega arith) (simp (n, length-big_endian)) (length-zeros 11))

front-tail : (h : Head) (rest : List ℕ) → length h.currency ≡ 3 → part (front_bytes h ++ rest) 18 14 ≡ zeros 14
front-tail h rest n =
    rw (front-laid h rest)
    (piece (front-pieces h) rest 6 18 (omega arith) (simp (n, length-big_endian)) (length-zeros 14))

blank_bytes : account_bytes blank_account ≡ zeros 64
unfolding account_bytes big_endian zeros
blank_bytes = refl

-- the bytes of accounts whose names have 32: 64 each, and those from k on
abbrev Named32 : List Account → Type 0
Named32 xs = (j : ℕ) → j < length xs → length (get_or xs j no_account).name ≡ 32

length_accounts : (xs : List Account) → Named32 xs → length (accounts_bytes xs) ≡ length xs * 64
unfolding accounts_bytes
length_accounts [] n = refl
length_accounts (x ∷ xs) n =
    simp length-append (omega (arith, length_account x (n 0 (omega arith)), length_accounts xs (λ j h. n (suc j) (omega arith))))

accounts_from : (xs : List Account) (k : ℕ) → Named32 xs → drop (k * 64) (accounts_bytes xs) ≡ accounts_bytes (drop k xs)
unfolding accounts_bytes
accounts_from xs zero n = refl
accounts_from [] (suc k) n = drop-nil (suc k * 64)
accounts_from (x ∷ xs) (suc k) n =
    let one : suc k * 64 ≡ length (account_bytes x) + k * 64 = omega (arith, length_account x (n 0 (omega arith))) in
    rw one (drop-append-add (account_bytes x) (accounts_bytes xs) (k * 64) ∙ accounts_from xs k (λ j h. n (suc j) (omega arith)))

-- a head whose fields fit their bytes
module _ (h : Head) (fits : Fits h) where
  named : Named32 h.accounts
  named j g = (fits.each j (omega (arith, g, fits.all))).name

  -- its account k, at its place in the bytes
  account_found : (k : ℕ) → k < 32 →
      drop (place_at k) (head_bytes h) ≡ account_bytes (account_at h k) ++ accounts_bytes (drop (suc k) h.accounts)
  unfolding head_bytes accounts_bytes
  account_found k g =
      rw (← length_front h fits.currency) (drop-append-add (front_bytes h) (accounts_bytes h.accounts) (k * 64))
      ∙ accounts_from h.accounts k named ∙ ap accounts_bytes (drop-cons h.accounts k no_account (omega (arith, g, fits.all)))

  head_long : length (head_bytes h) ≡ 2080
  unfolding head_bytes
  head_long =
      simp length-append (omega (arith, length_front h fits.currency, length_accounts h.accounts named, fits.all))

  front-zeros : part (head_bytes h) 18 14 ≡ zeros 14
  unfolding head_bytes
  front-zeros = front-tail h (accounts_bytes h.accounts) fits.currency

  count_read : get_or (head_bytes h) 11 0 ≡ h.count
  count_read = sym (count_here (head_bytes h)) ∙ ap (λ (g : Head). g.count) (head_read h fits)

  account_read : (k : ℕ) → k < 32 → account_from (head_bytes h) (place_at k) ≡ account_at h k
  account_read k g = sym (account_here (head_bytes h) k g) ∙ ap (λ (g : Head). account_at g k) (head_read h fits)

  place_free : (k : ℕ) → k < 32 → account_at h k ≡ blank_account → all_zero (part (head_bytes h) (place_at k) 64) ≡ true
  place_free k g e =
      rw (account_found k g, e, blank_bytes, take_at (zeros 64) (accounts_bytes (drop (suc k) h.accounts)) 64 (length-zeros 64))
      (zeros-zero 64)

  place_taken : (k : ℕ) → k < 32 → Padded (account_at h k) → let b = head_bytes h in let at = place_at k in
      all_zero (part b (at + get_or b (at + 52) 0) (32 - get_or b (at + 52) 0)) && all_zero (part b (at + 53) 11) ≡ true
  place_taken k g p =
      let b = head_bytes h in
      let tail : part b (place_at k + 53) 11 ≡ zeros 11 =
      ap (take 11) (sym (drop-drop 53 (place_at k) b) ∙ ap (drop 53) (account_found k g))
      ∙ account_tail (account_at h k) (accounts_bytes (drop (suc k) h.accounts)) p.long in
      rw (← name_rest b (place_at k), account_read k g, p.rest, tail) (zeros-zero 11)

  place_written : Filled h → (k : ℕ) → k < 32 → place_formed (head_bytes h) h.count k ≡ true
  unfolding place_formed
  place_written f k g = elim (dec_le h.count k) [
    | yes past ↦ rw (le-leb h.count k past) (place_free k g (f.free k past g))
    | no used ↦
        let i : k < h.count = omega arith in
        rw (lt-leb h.count k i) (place_taken k g (f.used k i g))
  ]

  pub filled_formed : Filled h → is_formed (head_bytes h) ≡ true
  unfolding is_formed
  filled_formed f =
      let b = head_bytes h in
      let front : all_zero (part b 18 14) ≡ true = rw (front-zeros) (zeros-zero 14) in
      rw (eq-eqb (length b) 2080 head_long, front, count_read) (places_formed_lem b h.count 32 (place_written f))
