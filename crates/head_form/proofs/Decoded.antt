-- Decode of encode: each field is read back from the bytes that were written of it.
use Prim.Native.Nat.{ℕ, zero, suc, ◌+◌, ◌*◌, ◌<◌, ◌^◌}
use mathlib.Core.Path.{◌≡◌, refl, ap, sym, ◌∙◌}
use mathlib.Core.List.{List, [], ◌∷◌, ◌++◌, append_assoc}
use native.Mathlib.Omega.{arith}
use lib.IntN.{ℤ}
use lib.ListN.{length, drop, get_or}
use lib.Seq.{drop-append-add, drop-cons, drop-nil, take_all}
use mir.Facts.{Fits-of_z, to_z-of_z}
use mir.Syntax.{w64}
use mir.Val.{SFits, of_z, to_z}
use Rattle.octets.specs.Build.{build}
use Rattle.octets.specs.Numbers.{number, big_endian}
use Rattle.octets.specs.Parts.{part, zeros}
use Rattle.octets.proofs.Numbers.{length-big_endian}
use Rattle.octets.proofs.Built.{build-all}
use Rattle.octets.proofs.Round.{number_of_bytes}
use Rattle.account.specs.declared.Account.{Account}
use Rattle.account.specs.declared.Head.{Head}
use Rattle.account.specs.Head.{no_account}
use Rattle.head_form.specs.Fits.{AccountFits, Fits}
use Rattle.head_form.specs.Form.{account_bytes, accounts_bytes, front_bytes, head_bytes, account_from, head_from, number_at, place_at}
use Rattle.head_form.proofs.Fields.{account_is, account_shift, head-is}
use Rattle.head_form.proofs.Pieces.{laid, piece, piece_byte}
use Rattle.head_form.proofs.Stores.{length_account, length_front}

-- a number and a signed number whose bytes stand at a place
module _ (b : List ℕ) (at : ℕ) where
  number_read : (w : ℕ) {x : ℕ} → part b at w ≡ big_endian w x → x < 256 ^ w → x ≡ number_at b at w
  number_read w {x} e h = sym (ap number e ∙ number_of_bytes w x h)

  signed_read : {z : ℤ} → part b at 8 ≡ big_endian 8 (of_z w64 z) → SFits w64 z → z ≡ to_z w64 (number_at b at 8)
  signed_read {z} e f = sym (ap (to_z w64) (sym (number_read 8 e (Fits-of_z f).fits)) ∙ to_z-of_z f)

-- the fields of an account place, in their order
abbrev account_pieces : Account → List (List ℕ)
account_pieces a =
    a.name ∷ big_endian 8 a.cap.units ∷ big_endian 8 (of_z w64 a.position.units) ∷ big_endian 2 a.cap.remainder
    ∷ big_endian 2 a.position.remainder ∷ (a.length ∷ zeros 11) ∷ []

account_laid : (a : Account) (rest : List ℕ) → account_bytes a ++ rest ≡ laid (account_pieces a) rest
unfolding account_bytes
account_laid a rest = simp append_assoc

-- an account is read back from its own bytes, whatever follows them
account_read : (a : Account) (rest : List ℕ) → AccountFits a → account_from (account_bytes a ++ rest) 0 ≡ a
account_read a rest fits =
    let vs = account_pieces a in
    let b = laid vs rest in
    let n = fits.name in
    rw (account_laid a rest) (sym (account_is b 0
    (sym (piece vs rest 0 0 (omega arith) refl n))
    (sym (piece_byte vs rest 5 52 (omega arith) (simp (n, length-big_endian)) (omega arith)))
    (number_read b 32 8 (piece vs rest 1 32 (omega arith) (simp n) (length-big_endian 8 _)) fits.cap.0)
    (number_read b 48 2 (piece vs rest 3 48 (omega arith) (simp (n, length-big_endian)) (length-big_endian 2 _)) fits.cap.1)
    (signed_read b 40 (piece vs rest 2 40 (omega arith) (simp (n, length-big_endian)) (length-big_endian 8 _)) fits.position.0)
    (number_read b 50 2 (piece vs rest 4 50 (omega arith) (simp (n, length-big_endian)) (length-big_endian 2 _)) fits.position.1)))

-- the bytes of the accounts from k on
accounts_from : (xs : List Account) (k : ℕ) → ((j : ℕ) → j < length xs → length (get_or xs j no_account).name ≡ 32) →
    drop (k * 64) (accounts_bytes xs) ≡ accounts_bytes (drop k xs)
unfolding accounts_bytes
accounts_from xs zero n = refl
accounts_from [] (suc k) n = drop-nil (suc k * 64)
accounts_from (x ∷ xs) (suc k) n =
    let one : suc k * 64 ≡ length (account_bytes x) + k * 64 = omega (arith, length_account x (n 0 (omega arith))) in
    rw one (drop-append-add (account_bytes x) (accounts_bytes xs) (k * 64) ∙ accounts_from xs k (λ j h. n (suc j) (omega arith)))

-- account k stands at its place behind a front of 32 bytes
account_found : (front : List ℕ) (xs : List Account) (k : ℕ) → length front ≡ 32 → k < length xs →
    ((j : ℕ) → j < length xs → AccountFits (get_or xs j no_account)) →
    account_from (front ++ accounts_bytes xs) (place_at k) ≡ get_or xs k no_account
unfolding accounts_bytes
account_found front xs k n h fits =
    let a = get_or xs k no_account in
    let found : drop (place_at k) (front ++ accounts_bytes xs) ≡ account_bytes a ++ accounts_bytes (drop (suc k) xs) =
    rw (← n) (drop-append-add front (accounts_bytes xs) (k * 64)) ∙ accounts_from xs k (λ j g. (fits j g).name)
    ∙ ap accounts_bytes (drop-cons xs k no_account h) in
    account_shift (front ++ accounts_bytes xs) (place_at k) ∙ rw found (account_read a (accounts_bytes (drop (suc k) xs)) (fits k h))

-- the fields before the accounts, in their order
abbrev front-pieces : Head → List (List ℕ)
front-pieces h =
    big_endian 8 (of_z w64 h.time) ∷ h.currency ∷ (h.count ∷ []) ∷ big_endian 2 h.slots ∷ big_endian 2 h.places
    ∷ big_endian 2 h.finished ∷ zeros 14 ∷ []

front-laid : (h : Head) (rest : List ℕ) → front_bytes h ++ rest ≡ laid (front-pieces h) rest
unfolding front_bytes
front-laid h rest = simp append_assoc

pub head_read : (h : Head) → Fits h → head_from (head_bytes h) ≡ h
unfolding head_bytes
head_read h fits =
    let xs = h.accounts in
    let rest = accounts_bytes xs in
    let vs = front-pieces h in
    let b = laid vs rest in
    let n = fits.currency in
    let each : (j : ℕ) → j < length xs → AccountFits (get_or xs j no_account) = λ j g. fits.each j (omega (arith, g, fits.all)) in
    let found : build 32 (λ k. account_from (front_bytes h ++ rest) (place_at k)) ≡ xs =
    build-all (λ k. account_from (front_bytes h ++ rest) (place_at k)) no_account xs
    (λ k g. account_found (front_bytes h) xs k (length_front h n) g each) 32 (omega (arith, fits.all))
    ∙ take_all 32 xs (omega (arith, fits.all)) in
    rw (front-laid h rest) (sym (head-is b
    (rw (front-laid h rest) at (sym found))
    (sym (piece_byte vs rest 2 11 (omega arith) (simp (n, length-big_endian)) (omega arith)))
    (sym (piece vs rest 1 8 (omega arith) (simp length-big_endian) n))
    (signed_read b 0 (piece vs rest 0 0 (omega arith) refl (length-big_endian 8 _)) fits.time)
    (number_read b 12 2 (piece vs rest 3 12 (omega arith) (simp (n, length-big_endian)) (length-big_endian 2 _)) fits.slots)
    (number_read b 14 2 (piece vs rest 4 14 (omega arith) (simp (n, length-big_endian)) (length-big_endian 2 _)) fits.places)
    (number_read b 16 2 (piece vs rest 5 16 (omega arith) (simp (n, length-big_endian)) (length-big_endian 2 _)) fits.finished)))
