-- Neighbouring stores: each begins where the one before ends, so a run of them is one store of what they join to (`sets-append`).
use Prim.Native.Nat.{ℕ, ◌+◌, ◌-◌, ◌*◌, ◌≤◌, ◌<◌}
use mathlib.Core.Path.{◌≡◌, refl, sym, ◌∙◌}
use mathlib.Core.List.{List, [], ◌∷◌, ◌++◌, append_assoc, append-nil}
use native.Mathlib.Numerals.{add-one}
use native.Mathlib.Omega.{arith}
use lib.ListN.{length, take, get_or, set, length-append, drop_of_length-le}
use lib.Seq.{sets, take-suc}
use mir.Syntax.{w64}
use mir.Val.{of_z}
use Rattle.octets.specs.Numbers.{big_endian}
use Rattle.octets.specs.Parts.{zeros}
use Rattle.octets.proofs.Lists.{sets-append, sets-start}
use Rattle.octets.proofs.Numbers.{length-big_endian}
use Rattle.octets.proofs.Stores.{length-zeros}
use Rattle.octets.proofs.Zeros.{drop-zeros}
use Rattle.account.specs.declared.Account.{Account}
use Rattle.account.specs.declared.Head.{Head}
use Rattle.account.specs.Head.{no_account}
use Rattle.head_form.specs.Form.{account_bytes, accounts_bytes, front_bytes, head_bytes}

-- a text at the start of zeros
on_zeros : (n : ℕ) (text : List ℕ) → length text ≤ n → sets (zeros n) 0 text ≡ text ++ zeros (n - length text)
on_zeros n text h = rw (sets-start text (zeros n) (rw (length-zeros n) h), drop-zeros (length text) n)

-- the fields of an account, one behind the other, with zeros behind them, are its bytes
pub account_stored : (a : Account) → length a.name ≡ 32 →
    set (sets (sets (sets (sets (sets (zeros 64) 0 a.name) 32 (big_endian 8 a.cap.units))
    40 (big_endian 8 (of_z w64 a.position.units))) 48 (big_endian 2 a.cap.remainder))
    50 (big_endian 2 a.position.remainder)) 52 a.length
    ≡ account_bytes a
unfolding account_bytes
account_stored a n =
    let text = a.name ++ big_endian 8 a.cap.units ++ big_endian 8 (of_z w64 a.position.units)
    ++ big_endian 2 a.cap.remainder ++ big_endian 2 a.position.remainder ++ (a.length ∷ []) in
    let long : length text ≡ 53 = simp (length-append, n, length-big_endian) in
    let stored : sets (sets (sets (sets (sets (sets (zeros 64) 0 a.name) 32 (big_endian 8 a.cap.units))
    40 (big_endian 8 (of_z w64 a.position.units))) 48 (big_endian 2 a.cap.remainder))
    50 (big_endian 2 a.position.remainder)) 52 (a.length ∷ []) ≡ sets (zeros 64) 0 text = simp (sets-append, length-append, n, length-big_endian) in
    stored ∙ on_zeros 64 text (omega (arith, long)) ∙ rw (long, append_assoc)

pub length_account : (a : Account) → length a.name ≡ 32 → length (account_bytes a) ≡ 64
unfolding account_bytes
length_account a n = simp (length-append, n, length-big_endian, length-zeros)

-- and those of the front
pub front_stored : (h : Head) → length h.currency ≡ 3 →
    sets (sets (sets (set (sets (sets (zeros 32) 0 (big_endian 8 (of_z w64 h.time))) 8 h.currency) 11 h.count)
    12 (big_endian 2 h.slots)) 14 (big_endian 2 h.places)) 16 (big_endian 2 h.finished)
    ≡ front_bytes h
unfolding front_bytes
front_stored h n =
    let text = big_endian 8 (of_z w64 h.time) ++ h.currency ++ (h.count ∷ []) ++ big_endian 2 h.slots
    ++ big_endian 2 h.places ++ big_endian 2 h.finished in
    let long : length text ≡ 18 = simp (length-append, n, length-big_endian) in
    let stored : sets (sets (sets (sets (sets (sets (zeros 32) 0 (big_endian 8 (of_z w64 h.time))) 8 h.currency) 11 (h.count ∷ []))
    12 (big_endian 2 h.slots)) 14 (big_endian 2 h.places)) 16 (big_endian 2 h.finished) ≡ sets (zeros 32) 0 text = simp (sets-append, length-append, n, length-big_endian) in
    stored ∙ on_zeros 32 text (omega (arith, long)) ∙ rw (long, append_assoc)

pub length_front : (h : Head) → length h.currency ≡ 3 → length (front_bytes h) ≡ 32
unfolding front_bytes
length_front h n = simp (length-append, n, length-big_endian, length-zeros)

pub accounts_append : (xs ys : List Account) → accounts_bytes (xs ++ ys) ≡ accounts_bytes xs ++ accounts_bytes ys
unfolding accounts_bytes
accounts_append [] ys = refl
accounts_append (x ∷ xs) ys = rw (accounts_append xs ys, append_assoc (account_bytes x) (accounts_bytes xs) (accounts_bytes ys))

-- one account more, stored right behind
pub accounts_more : (l o p : List ℕ) (xs : List Account) (at k : ℕ) → o ≡ sets l at (accounts_bytes (take k xs)) →
    length (accounts_bytes (take k xs)) ≡ k * 64 → p ≡ sets o (at + k * 64) (account_bytes (get_or xs k no_account)) →
    length (account_bytes (get_or xs k no_account)) ≡ 64 → k < length xs →
    (p ≡ sets l at (accounts_bytes (take (k + 1) xs))) × (length (accounts_bytes (take (k + 1) xs)) ≡ (k + 1) * 64)
unfolding accounts_bytes
accounts_more l o p xs at k e n f m h =
    let text = accounts_bytes (take k xs) in
    let more = account_bytes (get_or xs k no_account) in
    let grown : accounts_bytes (take (k + 1) xs) ≡ text ++ more =
    rw (add-one k, take-suc xs k no_account h, accounts_append (take k xs) (get_or xs k no_account ∷ []), append-nil more) in
    (rw grown (f ∙ rw (e, ← n) (sym (sets-append l at text more))), rw (grown, length-append text more) (omega (arith, n, m)))

-- the front and the accounts right behind it are the whole slice
pub head_stored : (l : List ℕ) (h : Head) → length l ≡ 2080 → length (front_bytes h) ≡ 32 → length (accounts_bytes h.accounts) ≡ 2048 →
    sets (sets l 0 (front_bytes h)) 32 (accounts_bytes h.accounts) ≡ head_bytes h
unfolding head_bytes
head_stored l h k m n =
    let text = front_bytes h ++ accounts_bytes h.accounts in
    let long : length text ≡ length l = simp length-append (omega arith) in
    let rest : length l ≤ length text = omega arith in
    rw m at (sym (sets-append l 0 (front_bytes h) (accounts_bytes h.accounts)))
    ∙ sets-start text l (omega arith) ∙ (rw (drop_of_length-le l rest, append-nil text))
