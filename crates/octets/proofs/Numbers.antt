-- Laws of numbers in bytes.
use Prim.Native.Nat.{ℕ, zero, suc, ◌+◌, ◌-◌, ◌*◌, ◌/◌, ◌%◌, ◌^◌, ◌<◌, ◌≤◌}
use mathlib.Core.Path.{◌≡◌, refl, sym, ap}
use mathlib.Core.List.{List, [], ◌∷◌, ◌++◌}
use mathlib.Core.Logic.{⊎_elim}
use native.Mathlib.Omega.{arith}
use native.Mathlib.Nat.{pow-le-pow_right, eq-or-lt_of_le, le_of_suc-le-suc}
use native.Mathlib.Numerals.{add-one}
use lib.ListN.{length, get_or, take, drop}
use lib.Pow.{field, mod-mod-pow}
use lib.Seq.{take-suc, take_all, length-take-le}
use Rattle.std.specs.Int.{w64, to_be_bytes, bytes_high_first}
use Rattle.octets.specs.Bytes.{Bytes}
use Rattle.octets.specs.Numbers.{number, number_from, big_endian}
use Rattle.octets.proofs.Parts.{bytes_take}
use Rattle.octets.proofs.Round.{bits-bytes, number_fits}

number-snoc : (xs : List ℕ) (n y : ℕ) → number_from n (xs ++ (y ∷ [])) ≡ number_from n xs * 256 + y
unfolding number_from
number-snoc [] n y = refl
number-snoc (x ∷ xs) n y = number-snoc xs (n * 256 + x) y

-- one byte more
pub number_more : (s : List ℕ) (i : ℕ) → i < length s → number (take (i + 1) s) ≡ number (take i s) * 256 + get_or s i 0
number_more s i h = rw (add-one i, take-suc s i 0 h) (number-snoc (take i s) 0 (get_or s i 0))

-- a number of at most seven bytes has room for one more
pub number_room : (s : List ℕ) (i : ℕ) → Bytes s → i < length s → length s ≤ 8 → number (take i s) < 2 ^ 56
number_room s i b h k =
    let few : i ≤ 7 = omega arith in
    let fits = number_fits (take i s) i (bytes_take i s b) (length-take-le i s (omega arith)) in
    omega (arith, fits, pow-le-pow_right {n = 256} (omega arith) few)

pub length-big_endian : (n x : ℕ) → length (big_endian n x) ≡ n
unfolding big_endian
length-big_endian zero x = refl
length-big_endian (suc n) x = ap suc (length-big_endian n x)

-- what lies above the bytes does not count
pub big_endian_low : (n k x : ℕ) → big_endian n (x % 2 ^ (8 * n + k)) ≡ big_endian n x
unfolding big_endian
big_endian_low zero k x = refl
big_endian_low (suc n) k x =
    let a : 8 * suc n + k ≡ k + 8 + 8 * n = omega arith in
    let b : 8 * suc n + k ≡ 8 * n + (8 + k) = omega arith in
    let top : x % 2 ^ (8 * suc n + k) / 2 ^ (8 * n) % 2 ^ 8 ≡ x / 2 ^ (8 * n) % 2 ^ 8 =
    rw (a, field x (k + 8) (8 * n), mod-mod-pow (x / 2 ^ (8 * n)) k 8) in
    rw top (rw b (ap (λ (l : List ℕ). (x / 2 ^ (8 * n) % 2 ^ 8) ∷ l) (big_endian_low n (8 + k) x)))

-- the library's `to_be_bytes`, and the last of its bytes
bytes-all : (n x : ℕ) → bytes_high_first n x ≡ big_endian n x
unfolding big_endian
bytes-all zero x = refl
bytes-all (suc zero) x = let e : x % 256 ≡ x / 1 % 256 = omega arith in ap (λ (b : ℕ). b ∷ []) e
bytes-all (suc (suc n)) x = rw (bits-bytes (suc n), bytes-all (suc n) x)

drop-bytes : (n w x : ℕ) → w ≤ n → drop (n - w) (big_endian n x) ≡ big_endian w x
unfolding big_endian
drop-bytes zero w x h = let none : w ≡ 0 = omega arith in rw none
drop-bytes (suc n) w x h = ⊎_elim
    (λ e. let all : suc n - w ≡ 0 = omega arith in rw all (ap (λ (k : ℕ). big_endian k x) (sym e)))
    (λ l. let more : suc n - w ≡ suc (n - w) = omega arith in rw more (drop-bytes n w x (le_of_suc-le-suc l))) (eq-or-lt_of_le h)

pub last_bytes : (bytes : List ℕ) (w x : ℕ) → w ≤ 8 → bytes ≡ to_be_bytes w64 x →
    take (8 - (8 - w)) (drop (8 - w) bytes) ≡ big_endian w x
last_bytes bytes w x h e =
    let last : drop (8 - w) bytes ≡ big_endian w x = rw (e, bytes-all 8 x) (drop-bytes 8 w x h) in
    rw last (take_all (8 - (8 - w)) (big_endian w x) (omega (arith, length-big_endian w x)))

pub bytes-big_endian : (n x : ℕ) → Bytes (big_endian n x)
unfolding big_endian
bytes-big_endian zero x = tt
bytes-big_endian (suc n) x = (omega arith, bytes-big_endian n x)
