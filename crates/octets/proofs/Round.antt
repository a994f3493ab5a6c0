-- Numbers in bytes, there and back: a number that fits w bytes is the number of its w bytes, and w bytes are the bytes of their number.
use Prim.Native.Nat.{ℕ, zero, suc, ◌+◌, ◌*◌, ◌/◌, ◌%◌, ◌^◌, ◌<◌}
use mathlib.Core.Path.{◌≡◌, refl, ap₂, ◌∙◌}
use mathlib.Core.List.{List, [], ◌∷◌}
use native.Mathlib.Omega.{arith}
use native.Mathlib.Nat.{add-mul, mul_assoc, mul_comm, mod-eq_of_lt, pow-suc}
use lib.ListN.{length}
use lib.Arith.{digits_lt}
use lib.Pow.{pow-add, mod-pow-add, high}
use Rattle.octets.specs.Bytes.{Bytes}
use Rattle.octets.specs.Numbers.{number, number_from, big_endian}

more_bits : (w : ℕ) → 8 * suc w ≡ 8 + 8 * w
more_bits w = omega arith

-- w bytes are eight times w binary digits
pub bits-bytes : (w : ℕ) → 256 ^ w ≡ 2 ^ (8 * w)
bits-bytes zero = refl
bits-bytes (suc w) = pow-suc 256 w ∙ mul_comm (256 ^ w) 256 ∙ rw (more_bits w, pow-add 2 8 (8 * w), bits-bytes w)

-- one byte more before w bytes
carry : (n x w : ℕ) → (n * 256 + x) * 2 ^ (8 * w) ≡ n * 2 ^ (8 * suc w) + x * 2 ^ (8 * w)
carry n x w = rw (more_bits w, pow-add 2 8 (8 * w), add-mul (n * 256) x (2 ^ (8 * w)), mul_assoc n 256 (2 ^ (8 * w)))

-- w bytes after a number: the highest byte goes over to the number
after-bytes : (w n x : ℕ) → number_from n (big_endian w x) ≡ n * 2 ^ (8 * w) + x % 2 ^ (8 * w)
unfolding number_from big_endian
after-bytes zero n x = omega arith
after-bytes (suc w) n x =
    let digit = x / 2 ^ (8 * w) % 2 ^ 8 in
    let low : x % 2 ^ (8 * suc w) ≡ digit * 2 ^ (8 * w) + x % 2 ^ (8 * w) = rw (more_bits w) (mod-pow-add x 8 (8 * w)) in
    after-bytes w (n * 256 + digit) x ∙ omega (arith, carry n digit w, low)

-- a number that fits w bytes is the number of its w bytes
pub number_of_bytes : (w x : ℕ) → x < 256 ^ w → number (big_endian w x) ≡ x
number_of_bytes w x h =
    let all : x % 2 ^ (8 * w) ≡ x = mod-eq_of_lt (rw (bits-bytes w) at h) in
    after-bytes w 0 x ∙ omega (arith, all)

-- any bytes after a number
number-after : (bs : List ℕ) (n : ℕ) → number_from n bs ≡ n * 2 ^ (8 * length bs) + number bs
unfolding number_from
number-after [] n = omega arith
number-after (x ∷ bs) n =
    number-after bs (n * 256 + x) ∙ omega (arith, carry n x (length bs), number-after bs (0 * 256 + x))

-- the number of so many bytes fits them
number_low : (bs : List ℕ) → Bytes bs → number bs < 2 ^ (8 * length bs)
unfolding number_from
number_low [] h = omega arith
number_low (x ∷ bs) h =
    let first : 0 * 256 + x < 2 ^ 8 = omega (arith, h.0) in
    rw (number-after bs (0 * 256 + x), more_bits (length bs), pow-add 2 8 (8 * length bs)) (digits_lt first (number_low bs h.1))

pub number_fits : (bs : List ℕ) (w : ℕ) → Bytes bs → length bs ≡ w → number bs < 256 ^ w
number_fits bs w h e = rw (bits-bytes w, ← e) (number_low bs h)

-- the last bytes of a number are those it ends with, whatever stands before them
bytes_after : (bs : List ℕ) (n : ℕ) → Bytes bs → big_endian (length bs) (number_from n bs) ≡ bs
unfolding number_from big_endian
bytes_after [] n h = refl
bytes_after (x ∷ bs) n h =
    let whole : number_from (n * 256 + x) bs / 2 ^ (8 * length bs) ≡ n * 256 + x =
    rw (number-after bs (n * 256 + x)) (high (n * 256 + x) (8 * length bs) (number_low bs h.1)) in
    let first : number_from (n * 256 + x) bs / 2 ^ (8 * length bs) % 2 ^ 8 ≡ x = rw whole (omega (arith, h.0)) in
    ap₂ (λ (y : ℕ) (ys : List ℕ). y ∷ ys) first (bytes_after bs (n * 256 + x) h.1)

-- w bytes are the w bytes of their number
pub bytes_of-number : (w : ℕ) (bs : List ℕ) → Bytes bs → length bs ≡ w → big_endian w (number bs) ≡ bs
bytes_of-number w bs h e = rw (← e) (bytes_after bs 0 h)
