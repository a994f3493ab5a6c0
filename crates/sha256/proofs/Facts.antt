-- What the definition says, for a reader who doubts it: the zeros of the padding are those of 5.1.1, a padded message is whole blocks,
-- a digest is 32 bytes, and the promise of `hash` leaves one answer.
use Rattle.std.proofs.Common.{◌≡◌, ℕ, zero, suc, ◌+◌, ◌*◌, ◌%◌, ◌≤◌, List, length, sym, refl, ◌∙◌, arith, length-append}
use Rattle.octets.specs.Bytes.{Bytes}
use Rattle.octets.specs.Numbers.{big_endian}
use Rattle.octets.proofs.Lists.{bytes-append}
use Rattle.octets.proofs.Numbers.{length-big_endian, bytes-big_endian}
use Rattle.sha256.specs.Sha256.{zero_count, pad, joined, sha256}
use Rattle.sha256.proofs.Padding.{length-pad}

-- with the mark they bring the length to 56 modulo 64 bytes, 448 modulo 512 bits, and no fewer do
pub zeros_fill : (n : ℕ) → (n + 1 + zero_count n) % 64 ≡ 56
zeros_fill n = omega arith

pub zeros_least : (n z : ℕ) → (n + 1 + z) % 64 ≡ 56 → zero_count n ≤ z
zeros_least n z h = omega arith

pub pad-whole : (m : List ℕ) → length (pad m) % 64 ≡ 0
pad-whole m = omega (arith, length-pad m)

length-joined : (n : ℕ) (s : List ℕ) → length (joined n s) ≡ 4 * n
unfolding joined
length-joined zero s = refl
length-joined (suc n) s = simp (length-append, length-joined n s, length-big_endian) (omega arith)

bytes-joined : (n : ℕ) (s : List ℕ) → Bytes (joined n s)
unfolding joined
bytes-joined zero s = tt
bytes-joined (suc n) s = bytes-append (joined n s) (big_endian 4 _) (bytes-joined n s) (bytes-big_endian 4 _)

pub length-sha256 : (m : List ℕ) → length (sha256 m) ≡ 32
unfolding sha256
length-sha256 m = length-joined 8 _

pub bytes-sha256 : (m : List ℕ) → Bytes (sha256 m)
unfolding sha256
bytes-sha256 m = bytes-joined 8 _

pub one_answer : (m r q : List ℕ) → r ≡ sha256 m → q ≡ sha256 m → r ≡ q
one_answer m r q e f = e ∙ sym f
