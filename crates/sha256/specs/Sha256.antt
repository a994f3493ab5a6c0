-- SHA-256, written from FIPS 180-4 (August 2015) section by section, to be read beside it. Bytes and 32-bit words are numbers, a message
-- is a list of bytes. The standard takes messages of fewer than 2 ^ 64 bits; these are messages of whole bytes, and of any length: the
-- count of bits is written modulo 2 ^ 64. 3.1: `big_endian n x` is an integer as n bytes, the most significant first; of a larger one its n
-- low bytes.
use Rattle.std.specs.Prelude.{ℕ, zero, suc, ◌+◌, ◌-◌, ◌*◌, ◌/◌, ◌%◌, ◌^◌, cond, List, [], ◌∷◌, ◌++◌, length, take, drop, bit_and, bit_or, bit_xor, nat_lt, slice_index, slice_index_or}
use Rattle.octets.specs.Build.{build}
use Rattle.octets.specs.Numbers.{big_endian}
use Rattle.octets.specs.Parts.{zeros}

infixl 6 ◌⊞◌
-- 3.2: the sum modulo 2 ^ 32, the complement of a word, the shift and the rotation to the right by n
abbrev pub ◌⊞◌ : ℕ → ℕ → ℕ
x ⊞ y = (x + y) % 2 ^ 32

abbrev pub complement : ℕ → ℕ
complement x = 2 ^ 32 - 1 - x

abbrev pub SHR : ℕ → ℕ → ℕ
SHR n x = x / 2 ^ n

abbrev pub ROTR : ℕ → ℕ → ℕ
ROTR n x = bit_or (x / 2 ^ n) (x * 2 ^ (32 - n) % 2 ^ 32)

-- 4.1.2, (4.2) to (4.7): the six functions
abbrev pub Ch : ℕ → ℕ → ℕ → ℕ
Ch x y z = bit_xor (bit_and x y) (bit_and (complement x) z)

abbrev pub Maj : ℕ → ℕ → ℕ → ℕ
Maj x y z = bit_xor (bit_xor (bit_and x y) (bit_and x z)) (bit_and y z)

unfoldable pub Σ0 : ℕ → ℕ
Σ0 x = bit_xor (bit_xor (ROTR 2 x) (ROTR 13 x)) (ROTR 22 x)

unfoldable pub Σ1 : ℕ → ℕ
Σ1 x = bit_xor (bit_xor (ROTR 6 x) (ROTR 11 x)) (ROTR 25 x)

unfoldable pub σ0 : ℕ → ℕ
σ0 x = bit_xor (bit_xor (ROTR 7 x) (ROTR 18 x)) (SHR 3 x)

unfoldable pub σ1 : ℕ → ℕ
σ1 x = bit_xor (bit_xor (ROTR 17 x) (ROTR 19 x)) (SHR 10 x)

-- 4.2.2: the sixty-four constant words
unfoldable pub K : List ℕ
K =
    0x428a2f98 ∷ 0x71374491 ∷ 0xb5c0fbcf ∷ 0xe9b5dba5 ∷ 0x3956c25b ∷ 0x59f111f1 ∷ 0x923f82a4 ∷ 0xab1c5ed5 ∷
    0xd807aa98 ∷ 0x12835b01 ∷ 0x243185be ∷ 0x550c7dc3 ∷ 0x72be5d74 ∷ 0x80deb1fe ∷ 0x9bdc06a7 ∷ 0xc19bf174 ∷
    0xe49b69c1 ∷ 0xefbe4786 ∷ 0x0fc19dc6 ∷ 0x240ca1cc ∷ 0x2de92c6f ∷ 0x4a7484aa ∷ 0x5cb0a9dc ∷ 0x76f988da ∷
    0x983e5152 ∷ 0xa831c66d ∷ 0xb00327c8 ∷ 0xbf597fc7 ∷ 0xc6e00bf3 ∷ 0xd5a79147 ∷ 0x06ca6351 ∷ 0x14292967 ∷
    0x27b70a85 ∷ 0x2e1b2138 ∷ 0x4d2c6dfc ∷ 0x53380d13 ∷ 0x650a7354 ∷ 0x766a0abb ∷ 0x81c2c92e ∷ 0x92722c85 ∷
    0xa2bfe8a1 ∷ 0xa81a664b ∷ 0xc24b8b70 ∷ 0xc76c51a3 ∷ 0xd192e819 ∷ 0xd6990624 ∷ 0xf40e3585 ∷ 0x106aa070 ∷
    0x19a4c116 ∷ 0x1e376c08 ∷ 0x2748774c ∷ 0x34b0bcb5 ∷ 0x391c0cb3 ∷ 0x4ed8aa4a ∷ 0x5b9cca4f ∷ 0x682e6ff3 ∷
    0x748f82ee ∷ 0x78a5636f ∷ 0x84c87814 ∷ 0x8cc70208 ∷ 0x90befffa ∷ 0xa4506ceb ∷ 0xbef9a3f7 ∷ 0xc67178f2 ∷ []

-- 5.1.1: the message, the bit 1 (with seven zero bits the byte 0x80), then zeros, as few as bring the length to 448 modulo 512 bits
-- (56 modulo 64 bytes), then the length of the message in bits as 64 bits
abbrev pub zero_count : ℕ → ℕ
zero_count n = (119 - n % 64) % 64

unfoldable pub pad : List ℕ → List ℕ
pad m = m ++ ((0x80 ∷ zeros (zero_count (length m))) ++ big_endian 8 (8 * length m))

-- 5.2.1: the padded message is parsed into blocks of 512 bits, block i (counted from 0), and a block into sixteen words, word t
abbrev pub block : ℕ → List ℕ → List ℕ
block i p = take 64 (drop (64 * i) p)

abbrev pub word : ℕ → List ℕ → ℕ
word t m = slice_index m (4 * t) * 2 ^ 24 + slice_index m (4 * t + 1) * 2 ^ 16 + slice_index m (4 * t + 2) * 2 ^ 8 + slice_index m (4 * t + 3)

-- 5.3.3: the initial hash value
abbrev pub H0 : List ℕ
H0 = 0x6a09e667 ∷ 0xbb67ae85 ∷ 0x3c6ef372 ∷ 0xa54ff53a ∷ 0x510e527f ∷ 0x9b05688c ∷ 0x1f83d9ab ∷ 0x5be0cd19 ∷ []

-- 6.2.2, step 1: word t of the schedule from 16 on, of the words w before it, and the first t words of the schedule of the block m
unfoldable pub later_word : ℕ → List ℕ → ℕ
later_word t w = σ1 (slice_index w (t - 2)) ⊞ slice_index_or w (t - 7) 0 ⊞ σ0 (slice_index w (t - 15)) ⊞ slice_index_or w (t - 16) 0

unfoldable pub schedule : ℕ → List ℕ → List ℕ
schedule zero m = []
schedule (suc t) m = schedule t m ++ (cond (nat_lt t 16) (word t m) (later_word t (schedule t m)) ∷ [])

-- 6.2.2, step 3: the two temporary words
unfoldable pub T1 : ℕ → ℕ → ℕ → ℕ → ℕ → ℕ → ℕ
T1 e f g h k w = h ⊞ Σ1 e ⊞ Ch e f g ⊞ k ⊞ w

unfoldable pub T2 : ℕ → ℕ → ℕ → ℕ
T2 a b c = Σ0 a ⊞ Maj a b c

-- 6.2.2, step 3: one round on the working variables a to h, which s has as its elements 0 to 7
unfoldable pub step : ℕ → ℕ → ℕ → ℕ → ℕ → ℕ → ℕ → ℕ → ℕ → ℕ → List ℕ
step a b c d e f g h k w = (T1 e f g h k w ⊞ T2 a b c) ∷ a ∷ b ∷ c ∷ (d ⊞ T1 e f g h k w) ∷ e ∷ f ∷ g ∷ []

abbrev pub round : List ℕ → ℕ → ℕ → List ℕ
round s k w =
    step (slice_index s 0) (slice_index s 1) (slice_index s 2) (slice_index s 3) (slice_index s 4) (slice_index s 5) (slice_index s 6) (slice_index s 7) k w

-- n rounds, from round t on, with the schedule w
unfoldable pub rounds : ℕ → ℕ → List ℕ → List ℕ → List ℕ
rounds zero t w s = s
rounds (suc n) t w s = round (rounds n t w s) (slice_index K (t + n)) (slice_index w (t + n))

-- 6.2.2, steps 2 to 4: the hash value s before a block m and the one after it
unfoldable pub sums : List ℕ → List ℕ → List ℕ
sums s v = build 8 (λ (i : ℕ). slice_index_or v i 0 ⊞ slice_index_or s i 0)

unfoldable pub compress : List ℕ → List ℕ → List ℕ
compress s m = sums s (rounds 64 0 (schedule 64 m) s)

-- 6.2.2: the hash value after n blocks of p, from s
unfoldable pub absorb : ℕ → List ℕ → List ℕ → List ℕ
absorb zero s p = s
absorb (suc n) s p = compress (absorb n s p) (block n p)

-- 6.2.2: the first n words of a hash value one after the other
unfoldable pub joined : ℕ → List ℕ → List ℕ
joined zero s = []
joined (suc n) s = joined n s ++ big_endian 4 (slice_index s n)

-- 6.2: the message digest
unfoldable pub sha256 : List ℕ → List ℕ
sha256 m = joined 8 (absorb (length (pad m) / 64) H0 (pad m))
