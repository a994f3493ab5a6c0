-- The end of the padded message, as the code makes it, and how it joins the whole blocks.
use Rattle.std.proofs.Common.{◌≡◌, ℕ, suc, ◌+◌, ◌-◌, ◌*◌, ◌/◌, ◌%◌, ◌^◌, ◌<◌, ◌≤◌, List, ◌∷◌, ◌++◌, length, get_or, take, drop, set, sym, ap, ◌∙◌, append_assoc, arith, length-append, length-drop, drop-cons}
use lib.Seq.{take-append-add, drop-append-le, set_at}
use lib.Seq.{sets}
use Rattle.octets.specs.Numbers.{big_endian}
use Rattle.octets.specs.Parts.{zeros}
use Rattle.octets.proofs.Numbers.{length-big_endian, big_endian_low}
use Rattle.octets.proofs.Parts.{take_stored}
use Rattle.octets.proofs.Stores.{length-zeros}
use Rattle.octets.proofs.Zeros.{take-zeros, drop-zeros}
use Rattle.sha256.specs.Sha256.{zero_count, pad, H0, absorb, joined, sha256}
use Rattle.sha256.specs.Parts.{wholes, rest, padded_length}
use Rattle.sha256.proofs.Turns.{absorb-add, absorb-front}

-- the mark is put behind the rest of a message
pub marked_rest : (r : List ℕ) (n : ℕ) → length r < n →
    set (r ++ drop (length r) (zeros n)) (length r) 0x80 ≡ r ++ (0x80 ∷ zeros (n - 1 - length r))
marked_rest r n h =
    let a : length r < length (zeros n) = omega (arith, length-zeros n) in
    let here : length r ≡ length r = λ i. length r in
    let b : n - suc (length r) ≡ n - 1 - length r = omega arith in
    rw (drop-cons (zeros n) (length r) 0 a, drop-zeros (suc (length r)) n, b)
    (set_at r (get_or (zeros n) (length r) 0) (zeros (n - 1 - length r)) 0x80 (length r) here)

-- the count is stored before the end
pub count_end : (b o : List ℕ) (size n : ℕ) → o ≡ sets b (size - 8) (big_endian 8 (n * 8 % 2 ^ 64)) → 8 ≤ size → size ≤ length b →
    take size o ≡ take (size - 8) b ++ big_endian 8 (8 * n)
count_end b o size n e h l =
    let count = big_endian 8 (8 * n) in
    let d : n * 8 ≡ 8 * n = omega arith in
    let low : big_endian 8 (n * 8 % 2 ^ 64) ≡ count = rw d (big_endian_low 8 0 (8 * n)) in
    let k = length-big_endian 8 (8 * n) in
    rw (e, low) (take_stored b count (size - 8) size (omega arith) (omega arith))

-- where the padded message ends
pub length-pad : (m : List ℕ) → length (pad m) ≡ padded_length (length m)
unfolding pad
length-pad m = simp (length-append, length-zeros, length-big_endian) (omega arith)

-- the rest of the message, marked and counted, is the end of the padded message
pub end_made : (m b r : List ℕ) (size : ℕ) → wholes (length m) + size ≡ padded_length (length m) →
    b ≡ rest m ++ (0x80 ∷ zeros (127 - length (rest m))) → take size r ≡ take (size - 8) b ++ big_endian 8 (8 * length m) →
    take size r ≡ drop (wholes (length m)) (pad m)
unfolding pad
end_made m b r size h e f =
    let n = length m in
    let l : length (rest m) ≡ n - wholes n = length-drop (wholes n) m in
    let a : size - 8 ≡ length (rest m) + suc (zero_count n) = omega arith in
    let d : zero_count n ≤ 127 - length (rest m) = omega arith in
    let g : wholes n ≤ length m = omega arith in
    let spare = 127 - length (rest m) in
    let mark : List ℕ = 0x80 ∷ zeros (zero_count n) in
    let count = big_endian 8 (8 * n) in
    f ∙ rw (e, a, take-append-add (rest m) (0x80 ∷ zeros spare) (suc (zero_count n)), take-zeros (zero_count n) spare d)
    (append_assoc (rest m) mark count ∙ sym (drop-append-le (wholes n) m (mark ++ count) g))

-- the blocks of the padded message are the whole blocks of the message and those of the end t
pub absorb-padded : (m s t : List ℕ) → t ≡ drop (wholes (length m)) (pad m) →
    absorb (length t / 64) (absorb (length m / 64) s m) t ≡ absorb (length (pad m) / 64) s (pad m)
unfolding pad
absorb-padded m s t e =
    let n = length m in
    let l : length t ≡ length (pad m) - wholes n = ap length e ∙ length-drop (wholes n) (pad m) in
    let a : length (pad m) / 64 ≡ n / 64 + length t / 64 = omega (arith, length-pad m) in
    let h : 64 * (n / 64) ≤ length m = omega arith in
    sym (rw a (absorb-add (n / 64) (length t / 64) s (pad m) ∙ rw (← e, absorb-front (n / 64) s m _ h)))

-- the digest, from what the parts of the code give: the initial value, the whole blocks, the end in b, its blocks, the bytes
pub parts_hashed : (m b : List ℕ) (size : ℕ) {start whole v r : List ℕ} → start ≡ H0 → whole ≡ absorb (length m / 64) start m →
    take size b ≡ drop (wholes (length m)) (pad m) → v ≡ absorb (length (take size b) / 64) whole (take size b) →
    r ≡ joined 8 v → r ≡ sha256 m
unfolding sha256
parts_hashed m b size e f g h k =
    rw (k, h, f, e, absorb-padded m H0 (take size b) g)
