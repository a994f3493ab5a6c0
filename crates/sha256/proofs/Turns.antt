-- The turns of the loops, as laws of the definitions of 6.2.2.
use Rattle.std.proofs.Common.{◌≡◌, ℕ, zero, suc, ◌+◌, ◌-◌, ◌*◌, ◌<◌, ◌≤◌, min, List, [], ◌++◌, length, get_or, take, drop, set, sym, refl, ap, ◌∙◌, add-zero, add_assoc, add-suc, zero-add, add-one, arith, length-append, length-drop, take_all, get_or-take, drop-drop, take-suc-set, le-ltb, lt-ltb}
use lib.Seq.{sets, take-append-le, drop-append-le}
use Rattle.octets.specs.Numbers.{big_endian}
use Rattle.octets.proofs.Built.{build-all}
use Rattle.octets.proofs.Lists.{at_left}
use Rattle.octets.proofs.Numbers.{length-big_endian}
use Rattle.octets.proofs.Parts.{take_stored}
use Rattle.std.specs.List.{fold}
use Rattle.std.specs.Simd.{first_chunks}
use Rattle.sha256.specs.Parts.{There}
use Rattle.sha256.specs.Sha256.{◌⊞◌, sums, rounds, word, later_word, schedule, compress, absorb, joined}

-- rounds in parts
pub rounds-add : (a n t : ℕ) (w s : List ℕ) → rounds (a + n) t w s ≡ rounds n (t + a) w (rounds a t w s)
unfolding rounds
rounds-add a zero t w s = rw (add-zero a)
rounds-add a (suc n) t w s = rw (add-suc a n, ← add_assoc t a n, rounds-add a n t w s)

pub rounds_join : (a n t : ℕ) (w s x r : List ℕ) → x ≡ rounds a t w s → r ≡ rounds n (t + a) w x → r ≡ rounds (a + n) t w s
rounds_join a n t w s x r e f = rw (rounds-add a n t w s, ← e) f

pub rounds_none : (t : ℕ) (w s : List ℕ) → s ≡ rounds 0 t w s
unfolding rounds
rounds_none t w s = refl

pub rounds_next : (w s v r : List ℕ) (t n : ℕ) → v ≡ rounds t 0 w s → r ≡ rounds n t w v → r ≡ rounds (t + n) 0 w s
rounds_next w s v r t n e f = rounds_join t n 0 w s v r e (rw zero-add f)

pub rounds_eight : (w s x y z r : List ℕ) (t : ℕ) → x ≡ rounds 2 t w s → y ≡ rounds 2 (t + 2) w x → z ≡ rounds 2 (t + 4) w y →
    r ≡ rounds 2 (t + 6) w z → r ≡ rounds 8 t w s
rounds_eight w s x y z r t e f g h = rounds_join 6 2 t w s z r (rounds_join 4 2 t w s y z (rounds_join 2 2 t w s x y e f) g) h

-- word t of the schedule reads only words before it
later-take : (w : List ℕ) (t : ℕ) → 16 ≤ t → later_word t (take t w) ≡ later_word t w
unfolding later_word
later-take w t h =
    let a : t - 2 < t = omega arith in
    let b : t - 7 < t = omega arith in
    let c : t - 15 < t = omega arith in
    let d : t - 16 < t = omega arith in
    rw (get_or-take t w (t - 2) 0, get_or-take t w (t - 7) 0, get_or-take t w (t - 15) 0, get_or-take t w (t - 16) 0)

pub first_word : (m w : List ℕ) (t x : ℕ) → take t w ≡ schedule t m → x ≡ word t m → t < 16 → t < length w →
    take (t + 1) (set w t x) ≡ schedule (t + 1) m
unfolding schedule
first_word m w t x e f h l = rw (add-one t, take-suc-set, lt-ltb t 16 h, e, f)

pub next_word : (m w : List ℕ) (t x : ℕ) → take t w ≡ schedule t m → x ≡ later_word t w → 16 ≤ t → t < length w →
    take (t + 1) (set w t x) ≡ schedule (t + 1) m
unfolding schedule
next_word m w t x e f h l = rw (add-one t, take-suc-set, le-ltb t 16 h, f, ← later-take w t h, e)

-- a schedule that is there whole is not extended; else eight words are added
pub extend_none : (m w : List ℕ) (t : ℕ) → length w ≡ 64 → 64 ≤ t → There t m w → There (t + 8) m w
extend_none m w t l h e =
    let a : length w ≤ t = omega arith in
    let b : length w ≤ t + 8 = omega arith in
    let d : min t 64 ≡ min (t + 8) 64 = omega arith in
    take_all (t + 8) w b ∙ sym (take_all t w a) ∙ (rw d at e)

pub extend_end : (m x w : List ℕ) (t i : ℕ) → t + 8 ≤ 64 → i ≡ t + 8 → (take t x ≡ schedule t m → take i w ≡ schedule i m) →
    There t m x → There (t + 8) m w
extend_end m x w t i h f g e =
    let a : min t 64 ≡ t = omega arith in
    let b : min (t + 8) 64 ≡ t + 8 = omega arith in
    rw (b, ← f) (g (rw a at e))

-- a word of a longer part of the schedule
length-schedule : (t : ℕ) (m : List ℕ) → length (schedule t m) ≡ t
unfolding schedule
length-schedule zero m = refl
length-schedule (suc t) m = simp (length-append, length-schedule t m) (omega arith)

schedule_more : (m : List ℕ) (a k j : ℕ) → j < a → get_or (schedule (a + k) m) j 0 ≡ get_or (schedule a m) j 0
unfolding schedule
schedule_more m a zero j h = rw (add-zero a)
schedule_more m a (suc k) j h =
    let b : j < length (schedule (a + k) m) = omega (arith, length-schedule (a + k) m) in
    rw (add-suc a k) (at_left (schedule (a + k) m) _ j b ∙ schedule_more m a k j h)

rounds-same : (n t : ℕ) (w x s : List ℕ) → ((i : ℕ) → i < n → get_or w (t + i) 0 ≡ get_or x (t + i) 0) → rounds n t w s ≡ rounds n t x s
unfolding rounds
rounds-same zero t w x s f = refl
rounds-same (suc n) t w x s f = rw (rounds-same n t w x s (λ (i : ℕ) (h : i < n). f i (omega arith)), f n (omega arith))

-- rounds read only the part of the schedule that is there
pub rounds_known : (m w v r : List ℕ) (t n c : ℕ) → There c m w → t + n ≤ c → t + n ≤ 64 → r ≡ rounds n t w v →
    r ≡ rounds n t (schedule 64 m) v
rounds_known m w v r t n c e h k f =
    f ∙ rounds-same n t w (schedule 64 m) v (λ (i : ℕ) (l : i < n).
    let a : t + i < c = omega arith in
    let b : t + i < min c 64 = omega arith in
    let d : 64 ≡ min c 64 + (64 - min c 64) = omega arith in
    sym (get_or-take c w (t + i) 0 a) ∙ ap (λ (x : List ℕ). get_or x (t + i) 0) e ∙ sym (schedule_more m (min c 64) (64 - min c 64) (t + i) b)
    ∙ ap (λ (x : ℕ). get_or (schedule x m) (t + i) 0) (sym d))

-- blocks in parts
pub absorb-add : (a n : ℕ) (s p : List ℕ) → absorb (a + n) s p ≡ absorb n (absorb a s p) (drop (64 * a) p)
unfolding absorb
absorb-add a zero s p = rw (add-zero a)
absorb-add a (suc n) s p =
    let e : 64 * (a + n) ≡ 64 * a + 64 * n = omega arith in
    rw (add-suc a n, drop-drop (64 * n) (64 * a) p, ← e, absorb-add a n s p)

-- the sums of the eight words, each in its place
pub sums_each : (s v r : List ℕ) (i : ℕ) → length r ≡ 8 → 8 ≤ i → ((k : ℕ) → k < i → get_or r k 0 ≡ get_or v k 0 ⊞ get_or s k 0) → r ≡ sums s v
unfolding sums
sums_each s v r i l h e =
    let a : 8 ≤ length r = omega arith in
    let b : length r ≤ 8 = omega arith in
    sym (build-all (λ (k : ℕ). get_or v k 0 ⊞ get_or s k 0) 0 r (λ k g. sym (e k (omega arith))) 8 a ∙ take_all 8 r b)

-- block after block, as the code takes them in
pub absorb_by_fold : (n : ℕ) (s p : List ℕ) → fold compress s (first_chunks 64 n p) ≡ absorb n s p
unfolding absorb
absorb_by_fold zero s p = refl
absorb_by_fold (suc n) s p =
    let one : suc n ≡ 1 + n = omega arith in
    absorb_by_fold n (compress s (take 64 p)) (drop 64 p) ∙ sym (absorb-add 1 n s p) ∙ ap (λ (k : ℕ). absorb k s p) (sym one)

-- blocks that lie in the front part of a list
pub absorb-front : (a : ℕ) (s p q : List ℕ) → 64 * a ≤ length p → absorb a s (p ++ q) ≡ absorb a s p
unfolding absorb
absorb-front zero s p q h = refl
absorb-front (suc a) s p q h =
    let b : 64 * a ≤ length p = omega arith in
    let d : 64 ≤ length (drop (64 * a) p) = simp length-drop (omega arith) in
    rw (absorb-front a s p q b, drop-append-le (64 * a) p q, take-append-le 64 (drop (64 * a) p) q)

-- one word more is stored behind those written, and at last all are
pub joined_none : (s : List ℕ) → [] ≡ joined 0 s
unfolding joined
joined_none s = refl

pub joined_all : (s o : List ℕ) (i : ℕ) → take (4 * i) o ≡ joined i s → i ≡ 8 → length o ≡ 32 → o ≡ joined 8 s
joined_all s o i e f l =
    let h : length o ≤ 32 = omega arith in
    sym (take_all 32 o h) ∙ (rw f at e)

pub joined_step : (s o r : List ℕ) (i : ℕ) → take (4 * i) o ≡ joined i s → r ≡ sets o (4 * i) (big_endian 4 (get_or s i 0)) →
    4 * i + 4 ≤ length o → take (4 * (i + 1)) r ≡ joined (i + 1) s
unfolding joined
joined_step s o r i e f h =
    let word = big_endian 4 (get_or s i 0) in
    let k = length-big_endian 4 (get_or s i 0) in
    rw (f, add-one i, ← e) (take_stored o word (4 * i) (4 * suc i) (omega arith) (omega arith))
