-- Parts of a list of bytes: their length, that they are bytes; and after a store, the part that was stored and the parts apart from it.
use Prim.Native.Nat.{ℕ, zero, suc, ◌+◌, ◌-◌, ◌≤◌}
use mathlib.Core.Path.{◌≡◌, refl, ap, sym, ◌∙◌}
use mathlib.Core.List.{List, [], ◌∷◌, ◌++◌, append_assoc}
use native.Mathlib.Omega.{arith}
use native.Mathlib.Nat.{add-suc}
use lib.ListN.{length, take, drop, set, length-append, length-drop}
use lib.Seq.{sets, sets-eq, length-sets, length-take-le, take_at, drop_at, take-set-le, drop-set-lt, drop-set-add}
use borrow.Rule.Slice.PartMut.{put_mid, Post-is}
use Rattle.octets.specs.Bytes.{Bytes}
use Rattle.octets.specs.Parts.{part}

pub length_part : (l : List ℕ) (at w : ℕ) → at + w ≤ length l → length (part l at w) ≡ w
length_part l at w h = length-take-le w (drop at l) (simp length-drop (omega arith))

pub bytes_take : (n : ℕ) (s : List ℕ) → Bytes s → Bytes (take n s)
bytes_take zero s h = tt
bytes_take (suc n) [] h = tt
bytes_take (suc n) (c ∷ cs) h = (h.0, bytes_take n cs h.1)

pub bytes_drop : (n : ℕ) (s : List ℕ) → Bytes s → Bytes (drop n s)
bytes_drop zero s h = h
bytes_drop (suc n) [] h = tt
bytes_drop (suc n) (c ∷ cs) h = bytes_drop n cs h.1

pub bytes-part : (l : List ℕ) (at w : ℕ) → Bytes l → Bytes (part l at w)
bytes-part l at w h = bytes_take w (drop at l) (bytes_drop at l h)

-- the bytes before the place of a store, and those behind the bytes stored
pub take-sets : (l v : List ℕ) (n at : ℕ) → n ≤ at → take n (sets l at v) ≡ take n l
take-sets l [] n at h = refl
take-sets l (x ∷ v) n at h = take-sets (set l at x) v n (suc at) (omega arith) ∙ take-set-le n l at x h

pub drop-sets : (l v : List ℕ) (n at : ℕ) → at + length v ≤ n → drop n (sets l at v) ≡ drop n l
drop-sets l [] n at h = refl
drop-sets l (x ∷ v) n at h = drop-sets (set l at x) v n (suc at) (omega arith) ∙ drop-set-lt n l at x (omega arith)

-- a store into what follows the first n bytes
pub drop-sets-add : (l v : List ℕ) (n at : ℕ) → drop n (sets l (n + at) v) ≡ sets (drop n l) at v
drop-sets-add l [] n at = refl
drop-sets-add l (x ∷ v) n at =
    ap (λ (i : ℕ). drop n (sets (set l (n + at) x) i v)) (sym (add-suc n at)) ∙ drop-sets-add (set l (n + at) x) v n (suc at)
    ∙ ap (λ (o : List ℕ). sets o (suc at) v) (drop-set-add n l at x)

module _ (l v : List ℕ) (at : ℕ) where
  -- the bytes up to the end of those stored
  pub take_stored : (end : ℕ) → at + length v ≡ end → end ≤ length l → take end (sets l at v) ≡ take at l ++ v
  take_stored end e h =
      let front : length (take at l ++ v) ≡ end = rw (length-append, length-take-le at l (omega arith)) e in
      rw (sets-eq v l at (omega arith)) (take_at (take at l ++ v) (drop (at + length v) l) end front)

  pub part_stored : at + length v ≤ length l → part (sets l at v) at (length v) ≡ v
  part_stored h =
      let front : length (take at l) ≡ at = length-take-le at l (omega arith) in
      rw (sets-eq v l at h, append_assoc, drop_at (take at l) (v ++ drop (at + length v) l) at front)
      (take_at v (drop (at + length v) l) (length v) refl)

  pub part-before : (i w : ℕ) → i + w ≤ at → part (sets l at v) i w ≡ part l i w
  part-before i w h =
      let e : at ≡ i + (at - i) = omega arith in
      ap (λ (j : ℕ). part (sets l j v) i w) e ∙ ap (take w) (drop-sets-add l v i (at - i))
      ∙ take-sets (drop i l) v w (at - i) (omega arith)

  pub part-behind : (i w : ℕ) → at + length v ≤ i → part (sets l at v) i w ≡ part l i w
  part-behind i w h = ap (take w) (drop-sets l v i at h)

-- a part that was lent from the middle and comes home
pub part_home : (l v : List ℕ) (at end : ℕ) → at ≤ end → end ≤ length l → length v ≡ end - at → put_mid at (end - at) l v ≡ sets l at v
part_home l v at end h k n =
    let e : at + length v ≡ end = omega arith in
    rw (Post-is at end l h) (sym (sets-eq v l at (omega arith) ∙ append_assoc (take at l) v (drop (at + length v) l)
    ∙ ap (λ (j : ℕ). take at l ++ (v ++ drop j l)) e))

-- a store over another of the same length
pub sets_over : (l v u : List ℕ) (at : ℕ) → length v ≡ length u → at + length v ≤ length l → sets (sets l at v) at u ≡ sets l at u
sets_over l v u at e h =
    let long : at + length u ≤ length (sets l at v) = rw (length-sets l at v) (omega arith) in
    sets-eq u (sets l at v) at long
    ∙ rw (take-sets l v at at (omega arith), drop-sets l v (at + length u) at (omega arith)) (sym (sets-eq u l at (omega arith)))
