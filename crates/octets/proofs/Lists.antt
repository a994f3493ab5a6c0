-- Laws of lists of bytes that the kit's library lacks.
use mathlib.Core.Path.{◌≡◌, refl, sym, ap, ◌∙◌}
use mathlib.Core.List.{List, [], ◌∷◌, ◌++◌}
use Prim.Native.Nat.{ℕ, zero, suc, ◌+◌, ◌-◌, ◌≤◌, ◌<◌}
use native.Mathlib.Omega.{arith}
use native.Mathlib.Nat.{add-zero, zero-add, add-suc, suc-add}
use lib.ListN.{length, take, drop, get_or, set, length-append, length-drop, get_or-append}
use lib.Seq.{sets, sets-eq, take_at, drop-append-add, drop-drop, get_or-append-add}
use Rattle.octets.specs.Bytes.{Bytes}

-- a slice's elements are bytes
pub bytes : (s : List ℕ) → ((k : ℕ) → get_or s k 0 < 256) → Bytes s
bytes [] f = tt
bytes (c ∷ cs) f = (f 0, bytes cs (λ (k : ℕ). f (suc k)))

pub bytes-append : (s t : List ℕ) → Bytes s → Bytes t → Bytes (s ++ t)
bytes-append [] t a b = b
bytes-append (c ∷ cs) t a b = (a.0, bytes-append cs t a.1 b)

pub byte-at : (s : List ℕ) → Bytes s → (k : ℕ) → get_or s k 0 < 256
byte-at [] b k = omega arith
byte-at (c ∷ cs) b zero = b.0
byte-at (c ∷ cs) b (suc k) = byte-at cs b.1 k

-- inside a list the default does not count
pub default : (l : List ℕ) (j d e : ℕ) → j < length l → get_or l j d ≡ get_or l j e
default [] j d e h = absurd (omega arith)
default (x ∷ xs) zero d e h = refl
default (x ∷ xs) (suc j) d e h = default xs j d e (omega arith)

-- an element of two lists joined
pub at_left : (xs ys : List ℕ) (j : ℕ) → j < length xs → get_or (xs ++ ys) j 0 ≡ get_or xs j 0
at_left xs ys j h = get_or-append {A = ℕ} xs ys 0 j h

pub at_right : (xs ys : List ℕ) (j : ℕ) → length xs ≤ j → get_or (xs ++ ys) j 0 ≡ get_or ys (j - length xs) 0
at_right xs ys j h =
    let e : j ≡ length xs + (j - length xs) = omega arith in
    ap (λ (n : ℕ). get_or (xs ++ ys) n 0) e ∙ get_or-append-add xs ys (j - length xs) 0

-- a text put at the front of a list, with the rest kept, and more stored right behind it
pub front-sets : (text vs old o : List ℕ) (at : ℕ) → at ≡ length text → o ≡ text ++ drop at old → at + length vs ≤ length old →
    sets o at vs ≡ (text ++ vs) ++ drop (at + length vs) old
front-sets text vs old o at l e h =
    let n = length vs in
    let g : at + n ≤ length o = rw (e, length-append, length-drop) (omega (arith, l)) in
    sets-eq vs o at g
    ∙ ap (λ (z : List ℕ). z ++ vs ++ drop (at + n) o) (ap (take at) e ∙ take_at text (drop at old) at (sym l))
    ∙ ap (λ (z : List ℕ). text ++ vs ++ z) (ap (drop (at + n)) e ∙ ap (λ (k : ℕ). drop (k + n) (text ++ drop at old))
    l ∙ drop-append-add text (drop at old) n ∙ drop-drop n at old)

-- two runs of stores, one behind the other
pub sets-append : (l : List ℕ) (i : ℕ) (xs ys : List ℕ) → sets l i (xs ++ ys) ≡ sets (sets l i xs) (i + length xs) ys
sets-append l i [] ys = ap (λ (n : ℕ). sets l n ys) (sym (add-zero i))
sets-append l i (x ∷ xs) ys =
    sets-append (set l i x) (suc i) xs ys
    ∙ ap (λ (n : ℕ). sets (sets (set l i x) (suc i) xs) n ys) (suc-add i (length xs) ∙ sym (add-suc i (length xs)))

-- a text stored from the start of a list
pub sets-start : (text old : List ℕ) → length text ≤ length old → sets old 0 text ≡ text ++ drop (length text) old
sets-start text old h = let z = zero-add (length text) in sets-eq text old 0 (rw z h) ∙ ap (λ (k : ℕ). text ++ drop k old) z
