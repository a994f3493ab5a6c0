-- The text of an id byte by byte: what the writer has after k bytes.
use mathlib.Core.Path.{◌≡◌, refl, subst⁻¹}
use mathlib.Core.List.{List, ◌++◌}
use Prim.Native.Char.{code}
use Prim.Native.Nat.{ℕ, zero, suc, ◌+◌, ◌-◌, ◌/◌, ◌%◌, ◌<◌}
use native.Mathlib.Decide.{ℕ_discrete}
use native.Mathlib.Omega.{arith}
use lib.ListN.{length, get_or, set, replicate}
use Rattle.uuid_text.specs.declared.TheConstants.{PLACES}
use Rattle.uuid_text.specs.Id.{hex_char, byte_text, text_before, id_text}

-- a fact of each number below n, from the greatest down
abbrev Each : ℕ → (ℕ → Type 0) → Type 0
Each zero P = Unit {0}
Each (suc n) P = P n × Each n P

each_at : (n : ℕ) (P : ℕ → Type 0) → Each n P → (k : ℕ) → k < n → P k
each_at zero P e k h = absurd (omega arith)
each_at (suc n) P e k h = elim (ℕ_discrete k n) [ yes f ↦ subst⁻¹ P f e.0 | no f ↦ each_at n P e.1 k (omega arith) ]

-- the text grows with each byte, to 36 characters
pub step : (b : List ℕ) (k : ℕ) → text_before (suc k) b ≡ text_before k b ++ byte_text k (get_or b k 0)
unfolding text_before
step b k = refl

pub whole : (b : List ℕ) → length (text_before 16 b) ≡ 36
unfolding text_before
whole b = refl

pub text_long : (b : List ℕ) → length (id_text b) ≡ 36
unfolding id_text
text_long b = whole b

-- the text of the first k bytes, and dashes to the end
unfoldable pub begun_text : ℕ → List ℕ → List ℕ
begun_text k b = text_before k b ++ replicate (36 - length (text_before k b)) (code "-")

pub none-yet : (b : List ℕ) → replicate 36 (code "-") ≡ begun_text 0 b
unfolding begun_text text_before
none-yet b = refl

pub all-there : (b : List ℕ) → begun_text 16 b ≡ id_text b
unfolding begun_text text_before id_text
all-there b = refl

-- the digits of one byte more
abbrev Turns : List ℕ → ℕ → Type 0
Turns b k =
    set (set (begun_text k b) (get_or PLACES k 0) (hex_char (get_or b k 0 / 16))) (get_or PLACES k 0 + 1) (hex_char (get_or b k 0 % 16))
    ≡ begun_text (k + 1) b

turn : (b : List ℕ) (k : ℕ) → k < 16 → Turns b k
unfolding begun_text text_before
turn b k h = each_at 16 (Turns b) (refl, (refl, (refl, (refl, (refl, (refl, (refl, (refl, (refl, (refl, (refl, (refl, (refl, (refl, (refl, (refl, tt)))))))))))))))) k h

pub turn_at : (b t : List ℕ) (k high low : ℕ) → k < 16 → t ≡ begun_text k b → high ≡ hex_char (get_or b k 0 / 16) →
    low ≡ hex_char (get_or b k 0 % 16) → set (set t (get_or PLACES k 0) high) (get_or PLACES k 0 + 1) low ≡ begun_text (k + 1) b
turn_at b t k high low h e f g = rw (e, f, g) (turn b k h)
