-- Regular forms as values, and what a form says of a text: that it is of the form, or the offset of the first byte at which no
-- text of the form goes on; for a text that stops too soon, its length.
use Rattle.std.specs.Prelude.{ℕ, zero, suc, List, [], ◌∷◌, Bool, true, false, cond, ◌&&◌, ◌||◌, leb}
use Prim.Native.Char.{Char, code}
use Rattle.form.specs.Verdict.{Verdict, of_form, stops_at}

pub data Re : Type 0 where
  none : Re
  empty : Re
  range : ℕ → ℕ → Re
  seq : Re → Re → Re
  alt : Re → Re → Re
  upto : ℕ → Re → Re
  deriving Discrete as Re-discrete

infixr 5 ◌·◌
infixr 4 ◌∣◌
infix 6 ◌⋯◌
-- the notations of a listing: one after the other, a choice, a class of characters from .. to, one character,
-- {n}, {0,1} and {0,n}
abbrev pub ◌·◌ : Re → Re → Re
p · q = seq p q

abbrev pub ◌∣◌ : Re → Re → Re
p ∣ q = alt p q

abbrev pub ◌⋯◌ : Char → Char → Re
a ⋯ b = range (code a) (code b)

abbrev pub char : Char → Re
char c = range (code c) (code c)

abbrev pub times : ℕ → Re → Re
times zero r = empty
times (suc n) r = r · times n r

abbrev pub opt : Re → Re
opt r = r ∣ empty

-- the empty text is of the form
abbrev pub nullable : Re → Bool
nullable none = false
nullable empty = true
nullable (range a b) = false
nullable (seq p q) = nullable p && nullable q
nullable (alt p q) = nullable p || nullable q
nullable (upto n r) = true

-- some text is of the form
abbrev pub alive : Re → Bool
alive none = false
alive empty = true
alive (range a b) = leb a b
alive (seq p q) = alive p && alive q
alive (alt p q) = alive p || alive q
alive (upto n r) = true

-- seq and alt, with `none` and `empty` left out where that changes nothing
abbrev pub seq' : Re → Re → Re
seq' none q = none
seq' empty q = q
seq' (range a b) q = seq (range a b) q
seq' (seq p r) q = seq (seq p r) q
seq' (alt p r) q = seq (alt p r) q
seq' (upto n r) q = seq (upto n r) q

abbrev pub is_none : Re → Bool
is_none none = true
is_none empty = false
is_none (range a b) = false
is_none (seq p q) = false
is_none (alt p q) = false
is_none (upto n r) = false

abbrev pub alt' : Re → Re → Re
alt' p q = cond (is_none p) q (cond (is_none q) p (alt p q))

-- what is left of the form after the byte c
abbrev pub deriv : ℕ → Re → Re
deriv c none = none
deriv c empty = none
deriv c (range a b) = cond (leb a c && leb c b) empty none
deriv c (seq p q) = let later = deriv c q in alt' (seq' (deriv c p) q) (cond (nullable p) later none)
deriv c (alt p q) = alt' (deriv c p) (deriv c q)
deriv c (upto zero r) = none
deriv c (upto (suc n) r) = seq' (deriv c r) (upto n r)

-- r is left of the form after n bytes, and these bytes are to come
abbrev pub judge_from : Re → ℕ → List ℕ → Verdict
judge_from r n [] = cond (nullable r) of_form (stops_at n)
judge_from r n (c ∷ cs) = let onwards = judge_from (deriv c r) (suc n) cs in cond (alive (deriv c r)) onwards (stops_at n)

abbrev pub judge : Re → List ℕ → Verdict
judge r s = judge_from r 0 s
