-- What the reader of an id goes by: which bytes may stand at each place, and where a text stops.
use Rattle.std.specs.Prelude.{ℕ, ◌+◌, ◌*◌, ◌/◌, ◌%◌, ◌≤◌, ◌<◌, ◌≡◌, List, Bool, true, false, cond, ◌&&◌, ◌||◌, leb, eqb, length, get_or}
use Prim.Native.Char.{code}
use Rattle.uuid_text.specs.Id.{is_hex}

-- 01, "Id", place by place: dashes at 8, 13, 18 and 23, the version at 14, the variant at 19, and digits elsewhere
abbrev pub may_stand : ℕ → ℕ → Bool
may_stand i c =
    cond (eqb i 8 || eqb i 13 || eqb i 18 || eqb i 23) (eqb c (code "-"))
    (cond (eqb i 14) (leb (code "1") c && leb c (code "5"))
    (cond (eqb i 19) ((leb (code "8") c && leb c (code "9")) || (leb (code "a") c && leb c (code "b"))) (is_hex c)))

-- k is the first place from `start` to before `end` whose byte is wrong, or 36
pub record Walked (s : List ℕ) (start end k : ℕ) : Type 0 where
  pub within : k ≤ 36
  pub before : (j : ℕ) → start ≤ j → j < end → j < k → may_stand j (get_or s j 0) ≡ true
  pub wrong : k < 36 → may_stand k (get_or s k 0) ≡ false

-- up to k the text may stand, and k is the end of the form, or of the text, or the byte there is wrong
pub record StopsAt (s : List ℕ) (k : ℕ) : Type 0 where
  pub in_form_lem : k ≤ 36
  pub in_text : k ≤ length s
  pub before : (j : ℕ) → j < k → may_stand j (get_or s j 0) ≡ true
  pub wrong : k < 36 → k < length s → may_stand k (get_or s k 0) ≡ false

-- the value of a digit, without a test
abbrev pub digit_of : ℕ → ℕ
digit_of c = c % 16 + c / 64 * 9
