-- The reading table's rule: the ranges of letters, the refuse mark, and that reading and writing of a letter are inverse. Each part by one
-- test that is computed over the whole table.
use mathlib.Core.Path.{◌≡◌, refl, sym, ap, subst, ◌∙◌}
use mathlib.Core.Bool.{Bool, true, false, cond}
use mathlib.Core.List.{List, [], ◌∷◌}
use mathlib.Core.Logic.{◌↔◌}
use Prim.Native.Nat.{ℕ, ◌≤◌, ◌<◌}
use native.Mathlib.Omega.{arith}
use native.Mathlib.Decide.{ℕ_discrete}
use lib.Dec.{T, ltb, eqb, eqb→eq, ltb→lt}
use lib.ListN.{length, get_or}
use borrow.Author.Tests.{lt-ltb, le-ltb, ltb-true, ltb-false}
use Rattle.octets.specs.Build.{build}
use Rattle.octets.proofs.Computed.{both, both_left, both_right, below, below_at, every, every_at}
use Rattle.octets.proofs.Built.{length-build, build_at}
use Rattle.form.specs.Regex.{Re, none, empty, alive, deriv, judge_from}
use Rattle.form.specs.Matches.{Matches}
use Rattle.form.specs.Verdict.{stops_at}
use Rattle.form.proofs.Meaning.{fits, stops-fits}
use Rattle.form.specs.Listings.{letter}
use Rattle.form.proofs.Same.{same, same-eq}
use Rattle.base64url.specs.declared.TheConstants.{VALUE, LETTER}
use Rattle.base64url.specs.Letters.{alphabet, letter_of, place_from, value_of, is_letter, reading_table}

-- at the byte c stands v: a letter's value, and c passes the listing's class; or the mark, and the class has no such byte
abbrev rule : ℕ → ℕ → Bool
rule c v = cond (ltb v 64) (both (eqb (letter_of v) c) (same (deriv c letter) empty)) (both (eqb v 255) (same (deriv c letter) none))

tested : T (every rule 0 reading_table)
unfolding reading_table build value_of place_from alphabet letter_of same ℕ_discrete
tested = tt

abbrev Ruled : ℕ → ℕ → Bool → Type 0
Ruled c v x = T (cond x (both (eqb (letter_of v) c) (same (deriv c letter) empty)) (both (eqb v 255) (same (deriv c letter) none)))

-- the values below 64: each letter is a byte, and has its value
abbrev letter_rule : ℕ → Bool
letter_rule v = both (ltb (letter_of v) 256) (eqb (value_of (letter_of v)) v)

letters_tested : T (below 64 letter_rule)
unfolding value_of place_from alphabet letter_of
letters_tested = tt

module _ (v : ℕ) (h : v < 64) where
  pub letter_byte : letter_of v < 256
  letter_byte =
      ltb→lt (letter_of v) 256
      (both_left (ltb (letter_of v) 256) (eqb (value_of (letter_of v)) v) (below_at 64 letter_rule letters_tested v h))

  pub value-letter : value_of (letter_of v) ≡ v
  value-letter =
      eqb→eq (value_of (letter_of v)) v
      (both_right (ltb (letter_of v) 256) (eqb (value_of (letter_of v)) v) (below_at 64 letter_rule letters_tested v h))

-- the code's tables are these
value-table : VALUE ≡ reading_table
unfolding reading_table build value_of place_from alphabet
value-table = refl

pub letter_at : (v : ℕ) → get_or LETTER v 0 ≡ letter_of v
unfolding letter_of alphabet
letter_at v = refl

module _ (c : ℕ) (h : c < 256) where
  pub table_at : get_or reading_table c 0 ≡ value_of c
  unfolding reading_table
  table_at = build_at value_of 256 c h

  pub value_at : get_or VALUE c 0 ≡ value_of c
  value_at = ap (λ (t : List ℕ). get_or t c 0) value-table ∙ table_at

  ruled : (x : Bool) → is_letter c ≡ x → Ruled c (value_of c) x
  unfolding reading_table
  ruled x e =
      let l : c < length (build 256 value_of) = omega (arith, length-build value_of 256) in
      subst (Ruled c (value_of c)) e (subst (λ (v : ℕ). T (rule c v)) table_at (every_at rule reading_table tested c l))

  module _ (e : is_letter c ≡ true) where
    pub letter-value : letter_of (value_of c) ≡ c
    letter-value = eqb→eq (letter_of (value_of c)) c (both_left (eqb (letter_of (value_of c)) c) (same (deriv c letter) empty) (ruled true e))

    pub letter-passed : deriv c letter ≡ empty
    letter-passed = same-eq (deriv c letter) empty (both_right (eqb (letter_of (value_of c)) c) (same (deriv c letter) empty) (ruled true e))

  module _ (e : is_letter c ≡ false) where
    pub marked : value_of c ≡ 255
    marked = eqb→eq (value_of c) 255 (both_left (eqb (value_of c) 255) (same (deriv c letter) none) (ruled false e))

    pub letter_missed : deriv c letter ≡ none
    letter_missed = same-eq (deriv c letter) none (both_right (eqb (value_of c) 255) (same (deriv c letter) none) (ruled false e))

-- the rule of a reading table: ..
pub record Rule (t : List ℕ) : Type 0 where
  pub whole : length t ≡ 256
  -- a byte has a value below 64 exactly if it is of the listing's class [A-Za-z0-9-_], and else the refuse mark,
  pub ranges : (c : ℕ) → c < 256 → (get_or t c 0 < 64) ↔ Matches letter (c ∷ [])
  pub mark : (c : ℕ) → c < 256 → (get_or t c 0 < 64 → ⊥) → get_or t c 0 ≡ 255
  -- and it is the inverse of the writer's alphabet
  pub written_back : (c : ℕ) → c < 256 → get_or t c 0 < 64 → letter_of (get_or t c 0) ≡ c
  pub read_back : (v : ℕ) → v < 64 → get_or t (letter_of v) 0 ≡ v

in_range : (c : ℕ) → c < 256 → (get_or reading_table c 0 < 64) ↔ Matches letter (c ∷ [])
in_range c h = go (is_letter c) refl
  where
    go : (x : Bool) → is_letter c ≡ x → (get_or reading_table c 0 < 64) ↔ Matches letter (c ∷ [])
    go true e =
        let v : get_or reading_table c 0 < 64 = rw (table_at c h) (ltb-true (value_of c) 64 e) in
        (λ p. (fits letter (c ∷ [])).0 (ap (λ (r : Re). cond (alive r) (judge_from r 1 []) (stops_at 0)) (letter-passed c h e)), λ m. v)
    go false e =
        let v : get_or reading_table c 0 ≡ 255 = table_at c h ∙ marked c h e in (
          λ p. absurd (omega (arith, v)),
          λ m. stops-fits
              (sym (ap (λ (r : Re). cond (alive r) (judge_from r 1 []) (stops_at 0)) (letter_missed c h e)) ∙ (fits letter (c ∷ [])).1 m),
        )

pub table : Rule reading_table
unfolding reading_table
table =
    record {
      whole = length-build value_of 256;
      ranges = in_range;
      mark = λ c h n. table_at c h ∙ marked c h (le-ltb (value_of c) 64 (omega (arith, table_at c h, not-below (get_or reading_table c 0) n)));
      written_back = λ c h l. rw (table_at c h) (letter-value c h (lt-ltb (value_of c) 64 (omega (arith, table_at c h))));
      read_back = λ v h. table_at (letter_of v) (letter_byte v h) ∙ value-letter v h;
    }
  where
    not-below : (v : ℕ) → (v < 64 → ⊥) → 64 ≤ v
    not-below v n = go (ltb v 64) refl
      where
        go : (x : Bool) → ltb v 64 ≡ x → 64 ≤ v
        go true e = absurd (n (ltb-true v 64 e))
        go false e = ltb-false v 64 e
