-- How a text's pieces are found: one after the other by a search for the next byte, or all by the library's `split`.
use Prim.Native.Nat.{ℕ, suc, ◌+◌, ◌-◌, ◌<◌, ◌≤◌}
use mathlib.Core.Path.{◌≡◌, refl, ap, sym, ◌∙◌}
use mathlib.Core.Bool.{Bool, true, false, cond, not, ◌&&◌}
use mathlib.Core.List.{List, [], ◌∷◌}
use native.Mathlib.Omega.{arith}
use Rattle.std.specs.List.{list_any, onto_first, slice_split}
use Rattle.std.proofs.lemmas.List.Folds.{list_any_at, list_any_more}
use lib.Dec.{eqb, eqb-suc-zero, leb}
use lib.ListN.{length, take, drop, get_or, length-drop}
use lib.Seq.{take_all, drop-drop}
use borrow.Author.Tests.{le-leb, lt-leb}
use Rattle.octets.specs.Parts.{part}
use Rattle.octets.proofs.Tests.{and-false}
use Rattle.lines.specs.Lines.{index_of, is_empty, grown, cut_at, pieces, most_words, well_built, words_of}
use Rattle.lines.proofs.Built.{full, built_full}

-- a text without the byte is one piece
one_piece : (b : ℕ) (s : List ℕ) → index_of b s ≡ length s → cut_at b s ≡ s ∷ []
unfolding cut_at
one_piece b [] e = refl
one_piece b (c ∷ s) e = by (eqb c b) (one_piece b s) e
  where
    by : (t : Bool) → (index_of b s ≡ length s → cut_at b s ≡ s ∷ []) → cond (not t) (1 + index_of b s) 0 ≡ suc (length s)
        → cond t ([] ∷ cut_at b s) (grown c (cut_at b s)) ≡ (c ∷ s) ∷ []
    by true h e = absurd (omega (arith, e))
    by false h e = rw (h (omega (arith, e)))

-- a text with the byte is the piece before the first, and the pieces of the rest
first_piece : (b : ℕ) (s : List ℕ) → index_of b s < length s → cut_at b s ≡ take (index_of b s) s ∷ cut_at b (drop (suc (index_of b s)) s)
unfolding cut_at
first_piece b [] h = absurd (omega arith)
first_piece b (c ∷ s) h = by (eqb c b) (first_piece b s) h
  where
    by : (t : Bool) → (index_of b s < length s → cut_at b s ≡ take (index_of b s) s ∷ cut_at b (drop (suc (index_of b s)) s))
        → cond (not t) (1 + index_of b s) 0 < suc (length s)
        → cond t ([] ∷ cut_at b s) (grown c (cut_at b s))
        ≡ take (cond (not t) (1 + index_of b s) 0) (c ∷ s) ∷ cut_at b (drop (suc (cond (not t) (1 + index_of b s) 0)) (c ∷ s))
    by true i h = refl
    by false i h = let one : 1 + index_of b s ≡ suc (index_of b s) = omega arith in rw (i (omega arith), one)

pub some_pieces : (b : ℕ) (s : List ℕ) → 0 < length (cut_at b s)
unfolding cut_at
some_pieces b [] = omega arith
some_pieces b (c ∷ s) = by (eqb c b) (cut_at b s)
  where
    by : (t : Bool) (ps : List (List ℕ)) → 0 < length (cond t ([] ∷ ps) (grown c ps))
    by true ps = omega arith
    by false [] = omega arith
    by false (p ∷ ps) = omega arith

-- a search from `start` on: e is where the next byte b is, or the text's end
module _ (b : ℕ) (s : List ℕ) (start e : ℕ) (within : start ≤ length s) (found : e ≡ start + index_of b (drop start s)) where
  at : index_of b (drop start s) ≡ e - start
  at = omega (arith, found)

  pub cut_last : e ≡ length s → cut_at b (drop start s) ≡ part s start (e - start) ∷ []
  cut_last h =
      let l : length (drop start s) ≡ e - start = simp length-drop (omega arith) in
      one_piece b (drop start s) (at ∙ sym l)
      ∙ ap (λ (p : List ℕ). p ∷ []) (sym (take_all (e - start) (drop start s) (omega (arith, l))))

  pub cut_next : start ≤ e → e < length s → cut_at b (drop start s) ≡ part s start (e - start) ∷ cut_at b (drop (e + 1) s)
  cut_next g h =
      let l : index_of b (drop start s) < length (drop start s) = simp length-drop (omega (arith, at)) in
      let q : start + suc (e - start) ≡ e + 1 = omega arith in
      first_piece b (drop start s) l ∙ rw (at, drop-drop, q)

words_length : (s : List ℕ) (b : Bool) → full (pieces s) && leb (length (pieces s)) most_words ≡ b →
    length (words_of s) ≡ cond b (length (pieces s)) 0
unfolding words_of
words_length s true e = rw (built_full s, e)
words_length s false e = rw (built_full s, e)

-- a line that has words is cut into them at every space
pub words_pieces : (s : List ℕ) → 0 < length (words_of s) → words_of s ≡ pieces s
unfolding words_of
words_pieces s h = by (well_built s) h
  where
    by : (b : Bool) → 0 < length (cond b (pieces s) []) → cond b (pieces s) [] ≡ pieces s
    by true h = refl
    by false h = absurd (omega arith)

-- the pieces are those that the library cuts
grown_first : (c : ℕ) (ps : List (List ℕ)) → onto_first c ps ≡ grown c ps
grown_first c [] = refl
grown_first c (p ∷ ps) = refl

pub cut_parts : (b : ℕ) (s : List ℕ) → slice_split (λ c. eqb c b) s ≡ cut_at b s
unfolding cut_at
cut_parts b [] = refl
cut_parts b (c ∷ s) = rw (cut_parts b s, grown_first c (cut_at b s))

-- whether one of them is empty
pub no_byte : (ps : List (List ℕ)) → list_any (λ p. eqb (length p) 0) ps ≡ list_any is_empty ps
no_byte [] = refl
no_byte ([] ∷ ps) = refl
no_byte ((c ∷ p) ∷ ps) = rw (eqb-suc-zero (length p)) (no_byte ps)

full_or_empty : (ps : List (List ℕ)) → full ps ≡ not (list_any is_empty ps)
full_or_empty [] = refl
full_or_empty ([] ∷ ps) = refl
full_or_empty ((c ∷ p) ∷ ps) = full_or_empty ps

-- as many words as pieces, where these are not too many and none is empty
module _ (s : List ℕ) where
  counted : (t : Bool) → list_any is_empty (pieces s) ≡ t →
      length (words_of s) ≡ cond (not t && leb (length (pieces s)) most_words) (length (pieces s)) 0
  counted t e = words_length s (not t && leb (length (pieces s)) most_words) (rw (full_or_empty (pieces s), e))

  pub too_many : 9 < length (pieces s) → 0 ≡ length (words_of s)
  too_many h = sym (counted (list_any is_empty (pieces s)) refl ∙ rw (lt-leb (length (pieces s)) 9 h, and-false))

  pub empty_piece : list_any is_empty (pieces s) ≡ true → 0 ≡ length (words_of s)
  empty_piece e = sym (counted true e)

  pub few_pieces : length (pieces s) ≤ 9 → list_any is_empty (pieces s) ≡ false → length (pieces s) ≡ length (words_of s)
  few_pieces h e = sym (counted false e ∙ rw (le-leb (length (pieces s)) 9 h))

-- one by one: n parts were yielded, none of them empty, and the next is p
abbrev none_of : ℕ → List (List ℕ) → Bool
none_of n ps = list_any (λ p. eqb (length p) 0) (take n ps)

module _ (s : List ℕ) (n k : ℕ) (so_far : n ≡ k) where
  abbrev parts : List (List ℕ)
  parts = slice_split (λ c. eqb c 32) s

  module _ (p : List ℕ) (here : (k < length parts) × (p ≡ get_or parts k p)) where
    pub one_more : none_of n (pieces s) ≡ false → eqb (length p) 0 ≡ false → none_of (n + 1) (pieces s) ≡ false
    one_more none e = rw (sym (cut_parts 32 s), so_far)
        (list_any_more (λ q. eqb (length q) 0) parts k p here.0 ∙ rw (sym here.1, sym so_far, cut_parts 32 s, none) e)

    pub an_empty : eqb (length p) 0 ≡ true → 0 ≡ length (words_of s)
    an_empty e = empty_piece s (rw (sym (no_byte (pieces s)), sym (cut_parts 32 s))
        (list_any_at (λ q. eqb (length q) 0) parts k p here.0 (rw (sym here.1) e)))

    pub a_tenth : n ≡ 9 → 0 ≡ length (words_of s)
    a_tenth e = too_many s (rw (sym (cut_parts 32 s)) (omega (arith, here.0)))

  pub all_counted : k ≡ length parts → n ≤ 9 → none_of n (pieces s) ≡ false → n ≡ length (words_of s)
  all_counted end h none =
      let l : n ≡ length (pieces s) = so_far ∙ end ∙ ap length (cut_parts 32 s) in
      l ∙ few_pieces s (omega (arith, l)) (sym (no_byte (pieces s))
      ∙ ap (list_any (λ q. eqb (length q) 0)) (sym (take_all n (pieces s) (omega (arith, l)))) ∙ none)
