-- How the parts of an answer line are put one behind the other.
use Prim.Native.Nat.{ℕ, zero, suc, ◌+◌, ◌-◌, ◌*◌, ◌/◌, ◌%◌, ◌^◌, ◌≤◌, ◌<◌, min}
use mathlib.Core.Path.{◌≡◌, refl, ap, sym, ◌∙◌}
use mathlib.Core.Bool.{Bool, true, false, cond}
use mathlib.Core.List.{List, [], ◌∷◌, ◌++◌, append_assoc, append-nil}
use native.Mathlib.Omega.{arith}
use native.Mathlib.Nat.{pow-suc, add-zero}
use native.Mathlib.Numerals.{add-one}
use lib.Dec.{ltb}
use lib.ListN.{length, take, drop, set, drop_of_length-le, length-append, length-take, length-drop}
use lib.Seq.{sets, sets-eq, take_all, drop-drop}
use borrow.Author.Tests.{lt-ltb, le-ltb, lt-leb}
use borrow.Rule.Slice.PartMut.{put_mid, mid_of}
use Rattle.octets.proofs.Lists.{sets-append, sets-start}
use Rattle.std.specs.Prelude.{Ok}
use Rattle.form.specs.Writing.{Written, buffer_after}
use Rattle.amount.specs.declared.Amount.{Amount}
use Rattle.amount.specs.Amount.{digit, whole_text, fraction_text, amount_text, write_amount}
use Rattle.answer_line.specs.Text.{decimal_text, spaced, number_at, list_text, answer_text}
use Rattle.answer_line.specs.Inner.{Put}

-- a number below 10 ^ c has at most c digits
whole_short : (k c n : ℕ) → n < 10 ^ suc c → length (whole_text k n) ≤ suc c
unfolding whole_text
whole_short zero c n h = omega arith
whole_short (suc k) zero n h = rw (lt-ltb n 10 (omega arith)) (omega arith)
whole_short (suc k) (suc c) n h =
    let g : n < 10 ^ suc c * 10 = rw (pow-suc 10 (suc c)) at h in
    by (ltb n 10) (whole_short k c (n / 10) (omega arith))
  where
    by : (t : Bool) → length (whole_text k (n / 10)) ≤ suc c →
        length (cond t (digit n ∷ []) (whole_text k (n / 10) ++ (digit (n % 10) ∷ []))) ≤ suc (suc c)
    by true i = omega arith
    by false i = simp length-append (omega arith)

pub ten_digits : (n : ℕ) → n < 2 ^ 32 → length (decimal_text n) ≤ 10
ten_digits n h = whole_short 18 9 n (omega arith)

-- a text at the start of a part that comes home
text_home : (out text : List ℕ) (at : ℕ) → at + length text ≤ length out →
    put_mid at (length out - at) out (text ++ drop (length text) (mid_of at (length out - at) out)) ≡ sets out at text
text_home out text at h =
    let l : length (drop at out) ≤ length out - at = simp length-drop (omega arith) in
    let all : take (length out - at) (drop at out) ≡ drop at out = take_all (length out - at) (drop at out) l in
    let none : drop (length out - at) (drop at out) ≡ [] = drop_of_length-le (drop at out) l in
    rw (all, none, append-nil, drop-drop (length text) at out, sets-eq text out at h, append_assoc)

-- a number is written as an amount of whole units
module _ (out : List ℕ) (at n units : ℕ) (same : units ≡ n) (room : at + 10 ≤ length out) (small : n < 2 ^ 32) where
  abbrev whole : Amount
  whole = record { units = units; remainder = 0 }

  abbrev behind : List ℕ
  behind = mid_of at (length out - at) out

  whole-text : amount_text whole ≡ decimal_text n
  unfolding amount_text fraction_text
  whole-text = append-nil (whole_text 18 units) ∙ ap (whole_text 18) same

  pub written : (w : Written) → w ≡ write_amount whole (length behind) → w ≡ Ok (length (decimal_text n))
  unfolding write_amount
  written w e =
      let r : 10 ≤ length behind = simp (length-take, length-drop) (omega arith) in
      let f : length (amount_text whole) ≤ length behind = rw whole-text (omega (arith, ten_digits n small)) in
      e ∙ rw (lt-leb (10 ^ 18) units (omega arith), le-ltb (length behind) (length (amount_text whole)) f, whole-text)

  pub number_put : (w : Written) (v : List ℕ) (m : ℕ) → w ≡ write_amount whole (length behind) →
      v ≡ buffer_after w (amount_text whole) behind → w ≡ Ok m →
      Put 10 (decimal_text n) at out (put_mid at (length out - at) out v) (at + m)
  number_put w v m e f g =
      let l : length (decimal_text n) ≡ m = cc (written w e) in
      let t : v ≡ decimal_text n ++ drop (length (decimal_text n)) behind = f ∙ rw (written w e, whole-text) in
      record {
        stored = rw t (text_home out (decimal_text n) at (omega (arith, ten_digits n small)));
        ends = rw l;
        few = omega (arith, l, ten_digits n small);
      }

-- one text behind another
pub put_more : {m n at end end' : ℕ} {t u old mid new : List ℕ} → Put m t at old mid end → Put n u end mid new end' →
    Put (m + n) (t ++ u) at old new end'
put_more {m} {n} {at} {end} {end'} {t} {u} {old} {mid} {new} p q = record {
  stored = q.stored ∙ (rw (p.stored, p.ends) (sym (sets-append old at t u)));
  ends = rw length-append (omega (arith, p.ends, q.ends));
  few = omega (arith, p.few, q.few);
}

-- a byte, and a space before a number
pub byte_put : (out : List ℕ) (at b : ℕ) → Put 1 (b ∷ []) at out (set out at b) (at + 1)
byte_put out at b = record { stored = refl; ends = refl; few = omega arith }

-- the numbers of the list, one by one
pub none_put : (list out : List ℕ) (at : ℕ) → Put 0 (list_text list 0) at out out at
unfolding list_text
none_put list out at = record { stored = refl; ends = sym (add-zero at); few = omega arith }

pub list_put : (list : List ℕ) (k x : ℕ) {at end end' : ℕ} {old mid new : List ℕ} → x ≡ number_at list k →
    Put (11 * k) (list_text list k) at old mid end → Put 11 (spaced x) end mid new end' →
    Put (11 * (k + 1)) (list_text list (k + 1)) at old new end'
unfolding list_text
list_put list k x f p q = let e : 11 * (k + 1) ≡ 11 * k + 11 = omega arith in rw (e, add-one k, sym f) (put_more p q)

-- all of the line
pub line_put : (number code mark listed : ℕ) (list : List ℕ) (shown m end : ℕ) {old new : List ℕ} → shown ≡ min listed (length list / 4) →
    end ≤ length old → Put m (decimal_text number ++ spaced code ++ spaced mark ++ list_text list shown ++ (10 ∷ [])) 0 old new end →
    (end ≡ length (answer_text number code mark list listed)) × (new ≡ answer_text number code mark list listed ++ drop end old)
unfolding answer_text
line_put number code mark listed list shown m end {old} e room p =
    let text = decimal_text number ++ spaced code ++ spaced mark ++ list_text list shown ++ (10 ∷ []) in
    let l : end ≡ length text = omega (arith, p.ends) in
    rw (sym e) (l, p.stored ∙ sets-start text old (omega (arith, l)) ∙ ap (λ (n : ℕ). text ++ drop n old) (sym l))
