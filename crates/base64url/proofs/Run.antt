-- The verdicts on conditions and packets from the count of letters that a text begins with.
use mathlib.Core.Path.{◌≡◌, refl, sym, ap, subst, ◌∙◌}
use mathlib.Core.Bool.{Bool, true, false, cond, ◌&&◌}
use mathlib.Core.List.{List, [], ◌∷◌}
use mathlib.Core.Logic.{◌⊎◌, inl, inr, ⊎_elim}
use Prim.Native.Char.{code}
use Prim.Native.Nat.{ℕ, zero, suc, ◌+◌, ◌-◌, ◌≤◌, ◌<◌}
use native.Mathlib.Omega.{arith}
use native.Mathlib.Nat.{add-zero}
use lib.Dec.{leb, ltb, eqb}
use lib.ListN.{length, get_or, drop}
use lib.Seq.{drop-cons, drop-length}
use borrow.Author.Tests.{leb-true, ltb-true, ltb-false, eqb-true, eqb-false, ne_eqb, lt-ltb}
use native.Mathlib.Numerals.{add-one}
use Rattle.octets.specs.Bytes.{Bytes}
use Rattle.octets.proofs.Lists.{byte-at}
use Rattle.form.specs.Regex.{Re, none, empty, upto, ◌·◌, ◌∣◌, char, times, nullable, alive, is_none, alt', deriv, judge_from, judge}
use Rattle.form.specs.Listings.{letter, condition_form, packet_form}
use Rattle.form.specs.Verdict.{Verdict, of_form, stops_at}
use Rattle.base64url.specs.Letters.{alphabet, place_from, value_of, is_letter}
use Rattle.base64url.specs.Scan.{all_letters, letters_first, pad_at, past_pad}
use Rattle.base64url.proofs.Table.{letter-passed, letter_missed}

pub true_false : {A : Type 0} → false ≡ true → A
true_false e = absurd (let z : ◌≡◌ {A = ℕ} 0 1 = cc in omega arith)

pub and-true : (x y : Bool) → x && y ≡ true → (x ≡ true) × (y ≡ true)
and-true true y e = (refl, e)
and-true false y e = true_false e

-- a class l of characters, and then the form t
module _ (l t : Re) (f : nullable l ≡ false) where
  first_goes : is_none t ≡ false → alive t ≡ true → (m c : ℕ) (cs : List ℕ) → deriv c l ≡ empty → judge_from (l · t) m
      (c ∷ cs) ≡ judge_from t (suc m) cs
  first_goes n a m c cs e = simp (e, f, n, a)

  first_stops : (m c : ℕ) (cs : List ℕ) → deriv c l ≡ none → judge_from (l · t) m (c ∷ cs) ≡ stops_at m
  first_stops m c cs e = simp (e, f)

module _ (l : Re) (a : alive l ≡ true) where
  alive-times : (n : ℕ) → alive (times n l) ≡ true
  alive-times zero = refl
  alive-times (suc n) = rw (a, alive-times n)

  some_times : (n : ℕ) → is_none (times n l) ≡ false
  some_times zero = refl
  some_times (suc n) = refl

-- a class that has exactly the letters among the bytes
abbrev pub Passes : Re → Type 0
Passes l = (c : ℕ) → c < 256 → is_letter c ≡ true → deriv c l ≡ empty

abbrev pub Misses : Re → Type 0
Misses l = (c : ℕ) → c < 256 → is_letter c ≡ false → deriv c l ≡ none

-- how a text stands to the form of k letters
pub record Whole (v : Verdict) (k : ℕ) (s : List ℕ) : Type 0 where
  pub fits : v ≡ of_form
  pub long : length s ≡ k
  pub letters : all_letters s ≡ true

pub record Broken (v : Verdict) (k m : ℕ) (s : List ℕ) : Type 0 where
  pub stops : v ≡ stops_at (m + letters_first k s)
  pub lacks : length s ≡ k → all_letters s ≡ true → ⊥

module _ (l : Re) (a : alive l ≡ true) (f : nullable l ≡ false) (good : Passes l) (bad : Misses l) where
  pub judged_times : (k m : ℕ) (s : List ℕ) → Bytes s → Whole (judge_from (times k l) m s) k s ⊎ Broken (judge_from (times k l) m s) k m s
  unfolding letters_first all_letters
  judged_times zero m [] b = inl (record { fits = refl; long = refl; letters = refl })
  judged_times zero m (c ∷ cs) b = inr (record { stops = rw add-zero; lacks = λ e g. absurd (omega arith) })
  judged_times (suc n) m [] b = inr (record { stops = simp (f, add-zero); lacks = λ e g. absurd (omega arith) })
  judged_times (suc n) m (c ∷ cs) b = go (is_letter c) refl (judged_times n (suc m) cs b.1)
    where
      passed : is_letter c ≡ true →
          Whole (judge_from (times n l) (suc m) cs) n cs ⊎ Broken (judge_from (times n l) (suc m) cs) n (suc m) cs →
          Whole (judge_from (times (suc n) l) m (c ∷ cs)) (suc n) (c ∷ cs) ⊎ Broken (judge_from (times (suc n) l) m (c ∷ cs)) (suc n) m
          (c ∷ cs)
      passed e w =
          let g = first_goes l (times n l) f (some_times l a n) (alive-times l a n) m c cs (good c b.0 e) in
          ⊎_elim (λ x. inl (record { fits = g ∙ x.fits; long = ap suc x.long; letters = rw e x.letters }))
          (λ x. inr
          (record {
            stops = g ∙ x.stops ∙ ap (λ (n : ℕ). stops_at n) (rw e (omega arith));
            lacks = λ p q. x.lacks (omega arith) (rw e at q);
          })) w

      go : (x : Bool) → is_letter c ≡ x →
          Whole (judge_from (times n l) (suc m) cs) n cs ⊎ Broken (judge_from (times n l) (suc m) cs) n (suc m) cs →
          Whole (judge_from (times (suc n) l) m (c ∷ cs)) (suc n) (c ∷ cs) ⊎ Broken (judge_from (times (suc n) l) m (c ∷ cs)) (suc n) m
          (c ∷ cs)
      go true e w = passed e w
      go false e w =
          inr
          (record {
            stops = first_stops l (times n l) f m c cs (bad c b.0 e) ∙ ap (λ (n : ℕ). stops_at n) (rw e (omega arith));
            lacks = λ p q. true_false (rw e at q);
          })

-- the class of a condition's characters is that of the letters
pub judged_condition : (s : List ℕ) → Bytes s → Whole (judge condition_form s) 43 s ⊎ Broken (judge condition_form s) 43 0 s
judged_condition s b = judged_times letter refl refl letter-passed letter_missed 43 0 s b

-- a packet after its first letter, when n more characters may come: letters l, and at the end at most two q
abbrev tail : Re → Re → ℕ → Re
tail l q zero = upto 0 l
tail l q (suc zero) = upto 1 l ∣ upto 0 l · q
tail l q (suc (suc n)) = upto (suc (suc n)) l ∣ upto (suc n) l · q ∣ upto n l · q · q

-- and after its first q
abbrev padded : Re → ℕ → Re
padded q zero = empty
padded q (suc n) = empty ∣ q

module _ (l q : Re) (o : nullable q ≡ false) (p : is_none q ≡ false) where
  upto_none : (n c : ℕ) → deriv c l ≡ none → deriv c (upto n l) ≡ none
  upto_none zero c e = refl
  upto_none (suc n) c e = rw e

  tail-goes : (n m c : ℕ) (cs : List ℕ) → deriv c l ≡ empty → deriv c q ≡ none →
      judge_from (tail l q (suc n)) m (c ∷ cs) ≡ judge_from (tail l q n) (suc m) cs
  tail-goes zero m c cs e f = simp (e, f)
  tail-goes (suc zero) m c cs e f = simp (e, f, o)
  tail-goes (suc (suc n)) m c cs e f = simp (e, f, o)

  tail_pads : (n m c : ℕ) (cs : List ℕ) → deriv c l ≡ none → deriv c q ≡ empty →
      judge_from (tail l q (suc n)) m (c ∷ cs) ≡ judge_from (padded q n) (suc m) cs
  tail_pads zero m c cs e f = simp (e, f)
  tail_pads (suc zero) m c cs e f = simp (e, f, o, p)
  tail_pads (suc (suc n)) m c cs e f = simp (e, f, o, p)

  tail_ends : (n : ℕ) → nullable (tail l q n) ≡ true
  tail_ends zero = refl
  tail_ends (suc zero) = refl
  tail_ends (suc (suc n)) = refl

  tail_dead : (n c : ℕ) → deriv c l ≡ none → deriv c q ≡ none → alive (deriv c (tail l q n)) ≡ false
  tail_dead zero c e f = refl
  tail_dead (suc zero) c e f = simp (e, f)
  tail_dead (suc (suc zero)) c e f = simp (e, f, o)
  tail_dead (suc (suc (suc n))) c e f = simp (e, f, o)

-- a packet's padding
abbrev pad : Re
pad = char "="

pad_here : (c : ℕ) → eqb c (code "=") ≡ true → deriv c pad ≡ empty
pad_here c e = ap (λ (x : ℕ). deriv x pad) (eqb-true c 61 e)

pad-other : (c : ℕ) → eqb c (code "=") ≡ false → deriv c pad ≡ none
pad-other c e = rw (off (leb 61 c) (leb c 61) refl refl)
  where
    off : (x y : Bool) → leb 61 c ≡ x → leb c 61 ≡ y → x && y ≡ false
    off true true f g = absurd (eqb-false c 61 e (omega (arith, leb-true 61 c f, leb-true c 61 g)))
    off true false f g = refl
    off false y f g = refl

pad_no_letter : (c : ℕ) → is_letter c ≡ true → eqb c (code "=") ≡ false
unfolding value_of place_from alphabet
pad_no_letter c e = ne_eqb c 61 (λ f. true_false (sym (ap is_letter f) ∙ e))

-- what the count a of letters, to n, says of the text: the verdict is that of the rest after the letters
pub record Counted (n m : ℕ) (s : List ℕ) (a : ℕ) : Type 0 where
  pub most : a ≤ n
  pub inside : a ≤ length s
  pub next : a < n → a < length s → is_letter (get_or s a 0) ≡ false
  pub verdict : judge_from (tail letter pad n) m s ≡ judge_from (tail letter pad (n - a)) (m + a) (drop a s)

none-counted : (n m : ℕ) (s : List ℕ) → (0 < n → 0 < length s → is_letter (get_or s 0 0) ≡ false) → Counted n m s 0
none-counted n m s h =
    let e : n ≡ n - 0 = omega arith in
    let f : m ≡ m + 0 = omega arith in
    record {
      most = omega arith;
      inside = omega arith;
      next = h;
      verdict = ap (λ (k : ℕ). judge_from (tail letter pad k) m s) e ∙ ap (λ (i : ℕ). judge_from (tail letter pad (n - 0)) i s) f;
    }

counted : (n m : ℕ) (s : List ℕ) → Bytes s → Counted n m s (letters_first n s)
unfolding letters_first
counted zero m s b = none-counted zero m s (λ h k. absurd (omega arith))
counted (suc n) m [] b = none-counted (suc n) m [] (λ h k. absurd (omega arith))
counted (suc n) m (c ∷ cs) b = go (is_letter c) refl (letters_first n cs) (counted n (suc m) cs b.1)
  where
    go : (x : Bool) → is_letter c ≡ x → (a : ℕ) → Counted n (suc m) cs a → Counted (suc n) m (c ∷ cs) (cond x (suc a) 0)
    go true e a w =
        let f : suc m + a ≡ m + suc a = omega arith in
        let g : n - a ≡ suc n - suc a = omega arith in
        record {
          most = omega (arith, w.most);
          inside = omega (arith, w.inside);
          next = λ h k. w.next (omega arith) (omega arith);
          verdict =
              tail-goes letter pad refl refl n m c cs (letter-passed c b.0 e) (pad-other c (pad_no_letter c e)) ∙ w.verdict
              ∙ ap (λ (i : ℕ). judge_from (tail letter pad (n - a)) i (drop a cs)) f
              ∙ ap (λ (k : ℕ). judge_from (tail letter pad k) (m + suc a) (drop a cs)) g;
        }
    go false e a w = none-counted (suc n) m (c ∷ cs) (λ h k. e)

-- a place at which the text may end, and at which nothing goes on
halt : (r : Re) (s : List ℕ) (i : ℕ) → nullable r ≡ true → i ≤ length s → (i < length s → alive (deriv (get_or s i 0) r) ≡ false) →
    judge_from r i (drop i s) ≡ cond (ltb i (length s)) (stops_at i) of_form
halt r s i e k f = go (ltb i (length s)) refl
  where
    go : (x : Bool) → ltb i (length s) ≡ x → judge_from r i (drop i s) ≡ cond x (stops_at i) of_form
    go true g = let h = ltb-true i (length s) g in ap (judge_from r i) (drop-cons s i 0 h) ∙ rw (f h)
    go false g =
        let h : i ≡ length s = omega (arith, ltb-false i (length s) g) in
        ap (judge_from r i) (ap (λ (j : ℕ). drop j s) h ∙ drop-length s) ∙ rw e

padded_ends : (j : ℕ) → nullable (padded pad j) ≡ true
padded_ends zero = refl
padded_ends (suc j) = refl

padded_dead : (j c : ℕ) → (0 < j → deriv c pad ≡ none) → alive (deriv c (padded pad j)) ≡ false
padded_dead zero c h = refl
padded_dead (suc j) c h = ap (λ (r : Re). alive (alt' none r)) (h (omega arith))

padded_pads : (j m c : ℕ) (cs : List ℕ) → 0 < j → deriv c pad ≡ empty → judge_from (padded pad j) m (c ∷ cs) ≡ judge_from empty (suc m) cs
padded_pads zero m c cs h e = absurd (omega arith)
padded_pads (suc j) m c cs h e = ap (λ (r : Re). cond (alive (alt' none r)) (judge_from (alt' none r) (suc m) cs) (stops_at m)) e

-- the place past a pad
pub past_yes : (s : List ℕ) (i : ℕ) → pad_at s i ≡ true → past_pad s i ≡ i + 1
unfolding past_pad
past_yes s i e = rw e

pub past_no : (s : List ℕ) (i : ℕ) → pad_at s i ≡ false → past_pad s i ≡ i
unfolding past_pad
past_no s i e = rw e

module _ (s : List ℕ) (i : ℕ) where
  pub record Pad : Type 0 where
    pub inside : i < length s
    pub allowed : i < 32768
    pub here : eqb (get_or s i 0) (code "=") ≡ true

  a_pad : pad_at s i ≡ true → Pad
  a_pad e =
      let x = and-true (ltb i (length s)) (ltb i 32768 && eqb (get_or s i 0) (code "=")) e in
      let y = and-true (ltb i 32768) (eqb (get_or s i 0) (code "=")) x.1 in
      record { inside = ltb-true i (length s) x.0; allowed = ltb-true i 32768 y.0; here = y.1 }

  no_pad : pad_at s i ≡ false → i < length s → i < 32768 → eqb (get_or s i 0) (code "=") ≡ false
  no_pad e h k = rw (lt-ltb i (length s) h, lt-ltb i 32768 k) at e

-- the verdict on what follows n letters, when none follows or none may follow: at most two pads, within the limit, and then the end
module _ (s : List ℕ) (b : Bytes s) (n : ℕ) (k : n ≤ length s) (o : n < 32768 → n < length s → is_letter (get_or s n 0) ≡ false) where
  abbrev Rest : ℕ → Type 0
  Rest e = judge_from (tail letter pad (32768 - n)) n (drop n s) ≡ cond (ltb e (length s)) (stops_at e) of_form

  unpadded : pad_at s n ≡ false → Rest n
  unpadded e = halt (tail letter pad (32768 - n)) s n (tail_ends letter pad refl refl (32768 - n)) k (λ h. dead h (ltb n 32768) refl)
    where
      dead : n < length s → (x : Bool) → ltb n 32768 ≡ x → alive (deriv (get_or s n 0) (tail letter pad (32768 - n))) ≡ false
      dead h true f =
          let m = ltb-true n 32768 f in
          tail_dead letter pad refl refl (32768 - n) (get_or s n 0) (letter_missed (get_or s n 0) (byte-at s b n) (o m h))
          (pad-other (get_or s n 0) (no_pad s n e h m))
      dead h false f =
          let z : 32768 - n ≡ 0 = omega (arith, ltb-false n 32768 f) in
          ap (λ (j : ℕ). alive (deriv (get_or s n 0) (tail letter pad j))) z

  module _ (p : Pad s n) where
    one-pad : judge_from (tail letter pad (32768 - n)) n (drop n s) ≡ judge_from (padded pad (32767 - n)) (n + 1) (drop (n + 1) s)
    one-pad =
        let c = get_or s n 0 in
        let z : 32768 - n ≡ suc (32767 - n) = omega (arith, p.allowed) in
        ap (λ (j : ℕ). judge_from (tail letter pad j) n (drop n s)) z
        ∙ ap (judge_from (tail letter pad (suc (32767 - n))) n) (drop-cons s n 0 p.inside)
        ∙ tail_pads letter pad refl refl (32767 - n) n c (drop (suc n) s) (letter_missed c (byte-at s b n) (o p.allowed p.inside))
        (pad_here c p.here)
        ∙ ap (λ (i : ℕ). judge_from (padded pad (32767 - n)) i (drop i s)) (sym (add-one n))

    one_end : pad_at s (n + 1) ≡ false → Rest (n + 1)
    one_end e =
        one-pad
        ∙ halt (padded pad (32767 - n)) s (n + 1) (padded_ends (32767 - n)) (omega (arith, p.inside))
        (λ h. padded_dead (32767 - n) (get_or s (n + 1) 0) (λ l. pad-other (get_or s (n + 1) 0) (no_pad s (n + 1) e h (omega arith))))

    two-end : Pad s (n + 1) → Rest (n + 1 + 1)
    two-end q =
        one-pad
        ∙ ap (judge_from (padded pad (32767 - n)) (n + 1)) (drop-cons s (n + 1) 0 q.inside)
        ∙ padded_pads (32767 - n) (n + 1) (get_or s (n + 1) 0) (drop (suc (n + 1)) s) (omega (arith, q.allowed))
        (pad_here (get_or s (n + 1) 0) q.here)
        ∙ ap (λ (i : ℕ). judge_from empty i (drop i s)) (sym (add-one (n + 1)))
        ∙ halt empty s (n + 1 + 1) refl (omega (arith, q.inside)) (λ h. refl)

  pub ends : Rest (past_pad s (past_pad s n))
  ends = go (pad_at s n) refl (pad_at s (n + 1)) refl
    where
      go : (x : Bool) → pad_at s n ≡ x → (y : Bool) → pad_at s (n + 1) ≡ y → Rest (past_pad s (past_pad s n))
      go false e y f = subst Rest (sym (ap (past_pad s) (past_no s n e) ∙ past_no s n e)) (unpadded e)
      go true e false f = subst Rest (sym (ap (past_pad s) (past_yes s n e) ∙ past_no s (n + 1) f)) (one_end (a_pad s n e) f)
      go true e true f = subst Rest (sym (ap (past_pad s) (past_yes s n e) ∙ past_yes s (n + 1) f))
          (two-end (a_pad s n e) (a_pad s (n + 1) f))

-- the verdict on a packet: no letter at all, or letters and then what `ends` says
abbrev Ended : List ℕ → ℕ → Type 0
Ended s e = judge packet_form s ≡ cond (ltb e (length s)) (stops_at e) of_form

pub judged_packet : (s : List ℕ) → Bytes s → (n : ℕ) → n ≡ letters_first 32768 s →
    ((n ≡ 0) × (judge packet_form s ≡ stops_at 0)) ⊎ (0 < n) × Ended s (past_pad s (past_pad s n))
unfolding letters_first
judged_packet [] b n e = inl (e, refl)
judged_packet (c ∷ cs) b n e = go (is_letter c) refl e
  where
    some : is_letter c ≡ true → n ≡ suc (letters_first 32767 cs) → Ended (c ∷ cs) (past_pad (c ∷ cs) (past_pad (c ∷ cs) n))
    some x f =
        let a = letters_first 32767 cs in
        let w = counted 32767 1 cs b.1 in
        let p : 32767 - a ≡ 32768 - suc a = omega arith in
        let q : 1 + a ≡ suc a = omega arith in
        first_goes letter (tail letter pad 32767) refl refl refl 0 c cs (letter-passed c b.0 x) ∙ w.verdict
        ∙ ap (λ (i : ℕ). judge_from (tail letter pad (32767 - a)) i (drop a cs)) q
        ∙ ap (λ (k : ℕ). judge_from (tail letter pad k) (suc a) (drop a cs)) p
        ∙ subst (λ (m : ℕ). judge_from (tail letter pad (32768 - suc a)) (suc a) (drop (suc a) (c ∷ cs)) ≡
        cond (ltb (past_pad (c ∷ cs) (past_pad (c ∷ cs) m)) (length (c ∷ cs))) (stops_at (past_pad (c ∷ cs) (past_pad (c ∷ cs) m))) of_form) (sym f)
        (ends (c ∷ cs) b (suc a) (omega (arith, w.inside)) (λ h k. w.next (omega arith) (omega arith)))

    go : (x : Bool) → is_letter c ≡ x → n ≡ cond x (suc (letters_first 32767 cs)) 0 →
        ((n ≡ 0) × (judge packet_form (c ∷ cs) ≡ stops_at 0)) ⊎ (0 < n) × Ended (c ∷ cs) (past_pad (c ∷ cs) (past_pad (c ∷ cs) n))
    go true x f = inr (omega (arith, f), some x f)
    go false x f = inl (f, first_stops letter (tail letter pad 32767) refl 0 c cs (letter_missed c b.0 x))
