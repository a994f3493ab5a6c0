-- What `judge` says is the plain meaning: `Ok` exactly of the texts that match, and an `Err` at the offset where no text of the form goes on.
use mathlib.Core.Path.{◌≡◌, refl, sym, ap, subst, ◌∙◌}
use mathlib.Core.Bool.{Bool, true, false, cond, ◌&&◌, ◌||◌}
use mathlib.Core.List.{List, [], ◌∷◌, ◌++◌}
use mathlib.Core.Logic.{◌⊎◌, inl, inr, ⊎_elim, ◌↔◌}
use Prim.Native.Nat.{ℕ, zero, suc, ◌+◌, ◌≤◌}
use native.Mathlib.Omega.{arith}
use lib.Dec.{leb}
use lib.ListN.{take}
use borrow.Author.Tests.{leb-true, le-leb}
use Rattle.octets.proofs.Tests.{and_left, and_right, either}
use Rattle.form.specs.Regex.{
  Re,
  none,
  empty,
  range,
  seq,
  alt,
  upto,
  nullable,
  alive,
  is_none,
  seq',
  alt',
  deriv,
  judge_from,
  judge,
}
use Rattle.form.specs.Listings.{amount_form, id_form, date_time_form, condition_form, packet_form, code_form, name_form, currency_form}
use Rattle.form.specs.Matches.{Matches, nothing, one, joined, left, right, stop, again, StopsInside, StopsShort}
use Rattle.std.specs.Prelude.{Ok, Err}
use Rattle.form.specs.Verdict.{Verdict, of_form, stops_at}

-- lists and tests
empty_cons : {A : Type 0} {c : ℕ} {s : List ℕ} → [] ≡ c ∷ s → A
empty_cons e = absurd (let z : 0 ≡ suc 0 = ap shape e in omega arith)
  where
    shape : List ℕ → ℕ
    shape [] = 0
    shape (x ∷ xs) = 1

head : {c d : ℕ} {s t : List ℕ} → c ∷ s ≡ d ∷ t → c ≡ d
head e = cc

tail : {c d : ℕ} {s t : List ℕ} → c ∷ s ≡ d ∷ t → s ≡ t
tail e = cc

and_both : {a b : Bool} → a ≡ true → b ≡ true → a && b ≡ true
and_both e f = rw (e, f)

or-first : {a : Bool} (b : Bool) → a ≡ true → a || b ≡ true
or-first b e = rw e

or_second : (a : Bool) {b : Bool} → b ≡ true → a || b ≡ true
or_second true e = refl
or_second false e = e

-- the empty text
nullable_to : {r : Re} {s : List ℕ} → Matches r s → s ≡ [] → nullable r ≡ true
nullable_to nothing e = refl
nullable_to (one c h k) e = empty_cons (sym e)
nullable_to (joined [] v d m w) e = and_both (nullable_to m refl) (nullable_to w (sym d ∙ e))
nullable_to (joined (c ∷ u) v d m w) e = empty_cons (sym e ∙ d)
nullable_to (left {q = q} m) e = or-first (nullable q) (nullable_to m e)
nullable_to (right {p = p} m) e = or_second (nullable p) (nullable_to m e)
nullable_to stop e = refl
nullable_to (again u v d m w) e = refl

true_false : {A : Type 0} → false ≡ true → A
true_false e = absurd (let z : ◌≡◌ {A = ℕ} 0 1 = cc in omega arith)

nullable-from : (r : Re) → nullable r ≡ true → Matches r []
nullable-from none e = true_false e
nullable-from empty e = nothing
nullable-from (range a b) e = true_false e
nullable-from (seq p q) e =
    joined [] [] refl (nullable-from p (and_left (nullable p) (nullable q) e)) (nullable-from q (and_right (nullable p) (nullable q) e))
nullable-from (alt p q) e = ⊎_elim (λ h. left (nullable-from p h)) (λ h. right (nullable-from q h)) (either (nullable p) (nullable q) e)
nullable-from (upto n r) e = stop

-- `none` and `empty` left out
none-none : {A : Type 0} {r : Re} {s : List ℕ} → Matches r s → is_none r ≡ true → A
none-none nothing e = true_false e
none-none (one c h k) e = true_false e
none-none (joined u v d m w) e = true_false e
none-none (left m) e = true_false e
none-none (right m) e = true_false e
none-none stop e = true_false e
none-none (again u v d m w) e = true_false e

seq_to : (p q : Re) {s : List ℕ} → Matches (seq p q) s → Matches (seq' p q) s
seq_to none q (joined u v d m w) = none-none m refl
seq_to empty q (joined u v d nothing w) = subst (λ (z : List ℕ). Matches q z) (sym d) w
seq_to (range a b) q m = m
seq_to (seq p r) q m = m
seq_to (alt p r) q m = m
seq_to (upto n r) q m = m

seq_from : (p q : Re) {s : List ℕ} → Matches (seq' p q) s → Matches (seq p q) s
seq_from none q m = none-none m refl
seq_from empty q {s} m = joined [] s refl nothing m
seq_from (range a b) q m = m
seq_from (seq p r) q m = m
seq_from (alt p r) q m = m
seq_from (upto n r) q m = m

alt_to : (p q : Re) {s : List ℕ} → Matches (alt p q) s → Matches (alt' p q) s
alt_to p q {s} m = go (is_none p) (is_none q) refl refl m
  where
    go : (a b : Bool) → is_none p ≡ a → is_none q ≡ b → Matches (alt p q) s → Matches (cond a q (cond b p (alt p q))) s
    go true b e f (left x) = none-none x e
    go true b e f (right x) = x
    go false true e f (left x) = x
    go false true e f (right x) = none-none x f
    go false false e f x = x

alt_from : (p q : Re) {s : List ℕ} → Matches (alt' p q) s → Matches (alt p q) s
alt_from p q {s} m = go (is_none p) (is_none q) m
  where
    go : (a b : Bool) → Matches (cond a q (cond b p (alt p q))) s → Matches (alt p q) s
    go true b x = right x
    go false true x = left x
    go false false x = x

-- a form is alive exactly if some text matches it
alive_to : {r : Re} {s : List ℕ} → Matches r s → alive r ≡ true
alive_to nothing = refl
alive_to (one {a = a} {b = b} c h k) = le-leb a b (omega arith)
alive_to (joined u v d m w) = and_both (alive_to m) (alive_to w)
alive_to (left {q = q} m) = or-first (alive q) (alive_to m)
alive_to (right {p = p} m) = or_second (alive p) (alive_to m)
alive_to stop = refl
alive_to (again u v d m w) = refl

alive-from : (r : Re) → alive r ≡ true → (s : List ℕ) × Matches r s
alive-from none e = true_false e
alive-from empty e = ([], nothing)
alive-from (range a b) e = (a ∷ [], one {a = a} a (omega arith) (leb-true a b e))
alive-from (seq p q) e =
    let x = alive-from p (and_left (alive p) (alive q) e) in
    let y = alive-from q (and_right (alive p) (alive q) e) in
    (x.0 ++ y.0, joined x.0 y.0 refl x.1 y.1)
alive-from (alt p q) e =
    ⊎_elim (λ h. let x = alive-from p h in (x.0, left x.1)) (λ h. let x = alive-from q h in (x.0, right x.1)) (either
    (alive p) (alive q) e)
alive-from (upto n r) e = ([], stop)

-- more repetitions allowed
more : {n : ℕ} {r : Re} {s : List ℕ} → Matches (upto n r) s → Matches (upto (suc n) r) s
more stop = stop
more (again u v d m w) = again u v d m (more w)

-- one byte taken off
nullable-rest : (p q : Re) {s : List ℕ} → Matches p [] → Matches q s → Matches (cond (nullable p) q none) s
nullable-rest p q {s} m w = subst (λ (b : Bool). Matches (cond b q none) s) (sym (nullable_to m refl)) w

upto_step : (c n : ℕ) (r : Re) {s : List ℕ} → Matches (deriv c (upto n r)) s → Matches (deriv c (upto (suc n) r)) s
upto_step c zero r m = none-none m refl
upto_step c (suc n) r m = go (seq_from (deriv c r) (upto n r) m)
  where
    go : {s : List ℕ} → Matches (seq (deriv c r) (upto n r)) s → Matches (seq' (deriv c r) (upto (suc n) r)) s
    go (joined u v d x y) = seq_to (deriv c r) (upto (suc n) r) (joined u v d x (more y))

range_to : (a b c : ℕ) (s : List ℕ) → a ≤ c → c ≤ b → [] ≡ s → Matches (deriv c (range a b)) s
range_to a b c s h k e =
    subst (λ (z : List ℕ). Matches (deriv c (range a b)) z) e
    (subst (λ (x : Bool). Matches (cond x empty none) []) (sym (and_both (le-leb a c h) (le-leb c b k))) nothing)

deriv_to : {r : Re} {t : List ℕ} → Matches r t → (c : ℕ) (s : List ℕ) → t ≡ c ∷ s → Matches (deriv c r) s
deriv_to nothing c s e = empty_cons e
deriv_to (one {a = a} {b = b} d h k) c s e = range_to a b c s (omega (arith, head e)) (omega (arith, head e)) (tail e)
deriv_to (joined {p = p} {q = q} [] v d m w) c s e =
    alt_to (seq' (deriv c p) q) (cond (nullable p) (deriv c q) none) (right (nullable-rest p (deriv c q) m (deriv_to w c s (sym d ∙ e))))
deriv_to (joined {p = p} {q = q} (x ∷ u) v d m w) c s e =
    alt_to (seq' (deriv c p) q) (cond (nullable p) (deriv c q) none)
    (left (seq_to (deriv c p) q (joined u v (tail (sym e ∙ d)) (deriv_to m c u (ap (λ (z : ℕ). z ∷ u) (head (sym d ∙ e)))) w)))
deriv_to (left {p = p} {q = q} m) c s e = alt_to (deriv c p) (deriv c q) (left (deriv_to m c s e))
deriv_to (right {p = p} {q = q} m) c s e = alt_to (deriv c p) (deriv c q) (right (deriv_to m c s e))
deriv_to stop c s e = empty_cons e
deriv_to (again {n = n} {r = r} [] v d m w) c s e = upto_step c n r (deriv_to w c s (sym d ∙ e))
deriv_to (again {n = n} {r = r} (x ∷ u) v d m w) c s e =
    seq_to (deriv c r) (upto n r) (joined u v (tail (sym e ∙ d)) (deriv_to m c u (ap (λ (z : ℕ). z ∷ u) (head (sym d ∙ e)))) w)

range_from : (a b c : ℕ) (x : Bool) {s : List ℕ} → leb a c && leb c b ≡ x → Matches (cond x empty none) s → Matches (range a b) (c ∷ s)
range_from a b c true e nothing = one c (leb-true a c (and_left (leb a c) (leb c b) e)) (leb-true c b (and_right (leb a c) (leb c b) e))
range_from a b c false e m = none-none m refl

-- what holds of every text of a derivative
abbrev From : ℕ → Re → Type 0
From c r = (s : List ℕ) → Matches (deriv c r) s → Matches r (c ∷ s)

rest_from : (c : ℕ) (p q : Re) (x : Bool) → nullable p ≡ x → From c q → (s : List ℕ) → Matches (cond x (deriv c q) none) s → Matches
    (seq p q) (c ∷ s)
rest_from c p q true e g s m = joined [] (c ∷ s) refl (nullable-from p e) (g s m)
rest_from c p q false e g s m = none-none m refl

first-from : (c : ℕ) (p q : Re) → From c p → {s : List ℕ} → Matches (seq (deriv c p) q) s → Matches (seq p q) (c ∷ s)
first-from c p q f (joined u v d m w) = joined (c ∷ u) v (ap (λ (z : List ℕ). c ∷ z) d) (f u m) w

seq_deriv : (c : ℕ) (p q : Re) → From c p → From c q → {s : List ℕ} →
    Matches (alt (seq' (deriv c p) q) (cond (nullable p) (deriv c q) none)) s → Matches (seq p q) (c ∷ s)
seq_deriv c p q f g (left m) = first-from c p q f (seq_from (deriv c p) q m)
seq_deriv c p q f g {s} (right m) = rest_from c p q (nullable p) refl g s m

alt_deriv : (c : ℕ) (p q : Re) → From c p → From c q → {s : List ℕ} → Matches (alt (deriv c p) (deriv c q)) s → Matches (alt p q) (c ∷ s)
alt_deriv c p q f g {s} (left m) = left (f s m)
alt_deriv c p q f g {s} (right m) = right (g s m)

upto_deriv : (c n : ℕ) (r : Re) → From c r → {s : List ℕ} → Matches (seq (deriv c r) (upto n r)) s → Matches (upto (suc n) r) (c ∷ s)
upto_deriv c n r f (joined u v d m w) = again (c ∷ u) v (ap (λ (z : List ℕ). c ∷ z) d) (f u m) w

deriv-from : (c : ℕ) (r : Re) → From c r
deriv-from c none s m = none-none m refl
deriv-from c empty s m = none-none m refl
deriv-from c (range a b) s m = range_from a b c (leb a c && leb c b) refl m
deriv-from c (seq p q) s m =
    seq_deriv c p q (deriv-from c p) (deriv-from c q) (alt_from (seq' (deriv c p) q) (cond (nullable p) (deriv c q) none) m)
deriv-from c (alt p q) s m = alt_deriv c p q (deriv-from c p) (deriv-from c q) (alt_from (deriv c p) (deriv c q) m)
deriv-from c (upto zero r) s m = none-none m refl
deriv-from c (upto (suc n) r) s m = upto_deriv c n r (deriv-from c r) (seq_from (deriv c r) (upto n r) m)

-- the verdict, from any place on
fits_to : (r : Re) (n : ℕ) (s : List ℕ) → Matches r s → judge_from r n s ≡ of_form
fits_to r n [] m = rw (nullable_to m refl)
fits_to r n (c ∷ s) m =
    let d = deriv_to m c s refl in
    rw (alive_to d) (fits_to (deriv c r) (suc n) s d)

pub stops-fits : {A : Type 0} {n : ℕ} → stops_at n ≡ of_form → A
stops-fits e = absurd (let z : ◌≡◌ {A = ℕ} 0 1 = cc in omega arith)

fits-from : (r : Re) (n : ℕ) (s : List ℕ) → judge_from r n s ≡ of_form → Matches r s
fits-from r n [] e = go (nullable r) refl e
  where
    go : (x : Bool) → nullable r ≡ x → cond x of_form (stops_at n) ≡ of_form → Matches r []
    go true f h = nullable-from r f
    go false f h = stops-fits h
fits-from r n (c ∷ s) e = go (alive (deriv c r)) e (fits-from (deriv c r) (suc n) s)
  where
    go : (x : Bool) → cond x (judge_from (deriv c r) (suc n) s) (stops_at n) ≡ of_form → (judge_from (deriv c r) (suc n) s ≡ of_form → Matches
        (deriv c r) s) →
        Matches r (c ∷ s)
    go true h k = deriv-from c r s (k h)
    go false h k = stops-fits h

-- `judge` says Ok exactly of the texts that match
pub fits : (r : Re) (s : List ℕ) → (judge r s ≡ of_form) ↔ Matches r s
fits r s = (fits-from r 0 s, fits_to r 0 s)

-- where the verdict stops, m bytes on
abbrev Stopped : Re → List ℕ → ℕ → ℕ → Type 0
Stopped r s m n = (k : ℕ) × (n ≡ m + k) × (StopsInside r s k ⊎ StopsShort r s k)

abbrev offset_of : Verdict → ℕ
offset_of (Ok u) = 0
offset_of (Err e) = e.at

stop_number : {m n : ℕ} → stops_at {A = Unit {0}} m ≡ stops_at n → n ≡ m + 0
stop_number {m} {n} e = let f : m ≡ n = ap offset_of e in omega arith

fits-stops : {A : Type 0} {n : ℕ} → of_form ≡ stops_at n → A
fits-stops e = stops-fits (sym e)

matches_at : {r : Re} {s t : List ℕ} → s ≡ t → Matches r s → Matches r t
matches_at {r} e m = subst (λ (z : List ℕ). Matches r z) e m

-- the text ends, and the form does not
too_short : (r : Re) → nullable r ≡ false → (t : List ℕ) → Matches r t → StopsShort r [] 0
too_short r e [] m = true_false (sym e ∙ nullable_to m refl)
too_short r e (c ∷ t) m =
    record { whole = refl; unmatched = λ w. true_false (sym e ∙ nullable_to w refl); longer = (c ∷ t, (c ∷ t, refl), omega arith, m) }

-- nothing is left after the byte c
dead_here : (r : Re) (c : ℕ) (s : List ℕ) → alive (deriv c r) ≡ false → (t : List ℕ) → Matches r t → StopsInside r (c ∷ s) 0
dead_here r c s e t m =
    record {
      inside = omega arith;
      dead = λ u b w. true_false (sym e ∙ alive_to (deriv_to w c b.0 b.1));
      before = (t, (t, refl), m);
    }

-- a byte passed before the stop
inside-after : (r : Re) (c : ℕ) (s : List ℕ) (k : ℕ) → StopsInside (deriv c r) s k → StopsInside r (c ∷ s) (suc k)
inside-after r c s k i =
    record {
      inside = omega (arith, i.inside);
      dead = λ t b m. i.dead (take (suc k) s ++ b.0) (b.0, refl) (deriv_to m c (take (suc k) s ++ b.0) b.1);
      before = let x = i.before in (c ∷ x.0, (x.1.0, ap (λ (z : List ℕ). c ∷ z) x.1.1), deriv-from c r x.0 x.2);
    }

short_after : (r : Re) (c : ℕ) (s : List ℕ) (k : ℕ) → StopsShort (deriv c r) s k → StopsShort r (c ∷ s) (suc k)
short_after r c s k i =
    record {
      whole = ap suc i.whole;
      unmatched = λ m. i.unmatched (deriv_to m c s refl);
      longer =
          let x = i.longer in
          (c ∷ x.0, (x.1.0, ap (λ (z : List ℕ). c ∷ z) x.1.1), omega (arith, x.2), deriv-from c r x.0 x.3);
    }

stops-from : (r : Re) → alive r ≡ true → (m : ℕ) (s : List ℕ) (n : ℕ) → judge_from r m s ≡ stops_at n → Stopped r s m n
stops-from r l m [] n e = go (nullable r) refl e
  where
    go : (x : Bool) → nullable r ≡ x → cond x of_form (stops_at m) ≡ stops_at n → Stopped r [] m n
    go true f h = fits-stops h
    go false f h = let x = alive-from r l in (0, stop_number h, inr (too_short r f x.0 x.1))
stops-from r l m (c ∷ s) n e = go (alive (deriv c r)) refl e (λ f. stops-from (deriv c r) f (suc m) s n)
  where
    after : (k : ℕ) → n ≡ suc m + k → (StopsInside (deriv c r) s k ⊎ StopsShort (deriv c r) s k) → Stopped r (c ∷ s) m n
    after k f w = (suc k, omega arith, ⊎_elim (λ i. inl (inside-after r c s k i)) (λ i. inr (short_after r c s k i)) w)

    go : (x : Bool) → alive (deriv c r) ≡ x → cond x (judge_from (deriv c r) (suc m) s) (stops_at m) ≡ stops_at n →
        (alive (deriv c r) ≡ true → judge_from (deriv c r) (suc m) s ≡ stops_at n → Stopped (deriv c r) s (suc m) n) → Stopped r (c ∷ s) m n
    go true f h k = let x = k f h in after x.0 x.1 x.2
    go false f h k = let x = alive-from r l in (0, stop_number h, inl (dead_here r c s f x.0 x.1))

-- `judge` stops at n where no text of the form goes on after n bytes; the form must have some text at all
pub stops : (r : Re) → alive r ≡ true → (s : List ℕ) (n : ℕ) → judge r s ≡ stops_at n → StopsInside r s n ⊎ StopsShort r s n
stops r l s n e =
    let x = stops-from r l 0 s n e in
    let f : x.0 ≡ n = omega (arith, x.1) in
    subst (λ (k : ℕ). StopsInside r s k ⊎ StopsShort r s k) f x.2

-- each listing has a text
pub listings_alive :
    alive amount_form && alive id_form && alive date_time_form && alive condition_form && alive packet_form && alive code_form && alive name_form
    && alive currency_form ≡ true
listings_alive = refl
