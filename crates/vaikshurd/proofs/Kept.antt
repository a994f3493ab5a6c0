-- What each call does to a head keeps it as the form asks.
use Prim.Native.Nat.{ℕ, suc, ◌+◌, ◌-◌, ◌<◌, ◌≤◌}
use mathlib.Core.Path.{◌≡◌, refl, ◌∙◌}
use mathlib.Core.Bool.{Bool, true, false, cond}
use mathlib.Core.List.{List, [], ◌∷◌}
use native.Mathlib.Omega.{arith}
use lib.Dec.{T, eqb, leb}
use lib.IntN.{ℤ, pos, neg_ℤ}
use lib.Signed.{le_z}
use lib.ListN.{length, get_or, length-append, length-set, get_or-replicate, length-replicate}
use lib.Seq.{drop_at, get_or-set_same, get_or-set_other}
use borrow.Author.Tests.{eqb-true, eqb-false}
use mir.Syntax.{w64}
use mir.Val.{SFits}
use Rattle.octets.specs.Bytes.{Bytes}
use Rattle.octets.specs.Lists.{keep}
use Rattle.octets.specs.Parts.{zeros}
use Rattle.octets.proofs.Equal.{zeros-zero}
use Rattle.octets.proofs.Integers.{le_split, fits_split}
use Rattle.octets.proofs.Stores.{length-zeros}
use Rattle.form.specs.Regex.{Re, judge}
use Rattle.form.specs.Listings.{name_form, currency_form, date_time_form}
use Rattle.form.proofs.Meaning.{fits}
use Rattle.form.proofs.Places.{of_bytes, matched_bytes}
use Rattle.datetime.specs.Instant.{instant_of}
use Rattle.datetime.proofs.Theorems as datetime
use Rattle.account.specs.declared.Head.{Head}
use Rattle.account.specs.declared.Position.{Position}
use Rattle.account.specs.Position.{lowered_by}
use Rattle.account.specs.Head.{account_at, no_account, with_position}
use Rattle.record.specs.Layout.{Row, num, payer_field, number_field}
use Rattle.rules.specs.Calls.{Text, is_of}
use Rattle.shape.specs.Reading.{sorted, insert}
use Rattle.book.specs.Ending.{settled, amount_in}
use Rattle.open_book.specs.Effect.{fresh_head, blank_account}
use Rattle.open_book.proofs.Currency.{three_long}
use Rattle.rules.proofs.Fields.{fits_form, instant_value}
use Rattle.join.specs.Effect.{new_account, with_account}
use Rattle.join.proofs.Fields.{name_short}
use Rattle.time.specs.Effect.{settled_all, at_time}
use Rattle.vaikshurd.proofs.Filled.{Padded, Filled}

-- an instant in form fits 64 bits
form_bytes : (r : Re) (s : Text) → T (of_bytes r) → is_of r s ≡ true → Bytes s
form_bytes r s t e = matched_bytes ((fits r s).0 (fits_form (judge r s) e)) t

is_true : (t : Bool) → T t → t ≡ true
is_true true h = refl
is_true false h = absurd h

pub instant_fits : (s : Text) → is_of date_time_form s ≡ true → SFits w64 (instant_of s)
instant_fits s e =
    let r = (datetime.form s (form_bytes date_time_form s tt e)).0 (fits_form (judge date_time_form s) e) in
    let z = r.instant in
    let low = le_split (neg_ℤ (pos 30610295940000)) z (is_true (le_z (neg_ℤ (pos 30610295940000)) z) r.least) in
    let high = le_split z (pos 253402372739999) (is_true (le_z z (pos 253402372739999)) r.most) in
    rw (instant_value s z r.value).1 (fits_split z (omega arith) (omega arith))

-- the position of account i moves
module _ (h : Head) (f : Filled h) (i : ℕ) (in_use : i < h.count) (p : Position) where
  pub moved_filled : Filled (with_position h i p)
  moved_filled = record {
    time = f.time;
    currency = f.currency;
    all = length-set h.accounts i _ ∙ f.all;
    used = λ k l g. used k l g (eqb k i) refl;
    free = λ k past l. get_or-set_other h.accounts i k _ no_account (λ e. omega (arith, e)) ∙ f.free k past l;
  }
    where
      used : (k : ℕ) → k < h.count → k < 32 → (t : Bool) → eqb k i ≡ t → Padded (account_at (with_position h i p) k)
      used k l g true e =
          let same : k ≡ i = eqb-true k i e in
          let was : Padded (account_at h i) = f.used i in_use (omega arith) in
          rw (same, get_or-set_same h.accounts i _ no_account (omega (arith, f.all))) (record { long = was.long; rest = was.rest })
      used k l g false e = rw (get_or-set_other h.accounts i k _ no_account (eqb-false k i e)) (f.used k l g)

-- a record ends
pub settled_filled : (h : Head) → Filled h → (i : ℕ) → i < h.count → (r : Row) → Filled (settled h i r)
unfolding settled
settled_filled h f i in_use r =
    let g = moved_filled h f i in_use (lowered_by (account_at h i).position (amount_in r)) in
    record { time = g.time; currency = g.currency; all = g.all; used = g.used; free = g.free }

-- records end whose payers have accounts
abbrev pub Payers : ℕ → List Row → Type 0
Payers n [] = Unit {0}
Payers n (r ∷ rs) = (num payer_field r < n) × Payers n rs

pub all_filled : (rs : List Row) (h : Head) → Filled h → Payers h.count rs → Filled (settled_all h rs)
unfolding settled_all settled
all_filled [] h f p = f
all_filled (r ∷ rs) h f p = all_filled rs (settled h (num payer_field r) r) (settled_filled h f (num payer_field r) p.0 r) p.1

module _ (n : ℕ) where
  insert_payers : (r : Row) (us : List Row) → num payer_field r < n → Payers n us → Payers n (insert r us)
  insert_payers r [] h p = (h, tt)
  insert_payers r (u ∷ us) h p = by (leb (num number_field r) (num number_field u)) (insert_payers r us h p.1)
    where
      by : (t : Bool) → Payers n (insert r us) → Payers n (cond t (r ∷ u ∷ us) (u ∷ insert r us))
      by true more = (h, p)
      by false more = (p.0, more)

  pub kept_payers : (q : Row → Bool) (rs : List Row) →
      ((k : ℕ) → k < length rs → q (get_or rs k []) ≡ true → num payer_field (get_or rs k []) < n) → Payers n (sorted (keep q rs))
  unfolding sorted
  kept_payers q [] h = tt
  kept_payers q (r ∷ rs) h = by (q r) refl (kept_payers q rs (λ k l. h (suc k) (omega arith)))
    where
      by : (t : Bool) → q r ≡ t → Payers n (sorted (keep q rs)) → Payers n (sorted (cond t (r ∷ keep q rs) (keep q rs)))
      by true e more = insert_payers r (sorted (keep q rs)) (h 0 (omega arith) e) more
      by false e more = more

-- the clock moves
pub timed_filled : (t : ℤ) (h : Head) → SFits w64 t → Filled h → Filled (at_time t h)
timed_filled t h s f = record { time = s; currency = f.currency; all = f.all; used = f.used; free = f.free }

-- an account joins
padded_name : (name cap : Text) → length name ≤ 32 → Padded (new_account name cap)
padded_name name cap h = record {
  long = simp (length-append, length-zeros) (omega arith);
  rest = rw (drop_at name (zeros (32 - length name)) (length name) refl) (zeros-zero (32 - length name));
}

pub joined_filled : (h : Head) → Filled h → h.count < 32 → (name cap : Text) → is_of name_form name ≡ true →
    Filled (with_account h (new_account name cap))
unfolding with_account
joined_filled h f room name cap form = record {
  time = f.time;
  currency = f.currency;
  all = length-set h.accounts h.count _ ∙ f.all;
  used = λ k l g. used k l g (eqb k h.count) refl;
  free = λ k past l. get_or-set_other h.accounts h.count k _ no_account (λ e. omega (arith, e)) ∙ f.free k (omega arith) l;
}
  where
    used : (k : ℕ) → k < h.count + 1 → k < 32 → (t : Bool) → eqb k h.count ≡ t →
        Padded (account_at (with_account h (new_account name cap)) k)
    used k l g true e =
        rw (eqb-true k h.count e, get_or-set_same h.accounts h.count (new_account name cap) no_account (omega (arith, f.all)))
        (padded_name name cap (name_short name form))
    used k l g false e =
        let n = eqb-false k h.count e in
        rw (get_or-set_other h.accounts h.count k (new_account name cap) no_account n) (f.used k (omega (arith, n)) g)

-- a book opens
pub fresh_filled : (currency instant : Text) (slots places : ℕ) → is_of currency_form currency ≡ true → is_of date_time_form instant ≡ true →
    Filled (fresh_head currency (instant_of instant) slots places)
fresh_filled currency instant slots places e g = record {
  time = instant_fits instant g;
  currency = three_long currency (fits_form (judge currency_form currency) e);
  all = length-replicate 32 blank_account;
  used = λ k l i. absurd (omega arith);
  free = λ k past l. get_or-replicate 32 k blank_account no_account l;
}
