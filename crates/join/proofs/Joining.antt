-- Join: the name's account by its place, and what the checks leave.
use Prim.Native.Nat.{ℕ, ◌+◌, ◌*◌, ◌/◌, ◌%◌, ◌≤◌, ◌<◌}
use mathlib.Core.Path.{◌≡◌, refl, ap, sym, ◌∙◌}
use mathlib.Core.Bool.{Bool, true, false, false≢true, cond, ◌&&◌}
use mathlib.Core.List.{List}
use Rattle.std.proofs.Common.{Some, None, is_some, Result, Ok, Err}
use Rattle.std.specs.Prelude.{position}
use native.Mathlib.Omega.{arith}
use lib.Dec.{leb, ltb}
use lib.ListN.{length}
use borrow.Author.Tests.{ltb-true, ltb-false}
use Rattle.octets.proofs.Tests.{both}
use Rattle.octets.proofs.Search.{first_at, first-none}
use Rattle.form.specs.Listings.{name_form, amount_form}
use Rattle.amount.specs.Amount.{ten_thousandths, amount_of}
use Rattle.amount.specs.declared.Amount.{Amount}
use Rattle.account.specs.declared.Head.{Head}
use Rattle.account.specs.Position.{worth}
use Rattle.account.specs.Head.{named, place_of, accounts_of, no_account, Named}
use Rattle.account.proofs.Places.{place-is}
use Rattle.rules.specs.declared.Answer.{Answer}
use Rattle.rules.specs.declared.Answer.TheVariants.{Done, NotInForm, OutOfShape, CapTooHigh, NameHeld, AccountsFull}
use Rattle.rules.specs.Answers.{is_done}
use Rattle.rules.specs.Calls.{Text, join, is_of}
use Rattle.rules.specs.Rules.{highest_cap, exists, join_rules}
use Rattle.shape.specs.Reading.{Book, account_of}
use Rattle.shape.specs.Shape.{shape}
use Rattle.shape.specs.Seen.{seen}
use Rattle.shape.proofs.Names.{length_accounts}
use Rattle.shape.proofs.Sound.{sound, sound_named}
use Rattle.book.specs.Step.{Outcome, book_of}
use Rattle.book.specs.Inner.{kept}
use Rattle.book.proofs.Replies.{out_of_shape_lem, not_in_form, by_rules}
use Rattle.join.specs.Effect.{new_account, with_account, join_step}
use Rattle.join.proofs.Fields.{name_short}
use Rattle.join.specs.Inner.{decided, joined, left_by}

-- there is an account of the name where its place is one of those in use
pub name_held : (b : Book) (name : List ℕ) → length (accounts_of b.head) ≡ b.head.count →
    exists (account_of b name) ≡ ltb (place_of b.head name) b.head.count
name_held b name l = by (ltb (place_of b.head name) b.head.count) refl
  where
    by : (t : Bool) → ltb (place_of b.head name) b.head.count ≡ t → exists (account_of b name) ≡ t
    by true e =
        let h = ltb-true (place_of b.head name) b.head.count e in
        rw (first_at (named name) (accounts_of b.head) no_account (omega (arith, l, h)))
    by false e =
        let h = ltb-false (place_of b.head name) b.head.count e in
        rw (first-none (named name) (accounts_of b.head) (omega (arith, l, h)))

-- and the search gives that place
pub name_found : (h : Head) (name : List ℕ) → h.count ≤ 32 → length h.accounts ≡ 32 →
    is_some (position (named name) (accounts_of h)) ≡ ltb (place_of h name) h.count
name_found h name few long = rw (place-is h name few long) (by (ltb (place_of h name) h.count))
  where
    by : (t : Bool) → is_some (cond t (Some (place_of h name)) None) ≡ t
    by true = refl
    by false = refl

-- where the answer is 0, no check holds: an account place is left
pub all-passed : (s t u : Bool) → is_done (cond s CapTooHigh (cond t NameHeld (cond u AccountsFull Done))) ≡ true →
    (s ≡ false) × (t ≡ false) × (u ≡ false)
all-passed true t u e = absurd (false≢true e)
all-passed false true u e = absurd (false≢true e)
all-passed false false true e = absurd (false≢true e)
all-passed false false false e = (refl, refl, refl)

module _ (b : Book) (name cap : Text) where
  abbrev after : Book
  after = record { head = with_account b.head (new_account name cap); opened = b.opened; ended = b.ended }

  abbrev formed : Bool
  formed = is_of name_form name && is_of amount_form cap

  abbrev value : ℕ
  value = ten_thousandths cap

  pub join_out_of_shape : shape b ≡ false → kept b OutOfShape 0 ≡ join_step b name cap
  unfolding join_step
  join_out_of_shape e = out_of_shape_lem b after (join name cap) refl e

  module _ (s : shape b ≡ true) where
    pub join_not_in_form : formed ≡ false → kept b NotInForm 0 ≡ join_step b name cap
    unfolding join_step
    join_not_in_form f = not_in_form b after (join name cap) (rw s) f

    module _ (long : length b.head.accounts ≡ 32) (e : formed ≡ true) where
      pub can_join : (a : Amount) → a ≡ amount_of value → Named b.head × (a.remainder < 10000) × (length name ≤ 32)
      can_join a f = (
        sound_named b (sound b long s),
        rw f (omega arith),
        name_short name (both (is_of name_form name) (is_of amount_form cap) e).0,
      )

      same-decision : decided b.head name (amount_of value) ≡ join_rules (seen b) name value
      same-decision =
          let w : value / 10000 * 10000 + value % 10000 ≡ value = omega arith in
          rw (w, name_held b name (length_accounts b.head long (sound b long s).few))

      abbrev kept_or : Book → Answer → Outcome
      kept_or left a = kept (cond (is_done a) left b) a 0

      -- an answer that is 0 is that of no check
      leaves : (next : Head) (t u v : Bool) →
          let a = cond t CapTooHigh (cond u NameHeld (cond v AccountsFull Done)) in
          left_by b (cond (is_done a) (Ok next) (Err a)) ≡ kept_or (book_of next b.opened b.ended) a
      leaves next true u v = refl
      leaves next false true v = refl
      leaves next false false true = refl
      leaves next false false false = refl

      pub join_decided : (a : Amount) (r : Result Head Answer) → a ≡ amount_of value → r ≡ joined b.head name a →
          left_by b r ≡ join_step b name cap
      unfolding join_step
      join_decided a r f g =
          let h = b.head in
          rw (g, f)
          (leaves after.head (ltb highest_cap (worth (amount_of value))) (ltb (place_of h name) h.count) (leb 32 h.count)
          ∙ ap (kept_or after) same-decision ∙ sym (by_rules b after (join name cap) (rw s) (rw e)))
