-- Where head and books stand between two calls: the head's bytes are those of a head as the form asks, in a book of the shape. An
-- accepted open brings them there, and every call keeps them there.
use Prim.Native.Nat.{ℕ, ◌/◌}
use mathlib.Core.Path.{◌≡◌, refl}
use mathlib.Core.Bool.{Bool, true, false, false≢true, cond, not}
use mathlib.Core.List.{List}
use native.Mathlib.Omega.{arith}
use lib.Dec.{eqb}
use lib.ListN.{length}
use borrow.Author.Tests.{eqb-true, eqb-false}
use Rattle.form.specs.Listings.{currency_form, date_time_form}
use Rattle.account.specs.declared.Head.{Head}
use Rattle.head_form.specs.Fits.{Fits}
use Rattle.head_form.specs.Form.{head_bytes, head_from, is_formed}
use Rattle.head_form.proofs.Decoded.{head_read}
use Rattle.rules.specs.declared.Answer.{Answer}
use Rattle.rules.specs.declared.Answer.TheVariants.{NotInForm, BadLengths}
use Rattle.rules.specs.Answers.{is_done}
use Rattle.rules.specs.Calls.{Text, is_of, in_form, «open»}
use Rattle.rules.specs.Rules.{open_rules}
use Rattle.shape.specs.Reading.{Book}
use Rattle.shape.specs.Shape.{shape}
use Rattle.shape.proofs.Sound.{sound}
use Rattle.octets.proofs.Tests.{both}
use Rattle.book.specs.Step.{Outcome, book_of}
use Rattle.open_book.specs.Effect.{fresh_book, open_step}
use Rattle.open_book.proofs.Theorems as opening-book
use Rattle.vaikshurd.specs.Packed.{word, number_in}
use Rattle.vaikshurd.specs.Face.{Left, left, after_step, lent, called, other_length, opening}
use Rattle.vaikshurd.specs.Steps.{FaceCall, step_of}
use Rattle.vaikshurd.proofs.Packed.{number-done, number_refused}
use Rattle.vaikshurd.proofs.Filled.{Filled, sound_fits}
use Rattle.vaikshurd.proofs.Formed.{filled_formed}
use Rattle.vaikshurd.proofs.Kept.{fresh_filled}
use Rattle.vaikshurd.proofs.Accepted.{refused_keeps, shape-left, filled_left}

-- a refused step leaves the head's bytes and the book
pub refused_step : (head : List ℕ) (b : Book) (r : Outcome) → (is_done r.answer ≡ false → r.left ≡ b) → is_done r.answer ≡ false →
    after_step head r ≡ left (word r.answer r.mark) head b.opened b.ended
refused_step head b r keeps e = rw (e, keeps e)

pub record Standing (l : Left) : Type 0 where
  pub head : Head
  pub filled : Filled head
  pub written : l.head ≡ head_bytes head
  pub shaped : shape (book_of head l.opened l.ended) ≡ true

module _ {l : Left} (s : Standing l) where
  abbrev book : Book
  book = book_of s.head l.opened l.ended

  fits : Fits s.head
  fits = sound_fits book (sound book s.filled.all s.shaped) s.filled

  pub standing_formed : is_formed l.head ≡ true
  standing_formed = rw s.written (filled_formed s.head fits s.filled)

  standing-head : head_from l.head ≡ s.head
  standing-head = rw s.written (head_read s.head fits)

  pub standing_shaped : shape (lent l.head l.opened l.ended) ≡ true
  standing_shaped = rw standing-head s.shaped

-- a step on such a head
pub step_stands : (bytes : List ℕ) (b : Book) → Filled b.head → bytes ≡ head_bytes b.head → shape b ≡ true → (c : FaceCall) →
    Standing (after_step bytes (step_of c b))
step_stands bytes b f w s c = by (is_done (step_of c b).answer) refl
  where
    by : (t : Bool) → is_done (step_of c b).answer ≡ t → Standing (after_step bytes (step_of c b))
    by true e = record {
      head = (step_of c b).left.head;
      filled = filled_left b f c e;
      written = rw e;
      shaped = shape-left c b f.all s;
    }
    by false e =
        rw (refused_step bytes b (step_of c b) (refused_keeps c b) e) (record { head = b.head; filled = f; written = w; shaped = s })

pub call_stands : {l : Left} → Standing l → (c : FaceCall) → Standing (called l.head l.opened l.ended (step_of c))
unfolding called
call_stands {l} s c =
    rw (standing_formed s, standing-head s)
    (step_stands l.head (book_of s.head l.opened l.ended) s.filled s.written s.shaped c)

-- an accepted open had its fields in form
in_form_lem : (t : Bool) (a : Answer) → is_done (cond (not t) NotInForm a) ≡ true → t ≡ true
in_form_lem true a e = refl
in_form_lem false a e = absurd (false≢true e)

-- and neither 1 nor 20 is 0
other-number : (t : Bool) → number_in (word (cond t BadLengths NotInForm) 0) ≡ 0 → ⊥
other-number true e = omega arith
other-number false e = omega arith

module _ (head opened ended : List ℕ) (currency instant : Text) where
  abbrev after : Left
  after = opening head opened ended currency instant

  abbrev start : Outcome
  start = open_step (lent head opened ended) currency instant

  -- by the head's length
  abbrev by_length : Bool → Left
  by_length t = cond t (after_step head start) (left (word (other_length currency instant) 0) head opened ended)

  pub refused_open : (number_in after.answer ≡ 0 → ⊥) → after ≡ left after.answer head opened ended
  unfolding opening
  refused_open n = by (eqb (length head) 2080) n
    where
      by : (t : Bool) → (number_in (by_length t).answer ≡ 0 → ⊥) → by_length t ≡ left (by_length t).answer head opened ended
      by true n =
          refused_step head (lent head opened ended) start (opening-book.refused_keeps (lent head opened ended) currency instant)
          (number_refused start.answer start.mark n)
      by false n = refl

  open_filled : is_done start.answer ≡ true → Filled start.left.head
  unfolding open_step fresh_book
  open_filled e =
      let call = «open» currency instant (length opened) (length ended) in
      let f = in_form_lem (in_form call) (open_rules (length opened) (length ended)) e in
      let p = both (is_of currency_form currency) (is_of date_time_form instant) f in
      rw e (fresh_filled currency instant (length opened / 160) (length ended / 160) p.0 p.1)

  pub open_stands : number_in after.answer ≡ 0 → Standing after
  unfolding opening
  open_stands n = by (eqb (length head) 2080) n
    where
      by : (t : Bool) → number_in (by_length t).answer ≡ 0 → Standing (by_length t)
      by true n =
          let e = number-done start.answer start.mark n in
          record {
            head = start.left.head;
            filled = open_filled e;
            written = rw e;
            shaped = opening-book.opened_shape (lent head opened ended) currency instant e;
          }
      by false n = absurd (other-number (in_form («open» currency instant 0 0)) n)

-- an open on what stands, accepted or not
pub again_stands : {l : Left} → Standing l → (currency instant : Text) →
    Standing (opening l.head l.opened l.ended currency instant)
again_stands {l} s currency instant = by (eqb (number_in anew.answer) 0) refl
  where
    anew : Left
    anew = after l.head l.opened l.ended currency instant

    by : (t : Bool) → eqb (number_in anew.answer) 0 ≡ t → Standing anew
    by true e = open_stands l.head l.opened l.ended currency instant (eqb-true (number_in anew.answer) 0 e)
    by false e =
        rw (refused_open l.head l.opened l.ended currency instant (eqb-false (number_in anew.answer) 0 e))
        (record { head = s.head; filled = s.filled; written = s.written; shaped = s.shaped })
