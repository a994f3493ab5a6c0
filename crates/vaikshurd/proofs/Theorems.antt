-- What a gateway can rely on beside the promises of the exported calls.
use Prim.Native.Nat.{ℕ, ◌*◌, ◌/◌, ◌%◌, ◌≤◌}
use mathlib.Core.Path.{◌≡◌, refl, sym, ◌∙◌}
use mathlib.Core.Bool.{Bool, true, false, cond}
use mathlib.Core.List.{List}
use native.Mathlib.Omega.{arith}
use lib.ListN.{length}
use borrow.Author.Tests.{eq-eqb}
use Rattle.octets.specs.Bytes.{Bytes}
use Rattle.head_form.specs.Form.{account_from, place_at, head_from, is_formed}
use Rattle.octets.proofs.Built.{length-build}
use Rattle.head_form.proofs.Encoded.{head-kept}
use Rattle.rules.specs.declared.Answer.{Answer}
use Rattle.rules.specs.declared.Answer.TheVariants.{OutOfShape}
use Rattle.rules.specs.Answers.{number, code, is_done}
use Rattle.rules.specs.Calls.{Text}
use Rattle.shape.specs.Shape.{shape}
use Rattle.book.specs.Step.{Outcome}
use Rattle.std.specs.Prelude.{Some}
use Rattle.book.specs.declared.Place.TheVariants.{Opened, Ended}
use Rattle.open_book.specs.Effect.{fresh_book, open_step}
use Rattle.time.specs.Effect.{time_step}
use Rattle.time.proofs.Theorems as time
use Rattle.lookup.specs.Effect.{lookup_place}
use Rattle.lookup.proofs.Theorems as lookup
use Rattle.vaikshurd.specs.Packed.{word, number_in, code_in, mark_in, code_for}
use Rattle.vaikshurd.specs.Face.{Left, left, after_step, lent, called, opening, list_left, place_left}
use Rattle.vaikshurd.specs.Steps.{FaceCall, step_of, Reached, opens, again, calls}
use Rattle.vaikshurd.specs.Steps as steps
use Rattle.vaikshurd.proofs.Packed.{number_in-word, code_in-word, mark_in-word, number-done, number_refused}
use Rattle.vaikshurd.proofs.Packed.{code_of-number, code_of-none}
use Rattle.vaikshurd.proofs.Places.{low_opened, low_finished}
use Rattle.vaikshurd.proofs.Filled.{formed_filled}
use Rattle.vaikshurd.proofs.Accepted.{accepted, refused_keeps}
use Rattle.vaikshurd.proofs.Never.{not_21}
use Rattle.vaikshurd.proofs.Standing as standing
use Rattle.vaikshurd.proofs.Standing.{Standing, refused_step, step_stands}

-- every promise is an equation to a definition, of all that the call leaves: two answers that meet it are equal
pub one_answer : {A : Type 0} {promised : A} (x y : A) → x ≡ promised → y ≡ promised → x ≡ y
one_answer x y p q = p ∙ sym q

-- number, code and mark are read out of the answer as they went in
pub apart : (a : Answer) (mark : ℕ) →
    (number_in (word a mark) ≡ number a) × (code_in (word a mark) ≡ code a) × (mark_in (word a mark) ≡ mark)
apart a mark = (number_in-word a mark, code_in-word a mark, mark_in-word a mark)

-- the code asked for by the number is the code in the answer; a number above 24 is no answer's
pub code-told : (a : Answer) → code_for (number a) ≡ code a
code-told = code_of-number

pub code_untold : (n : ℕ) → 25 ≤ n → code_for n ≡ 0
code_untold = code_of-none

module _ (head opened ended : List ℕ) where
  abbrev after : FaceCall → Left
  after c = called head opened ended (step_of c)

  -- the outcome on a head of the form, and the answer on any other
  abbrev outcome : FaceCall → Outcome
  outcome c = step_of c (lent head opened ended)

  abbrev either : FaceCall → Bool → Left
  either c t = cond t (after_step head (outcome c)) (left (word OutOfShape 0) head opened ended)

  -- "All but 0 change nothing lent and no state"
  pub refused : (c : FaceCall) → (number_in (after c).answer ≡ 0 → ⊥) → after c ≡ left (after c).answer head opened ended
  unfolding called
  refused c n = by (is_formed head) n
    where
      by : (t : Bool) → (number_in (either c t).answer ≡ 0 → ⊥) → either c t ≡ left (either c t).answer head opened ended
      by true n =
          refused_step head (lent head opened ended) (outcome c) (refused_keeps c (lent head opened ended))
          (number_refused (outcome c).answer (outcome c).mark n)
      by false n = refl

  pub refused_list : (list : List ℕ) (instant : Text) → (number_in (after (steps.time list instant)).answer ≡ 0 → ⊥) →
      list_left head opened ended list instant ≡ list
  unfolding called list_left
  refused_list list instant n = by (is_formed head) n
    where
      c : FaceCall
      c = steps.time list instant

      by : (t : Bool) → (number_in (either c t).answer ≡ 0 → ⊥) → cond t (time_step (lent head opened ended) list instant).list list ≡ list
      by true n =
          (time.refused_keeps (lent head opened ended) list instant (number_refused (outcome c).answer (outcome c).mark n)).1
      by false n = refl

  pub refused_open : (currency instant : Text) → (number_in (opening head opened ended currency instant).answer ≡ 0 → ⊥) →
      opening head opened ended currency instant ≡ left (opening head opened ended currency instant).answer head opened ended
  refused_open = standing.refused_open head opened ended

  -- a call on a head of the form leaves a head of the form; with a book of the shape, it leaves a book of the shape too
  module _ (bytes : Bytes head) (formed : is_formed head ≡ true) where
    stands : shape (lent head opened ended) ≡ true → (c : FaceCall) → Standing (after c)
    unfolding called
    stands s c =
        rw formed (step_stands head (lent head opened ended) (formed_filled head bytes formed) (sym (head-kept head bytes formed)) s c)

    pub form_kept : (c : FaceCall) → is_formed (after c).head ≡ true
    unfolding called
    form_kept c = by (is_done (outcome c).answer) refl
      where
        by : (t : Bool) → is_done (outcome c).answer ≡ t → is_formed (after c).head ≡ true
        by true e = standing.standing_formed (stands (accepted c (lent head opened ended) e).shaped c)
        by false e = rw (formed, e) formed

    pub shape-kept : shape (lent head opened ended) ≡ true → (c : FaceCall) →
        shape (lent (after c).head (after c).opened (after c).ended) ≡ true
    shape-kept s c = standing.standing_shaped (stands s c)

    -- a lookup changes nothing, refused or not
    pub lookup_keeps : (id : Text) → after (steps.lookup id) ≡ left (after (steps.lookup id)).answer head opened ended
    unfolding called
    lookup_keeps id = rw (formed, lookup.keeps (lent head opened ended) id, head-kept head bytes formed) (by (is_done found.answer))
      where
        found : Outcome
        found = outcome (steps.lookup id)

        by : (t : Bool) → left (word found.answer found.mark) (cond t head head) opened ended
            ≡ left (word found.answer found.mark) head opened ended
        by true = refl
        by false = refl

-- what the head's bytes were does not count at open: an accepted one leaves the same over any 2,080 bytes
pub open_afresh : (head head' opened ended : List ℕ) (currency instant : Text) → length head ≡ 2080 → length head' ≡ 2080 →
    number_in (opening head opened ended currency instant).answer ≡ 0 →
    opening head opened ended currency instant ≡ opening head' opened ended currency instant
unfolding opening open_step fresh_book
open_afresh head head' opened ended currency instant e e' n =
    let r = open_step (lent head opened ended) currency instant in
    let done = number-done r.answer r.mark (rw (eq-eqb (length head) 2080 e) at n) in
    rw (eq-eqb (length head) 2080 e, eq-eqb (length head') 2080 e', done)

-- "a lookup gives book and offset", read out of the number
module _ (head opened ended : List ℕ) (id : Text) (formed : is_formed head ≡ true) where
  abbrev found : ℕ
  found = place_left head opened ended id

  long : length (head_from head).accounts ≡ 32
  unfolding head_from
  long = length-build (λ k. account_from head (place_at k)) 32

  pub in_open_book : (k : ℕ) → lookup_place (lent head opened ended) id ≡ Some (Opened k) →
      (found / 4294967296 ≡ 1) × (found % 4294967296 ≡ k * 160)
  unfolding place_left
  in_open_book k e =
      let low = low_opened (lent head opened ended) id long k e in
      rw (formed, e) (omega arith, omega arith)

  pub in_finished_book : (k : ℕ) → lookup_place (lent head opened ended) id ≡ Some (Ended k) →
      (found / 4294967296 ≡ 2) × (found % 4294967296 ≡ k * 160)
  unfolding place_left
  in_finished_book k e =
      let low = low_finished (lent head opened ended) id long k e in
      rw (formed, e) (omega arith, omega arith)

-- after an accepted open, and any calls, the head is of the form and the book of the shape
reached_stands : {l : Left} → Reached l → Standing l
reached_stands (opens head opened ended currency instant n) = standing.open_stands head opened ended currency instant n
reached_stands (again r currency instant) = standing.again_stands (reached_stands r) currency instant
reached_stands (calls r c) = standing.call_stands (reached_stands r) c

pub reached : {l : Left} → Reached l → (is_formed l.head ≡ true) × (shape (lent l.head l.opened l.ended) ≡ true)
reached r = (standing.standing_formed (reached_stands r), standing.standing_shaped (reached_stands r))

-- so 21 is never answered
pub never_21 : {l : Left} → Reached l → (c : FaceCall) → number_in (called l.head l.opened l.ended (step_of c)).answer ≡ 21 → ⊥
unfolding called
never_21 {l} r c e =
    let f = reached r in
    let b = lent l.head l.opened l.ended in
    not_21 c b f.1 (sym (number_in-word (step_of c b).answer (step_of c b).mark) ∙ (rw f.0 at e))
