-- The answer in one number, taken apart again; and 01's table, a row for each answer.
use Prim.Native.Nat.{ℕ, zero, suc, ◌<◌, ◌≤◌}
use mathlib.Core.Path.{◌≡◌, refl, ap, sym, ◌∙◌}
use mathlib.Core.Bool.{Bool, true, false, ◌&&◌}
use mathlib.Core.List.{List, [], ◌∷◌, map}
use native.Mathlib.Omega.{arith}
use lib.Dec.{ltb}
use lib.ListN.{get_or, get_or-eq_default, get_or-map}
use borrow.Author.Tests.{ltb-true, eq-eqb, ne_eqb}
use Rattle.octets.specs.Lists.{all}
use Rattle.rules.specs.declared.Answer.{Answer}
use Rattle.rules.specs.declared.Answer.TheVariants.{Done, NotInForm, NoPayer, NoPayee, PayerIsPayee, OtherCurrency, OtherContent}
use Rattle.rules.specs.declared.Answer.TheVariants.{Expired, OpenBookFull, NoPlaceLeft, CapPassed, UnknownId, NotThePayee}
use Rattle.rules.specs.declared.Answer.TheVariants.{EndedAnotherWay, NoMatch, ClockGoesBack, ListTooShort, NameHeld, AccountsFull}
use Rattle.rules.specs.declared.Answer.TheVariants.{CapTooHigh, BadLengths, OutOfShape, OutsideYears, NoRoom, Resend}
use Rattle.rules.specs.Answers.{number, code, is_done}
use Rattle.octets.proofs.Tests.{both}
use Rattle.vaikshurd.specs.Packed.{word, number_in, code_in, mark_in, answers, code_for}

-- each answer stands in the table at its number
in_table : (a : Answer) → get_or answers (number a) Done ≡ a
in_table Done = refl
in_table NotInForm = refl
in_table NoPayer = refl
in_table NoPayee = refl
in_table PayerIsPayee = refl
in_table OtherCurrency = refl
in_table OtherContent = refl
in_table Expired = refl
in_table OpenBookFull = refl
in_table NoPlaceLeft = refl
in_table CapPassed = refl
in_table UnknownId = refl
in_table NotThePayee = refl
in_table EndedAnotherWay = refl
in_table NoMatch = refl
in_table ClockGoesBack = refl
in_table ListTooShort = refl
in_table NameHeld = refl
in_table AccountsFull = refl
in_table CapTooHigh = refl
in_table BadLengths = refl
in_table OutOfShape = refl
in_table OutsideYears = refl
in_table NoRoom = refl
in_table Resend = refl

-- what is true of every row is true of every answer
every-row : (q : Answer → Bool) (rows : List Answer) → all q rows ≡ true → q Done ≡ true → (k : ℕ) → q (get_or rows k Done) ≡ true
every-row q [] e d k = d
every-row q (a ∷ rows) e d zero = (both (q a) (all q rows) e).0
every-row q (a ∷ rows) e d (suc k) = every-row q rows (both (q a) (all q rows) e).1 d k

small : (a : Answer) → (number a < 65536) × (code a < 65536)
small a =
    let e = every-row (λ a. ltb (number a) 65536 && ltb (code a) 65536) answers refl refl (number a) in
    let p = both (ltb (number a) 65536) (ltb (code a) 65536) (rw (in_table a) at e) in
    (ltb-true (number a) 65536 p.0, ltb-true (code a) 65536 p.1)

module _ (a : Answer) (mark : ℕ) where
  pub number_in-word : number_in (word a mark) ≡ number a
  number_in-word = omega (arith, (small a).0)

  pub code_in-word : code_in (word a mark) ≡ code a
  code_in-word = omega (arith, (small a).0, (small a).1)

  pub mark_in-word : mark_in (word a mark) ≡ mark
  mark_in-word = omega (arith, (small a).0, (small a).1)

  -- the number tells whether the call is accepted
  pub number-done : number_in (word a mark) ≡ 0 → is_done a ≡ true
  number-done e = eq-eqb (number a) 0 (sym number_in-word ∙ e)

  pub number_refused : (number_in (word a mark) ≡ 0 → ⊥) → is_done a ≡ false
  number_refused n = ne_eqb (number a) 0 (λ e. n (number_in-word ∙ e))

-- the code of an answer's number is the answer's, and a number that no answer has, has 0
pub code_of-number : (a : Answer) → code_for (number a) ≡ code a
unfolding code_for
code_of-number a = get_or-map code answers (number a) Done ∙ ap code (in_table a)

pub code_of-none : (n : ℕ) → 25 ≤ n → code_for n ≡ 0
unfolding code_for
code_of-none n h = get_or-eq_default (map code answers) 0 {n = n} h
