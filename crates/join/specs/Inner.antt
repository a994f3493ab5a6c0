-- What the inner functions go by, once the fields are read; no public promise cites these.
use Rattle.std.specs.Prelude.{ℕ, ◌-◌, cond, Result, Ok, Err, List, [], ◌∷◌, ◌++◌, leb, ltb, pos, length}
use Rattle.octets.specs.Parts.{zeros}
use Rattle.amount.specs.declared.Amount.{Amount}
use Rattle.account.specs.declared.Account.{Account}
use Rattle.account.specs.declared.Head.{Head}
use Rattle.account.specs.Position.{worth}
use Rattle.account.specs.Head.{place_of}
use Rattle.rules.specs.declared.Answer.{Answer}
use Rattle.rules.specs.declared.Answer.TheVariants.{Done, CapTooHigh, NameHeld, AccountsFull}
use Rattle.rules.specs.Answers.{is_done}
use Rattle.rules.specs.Rules.{◌gives◌, first_of, highest_cap}
use Rattle.shape.specs.Reading.{Book}
use Rattle.book.specs.Step.{Outcome, book_of}
use Rattle.book.specs.Inner.{kept}
use Rattle.join.specs.Effect.{with_account}

abbrev pub name_in : List ℕ → List ℕ
name_in name = name ++ zeros (32 - length name)

abbrev pub account_of : List ℕ → Amount → Account
account_of name cap = record { name = name_in name; length = length name; cap = cap; position = record { units = pos 0; remainder = 0 } }

-- the checks, the name's by the search for its account
abbrev pub decided : Head → List ℕ → Amount → Answer
decided h name cap = first_of (
    (ltb highest_cap (worth cap) gives CapTooHigh)
    ∷ (ltb (place_of h name) h.count gives NameHeld)
    ∷ (leb 32 h.count gives AccountsFull)
    ∷ []) Done

-- the head with the account, or why there is none
abbrev pub joined : Head → List ℕ → Amount → Result Head Answer
joined h name cap = cond (is_done (decided h name cap)) (Ok (with_account h (account_of name cap))) (Err (decided h name cap))

-- what is left: the book with that head, or the book as it was
abbrev pub left_by : Book → Result Head Answer → Outcome
left_by b (Ok h) = record { answer = Done; mark = 0; left = book_of h b.opened b.ended }
left_by b (Err a) = kept b a 0
