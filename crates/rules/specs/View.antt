-- What a call can see: of a book, or of the calls that came before it.
use Rattle.std.specs.Prelude.{ℕ, Bool, List, ℤ}
use Rattle.std.proofs.Math.Option.{Option}
use Rattle.rules.specs.Calls.{Content}

-- "2 RESERVED, 3 COMMITTED, 4 ABORTED"; "ended by: .. 1 fulfilment, 2 payee's abort, 3 expiry"
pub data State : Type 0 where
  reserved : State
  committed : (fulfilment : List ℕ) → State
  aborted : (code : ℕ) → State
  expired : State

pub record Transfer : Type 0 where
  pub content : Content
  pub number : ℕ
  pub state : State

-- "An account has a name, a cap .. and a position", in ten-thousandths
pub record Standing : Type 0 where
  pub cap : ℕ
  pub position : ℤ

pub record View : Type 0 where
  -- the book is of the shape
  pub shaped : Bool
  pub currency : List ℕ
  -- the book time
  pub clock : ℤ
  -- how many accounts there are, and the one of a name
  pub accounts : ℕ
  pub account : List ℕ → Option Standing
  -- the transfer that a book holds under an id
  pub held : List ℕ → Option Transfer
  -- the open book's slots and how many are taken, the finished book's places and how many are taken
  pub slots : ℕ
  pub opened : ℕ
  pub places : ℕ
  pub ended : ℕ
  -- the acceptance numbers of the RESERVED transfers with expiration <= an instant, ascending
  pub due : ℤ → List ℕ
