-- Heads that say the same: the same fields and the same accounts in use, whatever lies past a name and past the accounts.
use Rattle.std.specs.Prelude.{ℕ, ◌<◌, ◌≡◌}
use Rattle.account.specs.declared.Account.{Account}
use Rattle.account.specs.declared.Head.{Head}
use Rattle.account.specs.Head.{account_at, name_of}

pub record SameAccount (a c : Account) : Type 0 where
  pub name : name_of a ≡ name_of c
  pub length : a.length ≡ c.length
  pub cap : a.cap ≡ c.cap
  pub position : a.position ≡ c.position

pub record Alike (g h : Head) : Type 0 where
  pub time : g.time ≡ h.time
  pub currency : g.currency ≡ h.currency
  pub count : g.count ≡ h.count
  pub slots : g.slots ≡ h.slots
  pub places : g.places ≡ h.places
  pub finished : g.finished ≡ h.finished
  pub each : (k : ℕ) → k < g.count → SameAccount (account_at g k) (account_at h k)
