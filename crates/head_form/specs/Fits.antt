-- Heads whose fields fit their places in the bytes: the bounds that the types of the fields give.
use Rattle.std.specs.Prelude.{ℕ, ◌<◌, ◌^◌, ◌≡◌, length}
use Rattle.std.specs.Int.{w64}
use Rattle.std.proofs.Common.{SFits}
use Rattle.account.specs.declared.Account.{Account}
use Rattle.account.specs.declared.Head.{Head}
use Rattle.account.specs.Head.{account_at}

pub record AccountFits (a : Account) : Type 0 where
  pub name : length a.name ≡ 32
  pub byte : a.length < 256
  pub cap : (a.cap.units < 2 ^ 64) × (a.cap.remainder < 65536)
  pub position : SFits w64 a.position.units × (a.position.remainder < 65536)

pub record Fits (h : Head) : Type 0 where
  pub time : SFits w64 h.time
  pub currency : length h.currency ≡ 3
  pub count : h.count < 256
  pub slots : h.slots < 65536
  pub places : h.places < 65536
  pub finished : h.finished < 65536
  pub all : length h.accounts ≡ 32
  pub each : (k : ℕ) → k < 32 → AccountFits (account_at h k)
