-- The accounts of a head (01: "The accounts travel with the head by value, at most 32").
use Rattle.std.specs.Prelude.{ℕ, ◌≤◌, ◌<◌, Bool, List, [], take, get_or, set, pos}
use Rattle.octets.specs.Parts.{same}
use Rattle.octets.specs.Lists.{index}
use Rattle.account.specs.declared.Position.{Position}
use Rattle.account.specs.declared.Account.{Account}
use Rattle.account.specs.declared.Head.{Head}

-- an account's name is the first bytes of its place
abbrev pub name_of : Account → List ℕ
name_of a = take a.length a.name

-- "compared byte for byte"
abbrev pub named : List ℕ → Account → Bool
named name a = same (name_of a) name

-- the accounts in use
abbrev pub accounts_of : Head → List Account
accounts_of h = take h.count h.accounts

-- the number of the account of a name, "from 0"; the count where there is none
abbrev pub place_of : Head → List ℕ → ℕ
place_of h name = index (named name) (accounts_of h)

abbrev pub no_account : Account
no_account = record {
  name = [];
  length = 0;
  cap = record { units = 0; remainder = 0 };
  position = record { units = pos 0; remainder = 0 };
}

abbrev pub account_at : Head → ℕ → Account
account_at h i = get_or h.accounts i no_account

abbrev pub with_position : Head → ℕ → Position → Head
with_position h i p = record {
  accounts = set h.accounts i (record {
    name = (account_at h i).name;
    length = (account_at h i).length;
    cap = (account_at h i).cap;
    position = p;
  });
  count = h.count;
  currency = h.currency;
  time = h.time;
  slots = h.slots;
  places = h.places;
  finished = h.finished;
}

-- a head whose names lie within their places
pub record Named (h : Head) : Type 0 where
  pub few : h.count ≤ 32
  pub short : (k : ℕ) → k < h.count → (account_at h k).length ≤ 32
