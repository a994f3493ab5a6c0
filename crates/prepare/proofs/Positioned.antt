-- A head in which one account has another position: its names, its accounts one by one, and its positions together.
use Prim.Native.Nat.{ℕ, zero, suc, ◌+◌, ◌<◌, ◌≤◌, ◌^◌}
use mathlib.Core.Path.{◌≡◌, refl, ap, sym, ◌∙◌}
use mathlib.Core.Bool.{Bool, true, false}
use mathlib.Core.List.{List, [], ◌∷◌, map}
use native.Mathlib.Omega.{arith}
use lib.Dec.{eqb}
use lib.ListN.{length, get_or, set, length-take}
use lib.Seq.{take-set-lt, map-set_same, get_or-set_same, get_or-set_other}
use lib.IntN.{pos}
use lib.Signed.{le_z, mag}
use borrow.Author.Tests.{eqb-true, eqb-false}
use Rattle.octets.specs.Integers.{up, dn}
use Rattle.octets.proofs.Integers.{sum_split}
use Rattle.octets.proofs.Walk.{all-each}
use Rattle.account.specs.declared.Position.{Position}
use Rattle.account.specs.declared.Account.{Account}
use Rattle.account.specs.declared.Head.{Head}
use Rattle.account.specs.Position.{value}
use Rattle.account.specs.Head.{name_of, accounts_of, account_at, with_position, no_account}
use Rattle.rules.specs.Rules.{highest_cap}
use Rattle.shape.specs.Reading.{names_of}
use Rattle.shape.specs.Shape.{account_ok, total}
use Rattle.shape.specs.Sound.{SoundAccount}
use Rattle.shape.proofs.Facts.{account_ok_lem}
use Rattle.shape.proofs.Names.{length_accounts, account_at_lem}
use Rattle.shape.proofs.Sound.{units_bound}
use Rattle.shape.proofs.Together.{few_accounts}

abbrev pub moved : Account → Position → Account
moved a p = record { name = a.name; length = a.length; cap = a.cap; position = p }

-- the positions together change by what the one changes by
total-set : (xs : List Account) (i : ℕ) (a : Account) → i < length xs →
    up (total (set xs i a)) + dn (total xs) + (up (value (get_or xs i no_account).position) + dn (value a.position))
    ≡ up (total xs) + dn (total (set xs i a)) + (dn (value (get_or xs i no_account).position) + up (value a.position))
total-set [] i a h = absurd (omega arith)
total-set (x ∷ xs) zero a h = omega (arith, sum_split (value a.position) (total xs), sum_split (value x.position) (total xs))
total-set (x ∷ xs) (suc i) a h =
    omega (
      arith,
      total-set xs i a (omega arith),
      sum_split (value x.position) (total (set xs i a)),
      sum_split (value x.position) (total xs),
    )

module _ (h : Head) (long : length h.accounts ≡ 32) (few : h.count ≤ 32) where
  -- no position is too low: the others cannot make up for it
  pub units_of : ((k : ℕ) → k < h.count → SoundAccount (account_at h k)) → (n : ℕ) → total (accounts_of h) ≡ pos n →
      (k : ℕ) → k < h.count → mag (account_at h k).position.units < 2 ^ 62
  units_of each n e k l =
      let passed = all-each account_ok (accounts_of h) no_account (λ j m.
      let i : j < h.count = omega (arith, length-take h.count h.accounts) in
      ap account_ok (account_at_lem h j i) ∙ account_ok_lem (account_at h j) (each j i)) in
      rw (account_at_lem h k l) at (units_bound (accounts_of h) n k passed (few_accounts h few) e (omega (arith, length_accounts h long few)))

  module _ (i : ℕ) (l : i < h.count) (p : Position) where
    accounts_are : accounts_of (with_position h i p) ≡ set (accounts_of h) i (moved (account_at h i) p)
    accounts_are = take-set-lt h.count h.accounts i (moved (account_at h i) p) l

    pub names-kept : names_of (with_position h i p) ≡ names_of h
    names-kept =
        ap (map name_of) accounts_are
        ∙ map-set_same name_of (accounts_of h) i (moved (account_at h i) p) no_account (ap name_of (sym (account_at_lem h i l)))

    pub total-moved : up (total (accounts_of (with_position h i p))) + dn (total (accounts_of h))
        + (up (value (account_at h i).position) + dn (value p))
        ≡ up (total (accounts_of h)) + dn (total (accounts_of (with_position h i p))) + (dn (value (account_at h i).position) + up (value p))
    total-moved =
        let m : i < length (accounts_of h) = omega (arith, length_accounts h long few) in
        rw (accounts_are, ← account_at_lem h i l) (total-set (accounts_of h) i (moved (get_or (accounts_of h) i no_account) p) m)

    -- each account is as it was, or the one with the new position
    pub accounts_kept : ((k : ℕ) → k < h.count → SoundAccount (account_at h k)) → le_z (value p) (pos highest_cap) ≡ true →
        p.remainder < 10000 → (k : ℕ) → k < h.count → SoundAccount (account_at (with_position h i p) k)
    accounts_kept each high small k m = go (eqb k i) refl
      where
        go : (t : Bool) → eqb k i ≡ t → SoundAccount (account_at (with_position h i p) k)
        go true e =
            let a = each i l in
            let inside : i < length h.accounts = omega (arith, long, few) in
            rw (eqb-true k i e, get_or-set_same h.accounts i (moved (account_at h i) p) no_account inside)
            (record { short = a.short; name = a.name; cap = a.cap; cap_remainder = a.cap_remainder; position = high; remainder = small })
        go false e = rw (get_or-set_other h.accounts i k (moved (account_at h i) p) no_account (eqb-false k i e)) (each k m)
