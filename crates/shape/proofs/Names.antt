-- No name twice, told by each name against those before it.
use Prim.Native.Nat.{ℕ, zero, suc, ◌+◌, ◌<◌, ◌≤◌}
use mathlib.Core.Path.{◌≡◌, refl, ap, ap₂, sym, ◌∙◌}
use mathlib.Core.Bool.{Bool, true, false, not, ◌&&◌}
use mathlib.Core.List.{List, [], ◌∷◌, ◌++◌, map}
use native.Mathlib.Omega.{arith}
use native.Mathlib.Numerals.{add-one}
use lib.ListN.{length, take, get_or, get_or-map, length-map}
use lib.Seq.{take-suc, take_all, take-take, get_or-take, length-take-le}
use Rattle.std.specs.List.{list_all, range_with_len}
use Rattle.std.proofs.lemmas.List.{take-map}
use Rattle.account.specs.declared.Account.{Account}
use Rattle.octets.specs.Lists.{all}
use Rattle.octets.specs.Parts.{same}
use Rattle.octets.proofs.Tests.{and-true, and-false, and_assoc}
use Rattle.octets.proofs.Walk.{all_append}
use Rattle.account.specs.declared.Head.{Head}
use Rattle.account.specs.Head.{name_of, accounts_of, account_at, no_account}
use Rattle.shape.specs.Reading.{names_of}
use Rattle.shape.specs.Shape.{none_twice}
use Rattle.shape.specs.Scan.{is_new}

regroup : (a b c d : Bool) → (a && (b && true)) && (c && d) ≡ (a && c) && (b && d)
regroup true true c d = refl
regroup true false c d = sym (and-false c)
regroup false b c d = refl

-- one name more
none-snoc : (names : List (List ℕ)) (name : List ℕ) → none_twice (names ++ (name ∷ [])) ≡ none_twice names && is_new names name
none-snoc [] name = refl
none-snoc (n ∷ ns) name =
    ap₂ ◌&&◌ (all_append (λ m. not (same m n)) ns (name ∷ [])) (none-snoc ns name)
    ∙ regroup (all (λ m. not (same m n)) ns) (not (same name n)) (none_twice ns) (is_new ns name)

module _ (names : List (List ℕ)) (k : ℕ) (h : k < length names) where
  pub none_more : none_twice (take (k + 1) names) ≡ none_twice (take k names) && is_new (take k names) (get_or names k [])
  none_more = rw (add-one k, take-suc names k [] h) (none-snoc (take k names) (get_or names k []))

-- the names of a head
module _ (h : Head) (long : length h.accounts ≡ 32) (few : h.count ≤ 32) where
  pub length_accounts : length (accounts_of h) ≡ h.count
  length_accounts = length-take-le h.count h.accounts (omega arith)

  pub length-names : length (names_of h) ≡ h.count
  length-names = length-map (accounts_of h) name_of ∙ length_accounts

pub account_at_lem : (h : Head) (k : ℕ) → k < h.count → get_or (accounts_of h) k no_account ≡ account_at h k
account_at_lem h k l = get_or-take h.count h.accounts k no_account l

pub name_at : (h : Head) (k : ℕ) → k < h.count → get_or (names_of h) k [] ≡ name_of (account_at h k)
name_at h k l = get_or-map name_of (accounts_of h) k no_account ∙ ap name_of (account_at_lem h k l)

-- the name is compared with those of the accounts before
module _ (h : Head) (k : ℕ) (front : k ≤ h.count) where
  names_before : take k (names_of h) ≡ map name_of (take k h.accounts)
  names_before = take-map name_of k (accounts_of h) ∙ ap (map name_of) (take-take k h.count h.accounts front)

  pub new_by_list : (name : List ℕ) → list_all (λ b. not (same name (name_of b))) (take k h.accounts) ≡ is_new (take k (names_of h)) name
  new_by_list name = go (take k h.accounts) ∙ ap (λ (names : List (List ℕ)). is_new names name) (sym names_before)
    where
      go : (xs : List Account) → list_all (λ b. not (same name (name_of b))) xs ≡ is_new (map name_of xs) name
      go [] = refl
      go (x ∷ xs) = rw (go xs)

-- no name twice, told by each name in its turn
module _ (h : Head) (long : length h.accounts ≡ 32) (few : h.count ≤ 32) where
  abbrev pub new_at : ℕ → Bool
  new_at k = is_new (take k (names_of h)) (name_of (account_at h k))

  none-from : (m k : ℕ) → k + m ≡ h.count →
      none_twice (take k (names_of h)) && list_all new_at (range_with_len k m) ≡ none_twice (names_of h)
  none-from zero k e =
      and-true (none_twice (take k (names_of h))) ∙ ap none_twice (take_all k (names_of h) (omega (arith, length-names h long few)))
  none-from (suc m) k e =
      sym (and_assoc (none_twice (take k (names_of h))) (new_at k) (list_all new_at (range_with_len (k + 1) m)))
      ∙ ap (λ (t : Bool). t && list_all new_at (range_with_len (k + 1) m))
      (rw (← name_at h k (omega arith)) (sym (none_more (names_of h) k (omega (arith, length-names h long few)))))
      ∙ none-from m (k + 1) (omega arith)

  pub none_by_list : list_all new_at (range_with_len 0 h.count) ≡ none_twice (names_of h)
  none_by_list = none-from h.count 0 (omega arith)
