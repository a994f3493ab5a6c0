-- The account of a name, found by the library: its number where there is one.
use Rattle.std.proofs.Common.{◌≡◌, ℕ, ◌<◌, ◌≤◌, Bool, cond, ltb, List, length, take, get_or, refl, ◌∙◌, arith}
use Rattle.std.specs.Prelude.{Some, None, position}
use Rattle.std.specs.List.{position_or_len}
use Rattle.std.proofs.Math.Numerals.{one-add}
use Rattle.std.proofs.lemmas.List.{length-take-le, get_or-take, get_or_default}
use Rattle.std.proofs.lemmas.List.Recursion.{is_position_or_len}
use Rattle.octets.specs.Lists.{index}
use Rattle.account.specs.declared.Head.{Head}
use Rattle.account.specs.declared.Account.{Account}
use Rattle.account.specs.Head.{named, accounts_of, account_at, no_account, place_of, Named}

index-library : {A : Type 0} (q : A → Bool) (xs : List A) → index q xs ≡ position_or_len q xs
index-library q xs = is_position_or_len (index q) q refl (λ x more. rw one-add) xs

pub place-is : (h : Head) (name : List ℕ) → h.count ≤ 32 → length h.accounts ≡ 32 →
    position (named name) (accounts_of h) ≡ cond (ltb (place_of h name) h.count) (Some (place_of h name)) None
place-is h name few long = rw (index-library (named name) (accounts_of h), length-take-le h.count h.accounts (omega arith))

-- each of the first accounts in use has a name that lies within its place
pub short_front : (h : Head) (n : ℕ) (a : Account) (k : ℕ) → Named h → length h.accounts ≡ 32 → n ≤ h.count → k < length (take n h.accounts) →
    a ≡ get_or (take n h.accounts) k a → a.length ≤ 32
short_front h n a k named long front i e =
    let l : length (take n h.accounts) ≡ n = length-take-le n h.accounts (omega (arith, named.few)) in
    let at : a ≡ account_at h k =
    e ∙ get_or-take n h.accounts k a (omega arith) ∙ get_or_default h.accounts k a no_account (omega (arith, named.few)) in
    rw at (named.short k (omega arith))
