-- The members of a head: one position changed is the position of one key changed, as no name stands twice.
use Prim.Native.Nat.{ℕ, zero, suc, ◌<◌, ◌≤◌}
use mathlib.Core.Path.{◌≡◌, refl, ap, ap₂, sym, ◌∙◌}
use mathlib.Core.Bool.{Bool, true, false, false≢true, not}
use mathlib.Core.List.{List, [], ◌∷◌, map}
use native.Mathlib.Omega.{arith}
use lib.IntN.{ℤ}
use lib.ListN.{length, get_or, set, get_or-map, length-map}
use lib.Seq.{take-set-lt}
use borrow.Author.Tests.{not-true}
use Rattle.octets.specs.Lists.{all}
use Rattle.octets.specs.Parts.{same}
use Rattle.octets.proofs.Equal.{same_refl, same_equal}
use Rattle.account.specs.declared.Position.{Position}
use Rattle.account.specs.declared.Account.{Account}
use Rattle.account.specs.declared.Head.{Head}
use Rattle.account.specs.Position.{value}
use Rattle.account.specs.Head.{name_of, named, accounts_of, place_of, account_at, with_position, no_account}
use Rattle.octets.proofs.Search.{index-passes}
use Rattle.shape.specs.Reading.{names_of}
use Rattle.shape.specs.Shape.{none_twice}
use Rattle.shape.proofs.Names.{length_accounts, account_at_lem, name_at}
use Rattle.octets.proofs.Tests.{both}
use Rattle.octets.proofs.Walk.{all-at}
use Rattle.prepare.proofs.Positioned.{moved}
use Rattle.ledger.specs.Ledger.{Member, member_of, positioned, moved_at}

-- which of two lists stands first is the same
pub same-turned : (xs ys : List ℕ) → same xs ys ≡ same ys xs
same-turned xs ys = by (same xs ys) refl (same ys xs) refl
  where
    by : (s : Bool) → same xs ys ≡ s → (t : Bool) → same ys xs ≡ t → s ≡ t
    by true e true f = refl
    by false e false f = refl
    by true e false f = absurd (false≢true (sym f ∙ rw (same_equal xs ys e) (same_refl ys)))
    by false e true f = absurd (false≢true (sym e ∙ rw (same_equal ys xs f) (same_refl xs)))

-- the account that is found under a name has that name
pub name_found : (h : Head) → length h.accounts ≡ 32 → h.count ≤ 32 → (name : List ℕ) → place_of h name < h.count →
    get_or (names_of h) (place_of h name) [] ≡ name
name_found h long few name l =
    let i = place_of h name in
    let inside : i < length (accounts_of h) = omega (arith, length_accounts h long few) in
    name_at h i l ∙ ap name_of (sym (account_at_lem h i l))
    ∙ same_equal (name_of (get_or (accounts_of h) i no_account)) name (index-passes (named name) (accounts_of h) no_account inside)

-- no member of another key is moved
unmoved : (key : List ℕ) (f : ℤ → ℤ) (xs : List Account) → all (λ m. not (same m key)) (map name_of xs) ≡ true →
    map member_of xs ≡ map (moved_at key f) (map member_of xs)
unmoved key f [] e = refl
unmoved key f (x ∷ xs) e =
    let p = both (not (same (name_of x) key)) (all (λ m. not (same m key)) (map name_of xs)) e in
    ap₂ (λ (m : Member) (ms : List Member). m ∷ ms) (rw (not-true (same (name_of x) key) p.0)) (unmoved key f xs p.1)

-- the member at one place is moved, and it is the only one of its key
one-moved : (f : ℤ → ℤ) (xs : List Account) (i : ℕ) (a : Account) → i < length xs → none_twice (map name_of xs) ≡ true →
    member_of a ≡ positioned f (member_of (get_or xs i no_account)) →
    map member_of (set xs i a) ≡ map (moved_at (name_of (get_or xs i no_account)) f) (map member_of xs)
one-moved f [] i a h once e = absurd (omega arith)
one-moved f (x ∷ xs) zero a h once e =
    let p = both (all (λ m. not (same m (name_of x))) (map name_of xs)) (none_twice (map name_of xs)) once in
    ap₂ (λ (m : Member) (ms : List Member). m ∷ ms) (e ∙ (rw (same_refl (name_of x)))) (unmoved (name_of x) f xs p.0)
one-moved f (x ∷ xs) (suc i) a h once e =
    let p = both (all (λ m. not (same m (name_of x))) (map name_of xs)) (none_twice (map name_of xs)) once in
    let key = name_of (get_or xs i no_account) in
    let l : i < length (map name_of xs) = omega (arith, length-map xs name_of) in
    let other : not (same key (name_of x)) ≡ true =
    ap (λ (n : List ℕ). not (same n (name_of x))) (sym (get_or-map name_of xs i no_account))
    ∙ all-at (λ m. not (same m (name_of x))) (map name_of xs) i (name_of no_account) p.0 l in
    ap₂ (λ (m : Member) (ms : List Member). m ∷ ms) (rw (same-turned (name_of x) key, not-true (same key (name_of x)) other))
    (one-moved f xs i a (omega arith) p.1 e)

-- an account with another position
moved_member : (f : ℤ → ℤ) (a : Account) (p : Position) → value p ≡ f (value a.position) →
    member_of (moved a p) ≡ positioned f (member_of a)
moved_member f a p e = ap (λ (z : ℤ). positioned (λ w. z) (member_of a)) e

-- a head in which account i has another position
pub members_moved : (h : Head) → length h.accounts ≡ 32 → h.count ≤ 32 → none_twice (names_of h) ≡ true → (i : ℕ) → i < h.count →
    (p : Position) (f : ℤ → ℤ) → value p ≡ f (value (account_at h i).position) →
    map member_of (accounts_of (with_position h i p)) ≡ map (moved_at (get_or (names_of h) i []) f) (map member_of (accounts_of h))
members_moved h long few once i l p f e =
    let xs = accounts_of h in
    let at = account_at_lem h i l in
    ap (map member_of) (take-set-lt h.count h.accounts i (moved (account_at h i) p) l)
    ∙ one-moved f xs i (moved (account_at h i) p) (omega (arith, length_accounts h long few)) once
    (moved_member f (account_at h i) p e ∙ ap (λ (a : Account). positioned f (member_of a)) (sym at))
    ∙ ap (λ (key : List ℕ). map (moved_at key f) (map member_of xs)) (ap name_of at ∙ sym (name_at h i l))
