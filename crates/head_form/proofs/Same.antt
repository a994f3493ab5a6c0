-- Two slices of the form whose heads say the same are the same bytes: what a head does not say is zero in both.
use Prim.Native.Nat.{ℕ, zero, suc, ◌+◌, ◌-◌, ◌*◌, ◌<◌, ◌≤◌}
use mathlib.Core.Bool.{true}
use mathlib.Core.Path.{◌≡◌, refl, ap, sym, ◌∙◌}
use mathlib.Core.List.{List, ◌++◌, append-nil}
use native.Mathlib.Decide.{dec_le}
use native.Mathlib.Omega.{arith}
use lib.ListN.{length, take, drop, get_or}
use lib.Seq.{drop-drop, take-add, take_all, take-take}
use Rattle.octets.specs.Bytes.{Bytes}
use Rattle.octets.specs.Parts.{part, zeros, all_zero}
use Rattle.octets.proofs.Built.{built_at}
use Rattle.octets.proofs.Tests.{both}
use Rattle.octets.proofs.Parts.{length_part}
use Rattle.amount.specs.declared.Amount.{Amount}
use Rattle.account.specs.declared.Account.{Account}
use Rattle.account.specs.declared.Head.{Head}
use Rattle.account.specs.declared.Position.{Position}
use Rattle.account.specs.Head.{no_account}
use Rattle.head_form.specs.Alike.{Alike, SameAccount}
use Rattle.head_form.specs.Form.{account_bytes, front_bytes, account_from, head_from, place_at, place_formed, places_formed, is_formed}
use Rattle.head_form.proofs.Encoded.{account_kept, formed_facts, front_kept, place-past, place_used, places-next, zeros-kept}

-- a name's 32 bytes are the bytes that it says, and zeros
name_zeros : (b : List ℕ) (at n : ℕ) → at + 32 ≤ length b → all_zero (part b (at + n) (32 - n)) ≡ true →
    part b at 32 ≡ take n (part b at 32) ++ zeros (32 - n)
unfolding zeros
name_zeros b at n h z = elim (dec_le n 32) [
  | yes short ↦
      let q = drop at b in
      let whole : n + (32 - n) ≡ 32 = omega arith in
      ap (λ (w : ℕ). take w q) (sym whole) ∙ take-add n (32 - n) q
      ∙ rw (drop-drop n at b, take-take n 32 q short, zeros-kept b (at + n) (32 - n) (omega arith) z)
  | no long ↦
      let none : 32 - n ≡ 0 = omega arith in
      rw (none, append-nil (take n (part b at 32))) (sym (take_all n (part b at 32) (omega (arith, length_part b at 32 h))))
]

-- two accounts with the same fields
account_same : {name name' : List ℕ} {length length' : ℕ} {cap cap' : Amount} {position position' : Position} →
    name ≡ name' → length ≡ length' → cap ≡ cap' → position ≡ position' →
    ◌≡◌ {A = Account} (record { name = name; length = length; cap = cap; position = position })
    (record { name = name'; length = length'; cap = cap'; position = position' })
account_same e1 e2 e3 e4 = rw (e1, e2, e3, e4)

-- two names that say the same, with zeros after both
names_same : (b c : List ℕ) (at : ℕ) → at + 32 ≤ length b → at + 32 ≤ length c →
    SameAccount (account_from b at) (account_from c at) →
    all_zero (part b (at + get_or b (at + 52) 0) (32 - get_or b (at + 52) 0)) ≡ true →
    all_zero (part c (at + get_or c (at + 52) 0) (32 - get_or c (at + 52) 0)) ≡ true → part b at 32 ≡ part c at 32
unfolding account_from
names_same b c at g h s y z =
    name_zeros b at (get_or b (at + 52) 0) g y ∙ ap (λ (l : List ℕ). l ++ zeros (32 - get_or b (at + 52) 0)) s.name
    ∙ ap (λ (n : ℕ). take (get_or c (at + 52) 0) (part c at 32) ++ zeros (32 - n)) s.length
    ∙ sym (name_zeros c at (get_or c (at + 52) 0) h z)

-- two slices whose accounts at place k say the same
abbrev Agree : List ℕ → List ℕ → ℕ → Type 0
Agree b c k = SameAccount (account_from b (place_at k)) (account_from c (place_at k))

module _ (b c : List ℕ) (bytes_b : Bytes b) (bytes_c : Bytes c) (long_b : length b ≡ 2080) (long_c : length c ≡ 2080) (count : ℕ) where
  place_same : (k : ℕ) → k < 32 → place_formed b count k ≡ true → place_formed c count k ≡ true → (k < count → Agree b c k) →
      part b (place_at k) 64 ≡ part c (place_at k) 64
  unfolding account_from
  place_same k h y z s =
      let in_b : place_at k + 64 ≤ length b = omega arith in
      let in_c : place_at k + 64 ≤ length c = omega arith in
      elim (dec_le count k) [
        | yes past ↦
            sym (zeros-kept b (place_at k) 64 in_b (place-past b count k y past))
            ∙ zeros-kept c (place_at k) 64 in_c (place-past c count k z past)
        | no used ↦
            let same = s (omega arith) in
            let of_b = place_used b count k y (omega arith) in
            let of_c = place_used c count k z (omega arith) in
            let name = names_same b c (place_at k) (omega arith) (omega arith) same of_b.0 of_c.0 in
            sym (account_kept b bytes_b (place_at k) in_b of_b.1)
            ∙ ap account_bytes (account_same name same.length same.cap same.position)
            ∙ account_kept c bytes_c (place_at k) in_c of_c.1
      ]

  -- the first n account places
  places_same : (n : ℕ) → n ≤ 32 → places_formed b count n ≡ true → places_formed c count n ≡ true →
      ((k : ℕ) → k < 32 → k < count → Agree b c k) → part b 32 (n * 64) ≡ part c 32 (n * 64)
  unfolding places_formed
  places_same zero h y z s = refl
  places_same (suc n) h y z s =
      let of_b = both (places_formed b count n) (place_formed b count n) y in
      let of_c = both (places_formed c count n) (place_formed c count n) z in
      rw (
        places-next b n,
        places-next c n,
        places_same n (omega arith) of_b.0 of_c.0 s,
        place_same n (omega arith) of_b.1 of_c.1 (s n (omega arith)),
      )

front_same : (g h : Head) → Alike g h → front_bytes g ≡ front_bytes h
unfolding front_bytes
front_same g h s = rw (s.time, s.currency, s.count, s.slots, s.places, s.finished)

pub head-same : (b c : List ℕ) → Bytes b → Bytes c → is_formed b ≡ true → is_formed c ≡ true → Alike (head_from b) (head_from c) → b ≡ c
unfolding head_from
head-same b c bytes_b bytes_c y z s =
    let of_b = formed_facts b y in
    let of_c = formed_facts c z in
    let at_b = built_at (λ j. account_from b (place_at j)) no_account 32 in
    let at_c = built_at (λ j. account_from c (place_at j)) no_account 32 in
    let agree : (k : ℕ) → k < 32 → k < get_or b 11 0 → Agree b c k = λ k h g. rw (at_b k h, at_c k h) at (s.each k g) in
    let front : take 32 b ≡ take 32 c =
    sym (front_kept b bytes_b (omega (arith, of_b.0)) of_b.1) ∙ front_same (head_from b) (head_from c) s
    ∙ front_kept c bytes_c (omega (arith, of_c.0)) of_c.1 in
    let places = places_same b c bytes_b bytes_c of_b.0 of_c.0 (get_or b 11 0) 32 (omega arith) of_b.2 (rw s.count of_c.2) agree in
    sym (take_all 2080 b (omega (arith, of_b.0))) ∙ take-add 32 2048 b ∙ rw (front, places) (sym (take-add 32 2048 c))
    ∙ take_all 2080 c (omega (arith, of_c.0))
