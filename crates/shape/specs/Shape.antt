-- When a book is of the shape: 01's paragraph "Shape", sentence by sentence, without the machine's limits.
use Rattle.std.specs.Prelude.{ℕ, ◌+◌, ◌*◌, Bool, true, cond, not, ◌&&◌, ◌||◌, List, [], ◌∷◌, eqb, leb, ltb, length, drop, ℤ, pos, ◌+ℤ◌}
use Rattle.std.specs.Int.Signed.{le_z}
use Rattle.octets.specs.Lists.{all, sum}
use Rattle.octets.specs.Parts.{same, all_zero}
use Rattle.form.specs.Listings.{name_form}
use Rattle.account.specs.declared.Account.{Account}
use Rattle.account.specs.Position.{worth, value}
use Rattle.account.specs.Head.{name_of, accounts_of}
use Rattle.record.specs.Layout.{Row, num, amount_of, is_free, state_field, payer_field, payee_field, ended_by_field, remainder_field, units_field}
use Rattle.rules.specs.Calls.{is_of}
use Rattle.rules.specs.Rules.{highest_cap, sameℤ}
use Rattle.shape.specs.Reading.{Book, names_of, open_rows, ended_rows, open_count}

-- "Book lengths are those noted at opening and within the limits"
abbrev pub lengths_ok : Book → Bool
lengths_ok b =
    eqb (length b.opened) (b.head.slots * 160) && (leb 1 b.head.slots && (leb b.head.slots 1024
    && (eqb (length b.ended) (b.head.places * 160) && (leb 1 b.head.places && leb b.head.places 65535))))

-- "names in form, caps at most 10^17 units, .. remainders below 10,000 and positions at most 10^17 units"
unfoldable pub account_ok : Account → Bool
account_ok a =
    (leb a.length 32 && is_of name_form (name_of a))
    && ((leb (worth a.cap) highest_cap && ltb a.cap.remainder 10000)
    && (le_z (value a.position) (pos highest_cap) && ltb a.position.remainder 10000))

-- "no name twice"
abbrev pub none_twice : List (List ℕ) → Bool
none_twice [] = true
none_twice (n ∷ ns) = all (λ m. not (same m n)) ns && none_twice ns

-- "parties are existing accounts and differ, amounts are in range"
unfoldable pub record_ok : ℕ → Row → Bool
record_ok accounts r =
    (ltb (num payer_field r) accounts && (ltb (num payee_field r) accounts && not (eqb (num payer_field r) (num payee_field r))))
    && (ltb (num units_field r) 1000000000000000000 && ltb (num remainder_field r) 10000)

-- "each open record has state 2 and ended-by 0, free slots are zero"
unfoldable pub open_ok : ℕ → Row → Bool
open_ok accounts r = cond (is_free r) (all_zero r) ((eqb (num state_field r) 2 && eqb (num ended_by_field r) 0) && record_ok accounts r)

-- "the first finished records, as many as the head says, have state 3 with ended-by 1 or state 4 with 2 or 3"
unfoldable pub ended_ok : ℕ → Row → Bool
ended_ok accounts r =
    ((eqb (num state_field r) 3 && eqb (num ended_by_field r) 1) || (eqb (num state_field r) 4 && (eqb (num ended_by_field r) 2 || eqb (num ended_by_field r) 3)))
    && record_ok accounts r

-- the positions together, in ten-thousandths
abbrev pub total : List Account → ℤ
total [] = pos 0
total (a ∷ rest) = value a.position +ℤ total rest

unfoldable pub shape : Book → Bool
shape b =
    lengths_ok b
    -- "at most 32 accounts"
    && (leb b.head.count 32
    && (all account_ok (accounts_of b.head)
    && (none_twice (names_of b.head)
    && (all (open_ok b.head.count) (open_rows b)
    && (all (ended_ok b.head.count) (ended_rows b)
    -- "the rest are zero"
    && (all_zero (drop (b.head.finished * 160) b.ended)
    -- "open and finished together are no more than the finished book's places"
    && (leb (open_count b + b.head.finished) b.head.places
    -- "positions sum to the open amounts"
    && sameℤ (total (accounts_of b.head)) (pos (sum amount_of (open_rows b))))))))))
