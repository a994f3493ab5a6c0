-- What is read of the rest of a text, part way: the contracts of the reader's inner functions. No public promise cites these.
use Rattle.std.specs.Prelude.{ℕ, zero, suc, ◌+◌, ◌*◌, ◌≤◌, ◌≡◌, List, ◌++◌, cond, ltb, length, take, drop}
use Prim.Native.Char.{code}
use Rattle.octets.specs.Ascii.{ascii}
use Rattle.form.specs.Regex.{Re, none, empty, upto, ◌·◌, ◌⋯◌, char, opt, judge_from}
use Rattle.form.specs.Listings as Listings
use Rattle.octets.specs.Decimal.{decimal_from, decimal}
use Rattle.amount.specs.Amount.{AmountRead, read_amount, amount_of, before_point, after_point}
use Rattle.form.specs.Verdict.{value_by}

-- what the form has after the whole part, and after the point with at most k digits before the last
abbrev pub places_form : ℕ → Re
places_form k = upto k Listings.digit · "1" ⋯ "9"

abbrev pub tail_form : Re
tail_form = opt (char "." · places_form 3)

-- at most k digits more before the point, after the n bytes with the digits of u
unfoldable pub whole_rest : ℕ → ℕ → ℕ → List ℕ → AmountRead
whole_rest k n u t =
    value_by (judge_from (upto k Listings.digit · tail_form) n t)
    (amount_of (decimal_from u (before_point t) * 10000 + decimal (take 4 (after_point t ++ ascii "0000"))))

-- after n bytes with the digits of u, where no digit may follow, the rest of s reads as all of it
abbrev pub ReadTo : ℕ → ℕ → List ℕ → Type 0
ReadTo n u s = (n ≤ length s) × (whole_rest 0 n u (drop n s) ≡ read_amount s)

-- at most k places more, after a byte `last`: only after a digit 1 to 9 may the text end
abbrev pub left : ℕ → ℕ → Re
left zero last = cond (ltb (code "0") last) empty none
left (suc k) last = cond (ltb (code "0") last) (opt (places_form k)) (places_form k)

-- the same for values: u units, and p ten-thousandths in the places before
unfoldable pub places_rest : ℕ → ℕ → ℕ → ℕ → ℕ → List ℕ → AmountRead
places_rest k last n u p t = value_by (judge_from (left k last) n t) (amount_of (u * 10000 + (p + decimal (take k (t ++ ascii "0000")))))
