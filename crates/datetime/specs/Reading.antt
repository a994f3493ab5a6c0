-- How a text is read, part by part: each part has a value, or it stops at a byte, and the next is read only after it. This is the shape
-- of the reader's code, and no promise cites it: that it is what the listing and the value of a text say is proved. Past the end every
-- byte is taken as 0, which stands in no text of the form.
use Rattle.std.specs.Prelude.{ℕ, ◌+◌, ◌*◌, ◌/◌, ◌%◌, Bool, cond, ◌&&◌, List, eqb, leb, length, get_or, ℤ, Option, Some, None, Result, Ok, Err}
use Prim.Native.Char.{code}
use Rattle.std.proofs.Math.IntN.{sub_ℕ}
use Rattle.form.specs.declared.Stop.{Stop}
use Rattle.form.specs.Verdict.{Verdict, of_form, stops_at}
use Rattle.datetime.specs.Calendar.{day_number}
use Rattle.datetime.specs.Instant.{digit_of}
use Rattle.datetime.specs.Plain.{is_digit, pair, pair_at, is, leap_in, month_length}

-- one part and then another, by the value of the first
abbrev pub and_then : {A B : Type 0} → Result A Stop → (A → Result B Stop) → Result B Stop
and_then (Ok a) f = f a
and_then (Err e) f = Err e

abbrev pub within : ℕ → ℕ → ℕ → Bool
within least most v = leb least v && leb v most

-- some number from least to most begins with this digit
abbrev pub begins : ℕ → ℕ → ℕ → Bool
begins least most c = within (code "0" + least / 10) (code "0" + most / 10) c

-- the number of two digits
abbrev pub two : ℕ → ℕ → Option ℕ
two a b = cond (is_digit a && is_digit b) (Some (pair a b)) None

-- where two digits stop that show no number from least to most
abbrev pub pair_stop : List ℕ → ℕ → ℕ → ℕ → ℕ
pair_stop s i least most = cond (begins least most (get_or s i 0)) (i + 1) i

-- the number from least to most that two digits show
unfoldable pub two_digits : List ℕ → ℕ → ℕ → ℕ → Result ℕ Stop
two_digits s i least most = cond (within least most (pair_at s i)) (Ok (pair_at s i)) (stops_at (pair_stop s i least most))

-- the same with the mark c before them
unfoldable pub marked : List ℕ → ℕ → ℕ → ℕ → ℕ → Result ℕ Stop
marked s i c least most = cond (is s i c) (two_digits s (i + 1) least most) (stops_at i)

-- the days of a month, by the two halves of its year
abbrev pub days_of : ℕ → ℕ → ℕ → ℕ
days_of c x m = month_length (leap_in (eqb (c % 4) 0) x) m

-- `yyyy-MM-dd`, to the place 10: the number of the day
unfoldable pub date : List ℕ → Result ℕ Stop
date s =
    and_then (two_digits s 0 10 99) (λ c.
    and_then (two_digits s 2 0 99) (λ x.
    and_then (marked s 4 (code "-") 1 12) (λ m.
    and_then (marked s 7 (code "-") 1 (days_of c x m)) (λ d.
    Ok (day_number (c * 100 + x) m d)))))

-- `THH:mm:ss.SSS`, to the place 23: the milliseconds of the day
unfoldable pub clock : List ℕ → Result ℕ Stop
clock s =
    and_then (marked s 10 (code "T") 0 23) (λ h.
    and_then (marked s 13 (code ":") 0 59) (λ n.
    and_then (marked s 16 (code ":") 0 59) (λ t.
    and_then (marked s 19 (code ".") 0 99) (λ u.
    cond (is_digit (get_or s 22 0)) (Ok (h * 3600000 + n * 60000 + t * 1000 + (u * 10 + digit_of (get_or s 22 0)))) (stops_at 22)))))

-- nothing goes on after the place n
abbrev pub ended : List ℕ → ℕ → Verdict
ended s n = cond (eqb (length s) n) of_form (stops_at n)

-- HH:MM of an offset, to the place 29, where the text ends: its milliseconds
unfoldable pub offset : List ℕ → Result ℕ Stop
offset s =
    and_then (two_digits s 24 0 19) (λ h.
    and_then (marked s 26 (code ":") 0 59) (λ n.
    and_then (ended s 29) (λ e.
    Ok (h * 3600000 + n * 60000))))

-- the instant, by the zone, of so many milliseconds on the text's own clock
unfoldable pub zoned : List ℕ → ℕ → Result ℤ Stop
zoned s n =
    cond (is s 23 (code "Z")) (and_then (ended s 24) (λ e. Ok (sub_ℕ n 62167219200000)))
    (cond (is s 23 (code "+")) (and_then (offset s) (λ o. Ok (sub_ℕ n (62167219200000 + o))))
    (cond (is s 23 (code "-")) (and_then (offset s) (λ o. Ok (sub_ℕ (n + o) 62167219200000))) (stops_at 23)))

unfoldable pub reading : List ℕ → Result ℤ Stop
reading s = and_then (date s) (λ d. and_then (clock s) (λ t. zoned s (d * 86400000 + t)))
