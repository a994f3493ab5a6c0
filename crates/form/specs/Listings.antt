-- The published forms, character by character. 000 is the API Definition, 001 the Logical Data Model.
use Rattle.form.specs.Regex.{Re, upto, ◌·◌, ◌∣◌, ◌⋯◌, char, times, opt}

-- \d
abbrev pub digit : Re
digit = "0" ⋯ "9"

-- [0-9a-f]
abbrev pub hex : Re
hex = digit ∣ "a" ⋯ "f"

-- [A-Za-z0-9-_]
abbrev pub letter : Re
letter = "A" ⋯ "Z" ∣ "a" ⋯ "z" ∣ digit ∣ char "-" ∣ char "_"

-- 000, listing 23: ^([0]|([1-9][0-9]{0,17}))([.][0-9]{0,3}[1-9])?$
abbrev pub amount_form : Re
amount_form = (char "0" ∣ ("1" ⋯ "9" · upto 17 digit)) · opt (char "." · upto 3 digit · "1" ⋯ "9")

-- 000, listing 26, and 001, listing 14: ^[0-9a-f]{8}-[0-9a-f]{4}-[1-5][0-9a-f]{3}-[89ab][0-9a-f]{3}-[0-9a-f]{12}$
abbrev pub id_form : Re
id_form =
    times 8 hex · char "-" · times 4 hex · char "-" · "1" ⋯ "5" · times 3 hex · char "-" · ("8" ⋯ "9" ∣ "a" ⋯ "b") · times 3 hex · char "-"
    · times 12 hex

-- 001, listing 12 (000's copy, listing 24, is damaged), part by part:
-- [2468][048]|[13579][26]
abbrev pub fourth : Re
fourth =
    ((char "2" ∣ char "4" ∣ char "6" ∣ char "8") · (char "0" ∣ char "4" ∣ char "8"))
    ∣ ((char "1" ∣ char "3" ∣ char "5" ∣ char "7" ∣ char "9") · (char "2" ∣ char "6"))

-- (?:0[1-9]|1[0-2])-(?:0[1-9]|1\d|2[0-8])|(?:0[13-9]|1[0-2])-(?:29|30)|(?:0[13578]|1[02])-31
abbrev pub month_day : Re
month_day =
    ((char "0" · "1" ⋯ "9" ∣ char "1" · "0" ⋯ "2") · char "-" · (char "0" · "1" ⋯ "9" ∣ char "1" · digit ∣ char "2" · "0" ⋯ "8"))
    ∣ ((char "0" · (char "1" ∣ "3" ⋯ "9") ∣ char "1" · "0" ⋯ "2") · char "-" · (char "2" · char "9" ∣ char "3" · char "0"))
    ∣ ((char "0" · (char "1" ∣ char "3" ∣ char "5" ∣ char "7" ∣ char "8") ∣ char "1" · (char "0" ∣ char "2"))
    · char "-" · char "3" · char "1")

-- (?:[1-9]\d(?:0[48]|[2468][048]|[13579][26])|(?:[2468][048]|[13579][26])00)-02-29
abbrev pub leap_day : Re
leap_day =
    ("1" ⋯ "9" · digit · (char "0" · (char "4" ∣ char "8") ∣ fourth) ∣ fourth · char "0" · char "0")
    · char "-" · char "0" · char "2" · char "-" · char "2" · char "9"

-- T(?:[01]\d|2[0-3]):[0-5]\d:[0-5]\d(?:(\.\d{3}))
abbrev pub clock : Re
clock =
    char "T" · ("0" ⋯ "1" · digit ∣ char "2" · "0" ⋯ "3") · char ":" · "0" ⋯ "5" · digit · char ":" · "0" ⋯ "5" · digit · char "." ·
    times 3 digit

-- (?:Z|[+-][01]\d:[0-5]\d)
abbrev pub zone : Re
zone = char "Z" ∣ (char "+" ∣ char "-") · "0" ⋯ "1" · digit · char ":" · "0" ⋯ "5" · digit

-- ^(?:[1-9]\d{3}-(?:..)|..-02-29)T..$
abbrev pub date_time_form : Re
date_time_form = ("1" ⋯ "9" · times 3 digit · char "-" · month_day ∣ leap_day) · clock · zone

-- 000, listing 28: ^[A-Za-z0-9-_]{43}$
abbrev pub condition_form : Re
condition_form = times 43 letter

-- 000, listing 27, ^[A-Za-z0-9-_]+[=]{0,2}$, of 1 to 32,768 characters: no `=`, one, or two
abbrev pub packet_form : Re
packet_form = letter · (upto 32767 letter ∣ upto 32766 letter · char "=" ∣ upto 32765 letter · char "=" · char "=")

-- 000, listing 18: ^[1-9]\d{3}$
abbrev pub code_form : Re
code_form = "1" ⋯ "9" · times 3 digit

-- 01: "FSP name: 1 to 32 bytes, 0x21 to 0x7E"
abbrev pub name_form : Re
name_form = "!" ⋯ "~" · upto 31 ("!" ⋯ "~")

-- 01: "Currency: three letters A-Z"
abbrev pub currency_form : Re
currency_form = times 3 ("A" ⋯ "Z")
