-- The P rows of 01 about DateTime, by computation, and some of its other rows.
use mathlib.Core.Path.{◌≡◌, refl}
use lib.IntN.{pos, neg_ℤ}
use Rattle.octets.specs.Ascii.{ascii}
use Rattle.datetime.specs.Calendar.{before}
use Rattle.datetime.specs.Instant.{time_of, offset_after, epoch, read_date_time}
use Rattle.form.specs.Verdict.{stops_at}
use Rattle.std.specs.Prelude.{Ok}

-- "P `2016-05-24T08:38:08.699Z` is 1464079088699"
pub example_utc : read_date_time (ascii "2016-05-24T08:38:08.699Z") ≡ Ok (pos 1464079088699)
unfolding read_date_time time_of offset_after epoch before
example_utc = refl

-- "with `-04:00` 1464093488699"
pub example_offset : read_date_time (ascii "2016-05-24T08:38:08.699-04:00") ≡ Ok (pos 1464093488699)
unfolding read_date_time time_of offset_after epoch before
example_offset = refl

-- "P `1969-12-31T23:59:59.999Z` is -1"
pub example_before : read_date_time (ascii "1969-12-31T23:59:59.999Z") ≡ Ok (neg_ℤ (pos 1))
unfolding read_date_time time_of offset_after epoch before
example_before = refl

-- "`2000-02-29T00:00:00.000Z` is 951782400000; the same day in 1900 is refused", at its 9
pub leap_2000 : read_date_time (ascii "2000-02-29T00:00:00.000Z") ≡ Ok (pos 951782400000)
unfolding read_date_time time_of offset_after epoch before
leap_2000 = refl

pub common_1900 : read_date_time (ascii "1900-02-29T00:00:00.000Z") ≡ stops_at 9
unfolding read_date_time
common_1900 = refl

-- "`9999-12-31T23:59:59.999-19:59` reads": 19:59 after the writer's last instant
pub last-text : read_date_time (ascii "9999-12-31T23:59:59.999-19:59") ≡ Ok (pos 253402372739999)
unfolding read_date_time time_of offset_after epoch before
last-text = refl

-- and 19:59 before its first
pub first-text : read_date_time (ascii "1000-01-01T00:00:00.000+19:59") ≡ Ok (neg_ℤ (pos 30610295940000))
unfolding read_date_time time_of offset_after epoch before
first-text = refl
