-- A name in form has at most 32 bytes.
use Prim.Native.Nat.{ℕ, ◌≤◌}
use mathlib.Core.Path.{◌≡◌, refl, ap}
use mathlib.Core.Bool.{true}
use mathlib.Core.List.{List}
use native.Mathlib.Omega.{arith}
use lib.ListN.{length, length-append}
use Rattle.form.specs.Regex.{range, upto, judge}
use Rattle.form.specs.Listings.{name_form}
use Rattle.form.specs.Matches.{Matches, one, joined, stop, again}
use Rattle.form.proofs.Meaning as meaning
use Rattle.rules.specs.Calls.{Text, is_of}
use Rattle.rules.proofs.Fields.{fits_form}

one_byte : {a b : ℕ} {s : List ℕ} → Matches (range a b) s → length s ≡ 1
one_byte (one c h k) = refl

at_most : {a b n : ℕ} {s : List ℕ} → Matches (upto n (range a b)) s → length s ≤ n
at_most stop = omega arith
at_most (again u v e p q) = omega (arith, ap length e, length-append u v, one_byte p, at_most q)

named : {s : List ℕ} → Matches name_form s → length s ≤ 32
named (joined u v e p q) = omega (arith, ap length e, length-append u v, one_byte p, at_most q)

pub name_short : (s : Text) → is_of name_form s ≡ true → length s ≤ 32
name_short s e = named ((meaning.fits name_form s).0 (fits_form (judge name_form s) e))
