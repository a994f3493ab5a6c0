-- What texts in form are worth: an abort code's number and an instant lie within the bytes that hold them.
use Prim.Native.Nat.{◌<◌, ◌^◌}
use mathlib.Core.Path.{◌≡◌, refl}
use mathlib.Core.Bool.{Bool, true, false}
use native.Mathlib.Omega.{arith}
use lib.Dec.{T}
use lib.IntN.{pos, neg_ℤ}
use mir.Syntax.{w64}
use mir.Val.{SFits}
use Rattle.octets.proofs.Integers.{le_split, fits_split}
use Rattle.form.specs.Regex.{Re, judge}
use Rattle.form.specs.Listings.{code_form, date_time_form}
use Rattle.form.specs.Verdict.{of_form}
use Rattle.form.proofs.Meaning.{fits as meaning}
use Rattle.form.proofs.Places.{matched_bytes}
use Rattle.tokens.proofs.FourDigits.{in_range}
use Rattle.datetime.specs.Instant.{instant_of}
use Rattle.datetime.proofs.Theorems.{form}
use Rattle.rules.proofs.Fields.{fits_form, instant_value}
use Rattle.rules.specs.Calls.{Text, is_of, code_of}

-- a text that is of a form is judged to be
judged : (r : Re) (s : Text) → is_of r s ≡ true → judge r s ≡ of_form
judged r s e = fits_form (judge r s) e

pub code_small : (s : Text) → is_of code_form s ≡ true → code_of s < 2 ^ 16
code_small s e = omega (arith, (in_range s (judged code_form s e)).1)

-- an instant is held in eight bytes
passed : (t : Bool) → T t → t ≡ true
passed true p = refl
passed false p = absurd p

pub instant_fits : (s : Text) → is_of date_time_form s ≡ true → SFits w64 (instant_of s)
instant_fits s e =
    let j = judged date_time_form s e in
    let r = (form s (matched_bytes ((meaning date_time_form s).0 j) tt)).0 j in
    let least = le_split (neg_ℤ (pos 30610295940000)) r.instant (passed _ r.least) in
    let most = le_split r.instant (pos 253402372739999) (passed _ r.most) in
    rw (instant_value s r.instant r.value).1 (fits_split r.instant (omega arith) (omega arith))
