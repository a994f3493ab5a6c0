-- The three texts of a fulfil.
use mathlib.Core.Path.{◌≡◌}
use mathlib.Core.Bool.{true, ◌&&◌}
use lib.ListN.{length}
use Rattle.octets.proofs.Tests.{and_right}
use Rattle.form.specs.Regex.{judge}
use Rattle.form.specs.Listings.{name_form, id_form, condition_form}
use Rattle.base64url.specs.Condition.{read_condition}
use Rattle.base64url.proofs.Theorems.{held}
use Rattle.rules.specs.Calls.{Text, fulfil, is_of, in_form, condition_of}
use Rattle.rules.proofs.Fields.{fits_form}

-- a fulfilment in form has 32 bytes
pub fulfilment_long : (sender id fulfilment : Text) → in_form (fulfil sender id fulfilment) ≡ true → length (condition_of fulfilment) ≡ 32
unfolding read_condition
fulfilment_long sender id fulfilment e =
    let two = and_right (is_of name_form sender) (is_of id_form id && is_of condition_form fulfilment) e in
    let of_it = and_right (is_of id_form id) (is_of condition_form fulfilment) two in
    (held fulfilment (condition_of fulfilment) (rw (fits_form (judge condition_form fulfilment) of_it))).0
