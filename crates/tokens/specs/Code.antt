-- What an abort code's text reads to.
use Rattle.std.specs.Prelude.{ℕ, List, Result}
use Rattle.octets.specs.Decimal.{decimal}
use Rattle.form.specs.Regex.{judge}
use Rattle.form.specs.Listings.{code_form}
use Rattle.form.specs.Verdict.{value_by}
use Rattle.form.specs.declared.Stop.{Stop}

-- 01: "Abort code: four digits, the first not 0"
unfoldable pub read_code : List ℕ → Result ℕ Stop
read_code s = value_by (judge code_form s) (decimal s)
