-- What FSP name, currency and abort code have in common: so many bytes, each of a range.
use Rattle.std.specs.Prelude.{ℕ, suc, List, [], ◌∷◌, Bool, cond, ◌&&◌, ◌||◌, ltb, leb}
use Rattle.form.specs.Verdict.{Verdict, of_form, stops_at}
use Rattle.tokens.specs.declared.Row.{Row}

-- whether a byte may stand at a place of the row
abbrev pub may_stand : Row → ℕ → ℕ → Bool
may_stand r place c = ltb place r.most && leb r.low c && leb c r.high && (ltb 0 place || leb r.first c)

-- after n bytes of the row, with these bytes to come
unfoldable pub judge_row : Row → ℕ → List ℕ → Verdict
judge_row r n [] = cond (ltb n r.fewest) (stops_at n) of_form
judge_row r n (c ∷ cs) = cond (may_stand r n c) (judge_row r (suc n) cs) (stops_at n)
