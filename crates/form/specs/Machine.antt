-- Judging by tables: a class for each byte, and for each state a row of 32 numbers, the end of the text first and then the classes;
-- 255 stops.
use Rattle.std.specs.Prelude.{ℕ, suc, ◌*◌, List, [], ◌∷◌, cond, eqb, get_or, drop}
use Rattle.form.specs.Verdict.{Verdict, of_form, stops_at}

-- what stands in the row of the state q for the class k
abbrev pub entry : List ℕ → ℕ → ℕ → ℕ
entry next q k = get_or (drop (q * 32) next) k 255

-- in the state q after n bytes, with these bytes to come
unfoldable pub machine : List ℕ → List ℕ → ℕ → ℕ → List ℕ → Verdict
machine class next n q [] = cond (eqb (entry next q 0) 255) (stops_at n) of_form
machine class next n q (c ∷ cs) =
    cond (eqb (entry next q (get_or class c 0)) 255) (stops_at n) (machine class next (suc n) (entry next q (get_or class c 0)) cs)
