-- `read_id` meets its contract: verdict and bytes are those of `read_into`.
use Rattle.std.proofs.Common.{◌≡◌, sym, ap, cond, List, ℕ, Result, Ok, Err, is_ok, ◌∙◌}
use Rattle.std.specs.Prelude.{IsErrAnd, ⊤}
use Rattle.std.proofs.lemmas.Result.{err_from_is_err_and}
use Rattle.form.specs.Regex.{judge}
use Rattle.form.specs.Listings.{id_form}
use Rattle.form.specs.Verdict.{Verdict, value_by}
use Rattle.form.specs.declared.Stop.{Stop}
use Rattle.uuid_text.specs.Id.{id_of, id_left, read_id}
use Rattle.uuid_text.proofs.read_id.Goals as goal

module _ (s : List ℕ) {r : Verdict} (e : r ≡ judge id_form s) where
  went : {u : ⊤} (id old : List ℕ) → r ≡ Ok u → id ≡ id_left s old → Ok id ≡ read_id s
  unfolding read_id
  went {u} id old w g =
      let fit : judge id_form s ≡ Ok u = sym e ∙ w in
      ap Ok (g ∙ ap (λ (v : Verdict). cond (is_ok v) (id_of s) old) fit) ∙ sym (ap (λ (v : Verdict). value_by v (id_of s)) fit)

  halts : {y : Stop} {out : Result (List ℕ) Stop} → r ≡ Err y → IsErrAnd out (λ x. x ≡ y) → out ≡ read_id s
  unfolding read_id
  halts {y} {out} w o =
      let p = err_from_is_err_and out o in
      p.1 ∙ ap (λ (x : Stop). Err x) p.2 ∙ sym (ap (λ (v : Verdict). value_by v (id_of s)) (sym e ∙ w))

pub returns-in_err-read_into : goal.returns-in_err-read_into
returns-in_err-read_into c = halts _ c.read_into.ensures.verdict c.in_err-read_into.was c.from_residual.ensures.1

pub returns : goal.returns
returns c = went _ c.read_into.ensures.verdict _ _ c.in_ok-read_into.was c.read_into.ensures.bytes
