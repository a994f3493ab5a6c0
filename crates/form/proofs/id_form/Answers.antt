-- `form::id_form` meets its contract: its table goes by the listing, by one computed test.
use native.Mathlib.Decide.{ℕ_discrete}
use Rattle.form.specs.Listings.{id_form}
use Rattle.form.proofs.Same.{same}
use Rattle.form.proofs.Judged.{judges}
use Rattle.form.proofs.Words.{id_words}
use Rattle.form.proofs.id_form.Goals as goal

pub returns : goal.returns
unfolding id_words same ℕ_discrete
returns c = judges id_form id_words _ _ _ _ c.run.ensures.0 c.run.ensures.1 tt
