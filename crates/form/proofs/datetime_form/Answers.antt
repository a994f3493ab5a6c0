-- `form::datetime_form` meets its contract: its table goes by the listing, by one computed test.
use native.Mathlib.Decide.{ℕ_discrete}
use Rattle.form.specs.Listings.{date_time_form}
use Rattle.form.proofs.Same.{same}
use Rattle.form.proofs.Judged.{judges}
use Rattle.form.proofs.Words.{date_time_words}
use Rattle.form.proofs.datetime_form.Goals as goal

pub returns : goal.returns
unfolding date_time_words same ℕ_discrete
returns c = judges date_time_form date_time_words _ _ _ _ c.run.ensures.0 c.run.ensures.1 tt
