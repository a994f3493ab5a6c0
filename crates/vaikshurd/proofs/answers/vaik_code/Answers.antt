-- `vaik_code`: the code of the table's answer, or a number past the table.
use borrow.Author.Rules.{rules}
use mathlib.Core.Path.{sym, ◌∙◌}
use mathlib.Core.List.{map}
use lib.ListN.{get_or-eq_default, get_or-map}
use Rattle.rules.specs.declared.Answer.TheVariants.{Done}
use Rattle.rules.specs.Answers.{code}
use Rattle.vaikshurd.specs.Packed.{answers, code_for}
use Rattle.vaikshurd.proofs.answers.vaik_code.Goals as goal

pub returns-then-k-lt25 : goal.returns-then-k-lt25
unfolding code_for
returns-then-k-lt25 c = c.from.ensures ∙ c.code.ensures ∙ sym (get_or-map code answers c.args.number Done)

pub returns : goal.returns
unfolding code_for
returns c = sym (get_or-eq_default (map code answers) 0 {n = c.args.number} (search rules))
