-- `find`: what passes first is the first such byte of the rest.
use mathlib.Core.Path.{◌≡◌, refl, ap, sym, ◌∙◌}
use mathlib.Core.Bool.{Bool, true, false, cond, not}
use native.Mathlib.Omega.{arith}
use lib.Dec.{eqb, ltb}
use lib.ListN.{length, take, drop, length-drop}
use lib.Seq.{take_all}
use borrow.Author.Tests.{tests, ltb-false}
use borrow.Author.Rules.{rules}
use Rattle.std.specs.Prelude.{ℕ, List, Option, Some, None, ◌≤◌, ◌-◌, ◌+◌}
use Rattle.std.proofs.lemmas.List.Sums.{prefix_len-le-length}
use Rattle.std.proofs.lemmas.Iterator.Search.{position_from_yields_List}
use Rattle.std.proofs.lemmas.Iterator.{YieldsList-from_slice}
use Rattle.lines.specs.Lines.{index_of}
use Rattle.lines.proofs.find.Goals as goal

abbrev nothing : Option ℕ
nothing = None

abbrev answer : ℕ → List ℕ → Option ℕ
answer b t = cond (ltb (index_of b t) (length t)) (Some (index_of b t)) None

found : (b : ℕ) (t : List ℕ) (i : ℕ) → Some i ≡ answer b t → i ≡ index_of b t
found b t i e = by (ltb (index_of b t) (length t)) e
  where
    by : (h : Bool) → Some i ≡ cond h (Some (index_of b t)) None → i ≡ index_of b t
    by true e = cc
    by false e = cc

missing : (b : ℕ) (t : List ℕ) → nothing ≡ answer b t → length t ≤ index_of b t
missing b t e = by (ltb (index_of b t) (length t)) refl e
  where
    by : (h : Bool) → ltb (index_of b t) (length t) ≡ h → nothing ≡ cond h (Some (index_of b t)) None → length t ≤ index_of b t
    by true s e = absurd (cc)
    by false s e = ltb-false _ _ s

module _ (s : List ℕ) (from : ℕ) (h : from ≤ length s) where
  rest : take (length s - from) (drop from s) ≡ drop from s
  rest = take_all (length s - from) (drop from s) (simp length-drop (omega arith))

  at_end : (b : ℕ) → length (drop from s) ≤ index_of b (drop from s) → length s ≡ from + index_of b (drop from s)
  at_end b m =
      let d : length (drop from s) ≡ length s - from = length-drop from s in
      let l : index_of b (drop from s) ≤ length (drop from s) = prefix_len-le-length (λ x. not (eqb x b)) (drop from s) in
      omega arith

pub returns-in-Some-clause-place : goal.returns-in-Some-clause-place
returns-in-Some-clause-place c =
    let s = c.args.text.now in
    let p = position_from_yields_List (λ (x : ℕ). eqb x c.args.byte) _ _ c.position.result c.position.ensures.ran
    (YieldsList-from_slice _ c.iter.ensures.rest) (λ x b q k. search (rules, tests)) in
    let q : Some c.in-Some.i ≡ answer c.args.byte (drop c.args.from s) = sym c.in-Some.is ∙ rw (sym (rest s c.args.from c.requires)) p in
    ap (λ (n : ℕ). c.args.from + n) (found c.args.byte (drop c.args.from s) _ q)

pub returns-in-None-clause-place : goal.returns-in-None-clause-place
returns-in-None-clause-place c =
    let s = c.args.text.now in
    let p = position_from_yields_List (λ (x : ℕ). eqb x c.args.byte) _ _ c.position.result c.position.ensures.ran
    (YieldsList-from_slice _ c.iter.ensures.rest) (λ x b q k. search (rules, tests)) in
    let q : nothing ≡ answer c.args.byte (drop c.args.from s) = sym c.in-None.is ∙ rw (sym (rest s c.args.from c.requires)) p in
    at_end s c.args.from c.requires c.args.byte (missing c.args.byte (drop c.args.from s) q)
