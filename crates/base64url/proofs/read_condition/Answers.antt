-- `read_condition` meets its contract: the bytes taken and those of the characters to come are the bytes of the whole text, and the
-- characters to come are letters exactly if all are.
use Rattle.std.proofs.Common.{◌*◌, arith, rules, ◌≡◌, ◌<◌, ◌∙◌, ap, sym, ℕ, Ok, take, List, ◌++◌}
use Rattle.octets.proofs.Lists.{bytes}
use Rattle.base64url.specs.Scan.{group_of}
use Rattle.base64url.proofs.Read.{stopped, lacking, fitted}
use Rattle.base64url.proofs.Turns.{
  length_put,
  put_last,
  chunk_of_four,
  was_none,
  was_some,
  passed_on,
  turn_missing,
  turn_letters,
  turn_bytes,
  end_missing,
  end_letters,
  end_bytes,
}
use Rattle.base64url.proofs.read_condition.Goals as goal

pub returns-then-s-ne43 : goal.returns-then-s-ne43
returns-then-s-ne43 c =
    stopped _ (bytes c.args.s.now (λ (i : ℕ). (c.type_inv.s i).fits)) _ c.stop_of.ensures (λ l h. c.if-s-ne43.true l)

pub returns-in_err-three : goal.returns-in_err-three
returns-in_err-three c =
    let l = c.loop-k in
    let s = c.args.s.now in
    let cut = c.as_chunks.ensures in
    let k : l.k < 10 = omega (arith, cut.front_len, c.if-s-ne43.false) in
    let group = c.group_of.ensures ∙ ap group_of (chunk_of_four s _ l.k cut.front (omega (arith, cut.front_len))) in
    let w = was_none _ _ _ c.ok_or_else.ensures.cases _ c.in_err-three.was in
    let none = turn_missing s l.bytes c.if-s-ne43.false l.invariant.0 l.k k l.invariant.2 (sym group ∙ w.0) in
    passed_on _ _ _ c.from_residual.ensures.1 (λ e k. lacking s (bytes s (λ (i : ℕ). (c.type_inv.s i).fits)) e (search rules) none)

pub loop-k-preserved : goal.loop-k-preserved
loop-k-preserved c =
    let l = c.loop-k in
    let s = c.args.s.now in
    let long = c.if-s-ne43.false in
    let new = c.copy_from_slice.ensures in
    let cut = c.as_chunks.ensures in
    let k : l.k < 10 = omega (arith, cut.front_len, long) in
    let group = c.group_of.ensures ∙ ap group_of (chunk_of_four s _ l.k cut.front (omega (arith, cut.front_len))) in
    let three = sym group ∙ was_some _ _ _ c.ok_or_else.ensures.cases _ c.in_ok-three.was in (
      length_put l.bytes _ (l.k * 3) _ new.len (omega arith) ∙ l.invariant.0,
      rw new.after (turn_bytes s l.bytes long l.invariant.0 l.k k l.invariant.2 _ three _ _ l.invariant.1),
      turn_letters s l.bytes long l.invariant.0 l.k k l.invariant.2 _ three,
    )

pub returns-in_err-last : goal.returns-in_err-last
returns-in_err-last c =
    let l = c.loop-k in
    let s = c.args.s.now in
    let e : l.k ≡ 10 = omega (arith, c.as_chunks.ensures.front_len, c.if-s-ne43.false) in
    let w = was_none _ _ _ c.ok_or_else-2.ensures.cases _ c.in_err-last.was in
    let none = end_missing s l.bytes c.if-s-ne43.false l.invariant.0 (rw e at l.invariant.2) (sym c.group_of-2.ensures ∙ w.0) in
    passed_on _ _ _ c.from_residual-in_err-last.ensures.1 (λ e k. lacking s (bytes s (λ (i : ℕ). (c.type_inv.s i).fits)) e (search rules) none)

pub returns : goal.returns
returns c =
    let l = c.loop-k in
    let s = c.args.s.now in
    let long = c.if-s-ne43.false in
    let e : l.k ≡ 10 = omega (arith, c.as_chunks.ensures.front_len, long) in
    let a = rw e at l.invariant.2 in
    let last = sym c.group_of-2.ensures ∙ was_some _ _ _ c.ok_or_else-2.ensures.cases _ c.in_ok-last.was in
    ap Ok (put_last l.bytes _ 30 2 l.invariant.0 ∙ ap (λ (z : List ℕ). take 30 l.bytes ++ z) c.copy_from_slice-2.ensures.after
    ∙ end_bytes s l.bytes long l.invariant.0 a _ last _ (rw e at l.invariant.1))
    ∙ fitted s (bytes s (λ (i : ℕ). (c.type_inv.s i).fits)) long (end_letters s l.bytes long l.invariant.0 a _ last)
