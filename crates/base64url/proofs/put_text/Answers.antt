-- `put_text` meets its contract: the letters written and the text of the bytes to come are the text of all bytes.
use Rattle.std.proofs.Common.{◌*◌, arith, ◌≡◌, ◌<◌, ◌∙◌, ap, ℕ, take, List, ◌++◌, map, get_or}
use Rattle.base64url.specs.Letters.{letter_of}
use Rattle.base64url.specs.Condition.{four_values}
use Rattle.base64url.proofs.Turns.{length_put, put_last, chunk_of_three, write_turn, write_end}
use Rattle.base64url.proofs.put_text.Goals as goal

pub loop-k-preserved : goal.loop-k-preserved
loop-k-preserved c =
    let l = c.loop-k in
    let b = c.args.bytes.now in
    let new = c.copy_from_slice.ensures in
    let cut = c.as_chunks.ensures in
    let k : l.k < 10 = omega (arith, cut.front_len) in
    let three = ap (λ (f : List ℕ). map letter_of (four_values (get_or f 0 0) (get_or f 1 0) (get_or f 2 0)))
    (chunk_of_three b _ l.k cut.front (omega (arith, cut.front_len))) in (
      length_put l.text _ (l.k * 4) _ new.len (omega arith) ∙ l.invariant.0,
      write_turn b l.text _ c.requires l.invariant.0 l.k _ _ k (new.after ∙ c.letters_of.ensures ∙ three) l.invariant.1,
    )

pub returns : goal.returns
returns c =
    let l = c.loop-k in
    let e : l.k ≡ 10 = omega (arith, c.as_chunks.ensures.front_len) in
    put_last l.text _ 40 3 l.invariant.0 ∙ ap (λ (z : List ℕ). take 40 l.text ++ z) c.copy_from_slice-2.ensures.after
    ∙ write_end c.args.bytes.now l.text _ c.requires l.invariant.0 _ c.letters_of-last.ensures (rw e at l.invariant.1)
