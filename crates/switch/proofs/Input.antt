-- How a search for the next newline comes to the lines of the input, one after the other.
use Prim.Native.Nat.{ℕ, zero, suc, ◌+◌, ◌-◌, ◌<◌, ◌≤◌}
use mathlib.Core.Path.{◌≡◌, refl, ap, sym, ◌∙◌}
use mathlib.Core.Bool.{Bool, true, false, cond}
use mathlib.Core.List.{List, [], ◌∷◌, ◌++◌}
use native.Mathlib.Omega.{arith}
use native.Mathlib.Nat.{zero-add}
use lib.ListN.{length, take, drop, length-take, length-drop}
use lib.Seq.{take_all, take_at, take-nil}
use borrow.Author.Tests.{lt-ltb, le-ltb}
use Rattle.octets.specs.Parts.{part}
use Rattle.lines.specs.Lines.{index_of, cut_at}
use Rattle.lines.proofs.Cut.{some_pieces, cut_last, cut_next}
use Rattle.switch.specs.declared.Switch.{Switch}
use Rattle.switch.specs.Switch.{answered, book, Served}
use Rattle.switch.specs.Input.{Standing, standing, after, Waiting, through_lines, waiting, bounded}

one_line : (skips : Bool) (k : Standing) (line : List ℕ) (ps : List (List ℕ)) → 0 < length ps →
    through_lines skips k (line ∷ ps) ≡ through_lines false (after k (cond skips [] line)) ps
unfolding through_lines
one_line skips k line [] h = absurd (omega arith)
one_line skips k line (next ∷ more) h = refl

-- the lines before `at` are answered: `all` is what those of the rest come to
module _ (all : Waiting) (text : List ℕ) (s : Switch) (at : ℕ) where
  abbrev pub Reached : Type 0
  Reached = through_lines s.skips (standing s) (cut_at 10 (drop at text)) ≡ all

  module _ (reached : Reached) (e : ℕ) (within : at ≤ length text) (found : e ≡ at + index_of 10 (drop at text)) where
    pub no_newline : e ≡ length text → waiting s (drop at text) ≡ all
    unfolding through_lines
    no_newline h =
        let l : length (drop at text) ≤ e - at = simp length-drop (omega arith) in
        let p : part text at (e - at) ≡ drop at text = take_all (e - at) (drop at text) l in
        rw (sym p) (rw (cut_last 10 text at e within found h) at reached)

    pub next_line : at ≤ e → e < length text → (r : Switch) →
        Served (answered (book s) s.list (cond s.skips [] (part text at (e - at)))) r →
        through_lines r.skips (standing r) (cut_at 10 (drop (e + 1) text)) ≡ all
    next_line g h r served =
        let k = standing s in
        let c : through_lines s.skips k (part text at (e - at) ∷ cut_at 10 (drop (e + 1) text)) ≡ all =
        rw (cut_next 10 text at e within found g h) at reached in
        rw (served.left, served.numbers, served.skips)
        (sym (one_line s.skips k (part text at (e - at)) (cut_at 10 (drop (e + 1) text))
        (some_pieces 10 (drop (e + 1) text))) ∙ c)

drop-take : (at k : ℕ) (l : List ℕ) → drop at (take (at + k) l) ≡ take k (drop at l)
drop-take zero k l = ap (λ (n : ℕ). take n l) (zero-add k)
drop-take (suc at) k [] = let e : suc at + k ≡ suc (at + k) = omega arith in rw (e, take-nil)
drop-take (suc at) k (x ∷ l) = let e : suc at + k ≡ suc (at + k) = omega arith in rw e (drop-take at k l)

-- what the lines leave of the buffer, moved to its front, is what waits for its newline; all of it is dropped where it fills the buffer
module _ (buf : List ℕ) (at to : ℕ) (first : at ≤ to) (last : to ≤ length buf) (all : Waiting) (s w : Switch)
    (waits : waiting s (drop at (take to buf)) ≡ all) (same : waiting w [] ≡ waiting s []) where
  rest-is : drop at (take to buf) ≡ part buf at (to - at)
  rest-is = let e : to ≡ at + (to - at) = omega arith in ap (λ (n : ℕ). drop at (take n buf)) e ∙ drop-take at (to - at) buf

  long : length (part buf at (to - at)) ≡ to - at
  long = simp (length-take, length-drop) (omega arith)

  found : waiting s (part buf at (to - at)) ≡ all
  found = rw rest-is at waits

  pub moved : (more : List ℕ) → to - at < length buf →
      waiting w (take (to - at) (part buf at (to - at) ++ more)) ≡ bounded (length buf) all
  moved more h =
      let front : take (to - at) (part buf at (to - at) ++ more) ≡ part buf at (to - at) = take_at (part buf at (to - at)) more (to - at) long in
      rw (sym found, long, lt-ltb (to - at) (length buf) h, front)
      (ap (λ (k : Waiting). record { stands = k.stands; skips = k.skips; rest = part buf at (to - at) }) same)

  pub dropped : length buf ≤ to - at → record { stands = standing w; skips = true; rest = [] } ≡ bounded (length buf) all
  dropped h =
      rw (sym found, long, le-ltb (to - at) (length buf) h)
      (ap (λ (k : Waiting). record { stands = k.stands; skips = true; rest = [] }) same)
