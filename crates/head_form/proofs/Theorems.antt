-- What a reader can rely on: a head is read back as it was written, a slice of the form is written back as it was read, what is read of
-- 2,080 bytes fits its places, and the form leaves no two ways to say the same.
use mathlib.Core.Bool.{true}
use mathlib.Core.List.{List}
use mathlib.Core.Path.{◌≡◌}
use Prim.Native.Nat.{ℕ}
use lib.ListN.{length}
use Rattle.octets.specs.Bytes.{Bytes}
use Rattle.account.specs.declared.Head.{Head}
use Rattle.head_form.specs.Alike.{Alike}
use Rattle.head_form.specs.Fits.{Fits}
use Rattle.head_form.specs.Form.{head_bytes, head_from, is_formed}
use Rattle.head_form.proofs.Decoded.{head_read}
use Rattle.head_form.proofs.Encoded.{head-kept, head-fits}
use Rattle.head_form.proofs.Same.{head-same}

-- decode of encode is the head
pub decode_of_encode : (h : Head) → Fits h → head_from (head_bytes h) ≡ h
decode_of_encode = head_read

-- encode of decode is the bytes
pub encode_of_decode : (b : List ℕ) → Bytes b → is_formed b ≡ true → head_bytes (head_from b) ≡ b
encode_of_decode = head-kept

-- a head that was read fits, of the form or not
pub decoded_fits : (b : List ℕ) → Bytes b → length b ≡ 2080 → Fits (head_from b)
decoded_fits = head-fits

-- docs/HEAD.md: "two heads of the form that say the same are the same bytes"
pub same_bytes : (b c : List ℕ) → Bytes b → Bytes c → is_formed b ≡ true → is_formed c ≡ true → Alike (head_from b) (head_from c) → b ≡ c
same_bytes = head-same
