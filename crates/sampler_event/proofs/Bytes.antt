-- A number read from its highest byte down.
-- The idea: what is read is the number of the last bytes, and each turn puts one more byte below them. Assumes nothing.
use Prim.Native.Nat.{ℕ, ◌+◌, ◌*◌, ◌^◌, ◌≤◌, ◌<◌}
use mathlib.Core.Path.{◌≡◌, refl, sym, ◌∙◌}
use mathlib.Core.List.{List, [], ◌∷◌, ◌++◌, append-nil, append_assoc}
use native.Mathlib.Omega.{arith}
use native.Mathlib.Nat.{pow-suc, pow-le-pow_right, lt_of_lt_of_le}
use lib.ListN.{length, get_or, length-append}
use lib.Seq.{get_or-append_seam}
use mir.Syntax.{w8}
use mir.Val.{Fits}
use lib.Dec.{lit<}
use Rattle.sampler_event.specs.Record.{little}

-- number is that of the bytes past rest
pub record Past (bytes rest : List ℕ) (number : ℕ) : Type 0 where
  pub read : List ℕ
  pub all : bytes ≡ rest ++ read
  pub value : number ≡ little read
  pub bound : number < 256 ^ length read

pub past_none : (bytes : List ℕ) → Past bytes bytes 0
past_none bytes = record { read = []; all = sym (append-nil bytes); value = refl; bound = lit< tt }

module _ (bytes rest next : List ℕ) (number b : ℕ) (last : rest ≡ next ++ (b ∷ [])) (p : Past bytes rest number) where
  seam : bytes ≡ next ++ (b ∷ p.read)
  seam = p.all ∙ rw last (append_assoc next (b ∷ []) p.read)

  -- the byte is one of them
  pub past_byte : ((i : ℕ) → Fits w8 (get_or bytes i 0)) → b < 256
  past_byte f = rw (seam, get_or-append_seam next b p.read 0) at ((f (length next)).fits)

  pub past_one : b < 256 → Past bytes next (number * 256 + b)
  past_one h =
      let e = pow-suc 256 (length p.read) in
      let v = p.value in
      let m = p.bound in
      record { read = b ∷ p.read; all = seam; value = omega arith; bound = omega arith }

  -- before a turn, of at most 8 bytes
  pub past_below : length bytes ≤ 8 → number < 2 ^ 56
  past_below h =
      let k : length bytes ≡ length next + (1 + length p.read) = rw seam (simp length-append (omega arith)) in
      let j : length p.read ≤ 7 = omega arith in
      lt_of_lt_of_le p.bound (pow-le-pow_right (lit< tt) j)

-- at the end
pub past_all : (bytes rest : List ℕ) (number : ℕ) → length rest ≡ 0 → Past bytes rest number → (number ≡ little bytes) × (number < 256 ^ length bytes)
past_all bytes [] number e p = rw p.all (p.value, p.bound)
past_all bytes (x ∷ rest) number e p = absurd (omega arith)
