-- The bytes of a number and of numbers, and bytes put into a buffer one behind the other.
use Rattle.std.specs.Prelude.{◌≡◌, true, false, T, ℤ, pos, negsuc, nat_abs, ◌-ℤ◌, set, take, drop}
use Rattle.std.proofs.Math.Path.{refl, ap}
use Rattle.std.proofs.Common.{sym, ◌∙◌, leb-false, Fits, SFits, of_z}
use mathlib.Core.List.{List, [], ◌∷◌, ◌++◌}
use Prim.Native.Nat.{ℕ, suc, ◌+◌, ◌-◌, ◌/◌, ◌%◌, ◌^◌, ◌≤◌}
use native.Mathlib.Omega.{arith}
use Rattle.std.proofs.Math.ListN.{length}
use Rattle.std.proofs.Math.Seq.{sets, sets-eq}
use Rattle.std.specs.Int.Signed.{le_z, non_neg}
use Rattle.std.specs.Int.{w32, w64}
use Rattle.integers.proofs.Linear.{ints}
use Rattle.integers.specs.Laws.{never}

-- the bytes of a number, the first the lowest
abbrev pub bytes16 : ℕ → List ℕ
bytes16 v = v % 256 ∷ v / 256 % 256 ∷ []

abbrev pub bytes32 : ℕ → List ℕ
bytes32 v = v % 256 ∷ v / 256 % 256 ∷ v / 65536 % 256 ∷ v / 16777216 % 256 ∷ []

-- the low half first
abbrev pub bytes64 : ℕ → List ℕ
bytes64 v = bytes32 (v % 4294967296) ++ bytes32 (v / 4294967296)

-- the same, signed
abbrev pub signed_bytes : ℤ → List ℕ
signed_bytes z = bytes32 (of_z w32 z)

abbrev pub signed_bytes64 : ℤ → List ℕ
signed_bytes64 z = bytes64 (of_z w64 z)

-- the bytes of numbers, one behind the other, each written in the same way
unfoldable pub bytes_of : {A : Type 0} → (A → List ℕ) → List A → List ℕ
bytes_of write [] = []
bytes_of write (x ∷ xs) = write x ++ bytes_of write xs

-- the three kinds of numbers
abbrev pub int32_bytes : List ℤ → List ℕ
int32_bytes = bytes_of signed_bytes

abbrev pub nat32_bytes : List ℕ → List ℕ
nat32_bytes = bytes_of bytes32

abbrev pub int64_bytes : List ℤ → List ℕ
int64_bytes = bytes_of signed_bytes64

-- ---- stores
module _ {A : Type 0} where
  -- l with vs from place i on, one stored after the other
  unfoldable pub put : List A → ℕ → List A → List A
  put l i vs = sets l i vs

  -- where there is room: what lies before and behind is as it was
  pub put_is : (l : List A) (i : ℕ) (vs : List A) → i + length vs ≤ length l → put l i vs ≡ take i l ++ vs ++ drop (i + length vs) l
  unfolding put
  put_is l i vs h = sets-eq vs l i h

  -- what is put behind vs is put with it
  pub put_append : (l : List A) (i : ℕ) (vs : List A) (j : ℕ) (ws : List A) → i + length vs ≡ j → put (put l i vs) j ws ≡ put l i (vs ++ ws)
  unfolding put
  put_append l i vs j ws e = ap (λ (k : ℕ). sets (sets l i vs) k ws) (sym e) ∙ go l i vs
    where
      go : (l : List A) (i : ℕ) (vs : List A) → sets (sets l i vs) (i + length vs) ws ≡ sets l i (vs ++ ws)
      go l i [] = let e : i + 0 ≡ i = omega arith in ap (λ (k : ℕ). sets l k ws) e
      go l i (v ∷ vs) =
          let e : i + suc (length vs) ≡ suc i + length vs = omega arith in
          ap (λ (k : ℕ). sets (sets (set l i v) (suc i) vs) k ws) e ∙ go (set l i v) (suc i) vs

  -- the same of a buffer that holds vs
  pub put_then : (l : List A) (i : ℕ) (vs : List A) (j : ℕ) (ws : List A) {m o : List A} → i + length vs ≡ j → m ≡ put l i vs → o ≡ put m j ws → o ≡ put l i (vs ++ ws)
  put_then l i vs j ws e f g = g ∙ ap (λ (m : List A). put m j ws) f ∙ put_append l i vs j ws e

  -- one store behind vs
  pub put_one : (l : List A) (i : ℕ) (vs : List A) (j : ℕ) (v : A) → i + length vs ≡ j → set (put l i vs) j v ≡ put l i (vs ++ v ∷ [])
  unfolding put
  put_one l i vs j v e = put_append l i vs j (v ∷ []) e

  -- two stores, and four
  pub put_two : (l : List A) (i : ℕ) (a b : A) → set (set l i a) (i + 1) b ≡ put l i (a ∷ b ∷ [])
  unfolding put
  put_two l i a b = put_one l i (a ∷ []) (i + 1) b refl

  pub put_four : (l : List A) (i : ℕ) (a b c d : A) → set (set (set (set l i a) (i + 1) b) (i + 2) c) (i + 3) d ≡ put l i (a ∷ b ∷ c ∷ d ∷ [])
  put_four l i a b c d =
      ap (λ (m : List A). set (set m (i + 2) c) (i + 3) d) (put_two l i a b)
      ∙ ap (λ (m : List A). set m (i + 3) d) (put_one l i (a ∷ b ∷ []) (i + 2) c refl)
      ∙ put_one l i (a ∷ b ∷ c ∷ []) (i + 3) d refl

-- ---- the bits of a signed number z
-- one that is not negative is its own bits
pub cast_up : (z : ℤ) → le_z (pos 0) z ≡ true → SFits w32 z → T (non_neg z) × Fits w32 (nat_abs z)
cast_up (pos n) e f = (tt, record { fits = omega (arith, f.sfits) })
cast_up (negsuc n) e f = never (cc)

pub bits_up : (z : ℤ) → le_z (pos 0) z ≡ true → nat_abs z ≡ of_z w32 z
bits_up (pos n) e = refl
bits_up (negsuc n) e = never (cc)

-- the bits of a negative one are all ones less -1 - z
abbrev pub below : ℤ → ℤ
below z = negsuc 0 -ℤ z

pub below_up : (z : ℤ) → le_z (pos 0) z ≡ false → le_z (pos 0) (below z) ≡ true
below_up z = simp ints (omega arith)

pub below_fits : (z : ℤ) → SFits w32 z → SFits w32 (below z)
below_fits z = simp ints (omega arith)

pub bits_below : (z : ℤ) → le_z (pos 0) z ≡ false → 2 ^ 32 - 1 - nat_abs (below z) ≡ of_z w32 z
bits_below (pos n) e = absurd (omega (arith, leb-false 0 n e))
bits_below (negsuc n) e = ap (λ (y : ℤ). 2 ^ 32 - 1 - nat_abs y) (less n) ∙ omega arith
  where
    less : (n : ℕ) → below (negsuc n) ≡ pos n
    less n = simp ints (omega arith)
