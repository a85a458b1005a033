-- Numbers written as bytes and read back, one at a place and all of a list.
use Rattle.std.specs.Prelude.{◌≡◌, ℤ, pos, length, get_or}
use Rattle.std.proofs.Math.Path.{refl, ap}
use Rattle.std.proofs.Common.{sym, ◌∙◌, le_of_suc-le-suc, mul-zero, add_assoc, length-append, get_or-drop, SFits, to_z, of_z, to_z-of_z}
use mathlib.Core.List.{List, [], ◌∷◌, ◌++◌, append_assoc}
use Prim.Native.Nat.{ℕ, zero, suc, ◌+◌, ◌*◌, ◌/◌, ◌%◌, ◌^◌, ◌<◌}
use Rattle.std.proofs.Math.Nat.{div-div-eq-div-mul, mul-div_cancel_left}
use native.Mathlib.Omega.{arith}
use Rattle.std.proofs.Math.ListN.{drop}
use Rattle.std.proofs.Math.Seq.{drop_at}
use Rattle.std.specs.Int.{w32, w64}
use Rattle.std.proofs.Math.Facts.{Fits-of_z}
use Rattle.integers.specs.Sequence.{tabulate_cong}
use Rattle.little_endian.specs.Bytes.{AreBytes, le32, le64, int32, int64, first_of, numbers_of, int32s, nat32s, int64s}
use Rattle.little_endian.specs.Writing.{bytes16, bytes32, bytes64, signed_bytes, signed_bytes64, bytes_of, int32_bytes, nat32_bytes, int64_bytes}

-- ---- one number, at the front
pub le32_bytes : (v : ℕ) (r : List ℕ) → v < 2 ^ 32 → le32 (bytes32 v ++ r) 0 ≡ v
le32_bytes v r h = four v (v / 256) (v / 65536) (v / 16777216) refl (sym (div-div-eq-div-mul v 256 256)) (sym (div-div-eq-div-mul v 65536 256)) (omega arith)
  where
    four : (v x y z : ℕ) → x ≡ v / 256 → y ≡ x / 256 → z ≡ y / 256 → z < 256 → v % 256 + x % 256 * 256 + y % 256 * 65536 + z % 256 * 16777216 ≡ v
    four v x y z e f g h = omega arith

le64_bytes : (v : ℕ) (r : List ℕ) → v < 2 ^ 64 → le64 (bytes64 v ++ r) 0 ≡ v
le64_bytes v r h =
    let low : le32 (bytes64 v ++ r) 0 ≡ v % 4294967296 = le32_bytes (v % 4294967296) [] (omega arith) in
    let high : le32 (bytes64 v ++ r) 4 ≡ v / 4294967296 = le32_bytes (v / 4294967296) [] (omega arith) in
    rw (low, high) (omega arith)

pub int32_bytes_law : (z : ℤ) (r : List ℕ) → SFits w32 z → int32 (signed_bytes z ++ r) 0 ≡ z
int32_bytes_law z r h = ap (to_z w32) (le32_bytes (of_z w32 z) r (Fits-of_z {w = w32} h).fits) ∙ to_z-of_z h

int64_bytes_law : (z : ℤ) (r : List ℕ) → SFits w64 z → int64 (signed_bytes64 z ++ r) 0 ≡ z
int64_bytes_law z r h = ap (to_z w64) (le64_bytes (of_z w64 z) r (Fits-of_z {w = w64} h).fits) ∙ to_z-of_z h

-- ---- at a place, by what stands there
module _ (b c : List ℕ) (p : ℕ) (e : drop p b ≡ c) where
  pub le32_at : (i : ℕ) → le32 b (p + i) ≡ le32 c i
  le32_at i = rw (← e) (simp (get_or-drop, add_assoc))

  le64_at : (i : ℕ) → le64 b (p + i) ≡ le64 c i
  le64_at i = rw (← e) (simp (get_or-drop, add_assoc))

-- ---- all numbers of a list
pub length_bytes_of : {A : Type 0} (size : ℕ) (write : A → List ℕ) → ((x : A) → length (write x) ≡ size) → (xs : List A) → length (bytes_of write xs) ≡ size * length xs
unfolding bytes_of
length_bytes_of size write sized [] = sym (mul-zero size)
length_bytes_of size write sized (x ∷ xs) = omega (arith, length-append (write x) (bytes_of write xs), sized x, length_bytes_of size write sized xs)

-- One law for every width: numbers that take `size` bytes each, where one at the front is read back and a place is read by what stands there.
module _ {A : Type 0} (size : ℕ) (read : List ℕ → ℕ → A) (write : A → List ℕ) (Fits : A → Type 0) (some : 0 < size) (sized : (x : A) → length (write x) ≡ size)
    (back : (x : A) (r : List ℕ) → Fits x → read (write x ++ r) 0 ≡ x) (at : (b c : List ℕ) (p : ℕ) → drop p b ≡ c → (i : ℕ) → read b (p + i) ≡ read c i) where
  -- number k behind the first is number k of the rest
  behind : (x : A) (xs : List A) (k : ℕ) → read (bytes_of write (x ∷ xs)) (size * suc k) ≡ read (bytes_of write xs) (size * k)
  unfolding bytes_of
  behind x xs k =
      let next : size * suc k ≡ size + size * k = omega arith in
      ap (read (write x ++ bytes_of write xs)) next ∙ at _ _ size (drop_at (write x) (bytes_of write xs) size (sized x)) (size * k)

  -- number j, whatever comes behind the numbers
  at_back : (d : A) (xs : List A) (r : List ℕ) (j : ℕ) → j < length xs → Fits (get_or xs j d) → read (bytes_of write xs ++ r) (size * j) ≡ get_or xs j d
  unfolding bytes_of
  at_back d [] r j h f = absurd (omega arith)
  at_back d (x ∷ xs) r zero h f =
      ap (read ((write x ++ bytes_of write xs) ++ r)) (mul-zero size) ∙ ap (λ (b : List ℕ). read b 0) (append_assoc (write x) (bytes_of write xs) r) ∙ back x _ f
  at_back d (x ∷ xs) r (suc j) h f =
      let next : size * suc j ≡ size + size * j = omega arith in
      let behind : drop size ((write x ++ bytes_of write xs) ++ r) ≡ bytes_of write xs ++ r =
      ap (drop size) (append_assoc (write x) (bytes_of write xs) r) ∙ drop_at (write x) (bytes_of write xs ++ r) size (sized x) in
      ap (read ((write x ++ bytes_of write xs) ++ r)) next ∙ at _ _ size behind (size * j) ∙ at_back d xs r j (le_of_suc-le-suc h) f

  first_back : (d : A) (xs : List A) → ((i : ℕ) → Fits (get_or xs i d)) → first_of size read (bytes_of write xs) (length xs) ≡ xs
  unfolding first_of bytes_of
  first_back d [] f = refl
  first_back d (x ∷ xs) f =
      let first : read (write x ++ bytes_of write xs) (size * 0) ≡ x = ap (read (write x ++ bytes_of write xs)) (mul-zero size) ∙ back x _ (f 0) in
      rw (first, tabulate_cong (length xs) _ _ (λ k _. behind x xs k) ∙ first_back d xs (λ i. f (suc i)))

  numbers_back : (d : A) (xs : List A) → ((i : ℕ) → Fits (get_or xs i d)) → numbers_of size read (bytes_of write xs) ≡ xs
  numbers_back d xs f =
      let count : length (bytes_of write xs) / size ≡ length xs = ap (λ (m : ℕ). m / size) (length_bytes_of size write sized xs) ∙ mul-div_cancel_left (length xs) some in
      ap (first_of size read (bytes_of write xs)) count ∙ first_back d xs f

pub int32s_back : (xs : List ℤ) → ((i : ℕ) → SFits w32 (get_or xs i (pos 0))) → int32s (int32_bytes xs) ≡ xs
int32s_back = numbers_back 4 int32 signed_bytes (SFits w32) (omega arith) (λ z. refl) int32_bytes_law (λ b c p e i. ap (to_z w32) (le32_at b c p e i)) (pos 0)

pub int32_back : (xs : List ℤ) (r : List ℕ) (j : ℕ) → j < length xs → SFits w32 (get_or xs j (pos 0)) → int32 (int32_bytes xs ++ r) (4 * j) ≡ get_or xs j (pos 0)
int32_back = at_back 4 int32 signed_bytes (SFits w32) (omega arith) (λ z. refl) int32_bytes_law (λ b c p e i. ap (to_z w32) (le32_at b c p e i)) (pos 0)

pub nat32s_back : (xs : List ℕ) → ((i : ℕ) → get_or xs i 0 < 2 ^ 32) → nat32s (nat32_bytes xs) ≡ xs
nat32s_back = numbers_back 4 le32 bytes32 (λ v. v < 2 ^ 32) (omega arith) (λ v. refl) le32_bytes le32_at 0

pub int64s_back : (xs : List ℤ) → ((i : ℕ) → SFits w64 (get_or xs i (pos 0))) → int64s (int64_bytes xs) ≡ xs
int64s_back = numbers_back 8 int64 signed_bytes64 (SFits w64) (omega arith) (λ z. refl) int64_bytes_law (λ b c p e i. ap (to_z w64) (le64_at b c p e i)) (pos 0)

-- ---- what is written is bytes
pub record Small (b : List ℕ) : Type 0 where
  pub small : AreBytes b

pub small_none : Small []
small_none = record { small = λ i. omega arith }

pub small_append : {b c : List ℕ} → Small b → Small c → Small (b ++ c)
small_append {b} {c} h k = record { small = go b h.small }
  where
    go : (b : List ℕ) → AreBytes b → AreBytes (b ++ c)
    go [] h i = k.small i
    go (x ∷ b) h zero = h 0
    go (x ∷ b) h (suc i) = go b (λ j. h (suc j)) i

mod_small : (v : ℕ) → v % 256 < 256
mod_small v = omega arith

pub small16 : (v : ℕ) → Small (bytes16 v)
small16 v = record { small = go }
  where
    go : AreBytes (bytes16 v)
    go zero = mod_small v
    go (suc zero) = mod_small (v / 256)
    go (suc (suc i)) = omega arith

pub small32 : (v : ℕ) → Small (bytes32 v)
small32 v = record { small = go }
  where
    go : AreBytes (bytes32 v)
    go zero = mod_small v
    go (suc zero) = mod_small (v / 256)
    go (suc (suc zero)) = mod_small (v / 65536)
    go (suc (suc (suc zero))) = mod_small (v / 16777216)
    go (suc (suc (suc (suc i)))) = omega arith

small_all : {A : Type 0} (write : A → List ℕ) → ((x : A) → Small (write x)) → (xs : List A) → Small (bytes_of write xs)
unfolding bytes_of
small_all write h [] = small_none
small_all write h (x ∷ xs) = small_append (h x) (small_all write h xs)

pub int32_bytes_small : (xs : List ℤ) → AreBytes (int32_bytes xs)
int32_bytes_small xs = (small_all signed_bytes (λ z. small32 (of_z w32 z)) xs).small

pub nat32_bytes_small : (xs : List ℕ) → AreBytes (nat32_bytes xs)
nat32_bytes_small xs = (small_all bytes32 small32 xs).small

pub int64_bytes_small : (xs : List ℤ) → AreBytes (int64_bytes xs)
int64_bytes_small xs = (small_all signed_bytes64 (λ z. small_append (small32 (of_z w64 z % 4294967296)) (small32 (of_z w64 z / 4294967296))) xs).small
