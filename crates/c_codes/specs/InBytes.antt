-- The bytes of numbers: a list in bytes is refused as its numbers are, and a refutation's bytes are whole numbers, too many exactly if the numbers are.
use Rattle.lines.specs.declared.Refusal.{Refusal}
use Rattle.std.specs.Prelude.{◌≡◌, refl, Bool, true, false, not, List, ℕ, ◌*◌, ◌/◌, ◌%◌, ◌<◌, ◌≤◌, eqb, ltb, ℤ, Result}
use Rattle.std.proofs.Math.Path.{ap}
use Rattle.std.proofs.Common.{◌∙◌, arith, lt-ltb, le-ltb, ltb-true, ltb-false, eq-eqb, ne_eqb, eqb-true, SFits}
use Rattle.std.proofs.Math.Nat.{mul-mod_right}
use Rattle.std.proofs.lemmas.Bool.{eqb-false}
use Rattle.std.proofs.Math.ListN.{length}
use Rattle.std.specs.Int.{w32}
use Rattle.lines.specs.declared.Refusal.TheVariants.{TooManyVariables, BrokenLength}
use Rattle.lines.specs.Limits.{line_size, max_variables, max_refutation}
use Rattle.lines.specs.Line.{number}
use Rattle.lines.specs.Refusal.{◌or_else◌, refuse_if, validity_of}
use Rattle.little_endian.specs.Bytes.{int32s}
use Rattle.little_endian.specs.Writing.{signed_bytes, bytes32, int32_bytes, nat32_bytes}
use Rattle.little_endian.specs.Back.{length_bytes_of, int32s_back}
use Rattle.c_codes.specs.ListBytes.{number_bytes, bytes_validity}

-- ---- two tests agree where what they test does
pub same_eqb : (a b c d : ℕ) → (c ≡ d → a ≡ b) → (a ≡ b → c ≡ d) → eqb a b ≡ eqb c d
same_eqb a b c d f g = go (eqb c d) refl
  where
    go : (t : Bool) → eqb c d ≡ t → eqb a b ≡ t
    go true e = eq-eqb a b (f (eqb-true c d e))
    go false e = ne_eqb a b (λ h. eqb-false c d e (g h))

same_ltb : (a b c d : ℕ) → (c < d → a < b) → (d ≤ c → b ≤ a) → ltb a b ≡ ltb c d
same_ltb a b c d f g = go (ltb c d) refl
  where
    go : (t : Bool) → ltb c d ≡ t → ltb a b ≡ t
    go true e = lt-ltb a b (f (ltb-true c d e))
    go false e = le-ltb a b (g (ltb-false c d e))

-- ---- a list
pub length_list : (L : List ℤ) → length (int32_bytes L) ≡ number_bytes * length L
length_list = length_bytes_of number_bytes signed_bytes (λ z. refl)

module _ (n : ℕ) (L : List ℤ) (fits : (i : ℕ) → SFits w32 (number L i)) where
  pub list_back : int32s (int32_bytes L) ≡ L
  list_back = int32s_back L fits

  pub list_in_bytes : bytes_validity n (int32_bytes L) ≡ validity_of n L
  unfolding bytes_validity validity_of
  list_in_bytes =
      let whole = same_eqb (length (int32_bytes L) % (number_bytes * line_size)) 0 (length L % line_size) 0 (λ e. omega (arith, length_list L)) lines in
      rw (list_back, whole) (go (ltb max_variables n) (eqb (length L % line_size) 0) _)
    where
      lines : length (int32_bytes L) % (number_bytes * line_size) ≡ 0 → length L % line_size ≡ 0
      lines e =
          let q : length L ≡ line_size * (length (int32_bytes L) / (number_bytes * line_size)) = omega (arith, length_list L) in
          ap (λ (m : ℕ). m % line_size) q ∙ mul-mod_right line_size _

      go : (t u : Bool) (v : Result Unit Refusal)
          → (refuse_if t TooManyVariables or_else refuse_if (not u) BrokenLength or_else refuse_if t TooManyVariables or_else refuse_if (not u) BrokenLength or_else v)
          ≡ (refuse_if t TooManyVariables or_else refuse_if (not u) BrokenLength or_else v)
      go true u v = refl
      go false true v = refl
      go false false v = refl

-- ---- a refutation
module _ (R : List ℕ) where
  length_refutation : length (nat32_bytes R) ≡ number_bytes * length R
  length_refutation = length_bytes_of number_bytes bytes32 (λ v. refl) R

  pub whole_in_bytes : eqb (length (nat32_bytes R) % number_bytes) 0 ≡ true
  whole_in_bytes = eq-eqb (length (nat32_bytes R) % number_bytes) 0 (omega (arith, length_refutation))

  pub long_in_bytes : ltb (number_bytes * max_refutation) (length (nat32_bytes R)) ≡ ltb max_refutation (length R)
  long_in_bytes =
      let l = length_refutation in
      same_ltb (number_bytes * max_refutation) (length (nat32_bytes R)) max_refutation (length R) (λ e. omega arith) (λ e. omega arith)
