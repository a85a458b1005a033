-- The list of a choice: each line that is not picked is replaced by 0 ≤ 0. It is as long, as valid, and its solutions are those of the lines that are picked.
use Rattle.std.specs.Prelude.{◌≡◌, refl, Bool, true, false, List, [], ◌∷◌, ◌++◌, ℕ, ◌+◌, ◌*◌, ◌/◌, ◌%◌, ◌<◌, ◌≤◌, eqb, ltb, ℤ, pos, length, get_or, set, drop, Ok}
use Rattle.std.proofs.Common.{sym, subst, ◌∙◌, le-ltb, lt-ltb}
use Rattle.std.proofs.Math.Path.{ap}
use Rattle.std.proofs.Math.Bool.{cond}
use native.Mathlib.Omega.{arith}
use Rattle.integers.specs.Sequence.{tabulate, length_tabulate, get_d_tabulate, tabulate_add, grow}
use Rattle.lines.specs.declared.Line.{Line}
use Rattle.lines.specs.Limits.{line_size, max_lines}
use Rattle.lines.specs.Line.{number, line_numbers_lem, line_at, line_count, lines_of, Assignment, Meets, Solves}
use Rattle.lines.specs.LineNumbers.{number_at}
use Rattle.lines.specs.Refusal.{line_validity_lem, validity_of}
use Rattle.lines.specs.Solutions.{tabulate_solves, solves_at}
use Rattle.lines.specs.Valid.{valid_list, list_valid, lines_valid, line_valid_more}
use Rattle.lines.specs.Zero.{zero_line, zero_number, zero_met, zero_valid, same_line}

-- a line is picked if its flag is 1
abbrev pub is_picked_lem : List ℕ → ℕ → Bool
is_picked_lem flags k = eqb (get_or flags k 0) 1

-- a number of a picked line, or zero
unfoldable pub masked_number_lem : List ℕ → List ℤ → ℕ → ℤ
masked_number_lem flags L i = cond (is_picked_lem flags (i / line_size)) (number L i) (pos 0)

abbrev pub masked : List ℕ → List ℤ → List ℤ
masked flags L = tabulate (length L) (masked_number_lem flags L)

-- at the front of a buffer, or the buffer as it was where it is too short
unfoldable pub masked_into : List ℕ → List ℤ → List ℤ → List ℤ
masked_into flags L out = cond (ltb (length out) (length L)) out (masked flags L ++ drop (length L) out)

pub no_room : (flags : List ℕ) (L out : List ℤ) → length out < length L → masked_into flags L out ≡ out
unfolding masked_into
no_room flags L out h = rw (lt-ltb (length out) (length L) h)

pub with_room : (flags : List ℕ) (L out : List ℤ) → length L ≤ length out → masked_into flags L out ≡ masked flags L ++ drop (length L) out
unfolding masked_into
with_room flags L out h = rw (le-ltb (length out) (length L) h)

-- one more number is written
pub mask_more : (f : ℕ → ℤ) (j : ℕ) (d : List ℤ) → j < length d → set (tabulate j f ++ drop j d) j (f j) ≡ tabulate (j + 1) f ++ drop (j + 1) d
mask_more f j d h =
    grow (tabulate j f) j (f j) (pos 0) d (length_tabulate j f) h
    ∙ ap (λ (l : List ℤ). l ++ drop (j + 1) d) (sym (tabulate_add j 1 f ∙ ap (λ (i : ℕ). tabulate j f ++ f i ∷ []) (omega arith)))

-- ---- line by line
module _ (flags : List ℕ) (L : List ℤ) where
  pub same_length : length (masked flags L) ≡ length L
  same_length = length_tabulate (length L) (masked_number_lem flags L)

  pub same_count : line_count (masked flags L) ≡ line_count L
  same_count = ap (λ (n : ℕ). n / line_size) same_length

  number_masked : (k j : ℕ) → k < line_count L → j < line_size → number (masked flags L) (line_size * k + j) ≡ cond (is_picked_lem flags k) (number L (line_size * k + j)) (pos 0)
  unfolding masked_number_lem
  number_masked k j h l =
      get_d_tabulate (length L) (line_size * k + j) (masked_number_lem flags L) (pos 0) (inside k j (length L) h l)
      ∙ ap (λ (i : ℕ). cond (is_picked_lem flags i) (number L (line_size * k + j)) (pos 0)) (which k j l)
    where
      inside : (k j n : ℕ) → k < n / line_size → j < line_size → line_size * k + j < n
      inside k j n h l = omega arith

      which : (k j : ℕ) → j < line_size → (line_size * k + j) / line_size ≡ k
      which k j l = omega arith

  -- a line that is picked stands as it was, and any other is 0 ≤ 0
  pub line_masked : (k : ℕ) → k < line_count L → line_at (masked flags L) k ≡ cond (is_picked_lem flags k) (line_at L k) zero_line
  line_masked k h = same_line (line_at (masked flags L) k) (cond (is_picked_lem flags k) (line_at L k) zero_line) each
    where
      go : (t : Bool) (i : ℕ) → i < line_size → cond t (number L (line_size * k + i)) (pos 0) ≡ number (line_numbers_lem (cond t (line_at L k) zero_line)) i
      go true i l = sym (number_at L k h i l)
      go false i l = sym (zero_number i l)

      each : (i : ℕ) → i < line_size → number (line_numbers_lem (line_at (masked flags L) k)) i ≡ number (line_numbers_lem (cond (is_picked_lem flags k) (line_at L k) zero_line)) i
      each i l = number_at (masked flags L) k (subst (λ (n : ℕ). k < n) (sym same_count) h) i l ∙ number_masked k i h l ∙ go (is_picked_lem flags k) i l

  pub line_picked : (k : ℕ) → k < line_count L → is_picked_lem flags k ≡ true → line_at (masked flags L) k ≡ line_at L k
  line_picked k h e = line_masked k h ∙ ap (λ (t : Bool). cond t (line_at L k) zero_line) e

  pub line_unpicked : (k : ℕ) → k < line_count L → is_picked_lem flags k ≡ false → line_at (masked flags L) k ≡ zero_line
  line_unpicked k h e = line_masked k h ∙ ap (λ (t : Bool). cond t (line_at L k) zero_line) e

  -- what holds of 0 ≤ 0 and of each line of the list
  pub each_masked : (P : Line → Type 0) → P zero_line → (k : ℕ) → k < line_count L → (is_picked_lem flags k ≡ true → P (line_at L k)) → P (line_at (masked flags L) k)
  each_masked P z k h f = subst P (sym (line_masked k h)) (go (is_picked_lem flags k) f)
    where
      go : (t : Bool) → (t ≡ true → P (line_at L k)) → P (cond t (line_at L k) zero_line)
      go true g = g refl
      go false g = z

  -- ---- validity
  pub masked_valid : (n : ℕ) → validity_of n L ≡ Ok tt → validity_of n (masked flags L) ≡ Ok tt
  masked_valid n e =
      let o = valid_list n L e in
      let whole : length (masked flags L) % line_size ≡ 0 = ap (λ (i : ℕ). i % line_size) same_length ∙ o.whole in
      let few : line_count (masked flags L) ≤ max_lines = omega (arith, same_count, o.count) in
      list_valid n (masked flags L) o.variables whole few
      (lines_valid n (line_count (masked flags L)) (line_at (masked flags L)) 0 (λ k l. valid k (subst (λ (c : ℕ). k < c) same_count l)))
    where
      valid : (k : ℕ) → k < line_count L → line_validity_lem n 0 (line_at (masked flags L) k) ≡ Ok tt
      valid k l = each_masked (λ m. line_validity_lem n 0 m ≡ Ok tt) (zero_valid n 0) k l (λ p. line_valid_more n n k 0 (line_at L k) (omega arith) ((valid_list n L e).each k l))

  -- ---- solutions
  -- a solution meets the lines that are picked, and what meets those is a solution
  pub masked_solved : (s : Assignment) → Solves (lines_of (masked flags L)) s → (k : ℕ) → k < line_count L → is_picked_lem flags k ≡ true → Meets s (line_at L k)
  masked_solved s h k l p = subst (Meets s) (line_picked k l p) (solves_at (masked flags L) s h k (subst (λ (n : ℕ). k < n) (sym same_count) l))

  pub solved_masked : (s : Assignment) → ((k : ℕ) → k < line_count L → is_picked_lem flags k ≡ true → Meets s (line_at L k)) → Solves (lines_of (masked flags L)) s
  solved_masked s f =
      tabulate_solves (line_count (masked flags L)) (line_at (masked flags L)) s
      (λ k l. let h = subst (λ (n : ℕ). k < n) same_count l in each_masked (Meets s) (zero_met s) k h (f k h))
