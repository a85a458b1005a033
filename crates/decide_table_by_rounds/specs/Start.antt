-- The table before the first round, and the loop that writes it row by row.
use Rattle.std.specs.Prelude.{◌≡◌, List, [], ◌++◌, ℕ, ◌+◌, ◌*◌, ◌<◌, ◌≤◌, ℤ, length, take, drop}
use Rattle.std.proofs.Common.{sym, ap, ap₂, ◌∙◌, append_assoc, append-nil, mul-le-mul_right, add-one, arith, length-append, length-drop, take-append-drop, drop_of_length-le, length-take-le, take_at, drop_at, drop-drop}
use Rattle.std.proofs.lemmas.List.{map-append, length-map}
use Rattle.theory_walks.specs.Row.{start_row_lem}
use Rattle.theory_walks.specs.AllPairs.{start_table_lem, start_table_suc, start_table_length}
use Rattle.decide_rows.specs.Stored.{stored, stored_row}

-- the loop, after the rows 0 to v - 1
pub record Started (m place : ℕ) (w₀ w : List ℤ) (v : ℕ) : Type 0 where
  pub count : v ≤ m
  pub is : w ≡ take place w₀ ++ stored_row (start_table_lem m v) ++ drop (place + v * m) w₀

pub started_none : (m place : ℕ) (w₀ : List ℤ) → Started m place w₀ w₀ 0
unfolding start_table_lem
started_none m place w₀ =
    let e : place ≡ place + 0 * m = omega arith in
    record {
      count = omega arith;
      is =
          sym (ap (λ (x : List ℤ). x ++ drop place w₀) (append-nil (take place w₀)) ∙ take-append-drop place w₀)
          ∙ ap (λ (j : ℕ). take place w₀ ++ [] ++ drop j w₀) e;
    }

module _ (m place : ℕ) (w₀ : List ℤ) (room : place + m * m ≤ length w₀) (w : List ℤ) (v : ℕ) (s : Started m place w₀ w v) where
  -- where row v begins
  abbrev at : ℕ
  at = place + v * m

  abbrev front : List ℤ
  front = take place w₀ ++ stored_row (start_table_lem m v)

  front_length : length front ≡ at
  front_length =
      length-append (take place w₀) (stored_row (start_table_lem m v))
      ∙ omega (arith, length-take-le place w₀ (omega arith), length-map (start_table_lem m v) stored, start_table_length m v)

  row_fits : v < m → at + m ≤ length w₀
  row_fits h = omega (arith, mul-le-mul_right m h)

  rest : drop at w ≡ drop at w₀
  rest = ap (drop at) s.is ∙ drop_at front (drop at w₀) at front_length

  -- row v was written to its part, of k numbers
  pub started_more : v < m → (k : ℕ) → k ≡ m → (part : List ℤ) → part ≡ stored_row (start_row_lem m v) ++ drop m (take k (drop at w))
      → Started m place w₀ (take at w ++ (part ++ drop k (drop at w))) (v + 1)
  started_more h k ek part e =
      let row = stored_row (start_row_lem m v) in
      let lent : k ≤ length (drop at w) = omega (arith, ap length rest, length-drop at w₀, row_fits h) in
      let short : length (take k (drop at w)) ≤ m = omega (arith, length-take-le k (drop at w) lent) in
      let nothing : drop m (take k (drop at w)) ≡ [] = drop_of_length-le (take k (drop at w)) short in
      let written : part ≡ row = e ∙ ap (λ (x : List ℤ). row ++ x) nothing ∙ append-nil row in
      let behind : drop k (drop at w) ≡ drop (at + m) w₀ = ap₂ (λ (i : ℕ) (x : List ℤ). drop i x) ek rest ∙ drop-drop m at w₀ in
      let before : take at w ≡ front = ap (take at) s.is ∙ take_at front (drop at w₀) at front_length in
      let table : stored_row (start_table_lem m v) ++ row ≡ stored_row (start_table_lem m (v + 1)) = sym (map-append stored (start_table_lem m v) (start_row_lem m v)) ∙ ap stored_row (sym (start_table_suc m v) ∙ ap (start_table_lem m) (sym (add-one v))) in
      let next : at + m ≡ place + (v + 1) * m = omega arith in
      record {
        count = omega arith;
        is =
            ap₂ (λ (x y : List ℤ). x ++ y) before (ap₂ (λ (x y : List ℤ). x ++ y) written behind)
            ∙ sym (append_assoc front row (drop (at + m) w₀))
            ∙ ap (λ (x : List ℤ). x ++ drop (at + m) w₀) (append_assoc (take place w₀) (stored_row (start_table_lem m v)) row ∙ ap (λ (x : List ℤ). take place w₀ ++ x) table)
            ∙ ap (λ (j : ℕ). take place w₀ ++ stored_row (start_table_lem m (v + 1)) ++ drop j w₀) next;
      }
