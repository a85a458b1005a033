-- The rows 0 to k as they stand in the work area, number by number; one more row; and what it says that it differs from the one before, or does not.
use Rattle.std.specs.Prelude.{◌≡◌, refl, Bool, true, false, List, ◌++◌, ℕ, suc, ◌+◌, ◌*◌, ◌≤◌, ◌<◌, ℤ, pos, length, take, drop, replicate}
use Rattle.std.proofs.Math.Path.{sym, ap}
use Rattle.std.proofs.Common.{ap₂, subst, ◌∙◌, append_assoc, mul-le-mul_right, arith, length-append, length-drop, get_or-take, get_or-drop, get_or-append-add, ext_get_or, drop_at, take-add, length-take-le}
use Rattle.std.proofs.Math.Decide.{ℕ_discrete}
use Rattle.std.proofs.lemmas.List.{length-map, length-replicate, get_or-replicate}
use Rattle.std.proofs.Math.ListN.{get_or-append}
use Rattle.std.proofs.Math.Seq.{take_at}
use Rattle.integers.specs.Laws.{never, eq_eq_z}
use Rattle.integers.specs.Table.{all_below}
use Rattle.integers.specs.Lowest.{first_failing_lem, none_fails, first_failing, lowest_at_most}
use Rattle.lines.specs.Limits.{max_variables}
use Rattle.lines.specs.Line.{number}
use Rattle.steps.specs.declared.Step.{Step}
use Rattle.steps.specs.Step.{max_weight}
use Rattle.theory_walks.specs.Distance.{Distance, some}
use Rattle.theory_walks.specs.Row.{at, relax_row}
use Rattle.theory_walks.specs.Size.{within_more}
use Rattle.theory_differences.specs.Anywhere.{zero_at, Changed, zero_first, zero_next, zero_length, zero_within}
use Rattle.decide_rows.specs.Stored.{stored, stored_row, stored_at}
use Rattle.decide_rows.specs.Read.{row_of, AllShort, max_distance, short_more, row_of_stored}
use Rattle.decide_rows.specs.Next.{same_rows, same_at, same_rows_law, row_in, with_next, in_length}
use Rattle.engine_packed_steps.specs.Scratch.{Scratch, scratch_at}
use Rattle.differences_lines.specs.PlainList.{PlainList, plain_of, weights_within}
use Rattle.differences_rows.specs.Layout.{row_before, walk_at_lem}
use Rattle.differences_rows.specs.Round.{NextReady, NextDone}

-- a row at a place
abbrev pub RowAt : List ℤ → ℕ → List Distance → Type 0
RowAt w from row = (p : ℕ) → p < length row → number w (from + p) ≡ stored (at row p)

-- as a list
row_list : (w : List ℤ) (from : ℕ) (row : List Distance) → from + length row ≤ length w → RowAt w from row → row_in (length row) w from ≡ stored_row row
row_list w from row room r =
    ext_get_or (pos 0) (row_in (length row) w from) (stored_row row) (in_length (length row) w from room ∙ sym (length-map row stored))
    (λ i h.
    let l : i < length row = omega (arith, in_length (length row) w from room) in
    get_or-take (length row) (drop from w) i (pos 0) l ∙ get_or-drop from w i (pos 0) ∙ r i l ∙ sym (stored_at row i l))

list_row : (w : List ℤ) (from : ℕ) (row : List Distance) → row_in (length row) w from ≡ stored_row row → RowAt w from row
list_row w from row e p h = sym (get_or-take (length row) (drop from w) p (pos 0) h ∙ get_or-drop from w p (pos 0)) ∙ ap (λ (l : List ℤ). number l p) e ∙ stored_at row p h

-- ---- the rows 0 to k
pub record Standing (E : List Step) (n : ℕ) (w : List ℤ) (k : ℕ) : Type 0 where
  pub rows : (j : ℕ) → j ≤ k → (p : ℕ) → p < n → number w (j * n + p) ≡ stored (at (zero_at E n j) p)

-- they stand as long as nothing is stored over them
pub standing_kept : {E : List Step} {n k place end : ℕ} {w w' : List ℤ} → k * n + n ≤ place → Scratch place end w w' → Standing E n w k → Standing E n w' k
standing_kept {n} {k} h s t = record { rows = λ j l p m. scratch_at s (j * n + p) (omega (arith, m, h, mul-le-mul_right n l)) ∙ t.rows j l p m }

-- zeros at the front
pub standing_start : (E : List Step) (n : ℕ) (w w₀ : List ℤ) → w ≡ replicate n (pos 0) ++ drop n w₀ → Standing E n w 0
standing_start E n w w₀ e = record {
  rows = λ j l p h.
      let z : j ≡ 0 = omega arith in
      let i : j * n + p ≡ p = omega (arith, ap (λ (x : ℕ). x * n) z) in
      ap (number w) i
      ∙ ap (λ (x : List ℤ). number x p) e
      ∙ get_or-append (replicate n (pos 0)) (drop n w₀) (pos 0) p (omega (arith, length-replicate n (pos 0)))
      ∙ get_or-replicate n p (pos 0) (pos 0) h
      ∙ sym (ap stored (ap (λ (x : ℕ). at (zero_at E n x) p) z ∙ ap (λ (r : List Distance). at r p) (zero_first E n) ∙ get_or-replicate n p (some (pos 0)) _ h));
}

module _ {n : ℕ} {L : List ℤ} (plain : PlainList n L) where
  abbrev E : List Step
  E = plain_of L

  -- rows are small
  pub zero_short : (k : ℕ) → k ≤ n → AllShort max_distance (zero_at (plain_of L) n k)
  zero_short k h p z e =
      let b : k ≤ 2 * max_variables = omega (arith, plain.works.variables) in
      within_more (mul-le-mul_right max_weight b) (zero_within E n max_weight (weights_within plain) k p z e)

  row_back : (k : ℕ) → k ≤ n → row_of (stored_row (zero_at (plain_of L) n k)) ≡ zero_at (plain_of L) n k
  row_back k h = row_of_stored (zero_at E n k) (λ p. short_more (omega arith) (zero_short k h p))

  module _ (k : ℕ) (w : List ℤ) (t : Standing (plain_of L) n w k) (few : k < n) (room : walk_at_lem n ≤ length w) where
    abbrev from : ℕ
    from = k * n

    abbrev row : List Distance
    row = zero_at (plain_of L) n k

    next_before : k * n + n + n ≤ walk_at_lem n
    next_before = omega (arith, row_before n (suc k) few)

    -- the last of them, as a list
    last_is : row_in n w (k * n) ≡ stored_row (zero_at (plain_of L) n k)
    last_is =
        let e = zero_length E n k in
        subst (λ (m : ℕ). row_in m w (k * n) ≡ stored_row (zero_at (plain_of L) n k)) e
        (row_list w (k * n) row (omega (arith, e, next_before, room)) (λ p h. t.rows k (omega arith) p (omega (arith, h, e))))

    pub next_ready : NextReady n L w (k * n)
    next_ready = record { plain = plain; room = omega (arith, next_before, room); short = rw (last_is, row_back k (omega arith)) (zero_short k (omega arith)) }

    -- one more
    module _ (w' : List ℤ) (v : ℕ) (d : NextDone n (plain_of L) w (k * n) w' v) where
      abbrev next : List ℤ
      next = stored_row (zero_at (plain_of L) n (suc k))

      abbrev both : List ℤ
      both = stored_row (zero_at (plain_of L) n k) ++ stored_row (zero_at (plain_of L) n (suc k))

      both_is : with_next E (row_in n w (k * n)) ≡ both
      both_is =
          ap (with_next E) last_is
          ∙ ap (λ (r : List Distance). stored_row row ++ stored_row (relax_row E r)) (row_back k (omega arith))
          ∙ ap (λ (r : List Distance). stored_row row ++ stored_row r) (sym (zero_next E n k))

      row_length : (j : ℕ) → length (stored_row (zero_at (plain_of L) n j)) ≡ n
      row_length j = length-map (zero_at E n j) stored ∙ zero_length E n j

      both_length : length both ≡ 2 * n
      both_length = length-append (stored_row row) next ∙ omega (arith, row_length k, row_length (suc k))

      whole : w' ≡ (take (k * n + n) w ++ next) ++ drop (k * n + 2 * n) w
      whole =
          d.is ∙ ap (λ (x : List ℤ). take (k * n) w ++ (x ++ drop (k * n + 2 * n) w)) both_is
          ∙ sym (append_assoc (take (k * n) w) both (drop (k * n + 2 * n) w))
          ∙ ap (λ (x : List ℤ). x ++ drop (k * n + 2 * n) w)
          (sym (append_assoc (take (k * n) w) (stored_row row) next) ∙ ap (λ (x : List ℤ). x ++ next) (ap (λ (x : List ℤ). take (k * n) w ++ x) (sym last_is) ∙ sym (take-add (k * n) n w)))

      front_length : length (take (k * n + n) w) ≡ k * n + n
      front_length = length-take-le (k * n + n) w (omega (arith, next_before, room))

      two_length : length (take (k * n + n) w ++ next) ≡ k * n + 2 * n
      two_length = length-append (take (k * n + n) w) next ∙ omega (arith, front_length, row_length (suc k))

      pub next_scratch : Scratch (k * n + n) (k * n + 2 * n) w w'
      next_scratch = record {
        same_length = ap length whole ∙ length-append (take (k * n + n) w ++ next) (drop (k * n + 2 * n) w) ∙ omega (arith, two_length, length-drop (k * n + 2 * n) w, next_before, room);
        front = ap (take (k * n + n)) (whole ∙ append_assoc (take (k * n + n) w) next (drop (k * n + 2 * n) w)) ∙ take_at (take (k * n + n) w) (next ++ drop (k * n + 2 * n) w) (k * n + n) front_length;
        behind = ap (drop (k * n + 2 * n)) whole ∙ drop_at (take (k * n + n) w ++ next) (drop (k * n + 2 * n) w) (k * n + 2 * n) two_length;
      }

      next_at : (p : ℕ) → p < n → number w' (suc k * n + p) ≡ stored (at (zero_at (plain_of L) n (suc k)) p)
      next_at p h =
          let i : suc k * n + p ≡ length (take (k * n + n) w) + p = omega (arith, front_length) in
          ap₂ number (whole ∙ append_assoc (take (k * n + n) w) next (drop (k * n + 2 * n) w)) i
          ∙ get_or-append-add (take (k * n + n) w) (next ++ drop (k * n + 2 * n) w) p (pos 0)
          ∙ get_or-append next (drop (k * n + 2 * n) w) (pos 0) p (omega (arith, row_length (suc k), h))
          ∙ stored_at (zero_at E n (suc k)) p (omega (arith, zero_length E n (suc k), h))

      pub standing_more : Standing (plain_of L) n w' (suc k)
      standing_more = record { rows = λ j l p h. each j l p h (ℕ_discrete j (suc k)) }
        where
          each : (j : ℕ) → j ≤ suc k → (p : ℕ) → p < n → Dec (j ≡ suc k) → number w' (j * n + p) ≡ stored (at (zero_at (plain_of L) n j) p)
          each j l p h (yes e) = subst (λ (x : ℕ). number w' (x * n + p) ≡ stored (at (zero_at (plain_of L) n x) p)) (sym e) (next_at p h)
          each j l p h (no e) = (standing_kept (omega arith) next_scratch t).rows j (omega arith) p h

      -- ---- whether it differs
      changed_is : v ≡ first_failing_lem n (same_at n both)
      changed_is = d.changed ∙ ap (λ (x : List ℤ). first_failing_lem n (same_at n x)) both_is

      pub changed_at_most : v ≤ n
      changed_at_most = rw changed_is (lowest_at_most _ n)

      -- nowhere
      pub not_changed : n ≤ v → zero_at (plain_of L) n (suc k) ≡ zero_at (plain_of L) n k
      unfolding same_rows
      not_changed h =
          let e : first_failing_lem n (same_at n both) ≡ n = omega (arith, changed_is, changed_at_most) in
          let s = same_rows_law n both both_length ((none_fails n (same_at n both)).0 e) in
          sym (row_back (suc k) few) ∙ ap row_of (sym (drop_at (stored_row row) next n (row_length k)) ∙ s ∙ take_at (stored_row row) next n (row_length k)) ∙ row_back k (omega arith)

      -- at v
      pub is_changed : v < n → Changed (plain_of L) n k v
      is_changed h e = never (cc clash)
        where
          some_fails : all_below n (same_at n both) ≡ false
          some_fails = go (all_below n (same_at n both)) refl
            where
              go : (b : Bool) → all_below n (same_at n both) ≡ b → b ≡ false
              go true q = absurd (omega (arith, (none_fails n (same_at n both)).1 q, changed_is, h))
              go false q = refl

          left : number both v ≡ stored (at (zero_at (plain_of L) n k) v)
          left = get_or-append (stored_row row) next (pos 0) v (omega (arith, row_length k, h)) ∙ stored_at row v (omega (arith, zero_length E n k, h))

          right : number both (n + v) ≡ stored (at (zero_at (plain_of L) n (suc k)) v)
          right =
              let i : n + v ≡ length (stored_row row) + v = omega (arith, row_length k) in
              ap (number both) i ∙ get_or-append-add (stored_row row) next v (pos 0) ∙ stored_at (zero_at E n (suc k)) v (omega (arith, zero_length E n (suc k), h))

          clash : true ≡ false
          clash =
              sym (eq_eq_z (number both v) (number both (n + v)) (left ∙ ap stored (sym e) ∙ sym right))
              ∙ subst (λ (x : ℕ). same_at n both x ≡ false) (sym changed_is) (first_failing n (same_at n both) some_fails).fails
