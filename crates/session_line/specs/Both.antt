-- Both steps of a line tested before either is put in; and what a table is read as with both.
use Rattle.std.specs.Prelude.{◌≡◌, refl, Bool, true, false, ◌&&◌, List, ◌++◌, ℕ, ◌+◌, ◌*◌, ℤ, pos, neg_ℤ, ◌+ℤ◌, ◌-ℤ◌, None, Option, Some}
use Rattle.std.proofs.Common.{sym, ap, ap₂, ◌∙◌, arith, SFits}
use Rattle.std.specs.Int.Signed.{le_z}
use Rattle.std.specs.Int.{w64}
use Rattle.integers.specs.Integer.{◌⩽◌, Within}
use Rattle.integers.proofs.Linear.{ints, zs}
use Rattle.lines.specs.Valid.{LinesOk}
use Rattle.steps.specs.declared.Step.{Step}
use Rattle.steps.specs.Step.{max_weight, step_numbered_lem, named}
use Rattle.theory_walks.specs.Distance.{Distance, none, some, min_d, ◌⊕◌, ◌⊞◌}
use Rattle.theory_walks.specs.Row.{best}
use Rattle.theory_walks.specs.Negative.{not_below0, no_negative}
use Rattle.theory_bounds.specs.Tight.{Table}
use Rattle.decide_rows.specs.Stored.{stored}
use Rattle.decide_rows.specs.Read.{no_walk_lem, distance_of, Short, short_more}
use Rattle.decide_rows.specs.Numbers.{steps_before, before_more}
use Rattle.decide_stored_table.specs.Sum.{max_tight, read_back, sum_short}
use Rattle.theory_bounds.specs.Agree.{Agree}
use Rattle.theory_inserting.specs.Insert.{closing, inserted}
use Rattle.theory_inserting.specs.Two.{insert_named, stays, stays_same, named_same, two_test, two_best}
use Rattle.session_step.specs.Read.{small_table, small_agree}
use Rattle.session_step.specs.Meaning.{TableFor, agree, short_table}
use Rattle.session_line.specs.Numbered.{ends}

-- whether neither step closes a walk of negative sum, the second with the first in place
abbrev pub both_stay : Table → Option Step → Option Step → Bool
both_stay D x y = stays D x && stays (insert_named D x) y

abbrev pub line_stays_in : ℕ → List ℤ → ℕ → List ℤ → Bool
line_stays_in N L k t = both_stay (small_table N t) (step_numbered_lem L (2 * k)) (step_numbered_lem L (2 * k + 1))

-- the table with both, as it is read
abbrev pub line_inserted : ℕ → List ℤ → ℕ → List ℤ → Table
line_inserted N L k t = insert_named (insert_named (small_table N t) (step_numbered_lem L (2 * k))) (step_numbered_lem L (2 * k + 1))

-- ---- the second step, with the first in place: the stored distance against the weight
pub not_below_stored : (d : Distance) (w : ℤ) → Within max_weight w → le_z (pos 0 -ℤ w) (stored d) ≡ not_below0 (d ⊕ w)
not_below_stored none w h = below w h.low
  where
    below : (w : ℤ) → neg_ℤ (pos max_weight) ⩽ w → le_z (pos 0 -ℤ w) no_walk_lem ≡ true
    below w = simp ints (omega arith)
not_below_stored (some z) w h = go (le_z (pos 0 -ℤ w) z) refl
  where
    turn_yes : (w z : ℤ) → le_z (pos 0 -ℤ w) z ≡ true → le_z (pos 0) (z +ℤ w) ≡ true
    turn_yes w z = simp ints (omega arith)

    turn_no : (w z : ℤ) → le_z (pos 0 -ℤ w) z ≡ false → le_z (pos 0) (z +ℤ w) ≡ false
    turn_no w z = simp ints (omega arith)

    go : (b : Bool) → le_z (pos 0 -ℤ w) z ≡ b → b ≡ le_z (pos 0) (z +ℤ w)
    go true e = sym (turn_yes w z e)
    go false e = sym (turn_no w z e)

pub negated_fits : (w : ℤ) → Within max_weight w → SFits w64 (pos 0 -ℤ w)
negated_fits w h = simp ints (omega zs)

-- the code's calls: the smaller of a distance and a sum, all read back
pub smaller_is : (c x y : Distance) (a p q b r : ℤ) → distance_of a ≡ c → distance_of p ≡ x → distance_of q ≡ y → Short max_tight x → Short max_tight y
    → b ≡ stored (distance_of p ⊞ distance_of q) → r ≡ stored (min_d (distance_of a) (distance_of b)) → r ≡ stored (min_d c (x ⊞ y))
smaller_is c x y a p q b r ea ep eq hx hy eb er =
    let sum : distance_of b ≡ x ⊞ y = ap distance_of (eb ∙ ap₂ (λ (d e : Distance). stored (d ⊞ e)) ep eq) ∙ read_back (x ⊞ y) (short_more (omega arith) (sum_short x y max_tight max_tight hx hy)) in
    er ∙ ap₂ (λ (d e : Distance). stored (min_d d e)) ea sum

-- ---- the five ways through the code
module _ (D : Table) (x y : Option Step) where
  module _ (a : Step) (ex : x ≡ Some a) where
    pub both_no : not_below0 (closing D a) ≡ false → false ≡ both_stay D x y
    both_no e = rw (ex, e) refl

    pub both_one : not_below0 (closing D a) ≡ true → y ≡ None → true ≡ both_stay D x y
    both_one e ey = rw (ex, ey, e) refl

    pub both_two : not_below0 (closing D a) ≡ true → (b : Step) → y ≡ Some b → (r : Bool) → r ≡ not_below0 (closing (inserted D a) b) → r ≡ both_stay D x y
    both_two e b ey r er = rw (ex, ey, e) er

  module _ (ex : x ≡ None) where
    pub both_other : (b : Step) → y ≡ Some b → (r : Bool) → r ≡ not_below0 (closing D b) → r ≡ both_stay D x y
    both_other b ey r er = rw (ex, ey) er

    pub both_none : y ≡ None → true ≡ both_stay D x y
    both_none ey = rw (ex, ey) refl

-- ---- what it means
module _ (n : ℕ) (L : List ℤ) (ok : LinesOk n L) (k : ℕ) (t : List ℤ) (a : TableFor n (steps_before L (2 * k)) t) where
  abbrev N : ℕ
  N = 2 * n

  abbrev E : List Step
  E = steps_before L (2 * k)

  abbrev x : Option Step
  x = step_numbered_lem L (2 * k)

  abbrev y : Option Step
  y = step_numbered_lem L (2 * k + 1)

  read_agree : Agree N (small_table N t) (best E N)
  read_agree u v hu hv = small_agree n t (short_table n E t a) u v hu hv ∙ agree n E t a u v hu hv

  two : E ++ named x ++ named y ≡ steps_before L (2 * (k + 1))
  two =
      let twice : 2 * k + 1 + 1 ≡ 2 * (k + 1) = omega arith in
      ap (λ (F : List Step). F ++ named y) (sym (before_more L (2 * k))) ∙ sym (before_more L (2 * k + 1)) ∙ ap (steps_before L) twice

  both_same : line_stays_in N L k t ≡ both_stay (best E N) x y
  both_same =
      ap₂ (λ (p q : Bool). p && q)
      (stays_same N (small_table N t) (best E N) read_agree x (ends n L ok (2 * k)))
      (stays_same N (insert_named (small_table N t) x) (insert_named (best E N) x) (named_same N (small_table N t) (best E N) read_agree x (ends n L ok (2 * k))) y (ends n L ok (2 * k + 1)))

  -- the test says whether the lines 0 to k have no closed walk of negative sum
  pub test_is : line_stays_in N L k t ≡ no_negative (steps_before L (2 * (k + 1))) N
  test_is =
      both_same
      ∙ sym (two_test E N a.within a.nonneg x y (ends n L ok (2 * k)) (ends n L ok (2 * k + 1)))
      ∙ ap (λ (F : List Step). no_negative F N) two

  -- and then what is read with both is the distances of the lines 0 to k
  pub inserted_agree : line_stays_in N L k t ≡ true → Agree N (line_inserted N L k t) (best (steps_before L (2 * (k + 1))) N)
  inserted_agree e u v hu hv =
      named_same N (insert_named (small_table N t) x) (insert_named (best E N) x) (named_same N (small_table N t) (best E N) read_agree x (ends n L ok (2 * k))) y (ends n L ok (2 * k + 1)) u v hu hv
      ∙ sym (two_best E N a.within a.nonneg x y (ends n L ok (2 * k)) (ends n L ok (2 * k + 1)) (sym both_same ∙ e) u v hu hv)
      ∙ ap (λ (F : List Step). best F N u v) two
