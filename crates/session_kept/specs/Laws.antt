-- The ways through the code: what each leaves of the kept outputs, and one value, bound or number of the groups.
use Rattle.std.specs.Prelude.{◌≡◌, refl, Bool, true, false, not, cond, ◌||◌, List, ◌∷◌, ◌++◌, ℕ, zero, suc, ◌+◌, ◌*◌, ◌-◌, ◌/◌, ◌%◌, ◌<◌, ◌≤◌, ℤ, pos, ◌-ℤ◌, length, get_or, take, drop}
use Rattle.std.proofs.Common.{sym, ap, ap₂, ◌∙◌, append-nil, arith, eq-eqb, le-leb, take-append-drop, length-drop, drop_of_length-le, take_at, drop_at, take_all, length-take-le, SFits}
use Rattle.std.proofs.Math.Decide.{dec_lt}
use Rattle.std.proofs.Math.ListN.{get_or-eq_default}
use Rattle.std.specs.Int.Signed.{le_z}
use Rattle.std.specs.Int.{w64}
use Rattle.integers.specs.Integer.{is_between, Within}
use Rattle.integers.specs.Laws.{both_true}
use Rattle.integers.proofs.Halving.{is_within}
use Rattle.integers.specs.Sequence.{tabulate, tabulate_get_d, tabulate_cong, length_tabulate, get_d_tabulate}
use Rattle.integers.specs.Lowest.{first_failing_lem}
use Rattle.lines.specs.Limits.{max_variables, max_value, absent_least}
use Rattle.lines.specs.Line.{number, assignment_of}
use Rattle.steps.specs.Point.{point}
use Rattle.theory_walks.specs.Size.{within_more}
use Rattle.theory_bounds.specs.Tight.{Table, halves}
use Rattle.theory_bounds.specs.Answers.{bound_at, least_of, greatest_of, group_at_lem}
use Rattle.decide_buffers.specs.Room.{groups_room_lem}
use Rattle.decide_rows.specs.Stored.{stored}
use Rattle.decide_rows.specs.Read.{no_walk_lem}
use Rattle.decide_stored_table.specs.Table.{by_rows}
use Rattle.decide_bounds_groups.specs.Reading.{within, least_none, least_some, minus_fits}
use Rattle.decide_model.specs.Values.{values_of, values_length, value_small}
use Rattle.session_step.specs.Read.{small_table}
use Rattle.session_questions.specs.Asked.{halves_short}
use Rattle.session_distances.specs.Distances.{distance_at, all_distances, beyond_some}
use Rattle.session_state.specs.State.{kept_room_lem, widened}
use Rattle.session_kept.specs.Kept.{kept_after, value_at, small_group_lem}

-- ---- numbers that are copied to the front
pub copied_front : (n : ℕ) (f : ℕ → ℤ) (before now : List ℤ) → n ≤ length now → ((k : ℕ) → k < n → number now k ≡ f k) → drop n now ≡ drop n before → now ≡ tabulate n f ++ drop n before
copied_front n f before now h copied rest =
    sym (take-append-drop n now) ∙ ap₂ (λ (x y : List ℤ). x ++ y) (sym (tabulate_get_d n now (pos 0) h) ∙ tabulate_cong n (number now) f copied) rest

-- ---- numbers of the groups as they are kept
widened_tabulate : (n : ℕ) (f : ℕ → ℕ) → widened (tabulate n f) ≡ tabulate n (λ i. pos (f i))
widened_tabulate zero f = refl
widened_tabulate (suc n) f = ap (λ (l : List ℤ). pos (f zero) ∷ l) (widened_tabulate n (λ i. f (suc i)))

-- the first n, copied one after the other
pub widened_front : (n : ℕ) (g : List ℕ) → n ≤ length g → tabulate n (λ i. pos (get_or g i 0)) ≡ widened (take n g)
widened_front n g h = sym (widened_tabulate n (λ i. get_or g i 0)) ∙ ap widened (tabulate_get_d n g 0 h)

-- ---- the model that was read off the table to a list w
module _ (n : ℕ) (stays : Bool) (q v : List ℤ) where
  pub model_anew : stays ≡ false → length v ≡ n → (d w q' : List ℤ) → w ≡ v ++ d → q' ≡ take n w ++ drop n q → q' ≡ cond stays (take n q) v ++ drop n q
  model_anew e l d w q' is put = put ∙ ap (λ (x : List ℤ). x ++ drop n q) (ap (take n) is ∙ take_at v d n l ∙ sym (ap (λ (b : Bool). cond b (take n q) v) e))

-- ---- the groups f that were read off the table to a list g
module _ (count : ℕ) (stays : Bool) (q : List ℤ) (f : List ℕ) where
  pub groups_anew : stays ≡ false → length q ≡ count → length f ≡ count → (d g : List ℕ) (q' : List ℤ) → g ≡ f ++ d → q' ≡ widened (take count g) ++ drop count q
      → q' ≡ cond stays q (widened f)
  groups_anew e size l d g q' is put =
      let end : length q ≤ count = omega arith in
      put
      ∙ ap₂ (λ (x : List ℕ) (y : List ℤ). widened x ++ y) (ap (take count) is ∙ take_at f d count l) (drop_of_length-le q end)
      ∙ append-nil (widened f)
      ∙ sym (ap (λ (b : Bool). cond b q (widened f)) e)

-- ---- both
-- a choice by a test or a known answer
or_true : (b : Bool) {A : Type 0} (x y : A) → cond (b || true) x y ≡ x
or_true true x y = refl
or_true false x y = refl

or_false : (b : Bool) {A : Type 0} (x y : A) → cond (b || false) x y ≡ cond b x y
or_false true x y = refl
or_false false x y = refl

module _ (n : ℕ) (ms gs : Bool) (t q : List ℤ) where
  -- as they are read off the table
  abbrev values : List ℤ
  values = values_of (by_rows (2 * n) t) n

  abbrev groups : List ℤ
  groups = widened (tabulate (2 * n) (group_at_lem (by_rows (2 * n) t)))

  -- a number of the table is no distance
  pub kept_none : first_failing_lem (length t) (distance_at t) < length t → q ≡ kept_after n ms gs t q
  kept_none h =
      sym (ap₂ (λ (a b : Bool). cond (ms || not a) (take n q) values ++ cond (gs || not b) (drop n q) groups) (beyond_some t h) (beyond_some t h)
      ∙ ap₂ (λ (x y : List ℤ). x ++ y) (or_true ms (take n q) values) (or_true gs (drop n q) groups)
      ∙ take-append-drop n q)

  -- all are: the model is put at the front, then the groups behind it
  module _ (size : length q ≡ kept_room_lem n) (m : List ℤ) (put : m ≡ cond ms (take n q) values ++ drop n q) where
    front_length : length (cond ms (take n q) values) ≡ n
    front_length = go ms
      where
        go : (b : Bool) → length (cond b (take n q) values) ≡ n
        go true = length-take-le n q (omega arith)
        go false = values_length (by_rows (2 * n) t) n

    behind_is : drop n m ≡ drop n q
    behind_is = ap (drop n) put ∙ drop_at (cond ms (take n q) values) (drop n q) n front_length

    pub part_is : take (length m - n) (drop n m) ≡ drop n q
    part_is = take_all (length m - n) (drop n m) (omega (arith, length-drop n m)) ∙ behind_is

    pub part_length : length (take (length m - n) (drop n m)) ≡ groups_room_lem n
    part_length = ap length part_is ∙ length-drop n q ∙ omega (arith, size)

    pub kept_all : all_distances t ≡ true → (g : List ℤ) → g ≡ cond gs (take (length m - n) (drop n m)) groups
        → take n m ++ (g ++ drop (length m - n) (drop n m)) ≡ kept_after n ms gs t q
    kept_all all g is =
        let end : length (drop n m) ≤ length m - n = omega (arith, length-drop n m) in
        ap₂ (λ (x y : List ℤ). x ++ y)
        (ap (take n) put ∙ take_at (cond ms (take n q) values) (drop n q) n front_length)
        (ap (λ (x : List ℤ). g ++ x) (drop_of_length-le (drop n m) end) ∙ append-nil g ∙ is ∙ ap (λ (x : List ℤ). cond gs x groups) part_is)
        ∙ sym (ap₂ (λ (a b : Bool). cond (ms || not a) (take n q) values ++ cond (gs || not b) (drop n q) groups) all all
        ∙ ap₂ (λ (x y : List ℤ). x ++ y) (or_false ms (take n q) values) (or_false gs (drop n q) groups))

-- ---- the kept values as they are read
module _ (n : ℕ) (q : List ℤ) where
  pub values_front : (d w : List ℤ) → w ≡ tabulate n (value_at q) ++ d → take n w ≡ tabulate n (value_at q)
  values_front d w e = ap (take n) e ∙ take_at (tabulate n (value_at q)) d n (length_tabulate n (value_at q))

  -- each is small, and so is the 0 of the variables beyond
  pub values_within : (k : ℕ) → Within max_value (assignment_of (tabulate n (value_at q)) k)
  values_within k = go (dec_lt k n)
    where
      go : Dec (k < n) → Within max_value (assignment_of (tabulate n (value_at q)) k)
      go (yes h) = rw (get_d_tabulate n k (value_at q) (pos 0) h) (within_more (omega arith) (value_small (number q k)))
      go (no h) =
          let end : length (tabulate n (value_at q)) ≤ k = omega (arith, length_tabulate n (value_at q)) in
          rw (get_or-eq_default (tabulate n (value_at q)) (pos 0) end) (is_within max_value (pos 0) refl)

-- ---- one bound, by the half of a point
module _ (N : ℕ) (t : List ℤ) (i : ℕ) where
  abbrev D : Table
  D = small_table N t

  -- the bound that the test picks: the least value or the greatest
  abbrev bound_by : Bool → ℤ
  bound_by b = cond b (least_of (halves D (point (i / 2) 1))) (greatest_of (halves D (point (i / 2) 0)))

  module _ (e : i % 2 ≡ 1 → ⊥) where
    least_at : least_of (halves (small_table N t) (i + 1)) ≡ bound_at (small_table N t) i
    least_at =
        let even : i % 2 ≡ 0 = omega arith in
        let p : i + 1 ≡ point (i / 2) 1 = omega arith in
        ap (λ (k : ℕ). least_of (halves D k)) p ∙ sym (ap bound_by (eq-eqb (i % 2) 0 even))

    module _ (z : ℤ) (is : z ≡ stored (halves (small_table N t) (i + 1))) where
      pub bound_none_at : z ≡ no_walk_lem → absent_least ≡ bound_at (small_table N t) i
      bound_none_at f = least_none (halves D (i + 1)) (halves_short N t (i + 1)) (sym is ∙ f) ∙ least_at

      pub bound_some_at : (z ≡ no_walk_lem → ⊥) → pos 0 -ℤ z ≡ bound_at (small_table N t) i
      bound_some_at f = ap (λ (y : ℤ). pos 0 -ℤ y) is ∙ least_some (halves D (i + 1)) (λ g. f (is ∙ g)) ∙ least_at

      pub bound_fits : (z ≡ no_walk_lem → ⊥) → SFits w64 (pos 0 -ℤ z)
      bound_fits f = minus_fits z (rw is (within (halves D (i + 1)) (halves_short N t (i + 1)) (λ g. f (is ∙ g))))

-- ---- one number of the groups
-- a number that is at most as great as there are variables
pub group_pos : (k : ℕ) → k ≤ max_variables → small_group_lem (pos k) ≡ k
group_pos k h = rw (inside k h) refl
  where
    inside : (k : ℕ) → k ≤ max_variables → is_between (pos 0) (pos max_variables) (pos k) ≡ true
    inside k h = both_true (le_z (pos 0) (pos k)) (le_z (pos k) (pos max_variables)) (le-leb 0 k (omega arith)) (le-leb k max_variables h)
