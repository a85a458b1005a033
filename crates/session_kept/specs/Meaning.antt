-- What the kept outputs are where the table is that of a list with a solution: the model and the groups of the list, once they are read off the table or
-- have stayed because they are the list's already; and then what is handed out is the model, the bounds and the groups of the list.
use Rattle.std.specs.Prelude.{◌≡◌, refl, Bool, true, false, not, cond, ◌||◌, List, ◌++◌, ℕ, ◌+◌, ◌*◌, ◌/◌, ◌%◌, ◌<◌, ◌≤◌, eqb, ℤ, pos, length, get_or, take, drop}
use Rattle.std.proofs.Common.{sym, ap, ap₂, ◌∙◌, arith, length-append, length-drop, take_at, drop_at, take_all, length-take-le, get_or-append-add}
use Rattle.std.proofs.lemmas.List.{length-map}
use Rattle.std.proofs.Math.ListN.{get_or-append, get_or-map}
use Rattle.integers.specs.Laws.{never}
use Rattle.integers.proofs.Halving.{within_is}
use Rattle.integers.specs.Sequence.{tabulate, tabulate_cong, tabulate_get_d, length_tabulate, get_d_tabulate}
use Rattle.integers.specs.Lowest.{lowest_at_most}
use Rattle.lines.specs.declared.Line.{Line}
use Rattle.lines.specs.Limits.{max_variables}
use Rattle.lines.specs.Line.{number, lines_of, meets, assignment_of}
use Rattle.lines.specs.Valid.{Workable, Modellable}
use Rattle.steps.specs.Step.{steps_of}
use Rattle.theory_bounds.specs.Tight.{Table}
use Rattle.theory_bounds.specs.Table.{table_model}
use Rattle.theory_bounds.specs.Agree.{bounds_same}
use Rattle.theory_bounds.specs.Answers.{model_of, bound_at, bounds_of, same_points_lem, group_point_lem, group_at_lem, groups_of}
use Rattle.theory_bounds.specs.Verdict.{distances, verdict_of}
use Rattle.decide_buffers.specs.Room.{model_room_lem, bounds_room_lem, groups_room_lem}
use Rattle.decide_stored_table.specs.Table.{table_of, by_rows, ShortTable, mirrored_table}
use Rattle.decide_bounds_groups.specs.Grouping.{groups_are}
use Rattle.decide_model.specs.Values.{small_value_lem, values_of, values_are, values_length, value_yes}
use Rattle.decide_yes.specs.Table.{table_for, model_agrees, bounds_agree, groups_agree, table_closed, model_ready, model_within}
use Rattle.decide_yes.specs.Table as yes_table
use Rattle.session_step.specs.Read.{small_table, small_agree}
use Rattle.session_step.specs.Meaning.{TableFor, short_table}
use Rattle.session_distances.specs.Distances.{all_distances, short_distances}
use Rattle.session_state.specs.State.{kept_room_lem, widened, kept_for}
use Rattle.session_kept.specs.Kept.{model_after, groups_after, kept_after, value_at, keeps_model_lem, small_group_lem, group_number, Given}
use Rattle.session_kept.specs.Laws.{group_pos}

-- ---- lengths
module _ (n : ℕ) (ls : List Line) where
  pub model_length : length (model_of n ls) ≡ n
  unfolding model_of
  model_length = length_tabulate n (table_model n (distances n ls))

  groups_length : length (groups_of n ls) ≡ 2 * n
  unfolding groups_of
  groups_length = length_tabulate (2 * n) (group_at_lem (distances n ls))

pub after_length : (n : ℕ) (ms gs : Bool) (t q : List ℤ) → length q ≡ kept_room_lem n → length (kept_after n ms gs t q) ≡ kept_room_lem n
after_length n ms gs t q size =
    length-append (model_after n ms t (take n q)) (groups_after n gs t (drop n q))
    ∙ omega (arith, front (ms || not (all_distances t)), behind (gs || not (all_distances t)))
  where
    front : (b : Bool) → length (cond b (take n q) (values_of (by_rows (2 * n) t) n)) ≡ n
    front true = length-take-le n q (omega arith)
    front false = values_length (by_rows (2 * n) t) n

    behind : (b : Bool) → length (cond b (drop n q) (widened (tabulate (2 * n) (group_at_lem (by_rows (2 * n) t))))) ≡ 2 * n
    behind true = length-drop n q ∙ omega arith
    behind false = length-map (tabulate (2 * n) (group_at_lem (by_rows (2 * n) t))) pos ∙ length_tabulate (2 * n) (group_at_lem (by_rows (2 * n) t))

-- ---- a number of the groups is that of a variable, or a sign
group_small : (n : ℕ) → n ≤ max_variables → (D : Table) (i : ℕ) → i < 2 * n → group_at_lem D i ≤ max_variables
group_small n few D i h = go (eqb (i % 2) 0)
  where
    point : group_point_lem D (i / 2) ≤ 2 * (i / 2)
    point = lowest_at_most (same_points_lem D (2 * (i / 2))) (2 * (i / 2))

    go : (b : Bool) → cond b (group_point_lem D (i / 2) / 2) (group_point_lem D (i / 2) % 2) ≤ max_variables
    go true = omega (arith, point)
    go false = omega arith

-- ---- a list with a solution
module _ (n : ℕ) (L : List ℤ) (valid : Workable n L) (modelled : Modellable n L) (yes_verdict : verdict_of n (lines_of L) ≡ true) where
  abbrev M : List ℤ
  M = model_of n (lines_of L)

  abbrev G : List ℕ
  G = groups_of n (lines_of L)

  -- ---- what is read off its table
  short : ShortTable n (table_for n L)
  short = yes_table.short_table n L valid.variables valid.lines

  all_distances_law : all_distances (table_for n L) ≡ true
  all_distances_law = short_distances n (table_for n L) short

  model_read : values_of (by_rows (2 * n) (table_for n L)) n ≡ M
  model_read =
      values_are n (table_for n L) short (table_closed n L valid yes_verdict) (model_ready n L valid yes_verdict modelled)
      ∙ model_agrees n L valid.variables valid.lines

  groups_read : tabulate (2 * n) (group_at_lem (by_rows (2 * n) (table_for n L))) ≡ G
  groups_read = groups_are n (table_for n L) (mirrored_table n (table_for n L) short (table_closed n L valid yes_verdict)) ∙ groups_agree n L valid.variables valid.lines

  -- ---- what is kept
  -- its model is small, so that it is read as it is kept
  module _ (d q : List ℤ) (is : q ≡ model_of n (lines_of L) ++ d) where
    value_is : (i : ℕ) → i < n → value_at q i ≡ number M i
    value_is i h =
        ap (λ (x : List ℤ). value_at x i) is
        ∙ ap small_value_lem (get_or-append M d (pos 0) i (omega (arith, h, model_length n (lines_of L))))
        ∙ sym (value_yes (number M i) (within_is _ (number M i) (model_within n L valid yes_verdict modelled i h)))

    values_kept : tabulate n (value_at q) ≡ M
    values_kept =
        tabulate_cong n (value_at q) (number M) value_is
        ∙ tabulate_get_d n M (pos 0) (omega (arith, model_length n (lines_of L)))
        ∙ take_all n M (omega (arith, model_length n (lines_of L)))

    pub keeps_model : (l : Line) → keeps_model_lem n q l ≡ meets (assignment_of (model_of n (lines_of L))) l
    keeps_model l = ap (λ (m : List ℤ). meets (assignment_of m) l) values_kept

  -- its groups are read as they are kept
  module _ (q : List ℤ) (is : q ≡ kept_for n (lines_of L)) where
    group_at : (i : ℕ) → number q (n + i) ≡ pos (get_or G i 0)
    group_at i =
        ap₂ (λ (x : List ℤ) (k : ℕ). number x (k + i)) is (sym (model_length n (lines_of L)))
        ∙ get_or-append-add M (widened G) i (pos 0)
        ∙ get_or-map pos G i 0

    group_few : (i : ℕ) → i < 2 * n → get_or G i 0 ≤ max_variables
    unfolding groups_of
    group_few i h = rw (get_d_tabulate (2 * n) i (group_at_lem (distances n (lines_of L))) 0 h) (group_small n valid.variables (distances n (lines_of L)) i h)

    groups_kept : tabulate (2 * n) (group_number n q) ≡ G
    groups_kept =
        tabulate_cong (2 * n) (group_number n q) (λ (i : ℕ). get_or G i 0) (λ i h. ap small_group_lem (group_at i) ∙ group_pos (get_or G i 0) (group_few i h))
        ∙ tabulate_get_d (2 * n) G 0 (omega (arith, groups_length n (lines_of L)))
        ∙ take_all (2 * n) G (omega (arith, groups_length n (lines_of L)))

  -- ---- the table of the list
  module _ (t : List ℤ) (table : TableFor n (steps_of (lines_of L)) t) where
    all : all_distances t ≡ true
    all = ap all_distances table.is ∙ all_distances_law

    -- what stays is the list's already, and else it is read off the table
    model_after_law : (stays : Bool) (m : List ℤ) → (stays ≡ true → M ≡ m) → model_after n stays t m ≡ M
    model_after_law true m same = sym (same refl)
    model_after_law false m same =
        ap (λ (b : Bool). cond (not b) m (values_of (by_rows (2 * n) t) n)) all
        ∙ ap (λ (x : List ℤ). values_of (by_rows (2 * n) x) n) table.is
        ∙ model_read

    groups_after_law : (stays : Bool) (g : List ℤ) → (stays ≡ true → widened G ≡ g) → groups_after n stays t g ≡ widened G
    groups_after_law true g same = sym (same refl)
    groups_after_law false g same =
        ap (λ (b : Bool). cond (not b) g (widened (tabulate (2 * n) (group_at_lem (by_rows (2 * n) t))))) all
        ∙ ap (λ (x : List ℤ). widened (tabulate (2 * n) (group_at_lem (by_rows (2 * n) x)))) table.is
        ∙ ap widened (groups_read)

    -- both are read off the table, whatever was kept
    pub kept_anew : (q : List ℤ) → kept_after n false false t q ≡ kept_for n (lines_of L)
    kept_anew q = ap₂ (λ (x y : List ℤ). x ++ y) (model_after_law false (take n q) (λ e. never (cc))) (groups_after_law false (drop n q) (λ e. never (cc)))

    -- some may stay
    pub kept_more : (ms gs : Bool) (m : List ℤ) (g : List ℕ) → (ms ≡ true → model_of n (lines_of L) ≡ m) → (gs ≡ true → groups_of n (lines_of L) ≡ g) → length m ≡ n
        → kept_after n ms gs t (m ++ widened g) ≡ kept_for n (lines_of L)
    kept_more ms gs m g em eg size =
        ap₂ (λ (x y : List ℤ). model_after n ms t x ++ groups_after n gs t y) (take_at m (widened g) n size) (drop_at m (widened g) n size)
        ∙ ap₂ (λ (x y : List ℤ). x ++ y) (model_after_law ms m em) (groups_after_law gs (widened g) (λ e. ap widened (eg e)))

    bounds_read : tabulate (2 * n) (bound_at (small_table (2 * n) t)) ≡ bounds_of n (lines_of L)
    bounds_read =
        bounds_same n (small_table (2 * n) t) (table_of (2 * n) t) (small_agree n t (short_table n (steps_of (lines_of L)) t table))
        ∙ ap (λ (x : List ℤ). tabulate (2 * n) (bound_at (table_of (2 * n) x))) table.is
        ∙ bounds_agree n L valid.variables valid.lines

    -- ---- what is handed out
    module _ (q : List ℤ) (is : q ≡ kept_for n (lines_of L))
        (model bounds : List ℤ) (groups : List ℕ) (model' bounds' : List ℤ) (groups' : List ℕ)
        (given : Given n t q model bounds groups model' bounds' groups') where
      pub given_model : model' ≡ model_of n (lines_of L) ++ drop (model_room_lem n) model
      given_model = given.model_is ∙ ap (λ (x : List ℤ). x ++ drop (model_room_lem n) model) (values_kept (widened G) q is)

      pub given_bounds : bounds' ≡ bounds_of n (lines_of L) ++ drop (bounds_room_lem n) bounds
      given_bounds = given.bounds_is ∙ ap (λ (x : List ℤ). x ++ drop (bounds_room_lem n) bounds) bounds_read

      pub given_groups : groups' ≡ groups_of n (lines_of L) ++ drop (groups_room_lem n) groups
      given_groups = given.groups_is ∙ ap (λ (x : List ℕ). x ++ drop (groups_room_lem n) groups) (groups_kept q is)
