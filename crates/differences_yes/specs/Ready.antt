-- What is asked of a table and of three lent lists before the answers are written to them; and that a table of the plain distances of a list of differences,
-- where the answer is yes, has what is asked and gives the answers of the list.
use Rattle.std.specs.Prelude.{◌≡◌, true, List, ◌++◌, ℕ, ◌+◌, ◌*◌, ◌<◌, ◌≤◌, ℤ, pos, length, drop}
use Rattle.std.proofs.Common.{sym, ap, ◌∙◌, mul-le-mul_right, arith}
use Rattle.integers.specs.Integer.{Within}
use Rattle.integers.specs.Sequence.{tabulate, get_d_tabulate}
use Rattle.lines.specs.Limits.{max_variables}
use Rattle.lines.specs.Valid.{Modellable}
use Rattle.lines.specs.Line.{number, lines_of}
use Rattle.steps.specs.Step.{max_weight}
use Rattle.theory_walks.specs.Row.{best}
use Rattle.theory_walks.specs.Negative.{no_negative}
use Rattle.theory_walks.specs.Size.{within_more, best_within}
use Rattle.theory_bounds.specs.Table.{table_model}
use Rattle.theory_bounds.specs.Answers.{model_of, bounds_of, group_at_lem, groups_of}
use Rattle.theory_bounds.specs.Verdict.{verdict_of}
use Rattle.theory_differences.specs.Distances.{plain_distances, doubled}
use Rattle.theory_differences.specs.Doubled.{absent_at}
use Rattle.theory_differences.specs.Answers.{verdict_plain, plain_model, plain_bounds, plain_groups}
use Rattle.decide_buffers.specs.Room.{model_room_lem, bounds_room_lem, groups_room_lem}
use Rattle.decide_rows.specs.Stored.{stored}
use Rattle.decide_rows.specs.Read.{distance_of, Short, max_distance, short_more}
use Rattle.decide_stored_table.specs.Sum.{read_back}
use Rattle.decide_stored_table.specs.Table.{table_of}
use Rattle.decide_model.specs.Limit.{max_model}
use Rattle.decide_yes.specs.Table.{model_within}
use Rattle.differences_lines.specs.PlainList.{PlainList, plain_of, plain_ok, weights_within}
use Rattle.differences_model.specs.Limit.{PlainTable}

pub record PlainAnswersReady (n : ℕ) (t model bounds : List ℤ) (groups : List ℕ) : Type 0 where
  pub table : PlainTable n t
  pub small : (k : ℕ) → k < n → Within max_model (table_model n (doubled (table_of n t)) k)
  pub model_room : model_room_lem n ≤ length model
  pub bounds_room : bounds_room_lem n ≤ length bounds
  pub groups_room : groups_room_lem n ≤ length groups

-- t has the plain distances of L, and the answer is yes
pub record PlainYes (n : ℕ) (L t : List ℤ) : Type 0 where
  pub plain : PlainList n L
  pub modelled : Modellable n L
  pub none_negative : no_negative (plain_of L) n ≡ true
  pub size : length t ≡ n * n
  pub entries : (u v : ℕ) → u < n → v < n → number t (v * n + u) ≡ stored (best (plain_of L) n u v)

module _ {n : ℕ} {L t : List ℤ} (y : PlainYes n L t) where
  distance_short : (u v : ℕ) → Short max_distance (plain_distances n (lines_of L) u v)
  distance_short u v z e =
      let b : n ≤ 2 * max_variables = omega (arith, y.plain.works.variables) in
      within_more (mul-le-mul_right max_weight b) (best_within max_weight (plain_of L) (weights_within y.plain) n u v z e)

  same : (u v : ℕ) → u < n → v < n → table_of n t u v ≡ plain_distances n (lines_of L) u v
  same u v hu hv = ap distance_of (y.entries u v hu hv) ∙ read_back _ (short_more (omega arith) (distance_short u v))

  plain_table : PlainTable n t
  plain_table = record { variables = y.plain.works.variables; size = y.size; short = λ u v hu hv. rw (same u v hu hv) (distance_short u v) }

  -- ---- the answers of the list
  model_is : tabulate n (table_model n (doubled (table_of n t))) ≡ model_of n (lines_of L)
  model_is = plain_model n (lines_of L) (plain_ok y.plain) y.plain.all y.none_negative (table_of n t) same

  bounds_are : tabulate (2 * n) absent_at ≡ bounds_of n (lines_of L)
  bounds_are = plain_bounds n (lines_of L) (plain_ok y.plain) y.plain.all y.none_negative (table_of n t) same

  groups_are : tabulate (2 * n) (group_at_lem (doubled (table_of n t))) ≡ groups_of n (lines_of L)
  groups_are = plain_groups n (lines_of L) (plain_ok y.plain) y.plain.all y.none_negative (table_of n t) same

  -- the values are small, as every model's
  model_small : (k : ℕ) → k < n → Within max_model (table_model n (doubled (table_of n t)) k)
  model_small k h =
      let v : verdict_of n (lines_of L) ≡ true = verdict_plain n (lines_of L) (plain_ok y.plain) y.plain.all ∙ y.none_negative in
      let e : number (model_of n (lines_of L)) k ≡ table_model n (doubled (table_of n t)) k =
      ap (λ (l : List ℤ). number l k) (sym model_is) ∙ get_d_tabulate n k (table_model n (doubled (table_of n t))) (pos 0) h in
      rw e at (model_within n L y.plain.works v y.modelled k h)

  module _ (model bounds : List ℤ) (groups : List ℕ) where
    pub plain_ready : model_room_lem n ≤ length model → bounds_room_lem n ≤ length bounds → groups_room_lem n ≤ length groups → PlainAnswersReady n t model bounds groups
    plain_ready a b c = record { table = plain_table; small = model_small; model_room = a; bounds_room = b; groups_room = c }

    -- what the three lists hold then
    pub plain_answers : (m bs : List ℤ) (g : List ℕ)
        → (m ≡ tabulate n (table_model n (doubled (table_of n t))) ++ drop (model_room_lem n) model)
        × (bs ≡ tabulate (2 * n) absent_at ++ drop (bounds_room_lem n) bounds)
        × (g ≡ tabulate (2 * n) (group_at_lem (doubled (table_of n t))) ++ drop (groups_room_lem n) groups)
        → (m ≡ model_of n (lines_of L) ++ drop (model_room_lem n) model) × (bs ≡ bounds_of n (lines_of L) ++ drop (bounds_room_lem n) bounds) × (g ≡ groups_of n (lines_of L) ++ drop (groups_room_lem n) groups)
    plain_answers m bs g h = (
      h.0 ∙ ap (λ (l : List ℤ). l ++ drop (model_room_lem n) model) model_is,
      h.1 ∙ ap (λ (l : List ℤ). l ++ drop (bounds_room_lem n) bounds) bounds_are,
      h.2 ∙ ap (λ (l : List ℕ). l ++ drop (groups_room_lem n) groups) groups_are,
    )
