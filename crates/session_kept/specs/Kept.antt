-- The model and the groups as a session keeps them, n values and 2n numbers: what they are after a line is learnt, when they stay, and what is handed
-- out of them. All is defined whatever numbers the table and the kept outputs hold.
use Rattle.std.specs.Prelude.{◌≡◌, Bool, not, cond, ◌&&◌, ◌||◌, List, ◌++◌, ℕ, ◌+◌, ◌*◌, ◌≤◌, ℤ, pos, nat_abs, length, take, drop}
use Rattle.integers.specs.Integer.{is_between}
use Rattle.integers.specs.Sequence.{tabulate}
use Rattle.lines.specs.declared.Line.{Line}
use Rattle.lines.specs.Limits.{max_variables}
use Rattle.lines.specs.Line.{number, meets, assignment_of}
use Rattle.steps.specs.Step.{step_numbered_lem}
use Rattle.theory_bounds.specs.Answers.{bound_at, group_at_lem}
use Rattle.theory_kept.specs.Slack.{wide_step}
use Rattle.decide_buffers.specs.Room.{model_room_lem, bounds_room_lem, groups_room_lem}
use Rattle.decide_stored_table.specs.Table.{by_rows}
use Rattle.decide_model.specs.Values.{small_value_lem, values_of}
use Rattle.session_step.specs.Read.{small_table, SizedTable}
use Rattle.session_state.specs.State.{kept_room_lem, widened}
use Rattle.session_distances.specs.Distances.{all_distances}

-- ---- what is kept
-- the model after a line is learnt: as it was where it stays or the table holds a number that is no distance, else read off the table
abbrev pub model_after : ℕ → Bool → List ℤ → List ℤ → List ℤ
model_after n stays t m = cond (stays || not (all_distances t)) m (values_of (by_rows (2 * n) t) n)

-- and the groups
abbrev pub groups_after : ℕ → Bool → List ℤ → List ℤ → List ℤ
groups_after n stays t g = cond (stays || not (all_distances t)) g (widened (tabulate (2 * n) (group_at_lem (by_rows (2 * n) t))))

-- both
abbrev pub kept_after : ℕ → Bool → Bool → List ℤ → List ℤ → List ℤ
kept_after n ms gs t q = model_after n ms t (take n q) ++ groups_after n gs t (drop n q)

-- ---- when they stay
-- value i of the kept model, small enough for 32 bits
abbrev pub value_at : List ℤ → ℕ → ℤ
value_at q i = small_value_lem (number q i)

-- the model, where it meets the line
abbrev pub keeps_model_lem : ℕ → List ℤ → Line → Bool
keeps_model_lem n q l = meets (assignment_of (tabulate n (value_at q))) l

-- the groups, where both steps of line k are wide
abbrev pub keeps_groups_lem : ℕ → List ℤ → ℕ → List ℤ → Bool
keeps_groups_lem n L k t = wide_step (small_table (2 * n) t) (step_numbered_lem L (2 * k)) && wide_step (small_table (2 * n) t) (step_numbered_lem L (2 * k + 1))

-- ---- what is handed out
-- a number of the groups as it is given: one that is beyond all variables is 0
abbrev pub small_group_lem : ℤ → ℕ
small_group_lem z = cond (is_between (pos 0) (pos max_variables) z) (nat_abs z) 0

-- number i of the groups, behind n values
abbrev pub group_number : ℕ → List ℤ → ℕ → ℕ
group_number n q i = small_group_lem (number q (n + i))

-- the three outputs: model and groups as they are kept, the bounds read off the table
abbrev pub given_model : ℕ → List ℤ → List ℤ
given_model n q = tabulate n (value_at q)

abbrev pub given_bounds : ℕ → List ℤ → List ℤ
given_bounds n t = tabulate (2 * n) (bound_at (small_table (2 * n) t))

abbrev pub given_groups : ℕ → List ℤ → List ℕ
given_groups n q = tabulate (2 * n) (group_number n q)

-- what is asked: lengths alone
pub record GiveReady (n : ℕ) (t q model bounds : List ℤ) (groups : List ℕ) : Type 0 where
  pub table : SizedTable n t
  pub kept : length q ≡ kept_room_lem n
  pub model_room : model_room_lem n ≤ length model
  pub bounds_room : bounds_room_lem n ≤ length bounds
  pub groups_room : groups_room_lem n ≤ length groups

-- before: model, bounds and groups; after: model', bounds' and groups'
pub record Given (n : ℕ) (t q model bounds : List ℤ) (groups : List ℕ) (model' bounds' : List ℤ) (groups' : List ℕ) : Type 0 where
  pub model_is : model' ≡ given_model n q ++ drop (model_room_lem n) model
  pub bounds_is : bounds' ≡ given_bounds n t ++ drop (bounds_room_lem n) bounds
  pub groups_is : groups' ≡ given_groups n q ++ drop (groups_room_lem n) groups
