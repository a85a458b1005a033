-- `session_remake::remake_known` meets its contract: the list that is looked at has the lines before the last.
use Rattle.std.specs.Prelude.{Ok}
use mathlib.Core.Path.{◌≡◌, sym, ap, ap₂, subst, ◌∙◌}
use mathlib.Core.List.{List}
use Prim.Native.Nat.{ℕ, ◌*◌, ◌-◌, ◌≤◌}
use native.Mathlib.Omega.{arith}
use lib.IntN.{ℤ}
use lib.ListN.{length, take}
use lib.Seq.{take-append-le, length-take-le}
use Rattle.lines.specs.Limits.{line_size, max_lines}
use Rattle.lines.specs.Refusal.{validity_of}
use Rattle.lines.specs.Valid.{LinesOk, workable}
use Rattle.session_known.specs.Known.{known_anew_lem}
use Rattle.session_state.specs.declared.Head.{Head}
use Rattle.session_state.specs.State.{session_room_lem, variables_in, count_in, numbers_in, known_in, with_known}
use Rattle.session_state.specs.Laws.{HeadOk, state_head, state_head_ok, length_numbers_in}
use Rattle.session_remake.specs.Remade.{numbers_before, remade_anew, remade_not}
use Rattle.session_remake.proofs.remake_known.Goals.{After-list_validity-found, After-read_head-head, In-Ok}
use Rattle.session_remake.proofs.remake_known.Goals as goal

pub read_head-head-requires : goal.read_head-head-requires
read_head-head-requires c = state_head_ok _ c.requires.0

-- the lines are in the list, and their count is read
module _ (r : After-read_head-head) where
  abbrev state : List ℤ
  state = r.args.state.now

  abbrev list : List ℤ
  list = r.copy_lines.new.list

  ok : HeadOk state
  ok = state_head state r.requires.0

  variables_is : r.read_head-head.result.n ≡ variables_in state
  variables_is = ap (λ (h : Head). h.n) r.read_head-head.ensures

  count_is : r.read_head-head.result.count ≡ count_in state
  count_is = ap (λ (h : Head). h.count) r.read_head-head.ensures

  small : r.read_head-head.result.count ≤ max_lines
  small = omega (arith, count_is, ok.count)

  -- where the lines before the last end
  abbrev end : ℕ
  end = line_size * (r.read_head-head.result.count - 1)

  enough : end ≤ length (numbers_in state)
  enough = omega (arith, count_is, length_numbers_in state ok)

  list_is : take end list ≡ numbers_before state
  list_is =
      ap (take end) r.copy_lines.ensures
      ∙ take-append-le end (numbers_in state) _ enough
      ∙ ap (λ (k : ℕ). take (line_size * (k - 1)) (numbers_in state)) count_is

  end_is : length (take end list) ≡ end
  end_is = ap length (ap (take end) r.copy_lines.ensures ∙ take-append-le end (numbers_in state) _ enough) ∙ length-take-le end (numbers_in state) enough

pub overflow_sub-end : goal.overflow_sub-end
overflow_sub-end c = omega (arith, count_is (goal.at.overflow_sub-end c).After-read_head-head, c.requires.1)

pub overflow_mul-end : goal.overflow_mul-end
overflow_mul-end c = omega (arith, small (goal.at.overflow_mul-end c).After-read_head-head)

pub slice_bounds-list-end : goal.slice_bounds-list-end
slice_bounds-list-end c = omega (arith, small (goal.at.slice_bounds-list-end c).After-read_head-head)

pub slice_bounds-list_validity-end : goal.slice_bounds-list_validity-end
slice_bounds-list_validity-end c = sym (end_is (goal.at.slice_bounds-list_validity-end c).After-read_head-head)

-- the lines were looked at
module _ (v : After-list_validity-found) where
  found : v.list_validity-found.result ≡ validity_of (variables_in (state (goal.at.After-list_validity-found v).After-read_head-head)) (numbers_before (state (goal.at.After-list_validity-found v).After-read_head-head))
  found =
      v.list_validity-found.ensures
      ∙ ap (λ (m : ℕ). validity_of m (take (end (goal.at.After-list_validity-found v).After-read_head-head) (list (goal.at.After-list_validity-found v).After-read_head-head))) (variables_is (goal.at.After-list_validity-found v).After-read_head-head)
      ∙ ap (validity_of (variables_in (state (goal.at.After-list_validity-found v).After-read_head-head))) (list_is (goal.at.After-list_validity-found v).After-read_head-head)

pub slice_bounds-list-end-in-Ok : goal.slice_bounds-list-end-in-Ok
slice_bounds-list-end-in-Ok c = omega (arith, small (goal.at.slice_bounds-list-end-in-Ok c).After-read_head-head)

pub slice_bounds-put_known-end : goal.slice_bounds-put_known-end
slice_bounds-put_known-end c = sym (end_is (goal.at.slice_bounds-put_known-end c).After-read_head-head)

-- they are valid
module _ (e : In-Ok) where
  valid : validity_of (variables_in (state (goal.at.In-Ok e).After-read_head-head)) (numbers_before (state (goal.at.In-Ok e).After-read_head-head)) ≡ Ok tt
  valid = sym (found (goal.at.In-Ok e).After-list_validity-found) ∙ e.in-Ok.is

pub put_known-requires : goal.put_known-requires
put_known-requires c =
    let w = workable (variables_in (state (goal.at.put_known-requires c).After-read_head-head)) (numbers_before (state (goal.at.put_known-requires c).After-read_head-head)) (valid (goal.at.put_known-requires c).In-Ok) in
    let m = sym (variables_is (goal.at.put_known-requires c).After-read_head-head) in (
      omega (arith, w.variables, variables_is (goal.at.put_known-requires c).After-read_head-head),
      subst (λ (j : ℕ). LinesOk j (take (end (goal.at.put_known-requires c).After-read_head-head) (list (goal.at.put_known-requires c).After-read_head-head))) m (subst (LinesOk (variables_in (state (goal.at.put_known-requires c).After-read_head-head))) (sym (list_is (goal.at.put_known-requires c).After-read_head-head)) w.lines),
      subst (λ (j : ℕ). session_room_lem j ≤ length (state (goal.at.put_known-requires c).After-read_head-head)) m (ok (goal.at.put_known-requires c).After-read_head-head).room,
    )

pub returns-in-Ok : goal.returns-in-Ok
returns-in-Ok c =
    c.put_known.ensures
    ∙ ap₂ (λ (j : ℕ) (L : List ℤ). with_known j (state (goal.at.returns-in-Ok c).After-read_head-head) (known_anew_lem j L (known_in j (state (goal.at.returns-in-Ok c).After-read_head-head)))) (variables_is (goal.at.returns-in-Ok c).After-read_head-head) (list_is (goal.at.returns-in-Ok c).After-read_head-head)
    ∙ ap (with_known (variables_in (state (goal.at.returns-in-Ok c).After-read_head-head)) (state (goal.at.returns-in-Ok c).After-read_head-head)) (sym (remade_anew (state (goal.at.returns-in-Ok c).After-read_head-head) (valid (goal.at.returns-in-Ok c).In-Ok)))

pub returns-in-Err : goal.returns-in-Err
returns-in-Err c =
    remade_not (state (goal.at.returns-in-Err c).After-read_head-head) _ (sym (found (goal.at.returns-in-Err c).After-list_validity-found) ∙ c.in-Err.is)
