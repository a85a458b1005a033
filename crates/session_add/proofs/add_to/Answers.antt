-- `session_add::add_to` meets its contract: the list has the lines of the state and the new one; it is refused, or answered with its last line learnt.
use Rattle.std.proofs.lemmas.Result.{err_from_is_err_and}
use Rattle.std.specs.Prelude.{Ok}
use mathlib.Core.Path.{◌≡◌, sym, ap, ◌∙◌}
use mathlib.Core.List.{List}
use Prim.Native.Nat.{ℕ, ◌+◌, ◌*◌, ◌≤◌}
use native.Mathlib.Omega.{arith}
use lib.IntN.{ℤ}
use lib.ListN.{length, take}
use Rattle.lines.specs.declared.Line.{Line}
use Rattle.lines.specs.Limits.{line_size, max_lines}
use Rattle.decide_buffers.specs.Room.{Lent}
use Rattle.decide.specs.Decided.{validity_for}
use Rattle.longer_list.specs.Written.{front_is}
use Rattle.session_state.specs.declared.Head.{Head}
use Rattle.session_state.specs.State.{variables_in, count_in, numbers_with}
use Rattle.session_state.specs.Laws.{state_head, state_head_ok}
use Rattle.session_promise.specs.Standing.{length_with, decide_refuses}
use Rattle.session_answer.specs.Answers.{Answers}
use Rattle.session_add.specs.Added.{answer_ready, head_kept, room_kept, adds, ready_same, answers_same}
use Rattle.session_add.proofs.add_to.Goals.{After-answer_learnt-answer, After-decide_validity, After-read_head-head, In_ok-decide_validity, Start}
use Rattle.session_add.proofs.add_to.Goals as goal

-- what was lent
module _ (begin : Start) where
  abbrev state : List ℤ
  state = begin.args.state.now

  abbrev line : Line
  line = begin.args.line

  abbrev lent : Lent
  lent =
      record {
        model = begin.args.model.now;
        bounds = begin.args.bounds.now;
        groups = begin.args.groups.now;
        refutation = begin.args.refutation.now;
        identifiers = begin.args.identifiers.now;
        work = begin.args.work.now;
      }

pub read_head-head-requires : goal.read_head-head-requires
read_head-head-requires c = state_head_ok _ c.requires.0

-- the lines are in the list, and their count is read
module _ (r : After-read_head-head) where
  abbrev list : List ℤ
  list = r.copy_with.new.list

  variables_is : r.read_head-head.result.n ≡ variables_in (state (goal.at.After-read_head-head r).Start)
  variables_is = ap (λ (h : Head). h.n) r.read_head-head.ensures

  count_is : r.read_head-head.result.count ≡ count_in (state (goal.at.After-read_head-head r).Start)
  count_is = ap (λ (h : Head). h.count) r.read_head-head.ensures

  small : r.read_head-head.result.count ≤ max_lines
  small = omega (arith, count_is, (state_head (state (goal.at.After-read_head-head r).Start) r.requires.0).count)

  -- where they end
  abbrev end : ℕ
  end = line_size * r.read_head-head.result.count + line_size

  end_is : length (numbers_with (state (goal.at.After-read_head-head r).Start) (line (goal.at.After-read_head-head r).Start)) ≡ end
  end_is = length_with (state (goal.at.After-read_head-head r).Start) (line (goal.at.After-read_head-head r).Start) r.requires.0 ∙ ap (λ (j : ℕ). line_size * j + line_size) (sym count_is)

  list_is : take end list ≡ numbers_with (state (goal.at.After-read_head-head r).Start) (line (goal.at.After-read_head-head r).Start)
  list_is = front_is list (numbers_with (state (goal.at.After-read_head-head r).Start) (line (goal.at.After-read_head-head r).Start)) _ end r.copy_with.ensures end_is

pub overflow_mul-end : goal.overflow_mul-end
overflow_mul-end c = omega (arith, small c)

pub overflow_add-end : goal.overflow_add-end
overflow_add-end c = omega (arith, small c)

pub slice_bounds-list-end : goal.slice_bounds-list-end
slice_bounds-list-end c = omega (arith, small c)

pub slice_bounds-decide_validity-end : goal.slice_bounds-decide_validity-end
slice_bounds-decide_validity-end c = sym (ap length (list_is (goal.at.slice_bounds-decide_validity-end c).After-read_head-head) ∙ end_is (goal.at.slice_bounds-decide_validity-end c).After-read_head-head)

-- refusals were looked for
module _ (v : After-decide_validity) where
  found : v.decide_validity.result ≡ validity_for (variables_in (state (goal.at.After-decide_validity v).Start)) (numbers_with (state (goal.at.After-decide_validity v).Start) (line (goal.at.After-decide_validity v).Start)) (lent (goal.at.After-decide_validity v).Start)
  found =
      v.decide_validity.ensures
      ∙ ap (λ (m : ℕ). validity_for m (take (end (goal.at.After-decide_validity v).After-read_head-head) (list (goal.at.After-decide_validity v).After-read_head-head)) (lent (goal.at.After-decide_validity v).Start)) (variables_is (goal.at.After-decide_validity v).After-read_head-head)
      ∙ ap (λ (L : List ℤ). validity_for (variables_in (state (goal.at.After-decide_validity v).Start)) L (lent (goal.at.After-decide_validity v).Start)) (list_is (goal.at.After-decide_validity v).After-read_head-head)

pub returns-in_err-decide_validity : goal.returns-in_err-decide_validity
returns-in_err-decide_validity c =
    let p = err_from_is_err_and c.from_residual.result c.from_residual.ensures.1 in
    rw (p.1, p.2) (decide_refuses (state (goal.at.returns-in_err-decide_validity c).Start) (line (goal.at.returns-in_err-decide_validity c).Start) (lent (goal.at.returns-in_err-decide_validity c).Start) c.requires.0 c.requires.1 _ (sym (found (goal.at.returns-in_err-decide_validity c).After-decide_validity) ∙ c.in_err-decide_validity.was))

-- there is none
module _ (e : In_ok-decide_validity) where
  valid : validity_for (variables_in (state (goal.at.In_ok-decide_validity e).Start)) (numbers_with (state (goal.at.In_ok-decide_validity e).Start) (line (goal.at.In_ok-decide_validity e).Start)) (lent (goal.at.In_ok-decide_validity e).Start) ≡ Ok tt
  valid = sym (found (goal.at.In_ok-decide_validity e).After-decide_validity) ∙ e.in_ok-decide_validity.was

pub slice_bounds-list-end-2 : goal.slice_bounds-list-end-2
slice_bounds-list-end-2 c = omega (arith, small (goal.at.slice_bounds-list-end-2 c).After-read_head-head)

pub slice_bounds-answer_learnt-end : goal.slice_bounds-answer_learnt-end
slice_bounds-answer_learnt-end c = sym (ap length (list_is (goal.at.slice_bounds-answer_learnt-end c).After-read_head-head) ∙ end_is (goal.at.slice_bounds-answer_learnt-end c).After-read_head-head)

pub answer_learnt-answer-requires : goal.answer_learnt-answer-requires
answer_learnt-answer-requires c =
    ready_same (variables_is (goal.at.answer_learnt-answer-requires c).After-read_head-head) (list_is (goal.at.answer_learnt-answer-requires c).After-read_head-head) (count_is (goal.at.answer_learnt-answer-requires c).After-read_head-head) (answer_ready (state (goal.at.answer_learnt-answer-requires c).Start) (line (goal.at.answer_learnt-answer-requires c).Start) (lent (goal.at.answer_learnt-answer-requires c).Start) c.requires.0 c.requires.1 (valid (goal.at.answer_learnt-answer-requires c).In_ok-decide_validity))

-- all lines were answered
module _ (d : After-answer_learnt-answer) where
  abbrev after : List ℤ
  after = d.answer_learnt-answer.new.state

  abbrev left : Lent
  left =
      let o = d.answer_learnt-answer.new in
      record { model = o.model; bounds = o.bounds; groups = o.groups; refutation = o.refutation; identifiers = o.identifiers; work = o.work }

  answered : Answers (variables_in (state (goal.at.After-answer_learnt-answer d).Start)) (numbers_with (state (goal.at.After-answer_learnt-answer d).Start) (line (goal.at.After-answer_learnt-answer d).Start)) (count_in (state (goal.at.After-answer_learnt-answer d).Start)) (state (goal.at.After-answer_learnt-answer d).Start) d.answer_learnt-answer.result (lent (goal.at.After-answer_learnt-answer d).Start) after left
  answered = answers_same {b = lent (goal.at.After-answer_learnt-answer d).Start} {a = left} (variables_is (goal.at.After-answer_learnt-answer d).After-read_head-head) (list_is (goal.at.After-answer_learnt-answer d).After-read_head-head) (count_is (goal.at.After-answer_learnt-answer d).After-read_head-head) d.answer_learnt-answer.ensures

pub take_in-requires : goal.take_in-requires
take_in-requires c = (
  head_kept (state (goal.at.take_in-requires c).Start) (line (goal.at.take_in-requires c).Start) (lent (goal.at.take_in-requires c).Start) c.requires.0 c.requires.1 (valid (goal.at.take_in-requires c).In_ok-decide_validity) c.answer_learnt-answer.result (after (goal.at.take_in-requires c).After-answer_learnt-answer) (left (goal.at.take_in-requires c).After-answer_learnt-answer) (answered (goal.at.take_in-requires c).After-answer_learnt-answer),
  room_kept (state (goal.at.take_in-requires c).Start) (line (goal.at.take_in-requires c).Start) (lent (goal.at.take_in-requires c).Start) c.requires.0 c.requires.1 (valid (goal.at.take_in-requires c).In_ok-decide_validity) c.answer_learnt-answer.result (after (goal.at.take_in-requires c).After-answer_learnt-answer) (left (goal.at.take_in-requires c).After-answer_learnt-answer) (answered (goal.at.take_in-requires c).After-answer_learnt-answer),
)

pub returns : goal.returns
returns c =
    adds (state (goal.at.returns c).Start) (line (goal.at.returns c).Start) (lent (goal.at.returns c).Start) c.requires.0 c.requires.1 (valid (goal.at.returns c).In_ok-decide_validity) c.answer_learnt-answer.result (after (goal.at.returns c).After-answer_learnt-answer) (left (goal.at.returns c).After-answer_learnt-answer) (answered (goal.at.returns c).After-answer_learnt-answer) c.take_in.result c.take_in.new.state c.take_in.ensures
