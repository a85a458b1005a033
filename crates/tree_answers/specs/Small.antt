-- The model of a choice is small: each of its values lies within n times the limit on d, as of any valid list.
use Rattle.std.specs.Prelude.{◌≡◌, true, List, ℕ, ◌*◌, ◌<◌, ℤ, Ok}
use Rattle.integers.specs.Integer.{Within}
use Rattle.integers.proofs.Halving.{abs_within}
use Rattle.lines.specs.Limits.{max_constant}
use Rattle.lines.specs.Line.{lines_of, assignment_of}
use Rattle.lines.specs.Refusal.{validity_of}
use Rattle.lines.specs.Valid.{workable}
use Rattle.theory_bounds.specs.Answers.{model_of}
use Rattle.theory_answers.specs.Meaning.{model_is_model}
use Rattle.theory_answers.specs.Small.{valid_above, model_small}
use Rattle.theory_answers.specs.Decided.{lines_ok}
use Rattle.tree_reading.specs.Tree.{Row}
use Rattle.tree_lists.specs.Condition.{choice_list, choice_valid}
use Rattle.tree_answers.specs.First.{choice_verdict}

pub choice_model_small : (n : ℕ) (L : List ℤ) (t : Row) → validity_of n L ≡ Ok tt → (k : ℕ) → choice_verdict n L t k ≡ true
    → (x : ℕ) → x < n → Within (n * max_constant) (assignment_of (model_of n (lines_of (choice_list L t k))) x)
choice_model_small n L t valid k e x h =
    let K = choice_list L t k in
    let v = choice_valid n L t k valid in
    let ok = lines_ok n K (workable n K v) in
    abs_within (n * max_constant) _ (model_small n max_constant (lines_of K) ok (valid_above n K v) _ (model_is_model n (lines_of K) ok e) x h)
