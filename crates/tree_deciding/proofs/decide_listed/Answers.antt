-- `tree_deciding::decide_listed` meets its contract: what is decided is the front of the array, which holds the choice's list.
use Rattle.std.specs.Prelude.{◌≡◌, List, ℤ, length, take, Ok}
use Rattle.std.proofs.Common.{sym, ap, ◌∙◌}
use Rattle.std.proofs.lemmas.Result.{err_from_is_err_and}
use Rattle.tree_lists.specs.Numbered.{numbered_list, numbered_length, numbered_front}
use Rattle.tree_deciding.specs.Choice.{as_tree_answer_lem, listed_decides}
use Rattle.tree_deciding.proofs.decide_listed.Goals.{After-write_choice}
use Rattle.tree_deciding.proofs.decide_listed.Goals as goal

-- the choice's list is written
module _ (written : After-write_choice) where
  abbrev list : List ℤ
  list = written.args.list.now

  abbrev listed : List ℤ
  listed = numbered_list written.args.tree.now list written.args.total written.args.choice

  list_is : take (length list) written.write_choice.new.out ≡ listed
  list_is = numbered_front written.args.tree.now list written.args.total written.args.choice _ _ written.write_choice.ensures

  length_is : length listed ≡ length list
  length_is = numbered_length written.args.tree.now list written.args.total written.args.choice

pub slice_bounds-decide-end : goal.slice_bounds-decide-end
slice_bounds-decide-end c = let w = (goal.at.slice_bounds-decide-end c).After-write_choice in sym (ap length (list_is w) ∙ length_is w)

pub returns-in_err-answer : goal.returns-in_err-answer
returns-in_err-answer c =
    let w = (goal.at.returns-in_err-answer c).After-write_choice in
    let p = err_from_is_err_and c.from_residual.result c.from_residual.ensures.1 in
    rw (p.1, p.2) (listed_decides (list_is w) c.decide.ensures (sym (ap (as_tree_answer_lem c.args.choice) c.in_err-answer.was)))

pub returns-in-Yes : goal.returns-in-Yes
returns-in-Yes c =
    let w = (goal.at.returns-in-Yes c).After-write_choice in
    listed_decides (list_is w) c.decide.ensures (sym (ap (as_tree_answer_lem c.args.choice) (c.in_ok-answer.was ∙ ap Ok c.in-Yes.is)))

pub returns-in-No : goal.returns-in-No
returns-in-No c =
    let w = (goal.at.returns-in-No c).After-write_choice in
    listed_decides (list_is w) c.decide.ensures (sym (ap (as_tree_answer_lem c.args.choice) (c.in_ok-answer.was ∙ ap Ok c.in-No.is)))
