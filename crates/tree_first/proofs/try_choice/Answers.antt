-- `tree_first::try_choice` meets its contract: the search is of the choice's list, which stands at the front of the array.
use Rattle.std.specs.Prelude.{◌≡◌, refl, List, ℕ, ◌*◌, ◌≤◌, ℤ, length, take, Ok}
use Rattle.std.proofs.Common.{sym, ap, ◌∙◌, arith, rules}
use Rattle.std.proofs.Math.Nat.{le_trans}
use Rattle.lines.specs.Limits.{line_size, max_lines}
use Rattle.lines.specs.Refusal.{validity_of}
use Rattle.lines.specs.Valid.{valid_list}
use Rattle.tree_lists.specs.Condition.{choice_list}
use Rattle.tree_lists.specs.Numbered.{numbered_length, numbered_front}
use Rattle.tree_deciding.specs.Answer.{tree_over}
use Rattle.tree_first.specs.Tried.{list_is, model_asked, tried}
use Rattle.tree_first.proofs.try_choice.Goals.{After-write_choice}
use Rattle.tree_first.proofs.try_choice.Goals as goal

-- a valid list is no longer than the array
short : (n : ℕ) (L : List ℤ) → validity_of n L ≡ Ok tt → length L ≤ line_size * max_lines
short n L v = let ok = valid_list n L v in omega (arith, ok.whole, ok.count)

pub write_choice-requires : goal.write_choice-requires
write_choice-requires c =
    let ok = valid_list _ _ c.requires.0.list in
    record { whole = ok.whole; few = ok.count; room = le_trans (short _ _ c.requires.0.list) (search rules) }

pub slice_bounds-chosen-end : goal.slice_bounds-chosen-end
slice_bounds-chosen-end c = omega (arith, short _ _ c.requires.0.list)

-- the choice's list is written
module _ (written : After-write_choice) where
  abbrev list : List ℤ
  list = written.args.list.now

  abbrev front : List ℤ
  front = take (length list) written.write_choice.new.out

  front_is : front ≡ choice_list list (tree_over list written.args.tree.now) written.args.choice
  front_is =
      numbered_front written.args.tree.now list written.args.total written.args.choice _ _ written.write_choice.ensures
      ∙ list_is _ _ _ _ _ _ written.requires.0 written.args.choice written.requires.1

  length_is : length front ≡ length list
  length_is =
      ap length (numbered_front written.args.tree.now list written.args.total written.args.choice _ _ written.write_choice.ensures)
      ∙ numbered_length written.args.tree.now list written.args.total written.args.choice

pub slice_bounds-refuted_or_modelled-end : goal.slice_bounds-refuted_or_modelled-end
slice_bounds-refuted_or_modelled-end c = let w = (goal.at.slice_bounds-refuted_or_modelled-end c).After-write_choice in sym (length_is w)

pub refuted_or_modelled-requires : goal.refuted_or_modelled-requires
refuted_or_modelled-requires c =
    let w = (goal.at.refuted_or_modelled-requires c).After-write_choice in
    rw (front_is w) (model_asked _ _ _ _ _ _ c.requires.0 c.args.choice c.requires.1)

pub returns : goal.returns
returns c =
    let w = (goal.at.returns c).After-write_choice in
    tried _ _ _ _ _ _ c.requires.0 c.args.choice c.requires.1 (rw (front_is w) at c.refuted_or_modelled.ensures) _ refl
