-- `differences_lines::differences_validity` meets its contract: what is found of the list goes first, then a line that is no difference.
use Rattle.std.proofs.lemmas.Result.{err_from_is_err_and}
use Rattle.std.specs.Prelude.{Ok}
use mathlib.Core.Path.{◌≡◌, sym, ap, ◌∙◌}
use mathlib.Core.Bool.{true}
use Prim.Native.Nat.{ℕ, ◌≤◌}
use native.Mathlib.Omega.{arith}
use Rattle.lines.specs.Limits.{max_variables}
use Rattle.lines.specs.Refusal.{validity_of}
use Rattle.lines.specs.Valid.{valid_list}
use Rattle.decide_buffers.specs.Room.{lent_rooms_by, first_short}
use Rattle.theory_differences.specs.Plain.{all_differences}
use Rattle.differences_lines.specs.Others.{none_other, an_other}
use Rattle.differences_lines.specs.Refused.{list_refused, other_refused, rooms_left}
use Rattle.differences_lines.proofs.differences_validity.Goals.{After-first_other-other, Else-other-list}
use Rattle.differences_lines.proofs.differences_validity.Goals as goal

pub returns-in_err-list_validity : goal.returns-in_err-list_validity
returns-in_err-list_validity c =
    let a = c.args in
    let p = err_from_is_err_and c.from_residual.result c.from_residual.ensures.1 in
    rw (p.1, p.2) (list_refused a.n a.list.now a.lengths _ (sym c.list_validity.ensures ∙ c.in_err-list_validity.was))

-- the list is valid
module _ (f : After-first_other-other) where
  valid : validity_of f.args.n f.args.list.now ≡ Ok tt
  valid = sym f.list_validity.ensures ∙ f.in_ok-list_validity.was

  few : f.args.n ≤ max_variables
  few = (valid_list _ _ valid).variables

pub returns-then-other-list : goal.returns-then-other-list
returns-then-other-list c =
    let a = c.args in
    let v = valid (goal.at.returns-then-other-list c).After-first_other-other in
    let o = c.first_other-other in
    other_refused a.n a.list.now a.lengths v o.result o.ensures (an_other a.list.now (omega (arith, o.ensures, c.if-other-list.true)))

-- and all its lines are differences
all : (e : Else-other-list) → all_differences e.args.list.now ≡ true
all e = none_other e.args.list.now (omega (arith, e.first_other-other.ensures, e.if-other-list.false))

pub differences_work_room-requires : goal.differences_work_room-requires
differences_work_room-requires c = few (goal.at.differences_work_room-requires c).After-first_other-other

pub rooms_validity-requires : goal.rooms_validity-requires
rooms_validity-requires c = few (goal.at.rooms_validity-requires c).After-first_other-other

pub returns : goal.returns
returns c =
    let a = c.args in
    let before = goal.at.returns c in
    c.rooms_validity.ensures
    ∙ ap (λ (k : ℕ). first_short (lent_rooms_by (λ _. k)) a.n a.lengths) c.differences_work_room.ensures
    ∙ rooms_left a.n a.list.now a.lengths (valid before.After-first_other-other) (all before.Else-other-list)
