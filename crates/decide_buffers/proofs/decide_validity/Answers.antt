-- `decide_buffers::decide_validity` meets its contract: what is found of the list goes first.
use Rattle.std.proofs.lemmas.Result.{err_from_is_err_and}
use Rattle.std.specs.Prelude.{Ok, Result}
use Rattle.lines.specs.declared.Refusal.{Refusal}
use mathlib.Core.Path.{◌≡◌, sym, ap, ◌∙◌}
use mathlib.Core.List.{List}
use Prim.Native.Nat.{ℕ, ◌≤◌}
use lib.IntN.{ℤ}
use Rattle.lines.specs.Limits.{max_variables}
use Rattle.lines.specs.Refusal.{◌or_else◌, validity_of}
use Rattle.lines.specs.Valid.{valid_list}
use Rattle.decide_buffers.specs.declared.Lengths.{Lengths}
use Rattle.decide_buffers.specs.Room.{lent_rooms_by, first_short, rooms_validity, decide_validity_lem}
use Rattle.decide_buffers.proofs.decide_validity.Goals.{In_ok-list_validity}
use Rattle.decide_buffers.proofs.decide_validity.Goals as goal

-- what is found, by what is found of the list
found : (n : ℕ) (L : List ℤ) (s : Lengths) (u : Result Unit Refusal) → validity_of n L ≡ u → decide_validity_lem n L s ≡ (u or_else rooms_validity n s)
unfolding decide_validity_lem
found n L s u e = ap (λ (t : Result Unit Refusal). t or_else rooms_validity n s) e

pub returns-in_err-list_validity : goal.returns-in_err-list_validity
returns-in_err-list_validity c =
    let p = err_from_is_err_and c.from_residual.result c.from_residual.ensures.1 in
    rw (p.1, p.2) (sym (found c.args.n c.args.list.now c.args.lengths _ (sym c.list_validity.ensures ∙ c.in_err-list_validity.was)))

-- the list is valid, so that it has few variables
module _ (c : In_ok-list_validity) where
  valid : validity_of c.args.n c.args.list.now ≡ Ok tt
  valid = sym c.list_validity.ensures ∙ c.in_ok-list_validity.was

  few : c.args.n ≤ max_variables
  few = (valid_list _ _ valid).variables

pub work_room-requires : goal.work_room-requires
work_room-requires c = few c

pub rooms_validity-requires : goal.rooms_validity-requires
rooms_validity-requires c = few (goal.at.rooms_validity-requires c).In_ok-list_validity

pub returns : goal.returns
unfolding rooms_validity
returns c =
    let a = c.args in
    c.rooms_validity.ensures
    ∙ ap (λ (k : ℕ). first_short (lent_rooms_by (λ _. k)) a.n a.lengths) c.work_room.ensures
    ∙ sym (found a.n a.list.now a.lengths _ (valid (goal.at.returns c).In_ok-list_validity))
