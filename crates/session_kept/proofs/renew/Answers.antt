-- `session_kept::renew` meets its contract, in each of its three ways.
use mathlib.Core.Path.{◌≡◌}
use mathlib.Core.Bool.{true}
use native.Mathlib.Omega.{arith}
use Rattle.decide_stored_table.specs.Table.{ShortTable}
use Rattle.session_distances.specs.Distances.{all_distances, distances_short, beyond_none}
use Rattle.session_kept.specs.Laws.{kept_none, part_length, kept_all}
use Rattle.session_kept.proofs.renew.Goals.{Else-is_wrong}
use Rattle.session_kept.proofs.renew.Goals as goal

pub returns-then-is_wrong : goal.returns-then-is_wrong
returns-then-is_wrong c =
    kept_none c.args.n c.args.model_stays c.args.groups_stay c.args.table.now c.args.kept.now (rw c.first_beyond.ensures at c.if-is_wrong.true)

-- all numbers of the table are distances
module _ (e : Else-is_wrong) where
  all : all_distances e.args.table.now ≡ true
  all = beyond_none e.args.table.now (omega (arith, e.if-is_wrong.false, e.first_beyond.ensures))

  short : ShortTable e.args.n e.args.table.now
  short = distances_short e.args.n e.args.table.now e.requires.0 all

pub renew_model-requires : goal.renew_model-requires
renew_model-requires c = (short (goal.at.renew_model-requires c).Else-is_wrong, omega (arith, c.requires.1))

pub renew_groups-requires : goal.renew_groups-requires
renew_groups-requires c =
    let a = c.args in
    (short (goal.at.renew_groups-requires c).Else-is_wrong, part_length a.n a.model_stays a.groups_stay a.table.now a.kept.now c.requires.1 _ c.renew_model.ensures)

pub returns : goal.returns
returns c =
    let a = c.args in
    kept_all a.n a.model_stays a.groups_stay a.table.now a.kept.now c.requires.1 _ c.renew_model.ensures (all (goal.at.returns c).Else-is_wrong) _ c.renew_groups.ensures
