-- `hub_limits::own_at` meets its contract.
use native.Mathlib.Omega.{arith}
use Rattle.theory_hub.specs.Hub.{own_row}
use Rattle.hub_limits.specs.Stands.{stands_result, stands_half}
use Rattle.hub_limits.proofs.own_at.Goals as goal

pub returns : goal.returns
returns c =
    (stands_half c.halved_distance.result c.halved_distance.type_inv (omega arith)
    (stands_result c.weight_at.result c.weight_at.type_inv c.weight_at.ensures (c.requires.0.short own_row c.args.p (omega arith) c.requires.1))
    c.halved_distance.ensures).is
