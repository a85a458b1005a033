-- `engine_settled_table::diagonal_settled` meets its contract.
use mathlib.Core.Path.{◌≡◌, subst}
use mathlib.Core.Bool.{false}
use native.Mathlib.Omega.{arith}
use lib.IntN.{ℤ, pos}
use lib.Signed.{lt_z}
use mir.Facts.{to_z-of_z}
use Rattle.integers.specs.Integer.{◌⩽◌}
use Rattle.integers.proofs.Linear.{ints}
use Rattle.integers.specs.Laws.{never}
use Rattle.engine_reduced_table.specs.Reduced.{asked}
use Rattle.engine_settled_table.specs.Settled.{diagonal_more}
use Rattle.engine_settled_table.proofs.diagonal_settled.Goals as goal

not_above : (a : ℤ) → lt_z (pos 0) a ≡ false → a ⩽ pos 0
not_above a = simp ints (omega arith)

pub loop-t-init : goal.loop-t-init
loop-t-init start = (omega arith, λ t h. absurd (omega arith))

pub entry_at-own-requires : goal.entry_at-own-requires
entry_at-own-requires turn = asked turn.requires _ _ turn.loop-t-test.true turn.loop-t-test.true

pub returns-then-above : goal.returns-then-above
returns-then-above exit = record { yes = λ e. never (cc) }

pub loop-t-preserved : goal.loop-t-preserved
loop-t-preserved turned = (
  omega (arith, turned.loop-t-test.true),
  diagonal_more turned.args.pot turned.args.size turned.args.work.now turned.loop-t.t turned.loop-t.invariant.1
      (subst (λ (z : ℤ). z ⩽ pos 0) turned.entry_at-own.ensures (not_above _ (rw (to_z-of_z (record { sfits = turned.entry_at-own.type_inv })) at turned.if-above.false))),
)

pub returns : goal.returns
returns exit = record { yes = λ _ t h. exit.loop-t.invariant.1 t (omega (arith, h, exit.loop-t-test.false)) }
