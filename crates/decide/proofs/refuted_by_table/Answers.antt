-- `decide::refuted_by_table` meets its contract: a closed walk of negative sum, else two walks whose halves sum below 0, else neither.
use native.Mathlib.Omega.{arith}
use Rattle.decide.specs.Searched.{part_is, short, closed_ready, by_walk, halves_search, by_halves, by_none}
use Rattle.decide.proofs.refuted_by_table.Goals as goal

pub table_by_elimination-u-requires : goal.table_by_elimination-u-requires
table_by_elimination-u-requires c = c.requires.1

pub write_closed-requires : goal.write_closed-requires
write_closed-requires c =
    closed_ready _ _ _ _ c.requires.0 c.requires.2 _ _ c.table_by_elimination-u.ensures c.if-u-size.true

pub returns-then-u-size : goal.returns-then-u-size
returns-then-u-size c =
    by_walk _ _ _ _ c.requires.0 c.requires.2 _ _ c.table_by_elimination-u.ensures c.if-u-size.true _ _ c.write_closed.ensures

pub first_bad-p-requires : goal.first_bad-p-requires
first_bad-p-requires c =
    rw (part_is c.args.n) (short _ _ _ _ c.requires.0 c.requires.2 _ _ c.table_by_elimination-u.ensures (omega (arith, c.if-u-size.false)))

pub refute_by_halves-requires : goal.refute_by_halves-requires
refute_by_halves-requires c =
    halves_search _ _ _ _ c.requires.0 c.requires.2 _ _ c.table_by_elimination-u.ensures (omega (arith, c.if-u-size.false)) _ (rw (part_is c.args.n) at c.first_bad-p.ensures) c.if-p-size.true

pub returns-then-p-size : goal.returns-then-p-size
returns-then-p-size c =
    by_halves _ _ _ _ c.requires.0 c.requires.2 _ _ c.table_by_elimination-u.ensures (omega (arith, c.if-u-size.false)) _ (rw (part_is c.args.n) at c.first_bad-p.ensures) c.if-p-size.true _ _
    c.refute_by_halves.ensures

pub returns : goal.returns
returns c =
    by_none _ _ _ _ c.requires.0 c.requires.2 _ _ c.table_by_elimination-u.ensures (omega (arith, c.if-u-size.false)) _ (rw (part_is c.args.n) at c.first_bad-p.ensures) (omega (arith, c.if-p-size.false))
