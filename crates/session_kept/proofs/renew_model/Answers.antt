-- `session_kept::renew_model` meets its contract: the model stays, or its values are written to an array and copied.
use mathlib.Core.Path.{◌≡◌, ap, ◌∙◌}
use mathlib.Core.List.{List, ◌++◌}
use Prim.Native.Nat.{◌*◌}
use borrow.Author.Rules.{rules}
use lib.IntN.{ℤ, pos}
use lib.ListN.{length, take, drop}
use Rattle.integers.specs.Sequence.{tabulate_get_d}
use Rattle.lines.specs.Line.{number}
use Rattle.decide_stored_table.specs.Table.{by_rows}
use Rattle.decide_model.specs.Values.{values_of, values_length}
use Rattle.session_kept.specs.Laws.{copied_front, model_anew}
use Rattle.session_kept.proofs.renew_model.Goals.{Start}
use Rattle.session_kept.proofs.renew_model.Goals as goal

-- the values of the table
abbrev values : Start → List ℤ
values s = values_of (by_rows (2 * s.args.n) s.args.table.now) s.args.n

pub returns : goal.returns
returns c =
    let l : length (values (goal.at.returns c).Start) ≡ c.args.n = values_length (by_rows (2 * c.args.n) c.args.table.now) c.args.n in
    let w = c.write_values.new.model in
    let put : c.keep.new.kept ≡ take c.args.n w ++ drop c.args.n c.args.kept.now =
    copied_front c.args.n (number w) c.args.kept.now c.keep.new.kept (search rules) (λ k h. c.keep.ensures.copied k (pos 0) h) c.keep.ensures.rest
    ∙ ap (λ (x : List ℤ). x ++ drop c.args.n c.args.kept.now) (tabulate_get_d c.args.n w (pos 0) (search rules)) in
    model_anew c.args.n c.args.stays c.args.kept.now (values (goal.at.returns c).Start) c.if-stays.false l _ _ _ c.write_values.ensures put
