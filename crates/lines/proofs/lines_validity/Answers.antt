-- `lines::lines_validity` meets its contract. The invariant: what is found from line k on is what is found from the first.
use Rattle.std.proofs.lemmas.Result.{err_from_is_err_and}
use Rattle.std.specs.Prelude.{Result}
use Rattle.lines.specs.declared.Refusal.{Refusal}
use mathlib.Core.Path.{◌≡◌, refl, sym, ap, ◌∙◌}
use mathlib.Core.List.{List}
use Prim.Native.Nat.{ℕ, ◌+◌}
use native.Mathlib.Omega.{arith}
use lib.ListN.{drop}
use Rattle.lines.specs.declared.Line.{Line}
use Rattle.lines.specs.Line.{lines_of}
use Rattle.lines.specs.Refusal.{◌or_else◌, line_validity_lem, lines_validity_lem}
use Rattle.lines.specs.Laws.{validity_from, validity_past}
use Rattle.lines.proofs.lines_validity.Goals.{After-line_validity}
use Rattle.lines.proofs.lines_validity.Goals as goal

pub loop-k-init : goal.loop-k-init
loop-k-init c = (omega arith, refl)

-- what is found from line k on, by what the call found of line k
module _ (v : After-line_validity) where
  abbrev n : ℕ
  n = v.args.n

  abbrev lines : List Line
  lines = lines_of v.args.list.now

  abbrev rest : Result Unit Refusal
  rest = lines_validity_lem n (v.loop-k.k + 1) (drop (v.loop-k.k + 1) lines)

  found : lines_validity_lem n 0 lines ≡ (v.line_validity.result or_else rest)
  found =
      v.loop-k.invariant.1
      ∙ validity_from v.args.list.now n v.loop-k.k (omega arith)
      ∙ ap (λ (t : Result Unit Refusal). t or_else rest) (sym (v.line_validity.ensures ∙ ap (line_validity_lem n v.loop-k.k) v.line_at.ensures))

pub returns-in_err-line_validity : goal.returns-in_err-line_validity
returns-in_err-line_validity c =
    let p = err_from_is_err_and c.from_residual.result c.from_residual.ensures.1 in
    rw (p.1, p.2) (sym (found (goal.at.returns-in_err-line_validity c).After-line_validity ∙ ap (λ (t : Result Unit Refusal). t or_else rest (goal.at.returns-in_err-line_validity c).After-line_validity) c.in_err-line_validity.was))

pub loop-k-preserved : goal.loop-k-preserved
loop-k-preserved c =
    (omega arith, found (goal.at.loop-k-preserved c).After-line_validity ∙ ap (λ (t : Result Unit Refusal). t or_else rest (goal.at.loop-k-preserved c).After-line_validity) c.in_ok-line_validity.was)

pub returns : goal.returns
returns c =
    sym (c.loop-k.invariant.1 ∙ validity_past c.args.list.now c.args.n c.loop-k.k (omega arith))
