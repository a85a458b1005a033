-- `lines::validity_within` meets its contract: what is found goes from rule to rule.
use Rattle.std.specs.Prelude.{Ok}
use mathlib.Core.Path.{◌≡◌, ap, ◌∙◌}
use lib.IntN.{ℤ}
use mir.Facts.{to_z-of_z}
use Rattle.lines.specs.Refusal.{constant_ok_lem, rules_within}
use Rattle.lines.specs.Laws.{found_from_law}
use Rattle.lines.proofs.validity_within.Goals.{After-or_unless-found-5}
use Rattle.lines.proofs.validity_within.Goals as goal

-- `lines::validity_within` meets its contract: what is found goes from rule to rule.
module _ (c : After-or_unless-found-5) where
  -- the limit is lent as it is
  constant-is : c.constant_ok.result ≡ constant_ok_lem c.args.most c.args.line
  constant-is = c.constant_ok.ensures ∙ ap (λ (most : ℤ). constant_ok_lem most c.args.line) (to_z-of_z c.ranges.most)

pub returns : goal.returns
returns c =
    let a = c.args in
    cc (found_from_law (Ok tt) (rules_within a.most) a.n a.k a.line, constant-is c)
