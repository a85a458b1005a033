-- `check_shown::check_shown` meets its contract: where nothing is refused, the list against the line stands where zeros stood, and the pass takes it.
use Rattle.std.specs.Prelude.{length}
use Rattle.std.proofs.Common.{refl, sym, ◌∙◌}
use Rattle.lines.specs.Limits.{max_variables}
use Rattle.lines.specs.Valid.{lines_more}
use Rattle.check_shown.specs.Asked.{ShowingAsked, asked, against_ready, list_ok, works}
use Rattle.check_shown.proofs.check_shown.Goals.{In_ok-showing_validity}
use Rattle.check_shown.proofs.check_shown.Goals as goal

-- nothing is refused
valid : (c : In_ok-showing_validity) → ShowingAsked c.args.n c.args.list.now c.args.line (length c.args.showing.now)
valid c = asked _ _ _ _ (sym c.showing_validity.ensures ∙ c.in_ok-showing_validity.was)

pub write_against-requires : goal.write_against-requires
write_against-requires c = against_ready _ _ _ (valid (goal.at.write_against-requires c).In_ok-showing_validity).asked _ refl

-- the lines work for each variable number that the limits allow
pub read_all-requires : goal.read_all-requires
read_all-requires c =
    let a = valid (goal.at.read_all-requires c).In_ok-showing_validity in
    (rw c.write_against.ensures (lines_more c.args.n max_variables _ (list_ok _ _ _ a.asked).variables (works _ _ _ a.asked).lines), a.short)
