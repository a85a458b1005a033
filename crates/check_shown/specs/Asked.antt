-- Where nothing is refused: what the list and the line have, so that the list against the line is one that the pass takes.
use Rattle.std.specs.Prelude.{◌≡◌, List, ℕ, ◌≤◌, ℤ, pos, replicate, Ok}
use Rattle.std.proofs.Common.{arith, ltb-false}
use Rattle.integers.specs.Integer.{Within}
use Rattle.integers.proofs.Linear.{ints, given}
use Rattle.lines.specs.declared.Line.{Line}
use Rattle.lines.specs.Limits.{max_variables, max_refutation, shown_constant_lem}
use Rattle.lines.specs.Line.{line_count}
use Rattle.lines.specs.Refusal.{shown_validity_lem, validity_of}
use Rattle.lines.specs.Valid.{ListOk, LineWithin, Workable, or_valid, not_refused, valid_list, line_within}
use Rattle.opposite_line.specs.Opposite.{opposite_works}
use Rattle.longer_list.specs.Written.{most_numbers}
use Rattle.shown_list.specs.Against.{against, against_works}
use Rattle.shown_list.specs.Written.{AgainstReady}
use Rattle.check_shown.specs.Answer.{showing_validity_lem}

-- a list and a line that are not refused
pub record ShownAsked (n : ℕ) (L : List ℤ) (l : Line) : Type 0 where
  pub list : validity_of n L ≡ Ok tt
  pub line : shown_validity_lem n (line_count L) l ≡ Ok tt

module _ (n : ℕ) (L : List ℤ) (l : Line) (a : ShownAsked n L l) where
  pub list_ok : ListOk n L
  list_ok = valid_list n L a.list

  pub line_ok : LineWithin (shown_constant_lem n) n l
  line_ok = line_within (shown_constant_lem n) n (line_count L) l a.line

  pub works : Workable n (against L l)
  works =
      let o = list_ok in
      against_works L o.whole o.count l n o.variables o.lines (opposite_works (shown_constant_lem n) n l (omega (arith, o.variables)) line_ok)

  -- the list against the line is written where zeros stood
  pub against_ready : (out : List ℤ) → out ≡ replicate most_numbers (pos 0) → AgainstReady L l out
  against_ready out e =
      let o = list_ok in
      let m = line_ok in
      record {
        short = omega (arith, o.whole, o.count);
        small = (m.coefficient_a, m.coefficient_b, wider l.d o.variables m.constant);
        zeros = e;
      }
    where
      wider : (z : ℤ) → n ≤ max_variables → Within (shown_constant_lem n) z → Within (shown_constant_lem max_variables) z
      wider z few h = record { low = given h.low (simp ints (omega arith)); high = given h.high (simp ints (omega arith)) }

pub record ShowingAsked (n : ℕ) (L : List ℤ) (l : Line) (k : ℕ) : Type 0 where
  pub asked : ShownAsked n L l
  pub short : k ≤ max_refutation

pub asked : (n : ℕ) (L : List ℤ) (l : Line) (k : ℕ) → showing_validity_lem n L l k ≡ Ok tt → ShowingAsked n L l k
unfolding showing_validity_lem
asked n L l k e =
    let p = or_valid (validity_of n L) _ e in
    let q = or_valid (shown_validity_lem n (line_count L) l) _ p.1 in
    record { asked = record { list = p.0; line = q.0 }; short = ltb-false _ _ (not_refused _ _ q.1) }
