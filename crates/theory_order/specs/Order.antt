-- The due kind does not depend on the order of the lines, nor on how often a line stands in the list: false lines stay false, and each step of the one list is
-- one of the other, between the same points and of the same weight, so that closed walks carry over.
use Rattle.std.specs.Prelude.{◌≡◌, refl, Bool, true, false, List, ℕ, ◌*◌}
use Rattle.std.proofs.Common.{sym}
use Rattle.lines.specs.declared.Line.{Line}
use Rattle.lines.specs.Valid.{AllOk}
use Rattle.steps.specs.declared.Step.{Step}
use Rattle.steps.specs.Step.{steps_of}
use Rattle.theory_walks.specs.Distance.{le_refl}
use Rattle.theory_walks.specs.Row.{In}
use Rattle.theory_walks.specs.Negative.{no_negative}
use Rattle.theory_walks.specs.Graph.{source, member, ends_points}
use Rattle.theory_covering.specs.Covers.{merged_clear}
use Rattle.theory_bounds.specs.Verdict.{has_false, no_false, lowest_false, due_kind}
use Rattle.theory_order.specs.Rearranged.{Includes, Rearranged, includes, turned_back}

-- two tests of which each holds where the other does
same_test : (a b : Bool) → (a ≡ true → b ≡ true) → (b ≡ true → a ≡ true) → a ≡ b
same_test true true f g = refl
same_test true false f g = sym (f refl)
same_test false true f g = g refl
same_test false false f g = refl

false_line_included : (ls ms : List Line) → Includes ms ls → has_false ls ≡ true → has_false ms ≡ true
false_line_included ls ms f e = go (has_false ms) refl
  where
    go : (b : Bool) → has_false ms ≡ b → b ≡ true
    go true q = refl
    go false q = let w = lowest_false ls e in let r = f _ w.line w.at in absurd (no_false ms q r.0 w.line r.1 w.false_line)

steps_included : (ls ms : List Line) → Includes ms ls → (t : Step) → In t (steps_of ls) → In t (steps_of ms)
steps_included ls ms f t i =
    let s = source ls t i in
    let r = f s.number s.line s.at in
    member ms t r.0 s.line r.1 s.side s.low s.found

module _ (n : ℕ) (ls ms : List Line) (ok : AllOk n ls) (to : Includes ms ls) (from : Includes ls ms) where
  -- no closed walk of negative sum over the steps of ms, and so none over those of ls
  clear_included : no_negative (steps_of ms) (2 * n) ≡ true → no_negative (steps_of ls) (2 * n) ≡ true
  clear_included =
      merged_clear (steps_of ls) (steps_of ms)
      (record { kept = steps_included ms ls from; covers = λ s i. record { step = s; member = steps_included ls ms to s i; from_same = refl; to_same = refl; light = le_refl _ } })
      (2 * n) (ends_points n ls ok)

module _ (n : ℕ) (ls ms : List Line) (ok : AllOk n ls) (ok' : AllOk n ms) (to : Includes ms ls) (from : Includes ls ms) where
  pub same_kind : due_kind n ls ≡ due_kind n ms
  unfolding due_kind
  same_kind =
      rw (same_test (has_false ls) (has_false ms) (false_line_included ls ms to) (false_line_included ms ls from), same_test _ _ (clear_included n ms ls ok' from to) (clear_included n ls ms ok to from))

pub rearranged_kind : (n : ℕ) (ls ms : List Line) → AllOk n ls → AllOk n ms → Rearranged ls ms → due_kind n ls ≡ due_kind n ms
rearranged_kind n ls ms ok ok' p = same_kind n ls ms ok ok' (includes p) (includes (turned_back p))
