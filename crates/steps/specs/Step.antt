-- The steps of a line (the field's term: edges), the step with a given number, and what a step says.
use Rattle.std.specs.Prelude.{cond, List, [], ◌∷◌, ◌++◌, ℕ, ◌+◌, ◌*◌, ◌/◌, ◌%◌, ◌<◌, eqb, ltb, ℤ, pos, nat_abs, ◌-ℤ◌, ◌*ℤ◌, None, Option, Some}
use Rattle.integers.specs.Integer.{◌⩽◌}
use Rattle.lines.specs.declared.Line.{Line}
use Rattle.lines.specs.Limits.{work_constant}
use Rattle.lines.specs.Line.{Assignment, line_at, line_count}
use Rattle.lines.specs.Valid.{LineWorks}
use Rattle.steps.specs.declared.Step.{Step}
use Rattle.steps.specs.Point.{point, value}
use Rattle.steps.specs.Table.{entry, cell}

-- a step's weight lies within plus and minus this: the greatest factor times the greatest d
abbrev pub heaviest : ℕ → ℕ
heaviest most = 2 * most

-- of a list that deciding takes
abbrev pub max_weight : ℕ
max_weight = heaviest work_constant

-- the variable number at an end's place
abbrev pub variable_at : Line → ℕ → ℤ
variable_at l end = cond (ltb end 2) l.x l.y

abbrev pub end_point_lem : Line → ℕ → ℕ
end_point_lem l end = point (nat_abs (variable_at l end)) (end % 2)

-- the step that the table's cell makes of a line
abbrev pub step_with : Line → ℕ → Step
step_with l c = record { from = end_point_lem l (entry c); to = end_point_lem l (entry (c + 1)); weight = pos (entry (c + 2)) *ℤ l.d }

-- a line's step of a side
unfoldable pub step_of : Line → ℕ → Option Step
step_of l side =
    let c = cell l.a l.b side in
    cond (eqb (entry (c + 2)) 0) None (Some (step_with l c))

-- a step's number is twice the line's number plus the side
unfoldable pub step_numbered_lem : List ℤ → ℕ → Option Step
step_numbered_lem L k = cond (ltb (k / 2) (line_count L)) (step_of (line_at L (k / 2)) (k % 2)) None

-- the line that a step number names, where there is one, keeps the line rules
abbrev pub NamedOk : ℕ → List ℤ → ℕ → Type 0
NamedOk n L k = k / 2 < line_count L → LineWorks n (line_at L (k / 2))

-- a step from P to Q of weight w says value(P) - value(Q) ≤ w
abbrev pub Says : Assignment → Step → Type 0
Says s t = value s t.from -ℤ value s t.to ⩽ t.weight

-- what a step number names holds, where it names a step
abbrev pub Holds : Assignment → Option Step → Type 0
Holds s (Some t) = Says s t
Holds s None = Unit {0}

-- all steps of some lines, in the order of their numbers
abbrev pub named : Option Step → List Step
named (Some t) = t ∷ []
named None = []

unfoldable pub steps_of : List Line → List Step
steps_of [] = []
steps_of (l ∷ ls) = named (step_of l 0) ++ (named (step_of l 1) ++ steps_of ls)
