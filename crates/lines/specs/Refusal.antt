-- The specification's refusals of a list: the first that applies.
use Rattle.std.specs.Prelude.{Bool, true, false, not, cond, ◌&&◌, List, [], ◌∷◌, ℕ, ◌+◌, ◌%◌, ltb, eqb, ℤ, pos, neg_ℤ, length, Err, Ok, Result}
use Rattle.std.specs.Int.Signed.{le_z, lt_z}
use Rattle.integers.specs.Integer.{eq_z, is_between, is_within_lem}
use Rattle.lines.specs.declared.Line.{Line}
use Rattle.lines.specs.declared.Numbered.{Numbered}
use Rattle.lines.specs.declared.Refusal.{Refusal}
use Rattle.lines.specs.declared.Refusal.TheVariants.{TooManyVariables, BrokenLength, TooManyLines, BadCoefficient, BadVariable, BadConstant, ShortOutput, ShortWorkArea, WrongModelLength, BadValue, LongRefutation, MisplacedCoefficient, BadIdentifier, AfterNo, NoLines, NotDifference}
use Rattle.lines.specs.Limits.{line_size, max_variables, max_lines, max_constant, shown_constant_lem, max_identifier}
use Rattle.lines.specs.Line.{line_count, lines_of}

abbrev pub numbered_at : ℕ → ℕ → Numbered
numbered_at n k = record { number = n; place = k }

-- the specification's table: the number and the place of each refusal
abbrev pub number_and_place : Refusal → Numbered
number_and_place TooManyVariables = numbered_at 1 0
number_and_place BrokenLength = numbered_at 2 0
number_and_place TooManyLines = numbered_at 3 0
number_and_place (BadCoefficient k) = numbered_at 4 k
number_and_place (BadVariable k) = numbered_at 5 k
number_and_place (BadConstant k) = numbered_at 6 k
number_and_place (ShortOutput k) = numbered_at 7 k
number_and_place ShortWorkArea = numbered_at 8 0
number_and_place WrongModelLength = numbered_at 9 0
number_and_place (BadValue k) = numbered_at 10 k
number_and_place LongRefutation = numbered_at 11 0
number_and_place (MisplacedCoefficient k) = numbered_at 12 k
number_and_place (BadIdentifier k) = numbered_at 13 k
number_and_place AfterNo = numbered_at 30 0
number_and_place NoLines = numbered_at 31 0
number_and_place (NotDifference k) = numbered_at 60 k

abbrev pub number_of : Refusal → ℕ
number_of r = (number_and_place r).number

abbrev pub place_of : Refusal → ℕ
place_of r = (number_and_place r).place

-- the first that applies
infixr 20 ◌or_else◌
abbrev pub ◌or_else◌ : Result Unit Refusal → Result Unit Refusal → Result Unit Refusal
Ok _ or_else v = v
Err r or_else v = Err r

abbrev pub refuse_if : Bool → Refusal → Result Unit Refusal
refuse_if true r = Err r
refuse_if false r = Ok tt

-- ---- the rules of a line
-- 4: both coefficients are -1, 0 or 1
unfoldable pub coefficients_ok_lem : Line → Bool
coefficients_ok_lem l = is_within_lem 1 l.a && is_within_lem 1 l.b

-- with a coefficient not 0 the variable number is from 0 to n - 1, else it is 0
unfoldable pub variable_ok_lem : ℕ → ℤ → ℤ → Bool
variable_ok_lem n a x = cond (eq_z a (pos 0)) (eq_z x (pos 0)) (le_z (pos 0) x && lt_z x (pos n))

-- 5: both variable numbers are right
unfoldable pub variables_ok_lem : ℕ → Line → Bool
variables_ok_lem n l = variable_ok_lem n l.a l.x && variable_ok_lem n l.b l.y

-- 12: a lone coefficient stands in the first place, so that where the first is 0 the second is too
unfoldable pub lone_ok_lem : Line → Bool
lone_ok_lem l = cond (eq_z l.a (pos 0)) (eq_z l.b (pos 0)) true

-- 6: d lies within its limit
unfoldable pub constant_ok_lem : ℤ → Line → Bool
constant_ok_lem most l = is_between (neg_ℤ most) most l.d

-- 13: the identifier is from 0 to its limit
unfoldable pub identifier_ok_lem : Line → Bool
identifier_ok_lem l = is_between (pos 0) (pos max_identifier) l.identifier

-- a rule of a line among n variables, and the refusal of line number k that breaks it
pub record Rule : Type 0 where
  pub ok : ℕ → Line → Bool
  pub refusal : ℕ → Refusal

-- within a line 4, 5, 12, 6, 13, with a limit for d
abbrev pub rules_within : ℤ → List Rule
rules_within most =
    record { ok = λ n l. coefficients_ok_lem l; refusal = BadCoefficient }
    ∷ record { ok = variables_ok_lem; refusal = BadVariable }
    ∷ record { ok = λ n l. lone_ok_lem l; refusal = MisplacedCoefficient }
    ∷ record { ok = λ n l. constant_ok_lem most l; refusal = BadConstant }
    ∷ record { ok = λ n l. identifier_ok_lem l; refusal = BadIdentifier }
    ∷ []

-- of a list's lines
abbrev pub line_rules : List Rule
line_rules = rules_within (pos max_constant)

-- the tests of these rules in one name: an `unfolding` line that names it unfolds each of them, wherever the validity of a list is computed
unfoldable pub line_tests : Unit {0}
unfolding coefficients_ok_lem variable_ok_lem variables_ok_lem lone_ok_lem constant_ok_lem identifier_ok_lem
line_tests = tt

-- the first rule that line number k breaks
abbrev pub first_broken : List Rule → ℕ → ℕ → Line → Result Unit Refusal
first_broken [] n k l = Ok tt
first_broken (r ∷ rs) n k l = refuse_if (not (r.ok n l)) (r.refusal k) or_else first_broken rs n k l

-- the test of the rule that has this refusal, wherever it stands
abbrev pub rule_of : (ℕ → Refusal) → List Rule → ℕ → Line → Bool
rule_of refusal [] n l = true
rule_of refusal (r ∷ rs) n l = cond (eqb (number_of (r.refusal 0)) (number_of (refusal 0))) (r.ok n l) (rule_of refusal rs n l)

abbrev pub line_validity_lem : ℕ → ℕ → Line → Result Unit Refusal
line_validity_lem n k l = first_broken line_rules n k l

-- of a line that is shown, whose d has its own limit
abbrev pub shown_validity_lem : ℕ → ℕ → Line → Result Unit Refusal
shown_validity_lem n k l = first_broken (rules_within (pos (shown_constant_lem n))) n k l

-- lines from the first, which has number k
unfoldable pub lines_validity_lem : ℕ → ℕ → List Line → Result Unit Refusal
lines_validity_lem n k [] = Ok tt
lines_validity_lem n k (l ∷ ls) = line_validity_lem n k l or_else lines_validity_lem n (k + 1) ls

-- 1, 2, 3; then lines from the first
unfoldable pub validity_of : ℕ → List ℤ → Result Unit Refusal
validity_of n L =
    refuse_if (ltb max_variables n) TooManyVariables
    or_else refuse_if (not (eqb (length L % line_size) 0)) BrokenLength
    or_else refuse_if (ltb max_lines (line_count L)) TooManyLines
    or_else lines_validity_lem n 0 (lines_of L)
